-- How many operands of a chain are whole numbers, step by step.
use Rattle.std.proofs.Common.{◌≡◌, ℕ, zero, suc, ◌+◌, ◌-◌, ◌≤◌, cond, List, [], ◌∷◌, length, length-set, replicate, ◌⊎◌, inl, inr, min, set, Option, Some, None, slice_get, take, refl, sym, ap, subst, ◌∙◌, arith}
use Rattle.std.proofs.lemmas.List.{length-replicate}
use Rattle.std.proofs.lemmas.List.Sums.{sum_by-cons, count_by-le-length}
use Rattle.std.proofs.lemmas.Option.{same_Some}
use Rattle.body_form.specs.declared.types.VType.{VType}
use Rattle.jvm_model.specs.TypesFrames.{is_int}
use Rattle.type_table.specs.declared.shapes.Counted.{Counted}
use Rattle.type_table.specs.declared.store.Cell.{Cell}
use Rattle.type_table.specs.declared.operands.Chain.{Chain}
use Rattle.type_table.specs.Frames.{operands_of}
use Rattle.type_table.specs.Chains.{chain_of, HasChain, IsTop}
use Rattle.type_table.specs.Counts.{ints_in, AreCounted}
use Rattle.type_table.proofs.Chaining.{length_operands, no_operands}

-- what is read of one thing many times
replicated : {X : Type 0} (count index : ℕ) (x y : X) → slice_get (replicate count x) index ≡ Some y → y ≡ x
replicated {X} zero index x y is = let none : ◌≡◌ {A = Option X} None (Some y) = is in absurd (cc)
replicated (suc count) zero x y is = sym (same_Some x y is)
replicated (suc count) (suc index) x y is = replicated count index x y is

-- what is read after a write: what was written, or what was there
set_found : {X : Type 0} (xs : List X) (index at : ℕ) (x y : X) → slice_get (set xs index x) at ≡ Some y → ((index ≡ at) × (x ≡ y)) ⊎ (slice_get xs at ≡ Some y)
set_found [] index at x y is = inr is
set_found (first ∷ xs) zero zero x y is = inl (refl, same_Some x y is)
set_found (first ∷ xs) zero (suc at) x y is = inr is
set_found (first ∷ xs) (suc index) zero x y is = inr is
set_found (first ∷ xs) (suc index) (suc at) x y is =
    elim (set_found xs index at x y is) [
      | inl here ↦ inl (ap suc here.0, here.1)
      | inr there ↦ inr there
    ]

-- the top operand counts for itself
pub ints_top : (cells : List Cell) (chain below : Chain) (cell : Cell) → IsTop cells chain cell below
    → ints_in (chain_of cells chain) ≡ cond (is_int cell.value) 1 0 + ints_in (chain_of cells below)
ints_top cells chain below cell top = ap ints_in top.operands ∙ sum_by-cons (λ (type : VType). cond (is_int type) 1 0) cell.value (chain_of cells below)

-- no more than the chain is high
pub ints_high : (cells : List Cell) (chain : Chain) → HasChain cells chain → ints_in (chain_of cells chain) ≤ chain.height
ints_high cells chain has =
    let long = length_operands cells chain.height chain.top has in
    let within = count_by-le-length is_int (chain_of cells chain) in
    omega (arith, long, within)

pub no_ints : (cells : List Cell) (chain : Chain) → chain.height ≡ 0 → ints_in (chain_of cells chain) ≡ 0
no_ints cells chain none = ap ints_in (no_operands cells chain.height chain.top none)

-- nothing is noted of no operands
pub none_counted : (cells : List Cell) (counts : List Counted) → counts ≡ replicate (length cells) (record { height = 0; ints = 0 }) → AreCounted cells counts
unfolding operands_of
none_counted cells counts is =
    let empty : Counted = record { height = 0; ints = 0 } in
    record {
      size = ap length is ∙ length-replicate (length cells) empty;
      right = λ index counted found.
          let same : counted ≡ empty = replicated (length cells) index empty counted (ap (λ (list : List Counted). slice_get list index) (sym is) ∙ found) in
          subst (λ (c : Counted). c.ints ≡ ints_in (operands_of cells c.height index)) (sym same) refl;
    }

-- one more cell is noted
pub more_counted : (cells : List Cell) (counts : List Counted) (index height ints : ℕ) → AreCounted cells counts → ints ≡ ints_in (operands_of cells height index)
    → AreCounted cells (set counts index (record { height = height; ints = ints }))
more_counted cells counts index height ints are is =
    record {
      size = length-set counts index (record { height = height; ints = ints }) ∙ are.size;
      right = λ at counted found.
          elim (set_found counts index at (record { height = height; ints = ints }) counted found) [
            | inl here ↦ subst (λ (c : Counted). c.ints ≡ ints_in (operands_of cells c.height at)) here.1 (is ∙ ap (λ n. ints_in (operands_of cells height n)) here.0)
            | inr there ↦ are.right at counted there
          ];
    }

-- so many, or all where fewer are there
pub take_least : (count height least : ℕ) (types : List VType) → least ≡ min count height → length types ≡ height → take least types ≡ take count types
take_least zero height least types is long = let none : least ≡ 0 = omega (arith, is) in ap (λ n. take n types) none
take_least (suc count) height least [] is long = let none : least ≡ 0 = omega (arith, is, long) in ap (λ n. take n []) none
take_least (suc count) height least (type ∷ types) is long =
    let some : least ≡ suc (least - 1) = omega (arith, is, long) in
    let rest : least - 1 ≡ min count (length types) = omega (arith, is, long) in
    ap (λ n. take n (type ∷ types)) some ∙ ap (λ (list : List VType). type ∷ list) (take_least count (length types) (least - 1) types rest refl)
