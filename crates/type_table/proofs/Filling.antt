-- Trees whose first locals are given, and in whose others nothing is known.
use Rattle.std.proofs.Common.{◌≡◌, ℕ, suc, ◌+◌, ◌-◌, ◌^◌, ◌<◌, ◌≤◌, min, Bool, List, [], ◌∷◌, ◌++◌, length, replicate, take, drop, inl, inr, sym, ap, subst, ◌∙◌, arith, suc-add, pow-suc, append_assoc}
use Rattle.std.proofs.lemmas.Bool.{cases_lt}
use Rattle.std.proofs.lemmas.List.{append-nil, length-take-le, length-drop, take-append-drop, take_all, drop_all, take-replicate, replicate-append-replicate}
use Rattle.body_form.specs.declared.types.VFrame.{VFrame}
use Rattle.body_form.specs.declared.types.VType.{VType}
use Rattle.body_form.specs.declared.types.VType.TheVariants as known
use Rattle.type_table.specs.declared.store.Cell.{Cell}
use Rattle.type_table.specs.declared.trees.Trees.{Trees}
use Rattle.type_table.specs.Frames.{HasOperands, operands_of}
use Rattle.type_table.specs.Trees.{IsTree}
use Rattle.type_table.specs.Changes.{IsFound, started}

-- a tree is twice as wide as each half
pub two_halves : (depth : ℕ) → 0 < depth → 2 ^ depth ≡ 2 ^ (depth - 1) + 2 ^ (depth - 1)
two_halves depth deep =
    let high : depth ≡ suc (depth - 1) = omega arith in
    ap (λ n. 2 ^ n) high ∙ omega (arith, pow-suc 2 (depth - 1))

pub take_on : {X : Type 0} (xs ys : List X) (n : ℕ) → take (length xs + n) (xs ++ ys) ≡ xs ++ take n ys
take_on [] ys n = let none : 0 + n ≡ n = omega arith in ap (λ m. take m ys) none
take_on (x ∷ xs) ys n = ap (λ m. take m (x ∷ (xs ++ ys))) (suc-add (length xs) n) ∙ ap (λ list. x ∷ list) (take_on xs ys n)

module _ {X : Type 0} (xs : List X) (y : X) (half : ℕ) where
  -- all of them are in the left half
  left_alone : length xs ≤ half → (xs ++ replicate (half - length xs) y) ++ ([] ++ replicate (half - 0) y) ≡ xs ++ replicate (half + half - length xs) y
  left_alone few =
      let count : (half - length xs) + (half - 0) ≡ half + half - length xs = omega arith in
      append_assoc xs (replicate (half - length xs) y) (replicate (half - 0) y)
      ∙ ap (λ (list : List X). xs ++ list) (replicate-append-replicate (half - length xs) (half - 0) y ∙ ap (λ n. replicate n y) count)

  -- the left half is full
  left_full : half < length xs → length xs ≤ half + half
      → (take half xs ++ replicate (half - length (take half xs)) y) ++ (drop half xs ++ replicate (half - length (drop half xs)) y) ≡ xs ++ replicate (half + half - length xs) y
  left_full many within =
      let full : half - length (take half xs) ≡ 0 = omega (arith, length-take-le half xs (omega arith)) in
      let left : take half xs ++ replicate (half - length (take half xs)) y ≡ take half xs = ap (λ n. take half xs ++ replicate n y) full ∙ append-nil (take half xs) in
      let count : half - length (drop half xs) ≡ half + half - length xs = omega (arith, length-drop half xs) in
      ap (λ (list : List X). list ++ (drop half xs ++ replicate (half - length (drop half xs)) y)) left
      ∙ sym (append_assoc (take half xs) (drop half xs) (replicate (half - length (drop half xs)) y))
      ∙ ap (λ (list : List X). list ++ replicate (half - length (drop half xs)) y) (take-append-drop half xs)
      ∙ ap (λ n. xs ++ replicate n y) count

  pub halves_filled : (cut : ℕ) → cut ≡ min (length xs) half → length xs ≤ half + half
      → (take cut xs ++ replicate (half - length (take cut xs)) y) ++ (drop cut xs ++ replicate (half - length (drop cut xs)) y) ≡ xs ++ replicate (half + half - length xs) y
  halves_filled cut is within =
      let At : List X → List X → Type 0 = λ first rest. (first ++ replicate (half - length first) y) ++ (rest ++ replicate (half - length rest) y) ≡ xs ++ replicate (half + half - length xs) y in
      elim (cases_lt half (length xs)) [
        | inl many ↦
            let same : half ≡ cut = omega arith in
            subst (λ n. At (take n xs) (drop n xs)) same (left_full many within)
        | inr few ↦
            let same : cut ≡ length xs = omega arith in
            subst (λ (list : List X). At list (drop cut xs)) (sym (take_all cut xs (omega arith)))
            (subst (λ (list : List X). At xs list) (sym (drop_all cut xs (omega arith))) (left_alone few))
      ]

pub no_chain : (cells : List Cell) (top : ℕ) → HasOperands cells 0 top
unfolding HasOperands
no_chain cells top = tt

take_filled : (locals : List VType) (count width : ℕ) → count ≤ width → length locals ≤ count
    → take count (locals ++ replicate (width - length locals) known.Top) ≡ locals ++ replicate (count - length locals) known.Top
take_filled locals count width within few =
    let at : count ≡ length locals + (count - length locals) = omega arith in
    ap (λ n. take n (locals ++ replicate (width - length locals) known.Top)) at
    ∙ take_on locals (replicate (width - length locals) known.Top) (count - length locals)
    ∙ ap (λ (list : List VType). locals ++ list) (take-replicate (count - length locals) (width - length locals) known.Top (omega arith))

pub is_started : (cells : List Cell) (trees : Trees) (depth count root : ℕ) (locals : List VType) (pending : Bool) → count ≤ 2 ^ depth → length locals ≤ count
    → IsTree trees depth root (locals ++ replicate (2 ^ depth - length locals) known.Top)
    → IsFound (record { cells = cells; leaves = trees.leaves.items; branches = trees.branches.items; depth = depth; locals = count })
    (record { height = 0; operands = 0; locals = root; pending = pending }) (started count locals pending)
unfolding operands_of
is_started cells trees depth count root locals pending deep few tree =
    record {
      there = record { operands = no_chain cells 0; locals = tree.has };
      is = ap (λ (list : List VType). let f : VFrame = record { locals = list; stack = []; pending = pending } in f) (ap (take count) tree.is ∙ take_filled locals count (2 ^ depth) deep few);
    }
