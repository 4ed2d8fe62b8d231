-- The index of a pc among pcs that rise.
use Rattle.std.proofs.Common.{◌≡◌, ℕ, zero, suc, ◌<◌, ◌≤◌, true, false, cond, eqb, List, [], ◌∷◌, length, get_or, Result, Ok, Err, refl, sym, ap, ◌∙◌, arith}
use Rattle.std.specs.Ordering.{nat_cmp, ordering_index}
use Rattle.std.specs.Result.{result_unwrap_or}
use Rattle.std.specs.List.Sorted.{IsSearchInRange, IsBinarySearchResult, IsNonDecreasingBy}
use Rattle.std.proofs.lemmas.Bool.{false≢true}
use Rattle.std.proofs.lemmas.Bool.Decides.{nat_tests, Decides-eqb}
use Rattle.std.proofs.lemmas.Cmp.{ranked}
use Rattle.std.proofs.lemmas.List.{length-map}
use Rattle.code_reach.specs.Reached.{Placed, RisesFrom}
use Rattle.code_reach.specs.Visits.{pcs_of, index_of}

-- ---- the index

index_none : (pc : ℕ) → index_of [] pc ≡ 0
unfolding index_of
index_none pc = refl

index_here : (at : ℕ) (pcs : List ℕ) (pc : ℕ) → at ≡ pc → index_of (at ∷ pcs) pc ≡ 0
unfolding index_of
index_here at pcs pc e = ap (λ b. cond b 0 (suc (index_of pcs pc))) ((Decides-eqb at pc).1 e)

index_later : (at : ℕ) (pcs : List ℕ) (pc : ℕ) → (at ≡ pc → ⊥) → index_of (at ∷ pcs) pc ≡ suc (index_of pcs pc)
unfolding index_of
index_later at pcs pc other =
    elim (eqb at pc) as (λ b. (eqb at pc ≡ b → cond b 0 (suc (index_of pcs pc)) ≡ suc (index_of pcs pc))) [
      | true ↦ λ same. absurd (other ((Decides-eqb at pc).0 same))
      | false ↦ λ e. refl
    ] refl

-- an index within is that of its pc
pub index_within : (pcs : List ℕ) (pc : ℕ) → index_of pcs pc < length pcs → get_or pcs (index_of pcs pc) 0 ≡ pc
index_within [] pc lt = absurd (omega (arith, lt))
index_within (at ∷ pcs) pc lt =
    elim (eqb at pc) as (λ b. (eqb at pc ≡ b → get_or (at ∷ pcs) (index_of (at ∷ pcs) pc) 0 ≡ pc)) [
      | true ↦ λ same.
          let e = (Decides-eqb at pc).0 same in
          ap (λ i. get_or (at ∷ pcs) i 0) (index_here at pcs pc e) ∙ e
      | false ↦ λ differs.
          let later = index_later at pcs pc (λ e. false≢true (sym differs ∙ (Decides-eqb at pc).1 e)) in
          ap (λ i. get_or (at ∷ pcs) i 0) later ∙ index_within pcs pc (omega (arith, later, lt))
    ] refl

-- ---- pcs that rise

from_low : {X : Type 0} (low : ℕ) (code : Placed X) → RisesFrom low code → (i : ℕ) → i < length code → low ≤ get_or (pcs_of code) i 0
from_low low [] rise i lt = absurd (omega (arith, lt))
from_low low (x ∷ code) rise zero lt = rise.0
from_low low (x ∷ code) rise (suc i) lt =
    let above : suc x.0 ≤ get_or (pcs_of code) i 0 = from_low (suc x.0) code rise.1 i (omega (arith, lt)) in
    omega (arith, rise.0, above)

pub pcs_rise : {X : Type 0} (low : ℕ) (code : Placed X) → RisesFrom low code → (i j : ℕ) → i < j → j < length code → get_or (pcs_of code) i 0 < get_or (pcs_of code) j 0
pcs_rise low [] rise i j lt within = absurd (omega (arith, within))
pcs_rise low (x ∷ code) rise i zero lt within = absurd (omega (arith, lt))
pcs_rise low (x ∷ code) rise zero (suc j) lt within = from_low (suc x.0) code rise.1 j (omega (arith, within))
pcs_rise low (x ∷ code) rise (suc i) (suc j) lt within = pcs_rise (suc x.0) code rise.1 i j (omega (arith, lt)) (omega (arith, within))

-- the pc at an index has that index
pub index_at : {X : Type 0} (low : ℕ) (code : Placed X) → RisesFrom low code → (i : ℕ) (pc : ℕ) → i < length code → get_or (pcs_of code) i 0 ≡ pc → index_of (pcs_of code) pc ≡ i
index_at low [] rise i pc lt e = absurd (omega (arith, lt))
index_at low (x ∷ code) rise zero pc lt e = index_here x.0 (pcs_of code) pc e
index_at low (x ∷ code) rise (suc i) pc lt e =
    let above : suc x.0 ≤ get_or (pcs_of code) i 0 = from_low (suc x.0) code rise.1 i (omega (arith, lt)) in
    let later = index_later x.0 (pcs_of code) pc (λ same. omega (arith, same, e, above)) in
    later ∙ ap suc (index_at (suc x.0) code rise.1 i pc (omega (arith, lt)) e)

-- a pc that is none of them has an index past the end
index_past : (pcs : List ℕ) (pc : ℕ) → ((i : ℕ) → i < length pcs → get_or pcs i 0 ≡ pc → ⊥) → index_of pcs pc ≡ length pcs
index_past [] pc none = index_none pc
index_past (at ∷ pcs) pc none =
    index_later at pcs pc (none 0 (omega arith)) ∙ ap suc (index_past pcs pc (λ i lt. none (suc i) (omega (arith, lt))))

-- ---- a search

at_is : {X : Type 0} (code : Placed X) (i : ℕ) (d : ℕ × X) → i < length code → (let x = get_or code i d in x.0) ≡ get_or (pcs_of code) i 0
at_is [] i d lt = absurd (omega (arith, lt))
at_is (x ∷ code) zero d lt = refl
at_is (x ∷ code) (suc i) d lt = at_is code i d (omega (arith, lt))

module _ {X : Type 0} (code : Placed X) (rise : RisesFrom 0 code) (pc : ℕ) where
  abbrev at : ℕ → ℕ
  at i = get_or (pcs_of code) i 0

  comparisons_rise : IsNonDecreasingBy (λ (x : ℕ × X). ordering_index (nat_cmp x.0 pc)) code
  comparisons_rise i j d le within =
      let rises : at i ≤ at j = grind (arith, pcs_rise 0 code rise i j, λ (same : i ≡ j). ap at same) in
      let first = at_is code i d (omega (arith, le, within)) in
      let last = at_is code j d within in
      grind (arith, nat_tests, first, last, rises)

  size : length (pcs_of code) ≡ length code
  size = length-map code (λ (x : ℕ × X). x.0)

  by_default : (d : ℕ × X) (r : Result ℕ ℕ) → IsSearchInRange r (length code) → IsBinarySearchResult (λ (x : ℕ × X). nat_cmp x.0 pc) code r → result_unwrap_or r (length code) ≡ index_of (pcs_of code) pc
  by_default d (Ok i) within equal = sym (index_at 0 code rise i pc within (sym (at_is code i d within) ∙ ranked _ pc _ (sym (equal d))))
  by_default d (Err i) within parted =
      size' (index_past (pcs_of code) pc (λ k lt same.
      let inside : k < length code = omega (arith, lt, size) in
      let is = at_is code k d inside in
      let below : k < i → at k < pc = λ less. (let c = ranked _ pc _ (sym ((parted comparisons_rise).0 k d (omega arith) less)) in omega (arith, is, c)) in
      let above : i ≤ k → pc < at k = λ le. (let c = ranked _ pc _ (sym ((parted comparisons_rise).1 k d le inside)) in omega (arith, is, c)) in
      grind (arith, below, above, same)))
    where
      size' : index_of (pcs_of code) pc ≡ length (pcs_of code) → length code ≡ index_of (pcs_of code) pc
      size' e = sym (e ∙ size)

-- what a search by pc ends at says the index
pub searched : {X : Type 0} (code : Placed X) → RisesFrom 0 code → (pc : ℕ) (r : Result ℕ ℕ) → IsSearchInRange r (length code) → IsBinarySearchResult (λ (x : ℕ × X). nat_cmp x.0 pc) code r → result_unwrap_or r (length code) ≡ index_of (pcs_of code) pc
searched [] rise pc (Ok i) within equal = absurd (omega (arith, within))
searched [] rise pc (Err i) within parted = sym (index_none pc)
searched (x ∷ code) rise pc r within found = by_default (x ∷ code) rise pc x r within found
