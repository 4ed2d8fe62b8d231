-- Pcs that rise: a search among them finds the instruction at a pc.
use Rattle.std.proofs.Common.{◌≡◌, ℕ, zero, suc, ◌-◌, ◌<◌, ◌≤◌, true, false, [], ◌∷◌, length, map, get_or, take, drop, if◌then◌else◌, Ok, Err, nat_eq, refl, sym, ap, subst, ◌∙◌, arith}
use Rattle.std.specs.List.Sorted.{IsSearchInRange, IsBinarySearchResult, IsNonDecreasingBy}
use Rattle.std.specs.Ordering.{nat_cmp, ordering_index}
use Rattle.std.proofs.lemmas.Cmp.{ranked}
use Rattle.std.proofs.Math.ListN.{get_or-map}
use Rattle.std.proofs.lemmas.List.{get_or_default, length-map, take_rest}
use Rattle.std.proofs.lemmas.List.Sorted.{IsNonDecreasingBy-from_default}
use Rattle.std.proofs.lemmas.Bool.Decides.{nat_tests, Decides-eqb}
use Rattle.code_reach.specs.Reached.{RisesFrom}
use Rattle.body_form.specs.declared.op.Op.{Op}
use Rattle.body_form.specs.declared.op.Op.TheVariants.{Nop}
use Rattle.body_form.specs.Flow.{Ops, pc_at, IsStart, leads_to, lead_from, successors}

abbrev nothing : ℕ × Op
nothing = (0, Nop)

-- ---- pcs that rise

from_low : (low : ℕ) (ops : Ops) → RisesFrom low ops → (i : ℕ) → i < length ops → low ≤ pc_at ops i
from_low low [] rise i lt = absurd (omega arith)
from_low low ((pc, op) ∷ ops) rise zero lt = rise.0
from_low low ((pc, op) ∷ ops) rise (suc i) lt =
    let above : suc pc ≤ pc_at ops i = from_low (suc pc) ops rise.1 i (omega arith) in
    omega (arith, rise.0)

pcs_rise : (low : ℕ) (ops : Ops) → RisesFrom low ops → (i j : ℕ) → i < j → j < length ops → pc_at ops i < pc_at ops j
pcs_rise low [] rise i j lt within = absurd (omega arith)
pcs_rise low ((pc, op) ∷ ops) rise i zero lt within = absurd (omega arith)
pcs_rise low ((pc, op) ∷ ops) rise zero (suc j) lt within = from_low (suc pc) ops rise.1 j (omega arith)
pcs_rise low ((pc, op) ∷ ops) rise (suc i) (suc j) lt within = pcs_rise (suc pc) ops rise.1 i j (omega arith) (omega arith)

-- ---- a search

-- where an instruction is at the pc, it is a start
pub start_found : (ops : Ops) (i at : ℕ) → i < length ops → pc_at ops i ≡ at → IsStart ops at
start_found ops i at within is =
    let pcs = map (λ (x : ℕ × Op). x.0) ops in
    let inside : i < length pcs = subst (λ n. i < n) (sym (length-map ops (λ (x : ℕ × Op). x.0))) within in
    (i, inside, get_or_default pcs i at 0 inside ∙ is)

-- where no instruction is at the pc, it is no start
none_at : (ops : Ops) (pc : ℕ) → ((i : ℕ) → i < length ops → pc_at ops i ≡ pc → ⊥) → IsStart ops pc → ⊥
none_at ops pc none (k, within, is) =
    let pcs = map (λ (x : ℕ × Op). x.0) ops in
    let inside : k < length ops = subst (λ n. k < n) (length-map ops (λ (x : ℕ × Op). x.0)) within in
    none k inside (get_or_default pcs k 0 pc within ∙ is)

module _ (ops : Ops) (rise : RisesFrom 0 ops) (pc : ℕ) where
  pc_of : (i : ℕ) → pc_at ops i ≡ (get_or ops i nothing).0
  pc_of i = get_or-map (λ (x : ℕ × Op). x.0) ops i nothing

  comparisons_rise : IsNonDecreasingBy (λ x. ordering_index (nat_cmp x.0 pc)) ops
  comparisons_rise = IsNonDecreasingBy-from_default (λ x. ordering_index (nat_cmp x.0 pc)) ops nothing (λ i j le within.
      let rises : pc_at ops i ≤ pc_at ops j = grind (arith, pcs_rise 0 ops rise i j, λ (same : i ≡ j). ap (pc_at ops) same) in
      let first = pc_of i in
      let second = pc_of j in
      grind (arith, nat_tests))

  pub found : (at : ℕ) → IsSearchInRange (Ok at) (length ops) → IsBinarySearchResult (λ x. nat_cmp x.0 pc) ops (Ok at) → (at < length ops) × (pc_at ops at ≡ pc)
  found at within equal = (within, pc_of at ∙ ranked _ pc _ (sym (equal nothing)))

  pub missing : (at : ℕ) → IsSearchInRange (Err at) (length ops) → IsBinarySearchResult (λ x. nat_cmp x.0 pc) ops (Err at) → IsStart ops pc → ⊥
  missing at within parted = none_at ops pc (λ i lt same.
      let first = pc_of i in
      let below : i < at → (get_or ops i nothing).0 < pc = λ less. ranked _ pc _ (sym ((parted comparisons_rise).0 i nothing (omega arith) less)) in
      let above : at ≤ i → pc < (get_or ops i nothing).0 = λ le. ranked _ pc _ (sym ((parted comparisons_rise).1 i nothing le lt)) in
      grind (arith, below, above, same))

-- ---- the instruction at a position is the one at its pc

itself : (n : ℕ) → nat_eq n n ≡ true
itself n = (Decides-eqb n n).1 refl

differs : (m n : ℕ) → m < n → nat_eq m n ≡ false
differs m n less = grind (arith, nat_tests)

pub successors_at : (low : ℕ) (ops : Ops) → RisesFrom low ops → (i : ℕ) → i < length ops → lead_from (drop i ops) ≡ successors ops (pc_at ops i)
successors_at low [] rise i within = absurd (omega arith)
successors_at low ((pc, op) ∷ ops) rise zero within =
    sym (ap (λ b. if b then leads_to op ops else successors ops pc) (itself pc))
successors_at low ((pc, op) ∷ ops) rise (suc i) within =
    successors_at (suc pc) ops rise.1 i (omega arith)
    ∙ sym (ap (λ b. if b then leads_to op ops else successors ops (pc_at ops i)) (differs pc (pc_at ops i) (from_low (suc pc) ops rise.1 i (omega arith))))

pub successors_from : (ops slice : Ops) → RisesFrom 0 ops → slice ≡ ops → (i at : ℕ) → i < length ops → pc_at ops i ≡ at
    → lead_from (take (length slice - i) (drop i slice)) ≡ successors ops at
successors_from ops slice rise same i at within is =
    ap lead_from (take_rest slice i) ∙ ap (λ (l : Ops). lead_from (drop i l)) same ∙ successors_at 0 ops rise i within ∙ ap (successors ops) is
