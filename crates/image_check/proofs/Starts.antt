-- Which offsets are starts: a search among offsets that rise finds them.
use Rattle.std.proofs.Common.{◌≡◌, ℕ, pos, zero, suc, ◌<◌, ◌≤◌, Bool, true, false, ◌&&◌, ◌||◌, eqb, List, [], ◌∷◌, ◌++◌, length, map, get_or, Result, Ok, Err, refl, sym, ap, ◌∙◌, arith}
use Rattle.std.specs.List.{AllByRecursion, list_all}
use Rattle.std.specs.List.Sorted.{IsSearchInRange, IsBinarySearchResult, IsNonDecreasingBy}
use Rattle.std.specs.Ordering.{nat_cmp, ordering_index}
use Rattle.std.specs.Result.{is_ok}
use Rattle.std.proofs.lemmas.Bool.{false≢true}
use Rattle.std.proofs.lemmas.Cmp.{ranked}
use Rattle.std.proofs.lemmas.List.Sorted.{IsNonDecreasingBy-from_default}
use Rattle.std.proofs.lemmas.Bool.Decides.{nat_tests, Decides-eqb}
use Rattle.image_instr.specs.declared.insn.MInsn.{MInsn}
use Rattle.image_instr.specs.declared.insn.MInsn.TheVariants.{Const1}
use Rattle.image_check.specs.Code.{Insns, IsStart}
use Rattle.image_check.specs.Listing.{RiseWithin, is_start}

abbrev pub nothing : ℕ × MInsn
nothing = (0, Const1 (pos 0))

abbrev pub pc_at : Insns → ℕ → ℕ
pc_at insns i = let x = get_or insns i nothing in x.0

-- ---- offsets that rise

pub rises-within : (low : ℕ) (insns : Insns) (high : ℕ) → RiseWithin low insns high → low ≤ high
rises-within low [] high rise = rise
rises-within low ((pc, insn) ∷ insns) high rise = omega (arith, rise.0, rises-within (suc pc) insns high rise.1)

-- one more instruction after the others
pub rises-push : (low : ℕ) (insns : Insns) (pc : ℕ) (insn : MInsn) (high : ℕ) → RiseWithin low insns pc → pc < high → RiseWithin low (insns ++ (pc, insn) ∷ []) high
rises-push low [] pc insn high rise lt = (rise, omega arith)
rises-push low ((at, x) ∷ insns) pc insn high rise lt = (rise.0, rises-push (suc at) insns pc insn high rise.1 lt)

from_low : (low : ℕ) (insns : Insns) (high : ℕ) → RiseWithin low insns high → (i : ℕ) → i < length insns → low ≤ pc_at insns i
from_low low [] high rise i lt = absurd (omega arith)
from_low low ((pc, insn) ∷ insns) high rise zero lt = rise.0
from_low low ((pc, insn) ∷ insns) high rise (suc i) lt =
    let above : suc pc ≤ pc_at insns i = from_low (suc pc) insns high rise.1 i (omega arith) in
    omega (arith, rise.0)

pcs_rise : (low : ℕ) (insns : Insns) (high : ℕ) → RiseWithin low insns high → (i j : ℕ) → i < j → j < length insns → pc_at insns i < pc_at insns j
pcs_rise low [] high rise i j lt within = absurd (omega arith)
pcs_rise low ((pc, insn) ∷ insns) high rise i zero lt within = absurd (omega arith)
pcs_rise low ((pc, insn) ∷ insns) high rise zero (suc j) lt within = from_low (suc pc) insns high rise.1 j (omega arith)
pcs_rise low ((pc, insn) ∷ insns) high rise (suc i) (suc j) lt within = pcs_rise (suc pc) insns high rise.1 i j (omega arith) (omega arith)

-- ---- a search

or_true : (b : Bool) → (b || true) ≡ true
or_true true = refl
or_true false = refl

starts_here : (insns : Insns) (pc i : ℕ) → i < length insns → pc_at insns i ≡ pc → is_start insns pc ≡ true
starts_here [] pc i lt e = absurd (omega arith)
starts_here ((at, insn) ∷ insns) pc zero lt e = ap (λ b. b || is_start insns pc) ((Decides-eqb at pc).1 e)
starts_here ((at, insn) ∷ insns) pc (suc i) lt e = ap (λ b. eqb at pc || b) (starts_here insns pc i (omega arith) e) ∙ or_true (eqb at pc)

differs : (m n : ℕ) → (m ≡ n → ⊥) → eqb m n ≡ false
differs m n not = grind (arith, nat_tests)

starts_nowhere : (insns : Insns) (pc : ℕ) → ((i : ℕ) → i < length insns → pc_at insns i ≡ pc → ⊥) → is_start insns pc ≡ false
starts_nowhere [] pc not = refl
starts_nowhere ((at, insn) ∷ insns) pc not =
    ap (λ b. b || is_start insns pc) (differs at pc (not 0 (omega arith))) ∙ starts_nowhere insns pc (λ i lt. not (suc i) (omega arith))

module _ (insns : Insns) (high : ℕ) (rise : RiseWithin 0 insns high) (pc : ℕ) where
  comparisons_rise : IsNonDecreasingBy (λ x. ordering_index (nat_cmp x.0 pc)) insns
  comparisons_rise = IsNonDecreasingBy-from_default (λ x. ordering_index (nat_cmp x.0 pc)) insns nothing (λ i j le within.
      let rises : pc_at insns i ≤ pc_at insns j = grind (arith, pcs_rise 0 insns high rise i j, λ (same : i ≡ j). ap (pc_at insns) same) in
      grind (arith, nat_tests))

  -- what a search by offset ends at says whether the offset is a start
  pub searched : (r : Result ℕ ℕ) → IsSearchInRange r (length insns) → IsBinarySearchResult (λ x. nat_cmp x.0 pc) insns r → is_ok r ≡ is_start insns pc
  searched (Ok at) within equal = sym (starts_here insns pc at within (ranked _ pc _ (sym (equal nothing))))
  searched (Err at) within parted = sym (starts_nowhere insns pc (λ i lt same.
      let below : i < at → pc_at insns i < pc = λ less. ranked _ pc _ (sym ((parted comparisons_rise).0 i nothing (omega arith) less)) in
      let above : at ≤ i → pc < pc_at insns i = λ le. ranked _ pc _ (sym ((parted comparisons_rise).1 i nothing le lt)) in
      grind (arith, below, above, same)))

-- ---- the tests say whether the facts hold

abbrev pcs : Insns → List ℕ
pcs insns = map (λ x. x.0) insns

pub start-found : (insns : Insns) (pc : ℕ) → is_start insns pc ≡ true → IsStart insns pc
start-found [] pc e = absurd (false≢true e)
start-found ((at, insn) ∷ insns) pc e =
    elim (eqb at pc) as (λ b. (eqb at pc ≡ b → IsStart ((at, insn) ∷ insns) pc)) [
      | true ↦ λ same. (0, omega arith, (Decides-eqb at pc).0 same)
      | false ↦ λ other.
          let rest = start-found insns pc (sym (ap (λ b. b || is_start insns pc) other) ∙ e) in
          (suc rest.0, omega (arith, rest.1), rest.2)
    ] refl

start-passes : (insns : Insns) (pc k : ℕ) → k < length (pcs insns) → get_or (pcs insns) k pc ≡ pc → is_start insns pc ≡ true
start-passes [] pc k lt e = absurd (omega arith)
start-passes ((at, insn) ∷ insns) pc zero lt e = ap (λ b. b || is_start insns pc) ((Decides-eqb at pc).1 e)
start-passes ((at, insn) ∷ insns) pc (suc k) lt e = ap (λ b. eqb at pc || b) (start-passes insns pc k (omega arith) e) ∙ or_true (eqb at pc)

both : (a b : Bool) → (a && b) ≡ true → (a ≡ true) × (b ≡ true)
both true b e = (refl, e)
both false b e = absurd (false≢true e)

pub all-found : (insns : Insns) (targets : List ℕ) → list_all (is_start insns) targets ≡ true → AllByRecursion (IsStart insns) targets
all-found insns [] e = tt
all-found insns (pc ∷ targets) e = let parts = both (is_start insns pc) (list_all (is_start insns) targets) e in (start-found insns pc parts.0, all-found insns targets parts.1)

pub all-passes : (insns : Insns) (targets : List ℕ) → AllByRecursion (IsStart insns) targets → list_all (is_start insns) targets ≡ true
all-passes insns [] all = refl
all-passes insns (pc ∷ targets) all =
    ap (λ b. b && list_all (is_start insns) targets) (start-passes insns pc all.0.0 all.0.1 all.0.2) ∙ all-passes insns targets all.1
