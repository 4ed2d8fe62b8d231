-- Which pcs are starts: a search among pcs that rise finds them.
use Rattle.std.proofs.Common.{◌≡◌, ℕ, zero, suc, ◌<◌, ◌≤◌, Bool, true, false, ◌&&◌, ◌||◌, eqb, List, [], ◌∷◌, length, map, get_or, Result, Ok, Err, refl, sym, ap, ◌∙◌, arith, inl, inr, ◌⊎◌}
use Rattle.std.specs.List.{AllByRecursion, list_all}
use Rattle.std.specs.List.Sorted.{IsSearchInRange, IsBinarySearchResult, IsNonDecreasingBy}
use Rattle.std.specs.Ordering.{nat_cmp, ordering_index}
use Rattle.std.specs.Result.{is_ok}
use Rattle.std.proofs.lemmas.Bool.{false≢true}
use Rattle.std.proofs.lemmas.Cmp.{ranked}
use Rattle.std.proofs.lemmas.List.Sorted.{IsNonDecreasingBy-from_default}
use Rattle.std.proofs.lemmas.Bool.Decides.{nat_tests, Decides-eqb}
use Rattle.class_file.specs.declared.record.HandlerRow.{HandlerRow}
use Rattle.class_code.specs.declared.insn.Insn.{Insn}
use Rattle.class_code.specs.declared.insn.Insn.TheVariants.{Nop}
use Rattle.class_code.specs.Code.{Insns, RiseFrom, IsStart, is_start, targets, JumpsToStarts, jumps_to_starts, HandlerFits, handler_fits}
use Rattle.class_code.proofs.Firsts.{Tells}

abbrev nothing : ℕ × Insn
nothing = (0, Nop)

abbrev pub pc_at : Insns → ℕ → ℕ
pc_at insns i = let x = get_or insns i nothing in x.0

-- ---- pcs that rise

from_low : (low : ℕ) (insns : Insns) → RiseFrom low insns → (i : ℕ) → i < length insns → low ≤ pc_at insns i
from_low low [] rise i lt = absurd (omega arith)
from_low low ((pc, insn) ∷ insns) rise zero lt = rise.0
from_low low ((pc, insn) ∷ insns) rise (suc i) lt =
    let above : suc pc ≤ pc_at insns i = from_low (suc pc) insns rise.1 i (omega arith) in
    omega (arith, rise.0)

pub pcs_rise : (low : ℕ) (insns : Insns) → RiseFrom low insns → (i j : ℕ) → i < j → j < length insns → pc_at insns i < pc_at insns j
pcs_rise low [] rise i j lt within = absurd (omega arith)
pcs_rise low ((pc, insn) ∷ insns) rise i zero lt within = absurd (omega arith)
pcs_rise low ((pc, insn) ∷ insns) rise zero (suc j) lt within = from_low (suc pc) insns rise.1 j (omega arith)
pcs_rise low ((pc, insn) ∷ insns) rise (suc i) (suc j) lt within = pcs_rise (suc pc) insns rise.1 i j (omega arith) (omega arith)

-- ---- a search

or_true : (b : Bool) → (b || true) ≡ true
or_true true = refl
or_true false = refl

starts_here : (insns : Insns) (pc i : ℕ) → i < length insns → pc_at insns i ≡ pc → is_start insns pc ≡ true
starts_here [] pc i lt e = absurd (omega arith)
starts_here ((at, insn) ∷ insns) pc zero lt e = ap (λ b. b || is_start insns pc) ((Decides-eqb at pc).1 e)
starts_here ((at, insn) ∷ insns) pc (suc i) lt e = ap (λ b. eqb at pc || b) (starts_here insns pc i (omega arith) e) ∙ or_true (eqb at pc)

differs : (m n : ℕ) → (m ≡ n → ⊥) → eqb m n ≡ false
differs m n not = grind (arith, nat_tests)

starts_nowhere : (insns : Insns) (pc : ℕ) → ((i : ℕ) → i < length insns → pc_at insns i ≡ pc → ⊥) → is_start insns pc ≡ false
starts_nowhere [] pc not = refl
starts_nowhere ((at, insn) ∷ insns) pc not =
    ap (λ b. b || is_start insns pc) (differs at pc (not 0 (omega arith))) ∙ starts_nowhere insns pc (λ i lt. not (suc i) (omega arith))

module _ (insns : Insns) (rise : RiseFrom 0 insns) (pc : ℕ) where
  comparisons_rise : IsNonDecreasingBy (λ x. ordering_index (nat_cmp x.0 pc)) insns
  comparisons_rise = IsNonDecreasingBy-from_default (λ x. ordering_index (nat_cmp x.0 pc)) insns nothing (λ i j le within.
      let rises : pc_at insns i ≤ pc_at insns j = grind (arith, pcs_rise 0 insns rise i j, λ (same : i ≡ j). ap (pc_at insns) same) in
      grind (arith, nat_tests))

  -- what a search by pc ends at says whether the pc is a start
  pub searched : (r : Result ℕ ℕ) → IsSearchInRange r (length insns) → IsBinarySearchResult (λ x. nat_cmp x.0 pc) insns r → is_ok r ≡ is_start insns pc
  searched (Ok at) within equal = sym (starts_here insns pc at within (ranked _ pc _ (sym (equal nothing))))
  searched (Err at) within parted = sym (starts_nowhere insns pc (λ i lt same.
      let below : i < at → pc_at insns i < pc = λ less. ranked _ pc _ (sym ((parted comparisons_rise).0 i nothing (omega arith) less)) in
      let above : at ≤ i → pc < pc_at insns i = λ le. ranked _ pc _ (sym ((parted comparisons_rise).1 i nothing le lt)) in
      grind (arith, below, above, same)))

-- ---- the tests say whether the facts hold

and_parts : (a b : Bool) → (a && b) ≡ true → (a ≡ true) × (b ≡ true)
and_parts true b e = (refl, e)
and_parts false b e = absurd (false≢true e)

and_joined : (a b : Bool) → a ≡ true → b ≡ true → (a && b) ≡ true
and_joined true b e f = f
and_joined false b e f = absurd (false≢true e)

tells-and : (a b : Bool) (P Q : Type 0) → Tells a P → Tells b Q → Tells (a && b) (P × Q)
tells-and a b P Q p q = record {
  holds = λ e. let parts = and_parts a b e in (p.holds parts.0, q.holds parts.1);
  passes = λ both. and_joined a b (p.passes both.0) (q.passes both.1);
}

tells-or : (a b : Bool) (P Q : Type 0) → Tells a P → Tells b Q → Tells (a || b) (P ⊎ Q)
tells-or true b P Q p q = record { holds = λ e. inl (p.holds refl); passes = λ either. refl }
tells-or false b P Q p q = record { holds = λ e. inr (q.holds e); passes = λ either. elim either [ inl h ↦ absurd (false≢true (p.passes h)) | inr h ↦ q.passes h ] }

tells-eqb : (m n : ℕ) → Tells (eqb m n) (m ≡ n)
tells-eqb m n = record { holds = (Decides-eqb m n).0; passes = (Decides-eqb m n).1 }

abbrev pcs : Insns → List ℕ
pcs insns = map (λ x. x.0) insns

start-found : (insns : Insns) (pc : ℕ) → is_start insns pc ≡ true → IsStart insns pc
start-found [] pc e = absurd (false≢true e)
start-found ((at, insn) ∷ insns) pc e =
    elim (eqb at pc) as (λ b. (eqb at pc ≡ b → IsStart ((at, insn) ∷ insns) pc)) [
      | true ↦ λ same. (0, omega arith, (Decides-eqb at pc).0 same)
      | false ↦ λ other.
          let rest = start-found insns pc (sym (ap (λ b. b || is_start insns pc) other) ∙ e) in
          (suc rest.0, omega (arith, rest.1), rest.2)
    ] refl

start-passes : (insns : Insns) (pc k : ℕ) → k < length (pcs insns) → get_or (pcs insns) k pc ≡ pc → is_start insns pc ≡ true
start-passes [] pc k lt e = absurd (omega arith)
start-passes ((at, insn) ∷ insns) pc zero lt e = ap (λ b. b || is_start insns pc) ((Decides-eqb at pc).1 e)
start-passes ((at, insn) ∷ insns) pc (suc k) lt e = ap (λ b. eqb at pc || b) (start-passes insns pc k (omega arith) e) ∙ or_true (eqb at pc)

pub is_start-tells : (insns : Insns) (pc : ℕ) → Tells (is_start insns pc) (IsStart insns pc)
is_start-tells insns pc = record { holds = start-found insns pc; passes = λ start. start-passes insns pc start.0 start.1 start.2 }

tells-all : (insns : Insns) (destinations : List ℕ) → Tells (list_all (is_start insns) destinations) (AllByRecursion (IsStart insns) destinations)
tells-all insns [] = record { holds = λ e. tt; passes = λ all. refl }
tells-all insns (pc ∷ destinations) = tells-and (is_start insns pc) (list_all (is_start insns) destinations) (IsStart insns pc) (AllByRecursion (IsStart insns) destinations) (is_start-tells insns pc) (tells-all insns destinations)

pub jumps-tell : (insns : Insns) (x : ℕ × Insn) → Tells (jumps_to_starts insns x.1) (JumpsToStarts insns x)
jumps-tell insns x = tells-all insns (targets x.1)

pub handler-tells : (insns : Insns) (size : ℕ) (row : HandlerRow) → Tells (handler_fits insns size row) (HandlerFits insns size row)
handler-tells insns size row =
    let end = tells-or (eqb row.end size) (is_start insns row.end) (row.end ≡ size) (IsStart insns row.end) (tells-eqb row.end size) (is_start-tells insns row.end) in
    let bounds = tells-and (is_start insns row.start) (eqb row.end size || is_start insns row.end) (IsStart insns row.start) ((row.end ≡ size) ⊎ IsStart insns row.end) (is_start-tells insns row.start) end in
    let all = tells-and (is_start insns row.start && (eqb row.end size || is_start insns row.end)) (is_start insns row.target) (IsStart insns row.start × ((row.end ≡ size) ⊎ IsStart insns row.end)) (IsStart insns row.target) bounds (is_start-tells insns row.target) in
    record {
      holds = λ e. let parts = all.holds e in record { start = parts.0.0; end = parts.0.1; handler = parts.1 };
      passes = λ fits. all.passes ((fits.start, fits.end), fits.handler);
    }
