-- The instruction at a pc: there is one exactly at a start, and pcs that rise have each instruction at its pc.
use Rattle.std.proofs.Common.{◌≡◌, ℕ, zero, suc, ◌≤◌, true, false, inl, inr, [], ◌∷◌, Some, None, nat_eq, if◌then◌else◌, refl, sym, ap, subst, ◌∙◌, arith}
use Rattle.std.specs.List.{AllByRecursion}
use Rattle.std.proofs.lemmas.Bool.{cases_Bool, eqb-true}
use Rattle.std.proofs.lemmas.Bool.Decides.{Decides-eqb, nat_tests}
use Rattle.std.proofs.lemmas.Option.{none-some, same_Some}
use Rattle.code_reach.specs.Reached.{RisesFrom}
use Rattle.body_form.specs.declared.op.Op.{Op}
use Rattle.body_form.specs.Flow.{Ops, IsStart}
use Rattle.jvm_model.specs.TypesRules.{op_at}
use Rattle.type_rounds.proofs.tables.Lists.{all_map}

-- ---- the first instruction of a list

pub same_pc : (pc : ℕ) → nat_eq pc pc ≡ true
same_pc pc = (Decides-eqb pc pc).1 refl

pub op_none : (at : ℕ) → op_at [] at ≡ None
unfolding op_at
op_none at = refl

pub op_here : (pc at : ℕ) (instruction : Op) (ops : Ops) → nat_eq pc at ≡ true → op_at ((pc, instruction) ∷ ops) at ≡ Some instruction
unfolding op_at
op_here pc at instruction ops e = ap (λ b. if b then Some instruction else op_at ops at) e

pub op_later : (pc at : ℕ) (instruction : Op) (ops : Ops) → nat_eq pc at ≡ false → op_at ((pc, instruction) ∷ ops) at ≡ op_at ops at
unfolding op_at
op_later pc at instruction ops e = ap (λ b. if b then Some instruction else op_at ops at) e

-- ---- starts

pub start_has_op : (ops : Ops) (at : ℕ) → IsStart ops at → (instruction : Op) × (op_at ops at ≡ Some instruction)
start_has_op [] at (k, within, is) = absurd (omega (arith, within))
start_has_op ((pc, instruction) ∷ ops) at (zero, within, is) = (instruction, op_here pc at instruction ops ((Decides-eqb pc at).1 is))
start_has_op ((pc, instruction) ∷ ops) at (suc k, within, is) =
    elim (cases_Bool (nat_eq pc at)) [
      | inl same ↦ (instruction, op_here pc at instruction ops same)
      | inr other ↦ let there = start_has_op ops at (k, omega (arith, within), is) in (there.0, op_later pc at instruction ops other ∙ there.1)
    ]

pub op_is_start : (ops : Ops) (at : ℕ) (instruction : Op) → op_at ops at ≡ Some instruction → IsStart ops at
op_is_start [] at instruction e = absurd (none-some instruction (sym (op_none at) ∙ e))
op_is_start ((pc, first) ∷ ops) at instruction e =
    elim (cases_Bool (nat_eq pc at)) [
      | inl same ↦ (0, omega arith, eqb-true pc at same)
      | inr other ↦ let there = op_is_start ops at instruction (sym (op_later pc at first ops other) ∙ e) in let within = there.1 in (suc there.0, omega (arith, within), there.2)
    ]

-- ---- pcs that rise

abbrev IsAt : Ops → ℕ → ℕ × Op → Type 0
IsAt ops low x = (op_at ops x.0 ≡ Some x.1) × (low ≤ x.0)

each_at : (low : ℕ) (ops : Ops) → RisesFrom low ops → AllByRecursion (IsAt ops low) ops
each_at low [] rise = tt
each_at low ((pc, instruction) ∷ ops) rise = (
  (op_here pc pc instruction ops (same_pc pc), rise.0),
  all_map (IsAt ops (suc pc)) (IsAt ((pc, instruction) ∷ ops) low)
      (λ x is. (op_later pc x.0 instruction ops (grind (arith, nat_tests, is.1)) ∙ is.0, omega (arith, rise.0, is.1))) ops (each_at (suc pc) ops rise.1),
)

-- each instruction is the one at its pc
pub each_is_at : (ops : Ops) → RisesFrom 0 ops → AllByRecursion (λ x. op_at ops x.0 ≡ Some x.1) ops
each_is_at ops rise = all_map (IsAt ops 0) (λ x. op_at ops x.0 ≡ Some x.1) (λ x is. is.0) ops (each_at 0 ops rise)

-- what holds of each instruction holds of the one at a pc
pub holds_at : (P : ℕ × Op → Type 0) (ops : Ops) → AllByRecursion P ops → (at : ℕ) (instruction : Op) → op_at ops at ≡ Some instruction → P (at, instruction)
holds_at P [] all at instruction e = absurd (none-some instruction (sym (op_none at) ∙ e))
holds_at P ((pc, first) ∷ ops) all at instruction e =
    elim (cases_Bool (nat_eq pc at)) [
      | inl same ↦
          let is : first ≡ instruction = same_Some first instruction (sym (op_here pc at first ops same) ∙ e) in
          subst (λ p. P (p, instruction)) (eqb-true pc at same) (subst (λ i. P (pc, i)) is all.0)
      | inr other ↦ holds_at P ops all.1 at instruction (sym (op_later pc at first ops other) ∙ e)
    ]
