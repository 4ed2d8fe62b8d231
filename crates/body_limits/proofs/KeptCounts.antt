-- What the instructions of each body count is little, and so are its parameters.
use Rattle.std.proofs.Common.{◌≡◌, ℕ, [], ◌∷◌, Some}
use Rattle.std.specs.List.{AllByRecursion}
use Rattle.body_form.specs.declared.op.Op.{Op}
use Rattle.body_form.specs.declared.op.Op.TheVariants as op
use Rattle.body_form.specs.Flow.{Ops}
use Rattle.jvm_model.specs.TypesRules.{op_at}
use Rattle.expansion.specs.Expanding.{KeepsCounts}
use Rattle.type_rounds.proofs.tables.Starts.{each_is_at}
use Rattle.type_safety.specs.Safety.{PhasesGiveFacts}
use Rattle.type_safety.proofs.facts.FewCounts.{HasFewCounts}
use Rattle.type_safety.proofs.facts.PhaseFacts.{phases_keep_counts, phases_keep_parameters}
use Rattle.body_limits.specs.Limits.{CountsAreKept, ParametersAreFew}

counts_keep : (instruction : Op) → HasFewCounts instruction → KeepsCounts instruction
counts_keep (op.Switch form default rows) few = few
counts_keep (op.CallVirtual used) few = few
counts_keep (op.CallSpecial used) few = few
counts_keep (op.CallStatic used) few = few
counts_keep (op.CallInterface used) few = few
counts_keep instruction few = tt

module _ (ops : Ops) (few : (pc : ℕ) (instruction : Op) → op_at ops pc ≡ Some instruction → HasFewCounts instruction) where
  -- of instructions that are those of a body
  some_counts_keep : (some : Ops) → AllByRecursion (λ x. op_at ops x.0 ≡ Some x.1) some → AllByRecursion (λ x. KeepsCounts x.1) some
  some_counts_keep [] at = tt
  some_counts_keep (x ∷ some) at = (counts_keep x.1 (few x.0 x.1 at.0), some_counts_keep some at.1)

pub counts_are_kept : PhasesGiveFacts → CountsAreKept
counts_are_kept facts files world tables is body there =
    some_counts_keep body.ops (phases_keep_counts files world tables is body there) body.ops (each_is_at body.ops (facts files world tables is body there).of_set.rise)

pub parameters_are_few : ParametersAreFew
parameters_are_few files world tables is body there = phases_keep_parameters files world tables is body there
