-- The pcs of each body rise, and the rows of its switches keep to their limits.
use Rattle.std.proofs.Common.{◌≡◌, [], ◌∷◌, Some}
use Rattle.std.specs.List.{AllByRecursion}
use Rattle.body_form.specs.declared.body.Body.{Body}
use Rattle.body_form.specs.Flow.{Ops}
use Rattle.jvm_model.specs.TypesRules.{op_at}
use Rattle.expansion.specs.Seen.{KeepsRows}
use Rattle.typed_machine.specs.TypedWorld.{World}
use Rattle.type_rounds.proofs.tables.Starts.{each_is_at}
use Rattle.type_safety.specs.Facts.{BodyFacts}
use Rattle.type_safety.specs.Safety.{PhasesGiveFacts}
use Rattle.match_code.proofs.SwitchRows.{rows_keep}
use Rattle.body_limits.specs.Limits.{PcsRise, RowsAreKept}

pub pcs_rise : PhasesGiveFacts → PcsRise
pcs_rise facts files world tables is body there = (facts files world tables is body there).of_set.rise

module _ (world : World) (body : Body) (facts : BodyFacts world body) where
  -- of instructions that are those of the body
  some_rows_keep : (ops : Ops) → AllByRecursion (λ x. op_at body.ops x.0 ≡ Some x.1) ops → AllByRecursion (λ x. KeepsRows x.1) ops
  some_rows_keep [] at = tt
  some_rows_keep (x ∷ ops) at = (rows_keep world body.class x.1 (facts.named x.0 x.1 at.0), some_rows_keep ops at.1)

  body_rows_keep : AllByRecursion (λ x. KeepsRows x.1) body.ops
  body_rows_keep = some_rows_keep body.ops (each_is_at body.ops facts.of_set.rise)

pub rows_are_kept : PhasesGiveFacts → RowsAreKept
rows_are_kept facts files world tables is body there = body_rows_keep world body (facts files world tables is body there)
