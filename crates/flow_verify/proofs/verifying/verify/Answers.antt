-- The types are those of a quiet round, and a failing pc is the one that there is.
use Rattle.std.proofs.Common.{◌≡◌, sym, ap, subst, inl, Err}
use Rattle.jvm_model.specs.TypesRight.{Table, IsLeast, IsRight}
use Rattle.jvm_model.specs.TypesRounds.{IsFailing}
use Rattle.type_rounds.proofs.Rounds.{quiet_is_least, failing_has_no_right, one_failing}
use Rattle.type_table.specs.Types.{Rows, table_of}
use Rattle.flow_verify.specs.declared.verifying.VerifyRefusal.TheVariants.{Unverified}
use Rattle.flow_verify.specs.KnownRows.{known_rows}
use Rattle.flow_verify.specs.Verified.{AreReached}
use Rattle.flow_verify.proofs.waves.RowTables.{rows_rise}
use Rattle.flow_verify.proofs.waves.Answering.{types_are_least, reached_rows, quiet_outcome, failing_outcome}
use Rattle.flow_verify.proofs.verifying.verify.Goals as goal

is_least : (c : goal.In-Ok) → IsLeast c.args.set.now c.args.body.now (table_of c.in-Ok.types)
is_least c =
    let body = c.args.body.now in
    let frames = c.in-Ok-Quiet.frames in
    let (round, quiet, are) = quiet_outcome c.args.set.now body c.in-Ok-Quiet.field-0 frames c.in-Ok-Quiet.field-0-is c.in-Ok-Quiet.ensures in
    let same : c.in-Ok.types ≡ known_rows body.ops frames.store frames.known.items = c.in-Ok.ensures in
    subst (λ (rows : Rows). IsLeast c.args.set.now body (table_of rows)) (sym same)
    (types_are_least quiet_is_least c.args.set.now c.requires.closed body c.requires.names round quiet frames are)

pub types_of-requires : goal.types_of-requires
types_of-requires c =
    let (round, quiet, are) = quiet_outcome c.args.set.now c.args.body.now c.in-Ok-Quiet.field-0 c.in-Ok-Quiet.frames c.in-Ok-Quiet.field-0-is c.in-Ok-Quiet.ensures in
    are.there

pub returns-in-Ok-clause-least : goal.returns-in-Ok-clause-least
returns-in-Ok-clause-least c = is_least c

pub returns-in-Ok-clause-rows : goal.returns-in-Ok-clause-rows
returns-in-Ok-clause-rows c =
    let body = c.args.body.now in
    let frames = c.in-Ok-Quiet.frames in
    let same : c.in-Ok.types ≡ known_rows body.ops frames.store frames.known.items = c.in-Ok.ensures in
    let right = (is_least c).right in
    subst (AreReached body) (sym same)
    (reached_rows c.args.set.now body (known_rows body.ops frames.store frames.known.items) (rows_rise 0 body.ops frames.store frames.known.items c.requires.names.rise)
    (subst (λ (rows : Rows). IsRight c.args.set.now body (table_of rows)) same right))

pub returns-in-Ok-clause-failing : goal.returns-in-Ok-clause-failing
returns-in-Ok-clause-failing c = λ pc failing.
    absurd (failing_has_no_right c.args.set.now c.requires.closed c.args.body.now c.requires.names pc failing (table_of c.in-Ok.types) (is_least c).right)

here_fails : (c : goal.In-Ok-Failing) → IsFailing c.args.set.now c.args.body.now c.in-Ok-Failing.pc
here_fails c = failing_outcome c.args.set.now c.args.body.now c.in-Ok-Failing.field-0 c.in-Ok-Failing.pc c.in-Ok-Failing.field-0-is c.in-Ok-Failing.ensures

has_no_right : (c : goal.In-Ok-Failing) (table : Table) → IsRight c.args.set.now c.args.body.now table → ⊥
has_no_right c = failing_has_no_right c.args.set.now c.requires.closed c.args.body.now c.requires.names c.in-Ok-Failing.pc (here_fails c)

pub returns-in-Ok-Failing-clause-failing : goal.returns-in-Ok-Failing-clause-failing
returns-in-Ok-Failing-clause-failing c = λ pc failing.
    inl (ap (λ at. Err (Unverified c.args.body.now.method at)) (one_failing c.args.set.now c.args.body.now c.in-Ok-Failing.pc pc (here_fails c) failing))

pub returns-in-Ok-Failing-clause-none : goal.returns-in-Ok-Failing-clause-none
returns-in-Ok-Failing-clause-none c = has_no_right c

pub returns-in-Ok-Failing-clause-right : goal.returns-in-Ok-Failing-clause-right
returns-in-Ok-Failing-clause-right c = λ table right. absurd (has_no_right c table right)
