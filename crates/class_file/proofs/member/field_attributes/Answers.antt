use Rattle.std.proofs.Common.{None}
use Rattle.std.proofs.lemmas.Result.{err_from_is_err_and}
use Rattle.byte_read.specs.Reading.{steps_at}
use Rattle.class_file.specs.ReadingMembers.{field_attribute_at}
use Rattle.byte_read.proofs.Loop.{goes_on, is_done}
use Rattle.class_file.proofs.readers.Loop.{ends}
use Rattle.class_file.proofs.member.field_attributes.Goals as goal

pub returns-in_err-value : goal.returns-in_err-value
returns-in_err-value c =
    let step = field_attribute_at c.args.pool.now in
    let p = err_from_is_err_and c.from_residual.result c.from_residual.ensures.1 in
    rw (p.1, p.2) (ends c.in_err-value.field-0.0 step c.loop.found c.args.count c.loop.counter c.loop.rest.now (steps_at step None c.args.count c.args.bytes.now) c.loop-test.true c.in_err-value.ensures c.loop.invariant)

pub loop-preserved : goal.loop-preserved
loop-preserved c =
    let step = field_attribute_at c.args.pool.now in
    goes_on step c.loop.found c.args.count c.loop.counter c.loop.rest.now c.in_ok-value.value c.in_ok-value.after.now (steps_at step None c.args.count c.args.bytes.now) c.loop-test.true c.in_ok-value.ensures c.loop.invariant

pub returns : goal.returns
returns c =
    let step = field_attribute_at c.args.pool.now in
    is_done step c.loop.found c.args.count c.loop.counter c.loop.rest.now (steps_at step None c.args.count c.args.bytes.now) c.loop-test.false c.loop.invariant
