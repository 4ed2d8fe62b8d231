use Rattle.std.proofs.Common.{None}
use Rattle.std.proofs.lemmas.Result.{err_from_is_err_and}
use Rattle.byte_read.specs.Reading.{steps_at}
use Rattle.class_file.specs.ReadingMembers.{method_attribute_at}
use Rattle.byte_read.proofs.Loop.{goes_on, is_done}
use Rattle.class_file.proofs.readers.Loop.{ends}
use Rattle.class_file.proofs.member.method_attributes.Goals as goal

pub returns-in_err-code : goal.returns-in_err-code
returns-in_err-code c =
    let step = method_attribute_at c.args.pool.now c.args.is_abstract in
    let p = err_from_is_err_and c.from_residual.result c.from_residual.ensures.1 in
    rw (p.1, p.2) (ends c.in_err-code.field-0.0 step c.loop.found c.args.count c.loop.counter c.loop.rest.now (steps_at step None c.args.count c.args.bytes.now) c.loop-test.true c.in_err-code.ensures c.loop.invariant)

pub loop-preserved : goal.loop-preserved
loop-preserved c =
    let step = method_attribute_at c.args.pool.now c.args.is_abstract in
    goes_on step c.loop.found c.args.count c.loop.counter c.loop.rest.now c.in_ok-code.code c.in_ok-code.after.now (steps_at step None c.args.count c.args.bytes.now) c.loop-test.true c.in_ok-code.ensures c.loop.invariant

pub returns : goal.returns
returns c =
    let step = method_attribute_at c.args.pool.now c.args.is_abstract in
    is_done step c.loop.found c.args.count c.loop.counter c.loop.rest.now (steps_at step None c.args.count c.args.bytes.now) c.loop-test.false c.loop.invariant
