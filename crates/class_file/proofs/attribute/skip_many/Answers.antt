use Rattle.std.proofs.Common.{Ok, refl}
use Rattle.std.proofs.lemmas.Result.{err_from_is_err_and}
use Rattle.byte_read.specs.Reading.{steps_at}
use Rattle.class_file.specs.ReadingMembers.{skip_at, skipped}
use Rattle.byte_read.proofs.Loop.{goes_on, is_done}
use Rattle.class_file.proofs.readers.Loop.{passed, ends}
use Rattle.class_file.proofs.attribute.skip_many.Goals as goal

pub returns-in_err-rest : goal.returns-in_err-rest
returns-in_err-rest c =
    let pool = c.args.pool.now in
    let why = c.in_err-rest.field-0.0 in
    let p = err_from_is_err_and c.from_residual.result c.from_residual.ensures.1 in
    rw (p.1, p.2) (ends why (skipped pool) tt c.args.count c.loop.counter c.loop.rest.now (steps_at (skipped pool) tt c.args.count c.args.bytes.now) c.loop-test.true (passed why (skip_at pool c.loop.rest.now) (λ rest. Ok (tt, rest)) c.in_err-rest.ensures) c.loop.invariant)

pub loop-preserved : goal.loop-preserved
loop-preserved c =
    let pool = c.args.pool.now in
    goes_on (skipped pool) tt c.args.count c.loop.counter c.loop.rest.now tt c.in_ok-rest.rest.now (steps_at (skipped pool) tt c.args.count c.args.bytes.now) c.loop-test.true (rw c.in_ok-rest.ensures refl) c.loop.invariant

pub returns : goal.returns
returns c =
    let pool = c.args.pool.now in
    is_done (skipped pool) tt c.args.count c.loop.counter c.loop.rest.now (steps_at (skipped pool) tt c.args.count c.args.bytes.now) c.loop-test.false c.loop.invariant
