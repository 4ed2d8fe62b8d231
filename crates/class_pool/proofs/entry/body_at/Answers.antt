use Rattle.std.proofs.Common.{arith}
use Rattle.std.proofs.lemmas.Result.{err_from_is_err_and}
use Rattle.byte_read.proofs.Steps.{slice_length}
use Rattle.class_pool.specs.declared.refusal.PoolRefusal.TheVariants.{Truncated}
use Rattle.class_pool.proofs.constant_pool.Bodies.{size_enough, size_stops, parts_stop}
use Rattle.class_pool.proofs.entry.body_at.Goals as goal

pub entry_of-requires : goal.entry_of-requires
entry_of-requires c =
    let size = c.in_ok-size.size in
    let enough = size_enough c.args.tag c.args.bytes.now (size, c.in_ok-size.rest.now) c.in_ok-size.ensures in
    let len = slice_length Truncated size c.in_ok-size.rest.now (c.in_ok-parts.parts.now, c.in_ok-parts.rest.now) c.in_ok-parts.ensures in
    omega (arith, enough, len)

pub returns-in_err-size : goal.returns-in_err-size
returns-in_err-size c =
    let p = err_from_is_err_and c.from_residual.result c.from_residual.ensures.1 in
    rw (p.1, p.2) (size_stops c.args.index c.args.tag c.args.bytes.now c.in_err-size.field-0.0 c.in_err-size.ensures)

pub returns-in_err-parts : goal.returns-in_err-parts
returns-in_err-parts c =
    let p = err_from_is_err_and c.from_residual-in_err-parts.result c.from_residual-in_err-parts.ensures.1 in
    rw (p.1, p.2) (parts_stop c.args.index c.args.tag c.args.bytes.now (c.in_ok-size.size, c.in_ok-size.rest.now) c.in_err-parts.field-0.0 c.in_ok-size.ensures c.in_err-parts.ensures)
