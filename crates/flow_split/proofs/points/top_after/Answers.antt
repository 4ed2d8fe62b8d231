-- The next pc is higher.
use Rattle.std.proofs.Common.{sym, ◌∙◌, arith}
use Rattle.body_form.specs.Flow.{pc_at}
use Rattle.flow_split.proofs.Following.{after_higher}
use Rattle.flow_split.proofs.RowsByPc.{before_higher}
use Rattle.flow_split.proofs.points.top_after.Goals as goal

pub first_from-row-requires-clause-from : goal.first_from-row-requires-clause-from
first_from-row-requires-clause-from c =
    let ops = c.args.ops.now in
    let higher = after_higher ops c.requires.ops c.args.position c.in-Some.next c.requires.position (sym c.next_pc.ensures ∙ c.in-Some.is) in
    omega (arith, c.requires.index, before_higher c.args.types.now (pc_at ops c.args.position) c.in-Some.next higher)
