use Rattle.std.proofs.Common.{ℕ, List, ap, ◌∙◌}
use Rattle.class_tree.specs.Ways.{seen_after, way_at}
use Rattle.class_tree.proofs.tables.Seen.{begins, goes_on}
use Rattle.class_tree.proofs.way.way_over.Goals as goal

pub loop-upper-init : goal.loop-upper-init
loop-upper-init c answer =
    begins c.args.ways.now c.args.own.now c.args.above.now answer c.extend.new.self
    (c.in_ok-extend.ensures ∙ ap (λ (seen : List ℕ). seen_after seen c.args.own.now) c.new-way.ensures)

pub loop-upper-preserved : goal.loop-upper-preserved
loop-upper-preserved c answer =
    goes_on c.args.ways.now c.args.own.now c.args.above.now answer c.loop-upper.upper-index c.loop-upper.way c.extend-in-loop-upper.new.self 0 c.loop-upper-test.true (c.loop-upper.invariant answer)
    (c.in_ok-extend-2.ensures ∙ ap (seen_after c.loop-upper.way) (c.way_at.ensures ∙ ap (way_at c.args.ways.now) c.from.ensures))
