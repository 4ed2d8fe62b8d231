use Rattle.std.proofs.Common.{◌+◌, length}
use Rattle.image_check.specs.Table.{unset}
use Rattle.image_check.specs.Flow.{IsFlow}
use Rattle.image_check.proofs.flow.follow_depths.Given as goal

abbrev pub invariant-loop-pc : goal.invariant-loop-pc
invariant-loop-pc l = IsFlow l.image l.method l.flow.depths.items l.flow.work.items

abbrev pub decreases-loop-pc : goal.decreases-loop-pc
decreases-loop-pc l = unset l.flow.depths.items + length l.flow.work.items
