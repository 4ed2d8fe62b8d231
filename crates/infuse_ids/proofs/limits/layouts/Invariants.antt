-- The layouts of the sizes so far are there.
use Rattle.std.proofs.Common.{◌≡◌, map, take}
use Rattle.infuse_ids.specs.Sizes.{sized}
use Rattle.infuse_ids.proofs.limits.layouts.Given as goal

abbrev pub invariant-loop-size : goal.invariant-loop-size
invariant-loop-size l = l.layouts.items ≡ map sized (take l.size-index l.sizes)
