use Rattle.std.proofs.Common.{◌≡◌, replicate, None}
use Rattle.image_check.proofs.flow.no_depths.Given as goal

abbrev pub invariant-loop : goal.invariant-loop
invariant-loop l = l.depths.items ≡ replicate l.counter None
