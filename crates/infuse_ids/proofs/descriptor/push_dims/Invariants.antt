-- As many rows are there.
use Rattle.std.proofs.Common.{◌≡◌, ◌++◌, replicate}
use Rattle.infuse_ids.proofs.descriptor.push_dims.Given as goal

abbrev pub invariant-loop : goal.invariant-loop
invariant-loop l = l.text.items ≡ l.fn.text.items ++ replicate l.counter 91
