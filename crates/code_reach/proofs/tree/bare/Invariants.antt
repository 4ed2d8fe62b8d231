use Rattle.std.proofs.Common.{◌≡◌, [], replicate}
use Rattle.code_reach.proofs.tree.bare.Given as goal

abbrev pub invariant-loop : goal.invariant-loop
invariant-loop l = l.nodes.items ≡ replicate l.counter []
