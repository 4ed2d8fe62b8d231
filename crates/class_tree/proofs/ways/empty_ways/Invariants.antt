use Rattle.std.proofs.Common.{◌≡◌, length}
use Rattle.class_tree.proofs.ways.empty_ways.Given as goal

abbrev pub invariant-loop : goal.invariant-loop
invariant-loop l = length l.ways.items ≡ l.counter
