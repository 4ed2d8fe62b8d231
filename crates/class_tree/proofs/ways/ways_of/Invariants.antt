use Rattle.std.proofs.Common.{length}
use Rattle.class_tree.specs.Ways.{AreWaysBelow}
use Rattle.class_tree.proofs.ways.ways_of.Given as goal

abbrev pub invariant-loop-rank : goal.invariant-loop-rank
invariant-loop-rank l = AreWaysBelow l.own l.above l.ranks (length l.own) l.rank 0 l.ways.items

abbrev pub invariant-loop-class : goal.invariant-loop-class
invariant-loop-class l = AreWaysBelow l.own l.above l.ranks (length l.own) l.rank l.class l.ways.items
