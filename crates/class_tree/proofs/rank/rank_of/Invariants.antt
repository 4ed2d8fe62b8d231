use Rattle.std.proofs.Common.{◌≡◌, ◌≤◌, map}
use Rattle.class_tree.specs.Closure.{at}
use Rattle.class_tree.specs.Ranks.{how_many}
use Rattle.class_tree.proofs.rank.rank_of.Given as goal

abbrev pub invariant-loop-to : goal.invariant-loop-to
invariant-loop-to l = record { count : l.rank ≡ how_many (at (map (λ v. v.items) l.above) l.class) l.to; bound : l.rank ≤ l.to }
