use Rattle.std.proofs.Common.{ℕ, Option}
use Rattle.class_pool.specs.declared.types.MemberId.{MemberId}
use Rattle.class_tree.proofs.tables.Seen.{IsSoFar}
use Rattle.class_tree.proofs.way.way_over.Given as goal

abbrev pub invariant-loop-upper : goal.invariant-loop-upper
invariant-loop-upper l = (answer : ℕ → Option MemberId) → IsSoFar l.ways l.own l.above answer l.upper-index l.way
