use Rattle.std.proofs.Common.{ℕ, ◌<◌}
use Rattle.class_tree.specs.Circles.{IsCircular}
use Rattle.class_tree.proofs.circles.test_circles.Given as goal

abbrev pub invariant-loop-file : goal.invariant-loop-file
invariant-loop-file l = (other : ℕ) → other < l.file → IsCircular l.names l.files other → ⊥
