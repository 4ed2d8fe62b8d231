use Rattle.std.proofs.Common.{◌≡◌, ℕ, ◌<◌, [], ◌∷◌, length}
use Rattle.class_tree.specs.Ways.{way_at}
use Rattle.class_tree.proofs.lookup_ways.alone.Given as goal

abbrev pub invariant-loop-class : goal.invariant-loop-class
invariant-loop-class l = record {
  many : length l.own.items ≡ l.class;
  each : (class : ℕ) → class < l.class → way_at l.own.items class ≡ class ∷ [];
}
