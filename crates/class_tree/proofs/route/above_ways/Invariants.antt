use Rattle.std.proofs.Common.{◌≡◌, ℕ, ◌<◌, [], length}
use Rattle.class_tree.specs.DirectSupers.{above_by}
use Rattle.class_tree.specs.Ways.{seen_after, way_at}
use Rattle.class_tree.proofs.route.above_ways.Given as goal

abbrev pub invariant-loop-class : goal.invariant-loop-class
invariant-loop-class l = record {
  many : length l.ways.items ≡ l.class;
  each : (class : ℕ) → class < l.class → way_at l.ways.items class ≡ seen_after [] (above_by l.route l.names l.files class);
}
