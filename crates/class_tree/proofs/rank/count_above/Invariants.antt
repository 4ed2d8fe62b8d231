use Rattle.std.proofs.Common.{◌≡◌, ℕ, ◌<◌, map, get_or, length}
use Rattle.class_tree.specs.Ranks.{rank_in}
use Rattle.class_tree.proofs.rank.count_above.Given as goal

abbrev pub invariant-loop-class : goal.invariant-loop-class
invariant-loop-class l = record {
  many : length l.ranks.items ≡ l.class;
  each : (class : ℕ) → class < l.class → get_or l.ranks.items class 0 ≡ rank_in (map (λ v. v.items) l.above) l.count class;
}
