use Rattle.std.proofs.Common.{◌≡◌, ℕ, ◌<◌, ◌+◌, [], map, get_or, length}
use Rattle.class_tree.specs.Set.{is_directly_below}
use Rattle.class_tree.specs.Closure.{IsRowOf}
use Rattle.class_tree.proofs.above.table_of.Given as goal

abbrev pub invariant-loop-class : goal.invariant-loop-class
invariant-loop-class l = record {
  many : length l.rows.items ≡ l.class;
  done : (from : ℕ) → from < l.class → IsRowOf (is_directly_below l.names l.files) (32 + length l.names) from (get_or (map (λ v. v.items) l.rows.items) from []);
}
