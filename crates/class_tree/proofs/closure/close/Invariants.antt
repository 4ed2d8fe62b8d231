use Rattle.std.proofs.Common.{◌≡◌, map, length}
use Rattle.class_tree.specs.Closure.{Edges, AreOver, IsSquare}
use Rattle.class_tree.proofs.closure.close.Given as goal

abbrev pub invariant-loop-number : goal.invariant-loop-number
invariant-loop-number l = record {
  same_length : length l.rows.items ≡ length l.fn.rows.items;
  square : IsSquare (length l.fn.rows.items) (map (λ v. v.items) l.rows.items);
  over : (edge : Edges) → AreOver edge (length l.fn.rows.items) 0 (map (λ v. v.items) l.fn.rows.items) → AreOver edge (length l.fn.rows.items) l.number (map (λ v. v.items) l.rows.items);
}
