use Rattle.std.proofs.Common.{◌≡◌, ℕ, ◌<◌, ◌≤◌, [], map, length, get_or}
use Rattle.class_tree.specs.Closure.{IsStep}
use Rattle.class_tree.proofs.closure.round.Given as goal

abbrev pub invariant-loop-from : goal.invariant-loop-from
invariant-loop-from l = record {
  same_length : length l.rows.items ≡ length l.fn.rows.items;
  done : (from : ℕ) → from < l.from → IsStep (get_or (map (λ v. v.items) l.fn.rows.items) l.number []) l.number (get_or (map (λ v. v.items) l.fn.rows.items) from []) (get_or (map (λ v. v.items) l.rows.items) from []);
  others : (from : ℕ) → l.from ≤ from → get_or (map (λ v. v.items) l.rows.items) from [] ≡ get_or (map (λ v. v.items) l.fn.rows.items) from [];
}
