use Rattle.std.proofs.Common.{◌≡◌, ℕ, ◌||◌, false, get_or, length, take}
use Rattle.std.specs.List.{list_any}
use Rattle.class_tree.specs.Set.{is_number, named_among}
use Rattle.class_tree.proofs.above.mark_named.Given as goal

abbrev pub invariant-loop-index : goal.invariant-loop-index
invariant-loop-index l = record {
  long : length l.row.items ≡ length l.fn.row.items;
  says : (to : ℕ) → get_or l.row.items to false ≡ (get_or l.fn.row.items to false || list_any (λ index. is_number to (named_among l.names l.file index)) (take l.index-index l.indexes));
}
