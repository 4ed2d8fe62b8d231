use Rattle.std.proofs.Common.{◌≡◌, ◌≤◌, ◌<◌, ℕ, length, map, take}
use Rattle.body_form.specs.Flow.{pc_at}
use Rattle.jvm_model.specs.WidthsShapes.{height_at}
use Rattle.type_table.specs.Types.{table_of}
use Rattle.flow_split.specs.Walks.{rows_before}
use Rattle.flow_split.proofs.heights.heights.Given as goal

abbrev pub invariant-loop-x : goal.invariant-loop-x
invariant-loop-x l = record {
  row : (k : ℕ) → l.x-index ≤ k → k < length l.ops → l.row ≤ rows_before l.types (pc_at l.ops k);
  heights : l.heights.items ≡ map (λ x. height_at (table_of l.types) x.0) (take l.x-index l.ops);
}
