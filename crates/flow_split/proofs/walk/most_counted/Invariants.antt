use Rattle.std.proofs.Common.{◌≡◌, ◌≤◌, ◌<◌, ℕ, length, map, take}
use Rattle.body_form.specs.Flow.{pc_at}
use Rattle.jvm_model.specs.WidthsShapes.{widths_of}
use Rattle.jvm_model.specs.WidthsFrame.{most_at, greatest}
use Rattle.type_table.specs.Types.{table_of}
use Rattle.flow_split.specs.Walks.{rows_before}
use Rattle.flow_split.proofs.walk.most_counted.Given as goal

abbrev pub invariant-loop-position : goal.invariant-loop-position
invariant-loop-position l = record {
  before : (later : ℕ) → l.position ≤ later → later < length l.ops → l.index ≤ rows_before l.types (pc_at l.ops later);
  most : l.most ≡ greatest (map (most_at l.body (widths_of l.narrow (table_of l.types) l.body.ops) (table_of l.types)) (take l.position l.ops));
}
