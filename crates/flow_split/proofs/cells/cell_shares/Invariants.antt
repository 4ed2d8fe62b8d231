use Rattle.std.proofs.Common.{◌≡◌, length, map}
use Rattle.std.specs.List.{range_with_len}
use Rattle.jvm_model.specs.WidthsShapes.{Widths}
use Rattle.jvm_model.specs.WidthsSlots.{locals_of}
use Rattle.flow_split.specs.Shares.{cell_share}
use Rattle.flow_split.proofs.cells.cell_shares.Given as goal

abbrev pub invariant-loop-local : goal.invariant-loop-local
invariant-loop-local l = record {
  size : length l.shares.items ≡ l.local;
  shares : (all : Widths) → l.widths ≡ map all.local (locals_of l.body) → l.shares.items ≡ map (cell_share l.body all) (range_with_len 0 l.local);
}
