use Rattle.std.proofs.Common.{◌≡◌, ◌≤◌, ◌*◌, take}
use Rattle.std.specs.List.{sum_by}
use Rattle.jvm_model.specs.WidthsSlots.{passed_cells}
use Rattle.infuse_emit.proofs.signatures.cells.Given as goal

abbrev pub invariant-loop-kind : goal.invariant-loop-kind
invariant-loop-kind l = record {
  is : l.cells ≡ sum_by passed_cells (take l.kind-index l.kinds);
  small : l.cells ≤ 2 * l.kind-index;
}
