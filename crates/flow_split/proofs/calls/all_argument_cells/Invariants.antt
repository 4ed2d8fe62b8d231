use Rattle.std.proofs.Common.{◌≡◌, ◌≤◌, ◌+◌, ◌*◌, take}
use Rattle.std.specs.List.{sum_by, count_by}
use Rattle.jvm_model.specs.Initialisers.{is_reference_kind}
use Rattle.jvm_model.specs.WidthsSlots.{passed_cells}
use Rattle.flow_split.proofs.calls.all_argument_cells.Given as goal

abbrev pub invariant-loop-kind : goal.invariant-loop-kind
invariant-loop-kind l = record {
  is : l.cells ≡ count_by is_reference_kind (take l.kind-index l.kinds) + sum_by passed_cells (take l.kind-index l.kinds);
  small : l.cells ≤ 2 * l.kind-index;
}
