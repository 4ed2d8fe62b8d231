use Rattle.std.proofs.Common.{◌≡◌, map, take}
use Rattle.jvm_model.specs.WidthsShapes.{width_where}
use Rattle.flow_split.proofs.widths.widths_by.Given as goal

abbrev pub invariant-loop-mark : goal.invariant-loop-mark
invariant-loop-mark l = l.widths.items ≡ map width_where (take l.mark-index l.marks)
