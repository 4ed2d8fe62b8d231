use Rattle.std.proofs.Common.{◌≡◌, ◌≤◌, ◌*◌, take}
use Rattle.jvm_model.specs.ImageExpansion.{cells_in}
use Rattle.expansion.proofs.shapes.cells_in.Given as goal

abbrev pub invariant-loop-shape : goal.invariant-loop-shape
invariant-loop-shape l = record { counted : l.cells ≡ cells_in (take l.shape-index l.shapes); most : l.cells ≤ 2 * l.shape-index }
