use Rattle.std.proofs.Common.{◌≡◌, ◌≤◌, take}
use Rattle.jvm_model.specs.ImageExpansion.{refs_in}
use Rattle.expansion.proofs.shapes.refs_in.Given as goal

abbrev pub invariant-loop-shape : goal.invariant-loop-shape
invariant-loop-shape l = record { counted : l.refs ≡ refs_in (take l.shape-index l.shapes); most : l.refs ≤ l.shape-index }
