use Rattle.std.proofs.Common.{◌≡◌, take}
use Rattle.infuse_emit.specs.Parts.{heights_in}
use Rattle.infuse_emit.proofs.shapes.heights_of.Given as goal

abbrev pub invariant-loop-index : goal.invariant-loop-index
invariant-loop-index l = l.heights.items ≡ heights_in (take l.index l.types)
