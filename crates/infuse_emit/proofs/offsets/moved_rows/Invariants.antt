use Rattle.std.proofs.Common.{◌≡◌, map, take}
use Rattle.jvm_model.specs.ImageExpansion.{moved_row}
use Rattle.infuse_emit.specs.Offsets.{offset_in}
use Rattle.infuse_emit.proofs.offsets.moved_rows.Given as goal

abbrev pub invariant-loop-row : goal.invariant-loop-row
invariant-loop-row l = l.moved.items ≡ map (moved_row (offset_in l.ops l.offsets)) (take l.row-index l.rows)
