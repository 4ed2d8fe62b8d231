use Rattle.std.proofs.Common.{◌≡◌, ◌++◌, drop}
use Rattle.std.specs.List.{flat_map}
use Rattle.jvm_model.specs.ImageEmission.{bytes_at}
use Rattle.infuse_emit.specs.Offsets.{offset_in}
use Rattle.infuse_emit.specs.Parts.{source_in}
use Rattle.infuse_emit.proofs.code.write_all.Given as goal

abbrev pub invariant-loop-index : goal.invariant-loop-index
invariant-loop-index l =
    l.out.items ++ flat_map (bytes_at (source_in l.parts) (offset_in l.parts.body.now.ops l.offsets)) (drop l.index l.parts.body.now.ops)
    ≡ l.fn.out.items ++ flat_map (bytes_at (source_in l.parts) (offset_in l.parts.body.now.ops l.offsets)) l.parts.body.now.ops
