use Rattle.std.proofs.Common.{◌≡◌, ◌++◌, ◌+◌, drop}
use Rattle.std.specs.List.{sum_by}
use Rattle.jvm_model.specs.ImageEmission.{size_at}
use Rattle.infuse_emit.specs.Offsets.{offsets_from}
use Rattle.infuse_emit.specs.Parts.{source_in}
use Rattle.infuse_emit.proofs.code.offsets_of.Given as goal

abbrev pub invariant-loop-index : goal.invariant-loop-index
invariant-loop-index l =
    record {
      written : l.offsets.items ++ offsets_from (source_in l.parts) l.offset (drop l.index l.parts.body.now.ops) ≡ offsets_from (source_in l.parts) l.fn.first l.parts.body.now.ops;
      total : l.offset + sum_by (size_at (source_in l.parts)) (drop l.index l.parts.body.now.ops) ≡ l.fn.first + sum_by (size_at (source_in l.parts)) l.parts.body.now.ops;
    }
