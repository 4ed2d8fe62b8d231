use Rattle.std.proofs.Common.{◌≡◌, ◌++◌, drop}
use Rattle.std.specs.List.{flat_map}
use Rattle.jvm_model.specs.ImageExpansion.{bytes_of}
use Rattle.jvm_model.specs.WidthsFrame.{fill_insns}
use Rattle.infuse_emit.proofs.fills.write_fills.Given as goal

abbrev pub invariant-loop-fill : goal.invariant-loop-fill
invariant-loop-fill l = l.out.items ++ bytes_of (flat_map fill_insns (drop l.fill-index l.fills)) ≡ l.fn.out.items ++ bytes_of (flat_map fill_insns l.fills)
