use Rattle.std.proofs.Common.{◌≡◌, ◌++◌, drop}
use Rattle.std.specs.List.{AllByRecursion}
use Rattle.jvm_model.specs.ImageExpansion.{bytes_of}
use Rattle.expansion.specs.Seen.{with_rows, Keeps}
use Rattle.infuse_emit.proofs.instruction.write_insns.Given as goal

abbrev pub invariant-loop-insn : goal.invariant-loop-insn
invariant-loop-insn l =
    record {
      written : l.out.items ++ bytes_of (with_rows l.rows (drop l.insn-index l.insns)) ≡ l.fn.out.items ++ bytes_of (with_rows l.rows l.insns);
      keep : AllByRecursion Keeps (with_rows l.rows (drop l.insn-index l.insns));
    }
