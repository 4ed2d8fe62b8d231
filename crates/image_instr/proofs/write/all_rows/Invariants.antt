use Rattle.std.proofs.Common.{◌≡◌, ◌++◌, take, All}
use Rattle.std.specs.List.{flat_map}
use Rattle.image_instr.specs.Insn.{row_bytes, HasRowRanges}
use Rattle.image_instr.proofs.write.all_rows.Given as goal

-- so many rows are written
abbrev pub invariant-loop-each : goal.invariant-loop-each
invariant-loop-each l =
    record { written : l.out.items ≡ l.fn.out.items ++ flat_map row_bytes (take l.each-index l.rows); ranges : All HasRowRanges (take l.each-index l.rows) }
