use Rattle.std.proofs.Common.{◌≡◌, ◌-◌}
use Rattle.class_code.specs.Table.{table_rows}
use Rattle.class_code.proofs.Rows.{with_prefix}
use Rattle.class_code.proofs.switch.table_rows.Given as goal

-- the rows so far, and those that are still read, are those of the whole
abbrev pub invariant-loop-index : goal.invariant-loop-index
invariant-loop-index l = with_prefix l.rows.items (table_rows l.pc l.low l.index (l.count - l.index) l.rest) ≡ table_rows l.pc l.low 0 l.count l.bytes
