use Rattle.std.proofs.Common.{◌≡◌, ◌-◌, None}
use Rattle.class_code.specs.Table.{lookup_rows}
use Rattle.class_code.proofs.Rows.{with_prefix}
use Rattle.class_code.proofs.switch.lookup_rows.Given as goal

-- the rows so far, and those that are still read, are those of the whole
abbrev pub invariant-loop : goal.invariant-loop
invariant-loop l = with_prefix l.rows.items (lookup_rows l.pc l.before (l.count - l.counter) l.rest) ≡ lookup_rows l.pc None l.count l.bytes
