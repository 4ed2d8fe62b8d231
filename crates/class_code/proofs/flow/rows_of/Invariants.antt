use Rattle.std.proofs.Common.{◌≡◌, map, take}
use Rattle.class_code.specs.Flow.{row_of}
use Rattle.class_code.proofs.flow.rows_of.Given as goal

abbrev pub invariant-loop-row : goal.invariant-loop-row
invariant-loop-row l = l.rows.items ≡ map row_of (take l.row-index l.handlers)
