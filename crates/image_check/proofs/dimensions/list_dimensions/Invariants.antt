use Rattle.std.proofs.Common.{◌≡◌, ◌+◌, length}
use Rattle.image_check.proofs.ArrayTables.{DecidesTo}
use Rattle.image_check.proofs.dimensions.list_dimensions.Given as goal

-- the table has the types so far
abbrev pub invariant-loop-entry : goal.invariant-loop-entry
invariant-loop-entry l = record {
  many : length l.table.items ≡ l.entry-index;
  done : DecidesTo l.types l.table.items (32 + l.entry-index);
}
