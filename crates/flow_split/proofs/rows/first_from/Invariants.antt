use Rattle.std.proofs.Common.{◌≤◌}
use Rattle.flow_split.specs.Walks.{rows_before}
use Rattle.flow_split.proofs.rows.first_from.Given as goal

abbrev pub invariant-loop-index : goal.invariant-loop-index
invariant-loop-index l = l.index ≤ rows_before l.types l.pc
