use Rattle.std.proofs.Common.{◌≡◌, map, take}
use Rattle.body_form.specs.Reach.{row_of}
use Rattle.body_form.proofs.reach.rows_of.Given as goal

-- the rows so far
abbrev pub invariant-loop-guard : goal.invariant-loop-guard
invariant-loop-guard l = l.rows.items ≡ map row_of (take l.guard-index l.guards)
