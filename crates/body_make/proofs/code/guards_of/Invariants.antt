use Rattle.std.proofs.Common.{◌≡◌, ◌-◌, [], drop}
use Rattle.jvm_model.specs.Phases.{first_refusal}
use Rattle.jvm_model.specs.Linking.{row_refusal}
use Rattle.jvm_model.specs.Bodies.{IsGuard}
use Rattle.body_make.proofs.Adding.{Completes}
use Rattle.body_make.proofs.code.guards_of.Given as goal

-- what the rows that are left are refused for all are, and their guards complete those that are had
abbrev pub invariant-loop-row : goal.invariant-loop-row
invariant-loop-row l = record {
  decides : first_refusal (row_refusal l.set (l.class - 32) l.file l.member) l.row-index (drop l.row-index l.rows) ≡ first_refusal (row_refusal l.set (l.class - 32) l.file l.member) 0 l.rows;
  completes : Completes (IsGuard l.set l.class l.file.pool) l.rows (drop l.row-index l.rows) [] l.guards.items;
}
