use Rattle.std.proofs.Common.{◌≡◌, drop}
use Rattle.class_code.specs.Code.{first_other, handler_fits}
use Rattle.class_code.proofs.code_list.first_unfit.Given as goal

-- the first of those that are left is the first of all
abbrev pub invariant-loop-row : goal.invariant-loop-row
invariant-loop-row l = first_other (handler_fits l.list l.length) (drop l.row-index l.rows) ≡ first_other (handler_fits l.list l.length) l.rows
