use Rattle.std.proofs.Common.{◌≡◌, drop}
use Rattle.class_code.specs.Code.{first_other, jumps_to_starts}
use Rattle.class_code.proofs.code_list.first_astray.Given as goal

-- the first of those that are left is the first of all
abbrev pub invariant-loop-x : goal.invariant-loop-x
invariant-loop-x l = first_other (λ x. jumps_to_starts l.list x.1) (drop l.x-index l.x-items) ≡ first_other (λ x. jumps_to_starts l.list x.1) l.list
