use Rattle.std.proofs.Common.{take, All}
use Rattle.image_check.specs.Ids.{HasIds}
use Rattle.image_check.proofs.ids.test_ids.Given as goal

-- the instructions so far pass
abbrev pub invariant-loop-x : goal.invariant-loop-x
invariant-loop-x l = All (λ x. HasIds l.image l.method x.1) (take l.x-index l.insns)
