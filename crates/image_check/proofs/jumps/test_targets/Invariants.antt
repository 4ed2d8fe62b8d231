use Rattle.std.proofs.Common.{take, All}
use Rattle.image_check.specs.Code.{JumpsToStarts}
use Rattle.image_check.proofs.jumps.test_targets.Given as goal

-- the instructions so far pass
abbrev pub invariant-loop-x : goal.invariant-loop-x
invariant-loop-x l = All (JumpsToStarts l.method.code l.insns) (take l.x-index l.insns)
