use Rattle.std.proofs.Common.{◌≡◌, true, take, All}
use Rattle.image_check.specs.Built.{is_built}
use Rattle.image_check.proofs.built.first_unbuilt.Given as goal

-- the instructions so far pass
abbrev pub invariant-loop-x : goal.invariant-loop-x
invariant-loop-x l = All (λ x. is_built x.1 ≡ true) (take l.x-index l.insns)
