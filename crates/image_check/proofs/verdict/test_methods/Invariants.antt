use Rattle.std.proofs.Common.{take, All}
use Rattle.image_check.specs.Checked.{IsBuiltMethod}
use Rattle.image_check.proofs.verdict.test_methods.Given as goal

-- the methods so far are run
abbrev pub invariant-loop-index : goal.invariant-loop-index
invariant-loop-index l = All IsBuiltMethod (take l.index l.image.methods)
