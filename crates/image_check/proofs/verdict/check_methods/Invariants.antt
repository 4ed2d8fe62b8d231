use Rattle.std.proofs.Common.{take, All}
use Rattle.image_check.specs.Checked.{IsCheckedMethod}
use Rattle.image_check.proofs.verdict.check_methods.Given as goal

-- the methods so far keep the rules
abbrev pub invariant-loop-index : goal.invariant-loop-index
invariant-loop-index l = All (IsCheckedMethod l.image) (take l.index l.image.methods)
