-- the first of those that are left is the first of all
use Rattle.std.proofs.Common.{◌≡◌, drop}
use Rattle.set_image.specs.LinkRefusals.{first_outside}
use Rattle.infuse_sets.proofs.forms.first_outside.Given as goal

abbrev pub invariant-loop-x : goal.invariant-loop-x
invariant-loop-x l = first_outside (drop l.x-index l.ops) ≡ first_outside l.ops
