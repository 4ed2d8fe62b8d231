-- the first of those that are left is the first of all
use Rattle.std.proofs.Common.{◌≡◌, drop}
use Rattle.set_image.specs.LinkRefusals.{first_of, form_refusal}
use Rattle.infuse_sets.proofs.forms.test_forms.Given as goal

abbrev pub invariant-loop-body : goal.invariant-loop-body
invariant-loop-body l = first_of form_refusal (drop l.body-index l.bodies) ≡ first_of form_refusal l.bodies
