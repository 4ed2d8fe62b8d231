-- the first of those that are left is the first of all
use Rattle.std.proofs.Common.{◌≡◌, drop}
use Rattle.jvm_model.specs.NumberedIds.{numbers_of}
use Rattle.set_image.specs.LinkRefusals.{first_of, length_refusal}
use Rattle.infuse_sets.specs.LaidBodies.{laid_as}
use Rattle.infuse_sets.proofs.code.first_too_long.Given as goal

abbrev pub invariant-loop-one : goal.invariant-loop-one
invariant-loop-one l =
    first_of (λ one. length_refusal (numbers_of l.ids) (laid_as one)) (drop l.one-index l.laid) ≡ first_of (λ one. length_refusal (numbers_of l.ids) (laid_as one)) l.laid
