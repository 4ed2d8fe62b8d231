-- the methods of the bodies so far are there, and none of them is too long
use Rattle.std.proofs.Common.{◌≡◌, ◌++◌, map, take, None}
use Rattle.std.specs.List.{AllByRecursion}
use Rattle.jvm_model.specs.ImageEmission.{method_of}
use Rattle.jvm_model.specs.NumberedIds.{numbers_of}
use Rattle.set_image.specs.Linked.{source_by}
use Rattle.set_image.specs.LinkRefusals.{length_refusal}
use Rattle.infuse_sets.specs.LaidBodies.{laid_as}
use Rattle.infuse_sets.proofs.code.add_methods.Given as goal

abbrev pub invariant-loop-one : goal.invariant-loop-one
invariant-loop-one l =
    (l.methods.items ≡ l.fn.methods.items ++ map (λ one. method_of (source_by (numbers_of l.ids) (laid_as one))) (take l.one-index l.laid))
    × AllByRecursion (λ one. length_refusal (numbers_of l.ids) (laid_as one) ≡ None) (take l.one-index l.laid)
