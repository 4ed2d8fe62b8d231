-- the methods of the classes so far are there, and none of their bodies is too long
use Rattle.std.proofs.Common.{◌≡◌, filter, map, take, None}
use Rattle.std.specs.List.{AllByRecursion, flat_map}
use Rattle.jvm_model.specs.ImageEmission.{method_of}
use Rattle.jvm_model.specs.NumberedIds.{numbers_of}
use Rattle.set_image.specs.Linked.{source_by}
use Rattle.set_image.specs.LinkRefusals.{length_refusal}
use Rattle.infuse_sets.specs.LaidBodies.{is_laid_in, laid_as}
use Rattle.infuse_sets.proofs.code.methods_in_order.Given as goal

abbrev pub invariant-loop-class : goal.invariant-loop-class
invariant-loop-class l =
    (l.methods.items ≡ flat_map (λ class. map (λ one. method_of (source_by (numbers_of l.ids) (laid_as one))) (filter (is_laid_in class) l.laid)) (take l.class-index l.classes))
    × AllByRecursion (λ class. AllByRecursion (λ one. length_refusal (numbers_of l.ids) (laid_as one) ≡ None) (filter (is_laid_in class) l.laid)) (take l.class-index l.classes)
