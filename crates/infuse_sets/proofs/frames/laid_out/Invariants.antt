-- the bodies so far are laid out, and the first refusal of those that are left is the first of all
use Rattle.std.proofs.Common.{◌≡◌, drop, map, take}
use Rattle.std.specs.List.{AllByRecursion}
use Rattle.set_image.specs.LinkRefusals.{first_of, frame_refusal}
use Rattle.infuse_sets.specs.LaidBodies.{IsLaid}
use Rattle.infuse_sets.specs.TypedBodies.{typed_of}
use Rattle.infuse_sets.proofs.frames.laid_out.Given as goal

abbrev pub ghost-plan_of : goal.ghost-plan_of
ghost-plan_of g a = g.classes

abbrev pub invariant-loop-one : goal.invariant-loop-one
invariant-loop-one g l =
    (map (λ one. let typed = one.typed in typed.now) l.laid.items ≡ take l.one-index l.typed)
    × AllByRecursion IsLaid l.laid.items
    × (first_of (λ one. frame_refusal (typed_of one)) (drop l.one-index l.typed) ≡ first_of (λ one. frame_refusal (typed_of one)) l.typed)
