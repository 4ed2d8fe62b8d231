use Rattle.std.proofs.Common.{inl, inr, Option, sym, ◌∙◌}
use Rattle.jvm_model.specs.declared.refusal.Refusal.{Refusal}
use Rattle.jvm_model.specs.NumberedIds.{numbers_of}
use Rattle.set_image.specs.LinkRefusals.{length_refusal}
use Rattle.infuse_sets.specs.declared.laid.LaidBody.{LaidBody}
use Rattle.infuse_sets.specs.LaidBodies.{laid_as}
use Rattle.infuse_sets.proofs.BodyRefusals.{first_seen}
use Rattle.infuse_sets.proofs.FirstRefusals.{here, later}
use Rattle.infuse_sets.proofs.code.first_too_long.Goals as goal

pub returns-in-Err : goal.returns-in-Err
returns-in-Err c =
    let refusal : LaidBody → Option Refusal = λ one. length_refusal (numbers_of c.args.ids.now) (laid_as one) in
    elim c.in-Err.ensures.refused [
      | inl memory ↦ inl memory
      | inr has ↦
          inr (first_seen (length_refusal (numbers_of c.args.ids.now)) laid_as c.args.laid.now ∙ sym c.loop-one.invariant
          ∙ here refusal c.args.laid.now c.loop-one.one-index c.one-item.result c.in-Err.why c.loop-one-test.true c.one-item.is has)
    ]

pub loop-one-preserved : goal.loop-one-preserved
loop-one-preserved c =
    let refusal : LaidBody → Option Refusal = λ one. length_refusal (numbers_of c.args.ids.now) (laid_as one) in
    later refusal c.args.laid.now c.loop-one.one-index c.one-item.result c.loop-one-test.true c.one-item.is c.in-Ok.ensures.passed ∙ c.loop-one.invariant
