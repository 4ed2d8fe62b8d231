use Rattle.std.proofs.Common.{inl, inr, Option, sym, ◌∙◌}
use Rattle.jvm_model.specs.declared.refusal.Refusal.{Refusal}
use Rattle.set_image.specs.LinkRefusals.{frame_refusal}
use Rattle.infuse_sets.specs.declared.typed.TypedBody.{TypedBody}
use Rattle.infuse_sets.specs.TypedBodies.{typed_of}
use Rattle.infuse_sets.proofs.BodyRefusals.{first_seen}
use Rattle.infuse_sets.proofs.FirstRefusals.{here, none}
use Rattle.infuse_sets.proofs.frames.laid_out.Goals as goal

pub returns-in-Err-clause-refused : goal.returns-in-Err-clause-refused
returns-in-Err-clause-refused g c =
    let refusal : TypedBody → Option Refusal = λ one. frame_refusal (typed_of one) in
    elim c.in-Err.ensures.refused [
      | inl memory ↦ inl memory
      | inr has ↦
          inr (first_seen frame_refusal typed_of c.args.typed.now ∙ sym c.loop-one.invariant.2
          ∙ here refusal c.args.typed.now c.loop-one.one-index c.one-item.result c.in-Err.why c.loop-one-test.true c.one-item.is has)
    ]

pub returns-clause-passed : goal.returns-clause-passed
returns-clause-passed g c =
    let refusal : TypedBody → Option Refusal = λ one. frame_refusal (typed_of one) in
    first_seen frame_refusal typed_of c.args.typed.now ∙ sym c.loop-one.invariant.2 ∙ none refusal c.args.typed.now c.loop-one.one-index c.loop-one-test.false
