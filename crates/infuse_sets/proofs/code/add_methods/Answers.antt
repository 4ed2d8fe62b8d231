use Rattle.std.proofs.Common.{◌≡◌, [], ◌∷◌, ◌++◌, None, ap, ◌∙◌}
use Rattle.image_form.specs.declared.record.Method.{Method}
use Rattle.jvm_model.specs.ImageEmission.{method_of}
use Rattle.jvm_model.specs.NumberedIds.{numbers_of}
use Rattle.set_image.specs.Linked.{source_by}
use Rattle.set_image.specs.LinkRefusals.{length_refusal}
use Rattle.infuse_sets.specs.declared.laid.LaidBody.{LaidBody}
use Rattle.infuse_sets.specs.LaidBodies.{laid_as}
use Rattle.infuse_sets.proofs.GrownLists.{all_more, mapped_more}
use Rattle.infuse_sets.proofs.code.add_methods.Goals as goal

pub loop-one-preserved : goal.loop-one-preserved
loop-one-preserved c =
    let numbering = numbers_of c.args.ids.now in
    let method : LaidBody → Method = λ one. method_of (source_by numbering (laid_as one)) in
    let laid = c.args.laid.now in
    let i = c.loop-one.one-index in
    let one = c.one-item.result in (
      mapped_more laid i one c.loop-one-test.true c.one-item.is method c.args.methods.now.items c.loop-one.methods.items c.push.new.self.items c.loop-one.invariant.0
          (c.in-Ok-push.ensures.items ∙ ap (λ (new : Method). c.loop-one.methods.items ++ new ∷ []) c.in-Ok.ensures.method),
      all_more laid i one c.loop-one-test.true c.one-item.is (λ (one : LaidBody). length_refusal numbering (laid_as one) ≡ None) c.loop-one.invariant.1 c.in-Ok.ensures.passed,
    )
