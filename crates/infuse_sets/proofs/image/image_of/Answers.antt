use Rattle.std.proofs.Common.{◌≡◌, inl, inr, None, Some, List, map, sym, ap, subst, ◌∙◌}
use Rattle.std.specs.List.{AllByRecursion}
use Rattle.std.proofs.lemmas.Result.{IfOk-weaker}
use Rattle.image_form.specs.declared.record.Image.{Image}
use Rattle.jvm_model.specs.Bodies.{AreBodies}
use Rattle.jvm_model.specs.ImageEmission.{method_of}
use Rattle.jvm_model.specs.ImageTables.{image_with}
use Rattle.jvm_model.specs.NumberedIds.{numbers_of}
use Rattle.set_image.specs.Linked.{Typed, in_order, source_by}
use Rattle.set_image.specs.LinkRefusals.{IsLinkedImage, first_of, length_refusal}
use Rattle.infuse_tables.specs.Tables.{FitTables}
use Rattle.infuse_sets.specs.declared.laid.LaidBody.{LaidBody}
use Rattle.infuse_sets.specs.LaidBodies.{IsFitLaid, laid_as}
use Rattle.infuse_sets.proofs.LinkedBodies.{are_bodies, by_counts, by_forms, by_frames, by_lengths, closed, fit_laid, laid_bodies, least_types, main_is, same_counts, same_excess, same_forms, same_frames, same_image, same_lengths, same_numbering}
use Rattle.infuse_sets.proofs.NumberedTypes.{fit_tables}
use Rattle.infuse_sets.proofs.image.image_of.Goals as goal

pub returns-in-Err-clause-refused : goal.returns-in-Err-clause-refused
returns-in-Err-clause-refused g c =
    inr (by_forms g.linked c.in-Err.why (same_forms g.linked c.args.set.now c.args.typed.now c.requires.0 c.args.bodies.now c.requires.1 ∙ c.in-Err.ensures.refused))

pub laid_out-requires : goal.laid_out-requires
laid_out-requires g c = (least_types g.linked c.args.set.now c.args.typed.now c.requires.0, c.requires.0.fit)

pub returns-in-Err-laid_out-clause-refused : goal.returns-in-Err-laid_out-clause-refused
returns-in-Err-laid_out-clause-refused g c =
    let set = c.args.set.now in
    let typed = c.args.typed.now in
    let are = c.requires.0 in
    elim c.in-Err-laid_out.ensures.refused [
      | inl memory ↦ inl memory
      | inr has ↦
          inr (by_frames g.linked c.in-Err-laid_out.why (same_forms g.linked set typed are c.args.bodies.now c.requires.1 ∙ c.in-Ok.ensures.passed)
          (same_frames g.linked set typed are ∙ has))
    ]

pub ids_of-requires : goal.ids_of-requires
ids_of-requires g c =
    let set = c.args.set.now in
    let typed = c.args.typed.now in
    let are = c.requires.0 in
    (closed g.linked set typed are, (are_bodies g.linked set typed are c.args.bodies.now c.requires.1, main_is g.linked set typed are))

pub returns-in-Err-ids_of-clause-refused : goal.returns-in-Err-ids_of-clause-refused
returns-in-Err-ids_of-clause-refused g c =
    let set = c.args.set.now in
    let typed = c.args.typed.now in
    let bodies = c.args.bodies.now in
    let are = c.requires.0 in
    elim c.in-Err-ids_of.ensures.refused [
      | inl memory ↦ inl memory
      | inr has ↦
          inr (by_counts g.linked c.in-Err-ids_of.why (same_forms g.linked set typed are bodies c.requires.1 ∙ c.in-Ok.ensures.passed)
          (same_frames g.linked set typed are ∙ c.in-Ok-laid_out.ensures.passed) (same_counts g.linked set typed are bodies c.requires.1 ∙ has))
    ]

pub methods_of-requires-clause-bodies : goal.methods_of-requires-clause-bodies
methods_of-requires-clause-bodies g c =
    let laid = c.in-Ok-laid_out.laid.items in
    subst (λ (list : List LaidBody). AreBodies c.args.set.now (map (λ one. (laid_as one).body) list)) (sym c.deref.ensures.value)
    (laid_bodies g.linked c.args.set.now c.args.typed.now c.requires.0 laid c.in-Ok-laid_out.ensures.all)

pub methods_of-requires-clause-fit : goal.methods_of-requires-clause-fit
methods_of-requires-clause-fit g c =
    let laid = c.in-Ok-laid_out.laid.items in
    subst (AllByRecursion IsFitLaid) (sym c.deref.ensures.value)
    (fit_laid g.linked c.args.set.now c.args.typed.now c.requires.0 laid c.in-Ok-laid_out.ensures.all c.in-Ok-laid_out.ensures.laid)

pub with_tables-requires-clause-fit : goal.with_tables-requires-clause-fit
with_tables-requires-clause-fit g c =
    let linked = g.linked in
    let set = c.args.set.now in
    subst (FitTables set) (sym c.in-Ok-ids_of.ensures.numbers)
    (fit_tables set c.args.bodies.now linked.main (closed linked set c.args.typed.now c.requires.0) c.in-Ok-ids_of.ensures.fits)

pub returns-in-Ok-methods_of-clause-image : goal.returns-in-Ok-methods_of-clause-image
returns-in-Ok-methods_of-clause-image g c =
    let linked = g.linked in
    let set = c.args.set.now in
    let typed = c.args.typed.now in
    let bodies = c.args.bodies.now in
    let are = c.requires.0 in
    let laid = c.in-Ok-laid_out.laid.items in
    let numbering = numbers_of c.in-Ok-ids_of.ids in
    let methods = c.in-Ok-methods_of.methods.items in
    let numbers_are = c.in-Ok-ids_of.ensures.numbers ∙ same_numbering linked set typed are bodies c.requires.1 in
    let lengths_pass = sym (same_lengths linked set typed are laid c.in-Ok-laid_out.ensures.all numbering numbers_are)
    ∙ ap (λ (list : List LaidBody). first_of (length_refusal numbering) (map laid_as list)) (sym c.deref.ensures.value) ∙ c.in-Ok-methods_of.ensures.passed in
    let methods_are = c.in-Ok-methods_of.ensures.methods
    ∙ ap (λ (list : List LaidBody). map (λ (one : Typed). method_of (source_by numbering one)) (in_order set (map laid_as list))) c.deref.ensures.value in
    let accepted = by_lengths linked None (same_forms linked set typed are bodies c.requires.1 ∙ c.in-Ok.ensures.passed)
    (same_frames linked set typed are ∙ c.in-Ok-laid_out.ensures.passed)
    (same_excess linked set typed are bodies c.requires.1 ∙ c.in-Ok-ids_of.ensures.fits) lengths_pass in
    IfOk-weaker c.with_tables.result (λ (image : Image). image ≡ image_with set numbering methods) (IsLinkedImage linked)
    (λ image is. record { accepted = accepted; image_is = is ∙ same_image linked set typed are laid c.in-Ok-laid_out.ensures.all numbering methods numbers_are methods_are })
    c.with_tables.ensures.image

pub returns-clause-refused : goal.returns-clause-refused
returns-clause-refused g c =
    let linked = g.linked in
    let set = c.args.set.now in
    let typed = c.args.typed.now in
    let bodies = c.args.bodies.now in
    let are = c.requires.0 in
    let laid = c.in-Ok-laid_out.laid.items in
    let numbering = numbers_of c.in-Ok-ids_of.ids in
    let numbers_are = c.in-Ok-ids_of.ensures.numbers ∙ same_numbering linked set typed are bodies c.requires.1 in
    elim c.in-Err-methods_of.ensures.refused [
      | inl memory ↦ inl memory
      | inr has ↦
          inr (by_lengths linked (Some c.in-Err-methods_of.why) (same_forms linked set typed are bodies c.requires.1 ∙ c.in-Ok.ensures.passed)
          (same_frames linked set typed are ∙ c.in-Ok-laid_out.ensures.passed)
          (same_excess linked set typed are bodies c.requires.1 ∙ c.in-Ok-ids_of.ensures.fits)
          (sym (same_lengths linked set typed are laid c.in-Ok-laid_out.ensures.all numbering numbers_are)
          ∙ ap (λ (list : List LaidBody). first_of (length_refusal numbering) (map laid_as list)) (sym c.deref.ensures.value) ∙ has))
    ]
