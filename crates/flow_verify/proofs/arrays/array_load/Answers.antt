-- The array is the second operand.
use Rattle.std.proofs.Common.{[], ◌∷◌, sym, ap, ◌∙◌}
use Rattle.insn_form.specs.declared.ElementKind.{ElementKind}
use Rattle.jvm_model.specs.TypesFrames.{is_int}
use Rattle.jvm_model.specs.TypesRules.{array_load, plain, is_array_of, element_of}
use Rattle.type_table.specs.Frames.{frame_of}
use Rattle.flow_verify.proofs.families.Taking.{second_loaded, int_loaded}
use Rattle.flow_verify.proofs.arrays.array_load.Goals as goal

pub returns-in-Some-clause-change : goal.returns-in-Some-clause-change
returns-in-Some-clause-change c =
    let frame = frame_of c.args.store.now c.args.frame in
    c.plain.ensures.change ∙ ap (λ v. plain frame (is_int ∷ is_array_of c.args.kind ∷ []) (v ∷ [])) c.element_of.ensures
    ∙ ap (λ (kind : ElementKind). plain frame (is_int ∷ is_array_of kind ∷ []) (element_of c.in-Some.array ∷ [])) c.in-Ref.is
    ∙ sym (second_loaded frame frame.stack c.in-Some.array (sym c.in-Some.ensures)) ∙ ap (λ (kind : ElementKind). array_load frame kind frame.stack) (sym c.in-Ref.is)

pub returns-in_default : goal.returns-in_default
returns-in_default c =
    let frame = frame_of c.args.store.now c.args.frame in
    record { change = c.plain-in_default.ensures.change ∙ sym (int_loaded frame c.args.kind frame.stack c.in_default.not-Ref); pops = c.plain-in_default.ensures.pops }
