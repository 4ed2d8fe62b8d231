-- What an instruction names does not count for its moves.
use Rattle.std.proofs.Common.{◌≡◌, refl, sym, ap, ◌∙◌, ◌++◌, map}
use Rattle.body_form.specs.declared.op.Op.{Op}
use Rattle.jvm_model.specs.ImageExpansion.{expanded, top_of, write_as, kind_in, alone}
use Rattle.image_instr.specs.declared.insn.Kind.{Kind}
use Rattle.image_instr.specs.declared.insn.MInsn.TheVariants as insns
use Rattle.flow_split.specs.Moves.{move_of, moving}
use Rattle.flow_split.proofs.instructions.moves_of.Goals as goal

pub returns-in-IfRef : goal.returns-in-IfRef
returns-in-IfRef c = λ locals ids offset point plain around sig.
    c.tested.ensures (offset c.in-IfRef.field-1) sig ∙ ap (λ (o : Op). moving (map (move_of sig) (expanded locals ids offset c.args.kept.now point o))) (sym c.in-IfRef.is)

pub returns-in-PutStatic : goal.returns-in-PutStatic
returns-in-PutStatic c = λ locals ids offset point plain around sig.
    let used = c.in-PutStatic.used in
    let place = ids.static used.field in
    let shape : c.top-in-PutStatic.result ≡ top_of point.before = c.top-in-PutStatic.ensures ∙ ap top_of (sym around.before) in
    c.written.ensures.statics place refl sig
    ∙ ap (λ (s : Kind). moving (map (move_of sig) (write_as used.kind s ++ alone (insns.PutS (kind_in used.kind) place)))) shape
    ∙ ap (λ (o : Op). moving (map (move_of sig) (expanded locals ids offset c.args.kept.now point o))) (sym c.in-PutStatic.is)

pub returns-in-PutField : goal.returns-in-PutField
returns-in-PutField c = λ locals ids offset point plain around sig.
    let used = c.in-PutField.used in
    let place = ids.field used.field in
    let shape : c.top-in-PutField.result ≡ top_of point.before = c.top-in-PutField.ensures ∙ ap top_of (sym around.before) in
    c.written-in-PutField.ensures.fields place refl sig
    ∙ ap (λ (s : Kind). moving (map (move_of sig) (write_as used.kind s ++ alone (insns.PutF (kind_in used.kind) place)))) shape
    ∙ ap (λ (o : Op). moving (map (move_of sig) (expanded locals ids offset c.args.kept.now point o))) (sym c.in-PutField.is)
