use Rattle.std.proofs.Common.{[], Some, refl, sym, ap, subst, ◌∙◌}
use Rattle.image_instr.specs.declared.insn.Kind.TheVariants as kind
use Rattle.image_instr.specs.declared.insn.MInsn.TheVariants as insns
use Rattle.mote_stack.specs.Frames.{youngest_frame, last_items}
use Rattle.mote_model.specs.SplitMoves.{push_ref}
use Rattle.mote_call.specs.Leaving.{HasCaller, returned}
use Rattle.mote_call.proofs.Results.{called, ends, top_of}
use Rattle.mote_call.proofs.ReturnedKinds.{gives_ref, ref_back, ref_caller, ref_room, ref_there}
use Rattle.mote_call.proofs.returns.return_ref.Goals as goal

pub returns-then-frame_count-eq1 : goal.returns-then-frame_count-eq1
returns-then-frame_count-eq1 g c left =
    let old = c.args.mote.now in
    let ready = c.requires.1 in
    (ends g.shown old (insns.Ret (Some kind.Ref)) ready (push_ref (top_of ready.next.frame.refs.operands)) (gives_ref g.shown old ready) c.frame_count.result c.frame_count.ensures.value c.if-frame_count-eq1.true, refl)

pub leave_ref-requires-clause-caller : goal.leave_ref-requires-clause-caller
leave_ref-requires-clause-caller g c =
    let old = c.args.mote.now in
    let up = called g.shown old (insns.Ret (Some kind.Ref)) c.requires.1 c.frame_count.result c.frame_count.ensures.value c.if-frame_count-eq1.false in
    subst (λ image. HasCaller image old.region) c.requires.0 (ref_caller g.shown old c.requires.1 up)

pub leave_ref-requires-clause-there : goal.leave_ref-requires-clause-there
leave_ref-requires-clause-there g c = ref_there g.shown c.args.mote.now c.requires.1

pub leave_ref-requires-clause-room : goal.leave_ref-requires-clause-room
leave_ref-requires-clause-room g c =
    let old = c.args.mote.now in
    let up = called g.shown old (insns.Ret (Some kind.Ref)) c.requires.1 c.frame_count.result c.frame_count.ensures.value c.if-frame_count-eq1.false in
    ref_room g.shown old c.requires.1 up

pub returns : goal.returns
returns g c =
    let old = c.args.mote.now in
    let up = called g.shown old (insns.Ret (Some kind.Ref)) c.requires.1 c.frame_count.result c.frame_count.ensures.value c.if-frame_count-eq1.false in
    let youngest = youngest_frame old.region in
    ref_back g.shown old c.requires.1 up c.leave_ref.new.region (c.leave_ref.ensures ∙ ap (λ image. returned image old.region (last_items 1 youngest.refs) []) (sym c.requires.0))
