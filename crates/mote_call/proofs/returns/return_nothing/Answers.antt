use Rattle.std.proofs.Common.{None, [], refl, sym, ap, subst, ◌∙◌}
use Rattle.std.proofs.lemmas.List.{append-nil}
use Rattle.std.proofs.Common.{map}
use Rattle.image_instr.specs.declared.insn.MInsn.TheVariants as insns
use Rattle.mote_model.specs.Picture.{cell_of}
use Rattle.mote_model.specs.State.{whole}
use Rattle.mote_exec.specs.Steps.{with_stack}
use Rattle.mote_call.specs.Leaving.{HasCaller, returned}
use Rattle.mote_call.proofs.Results.{called, ends, resumed_is, same_kept}
use Rattle.mote_call.proofs.Returning.{goes_back, has_caller}
use Rattle.mote_call.proofs.returns.return_nothing.Goals as goal

pub returns-then-frame_count-eq1 : goal.returns-then-frame_count-eq1
returns-then-frame_count-eq1 g c left =
    (ends g.shown c.args.mote.now (insns.Ret None) c.requires.1 (λ caller. caller) (λ answers. refl) c.frame_count.result c.frame_count.ensures.value c.if-frame_count-eq1.true, refl)

pub leave-requires : goal.leave-requires
leave-requires g c =
    let old = c.args.mote.now in
    let insn = insns.Ret None in
    let ready = c.requires.1 in
    let up = called g.shown old insn ready c.frame_count.result c.frame_count.ensures.value c.if-frame_count-eq1.false in
    subst (λ image. HasCaller image old.region) c.requires.0
    (has_caller g.shown old insn ready up.caller up.rest up.waits up.caller.refs up.caller.cells (resumed_is g.shown old insn ready (λ caller. caller) (λ answers. refl) up.caller up.rest up.waits))

pub returns : goal.returns
returns g c =
    let old = c.args.mote.now in
    let insn = insns.Ret None in
    let ready = c.requires.1 in
    let up = called g.shown old insn ready c.frame_count.result c.frame_count.ensures.value c.if-frame_count-eq1.false in
    let refs = up.caller.refs in
    let cells = up.caller.cells in
    let new = with_stack old c.leave.new.region in
    goes_back g.shown old insn ready up.caller up.rest up.waits refs cells (resumed_is g.shown old insn ready (λ caller. caller) (λ answers. refl) up.caller up.rest up.waits) new [] []
    (ap (with_stack old) (c.leave.ensures ∙ ap (λ image. returned image old.region [] []) (sym c.requires.0)))
    (append-nil (map (cell_of g.shown.naming) (whole refs))) (append-nil (whole cells)) (same_kept g.shown old insn ready up.caller up.rest up.waits)
