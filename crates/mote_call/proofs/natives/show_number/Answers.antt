use Rattle.std.proofs.Common.{◌≡◌, suc, ◌-◌, ◌+◌, refl, sym, ap, subst, ◌∙◌, arith}
use Rattle.image_instr.specs.declared.insn.MInsn.TheVariants as insns
use Rattle.image_form.specs.declared.record.Image.{Image}
use Rattle.mote_model.specs.declared.memory.State.{State as Memory}
use Rattle.mote_stack.specs.Frames.{youngest_frame, without_last}
use Rattle.mote_exec.specs.Steps.{stepped, with_stack}
use Rattle.mote_exec.proofs.GoingOn.{cells_counted}
use Rattle.mote_call.specs.Leaving.{IsInCode, behind}
use Rattle.mote_call.proofs.Answering.{step_of}
use Rattle.mote_call.proofs.CallCode.{in_code}
use Rattle.mote_call.proofs.Showing.{shows_broke, shows_on, shows_spent}
use Rattle.mote_call.proofs.natives.show_number.Goals as goal

pub returns-then-left-eq0 : goal.returns-then-left-eq0
returns-then-left-eq0 g c =
    let C = g.C.Console in
    shows_spent C.left C.shown C.noted C.faults C.room g.shown c.args.mote.now c.args.bytes.now c.requires.1.1 c.args.console.now c.args.left.now c.if-left-eq0.true

pub take_number-requires-clause-there : goal.take_number-requires-clause-there
take_number-requires-clause-there g c =
    let it = c.requires.1.1 in
    let old = c.args.mote.now in
    omega (arith, it.enough, cells_counted g.shown old old (insns.CallS it.method) (it.ready.next.frame.pc + it.ready.next.size) (step_of g.shown old (insns.CallS it.method) it.ready))

pub take_number-requires-clause-in_code : goal.take_number-requires-clause-in_code
take_number-requires-clause-in_code g c =
    let it = c.requires.1.1 in
    let old = c.args.mote.now in
    subst (λ image. IsInCode image (youngest_frame old.region)) c.requires.1.0 (in_code g.shown old it.method it.ready)

pub returns-in-Ok : goal.returns-in-Ok
returns-in-Ok g c =
    let C = g.C.Console in
    let old = c.args.mote.now in
    let without : Image → Memory = λ image. let youngest = youngest_frame old.region in with_stack old (stepped old.region (behind image youngest) youngest.refs (without_last 2 youngest.cells)) in
    let tick : c.args.left.now ≡ suc (c.args.left.now - 1) = omega (arith, c.if-left-eq0.false) in
    shows_on C.left C.shown C.noted C.faults C.room g.shown old c.args.bytes.now c.requires.1.1 (with_stack old c.take_number.new.region) c.args.console.now c.show.new.console c.args.left.now (c.args.left.now - 1)
    tick (ap (with_stack old) c.take_number.ensures ∙ ap without (sym c.requires.1.0)) c.in-Ok.ensures.said c.in-Ok.ensures.left

pub returns-in-Err : goal.returns-in-Err
returns-in-Err g c =
    let C = g.C.Console in
    let old = c.args.mote.now in
    let tick : c.args.left.now ≡ suc (c.args.left.now - 1) = omega (arith, c.if-left-eq0.false) in
    shows_broke C.left C.shown C.noted C.faults C.room g.shown old c.args.bytes.now c.requires.1.1 old c.args.console.now c.show.new.console c.args.left.now (c.args.left.now - 1) c.args.left.now tick c.in-Err.ensures.said refl
