use Rattle.std.proofs.Common.{◌≡◌, ◌++◌, ◌-◌, ℤ, suc, FitsSigned, sym, ap, ap₂, rules, subst, ◌∙◌, arith}
use Rattle.std.specs.Int.{w32}
use Rattle.std.proofs.lemmas.Int.{to_z-of_z}
use Rattle.image_form.specs.declared.record.Image.{Image}
use Rattle.image_instr.specs.declared.insn.Width.TheVariants as width
use Rattle.mote_stack.specs.Frames.{youngest_frame}
use Rattle.mote_model.specs.declared.memory.State.{State as Memory}
use Rattle.mote_model.specs.SplitMoves.{cells_of}
use Rattle.mote_exec.specs.Steps.{stepped, with_stack}
use Rattle.mote_call.specs.Leaving.{IsInCode, behind}
use Rattle.mote_call.proofs.CallCode.{in_code}
use Rattle.mote_call.proofs.ReadBytes.{reads_broke, reads_on, reads_spent, room_for}
use Rattle.mote_call.proofs.natives.read_byte.Goals as goal

pub returns-then-left-eq0 : goal.returns-then-left-eq0
returns-then-left-eq0 g c =
    let C = g.C.Console in
    reads_spent C.left C.shown C.noted C.faults C.room g.shown c.args.mote.now c.requires.1.1 c.args.console.now c.args.left.now c.if-left-eq0.true

pub put_number-requires-clause-room : goal.put_number-requires-clause-room
put_number-requires-clause-room g c = room_for g.shown c.args.mote.now c.requires.1.1

pub put_number-requires-clause-in_code : goal.put_number-requires-clause-in_code
put_number-requires-clause-in_code g c =
    let old = c.args.mote.now in
    subst (λ image. IsInCode image (youngest_frame old.region)) c.requires.1.0 (in_code g.shown old 2 c.requires.1.1)

pub returns-in-Ok : goal.returns-in-Ok
returns-in-Ok g c =
    let C = g.C.Console in
    let old = c.args.mote.now in
    let fits : FitsSigned w32 c.in-Ok.number = search rules in
    let with_number : Image → ℤ → Memory = λ image number. let youngest = youngest_frame old.region in with_stack old (stepped old.region (behind image youngest) youngest.refs (youngest.cells ++ cells_of width.Two number)) in
    let tick : c.args.left.now ≡ suc (c.args.left.now - 1) = omega (arith, c.if-left-eq0.false) in
    reads_on C.left C.shown C.noted C.faults C.room g.shown old c.requires.1.1 (with_stack old c.put_number.new.region) c.args.console.now c.read.new.console c.args.left.now (c.args.left.now - 1) c.in-Ok.number
    tick (ap (with_stack old) c.put_number.ensures ∙ ap₂ with_number (sym c.requires.1.0) (to_z-of_z w32 c.in-Ok.number fits)) c.in-Ok.ensures.said c.in-Ok.ensures.number

pub returns-in-Err : goal.returns-in-Err
returns-in-Err g c =
    let C = g.C.Console in
    let tick : c.args.left.now ≡ suc (c.args.left.now - 1) = omega (arith, c.if-left-eq0.false) in
    reads_broke C.left C.shown C.noted C.faults C.room g.shown c.args.mote.now c.requires.1.1 c.args.console.now c.read.new.console c.args.left.now (c.args.left.now - 1) tick c.in-Err.ensures.said
