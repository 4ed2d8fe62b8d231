use Rattle.std.proofs.Common.{refl, subst, arith}
use Rattle.image_check.specs.Visits.{FitsBody, suffix}
use Rattle.image_instr.specs.declared.signature.Effect.{Effect}
use Rattle.mote_model.specs.SplitMoves.{count_of}
use Rattle.split_safety.specs.Reached.{depth_of}
use Rattle.mote_exec.proofs.GoingOn.{at, gives_number, room, rows}
use Rattle.mote_exec.proofs.constants.constant.Goals as goal

pub put_number-requires-clause-room : goal.put_number-requires-clause-room
put_number-requires-clause-room g c =
    let memory = c.args.mote.now in
    let is = c.requires in
    let next = is.step.ready.next in
    let fits = (at g.shown memory memory is.insn c.args.next is.step).fits_after in
    let known = subst (λ (effect : Effect). FitsBody next.method (suffix effect (depth_of next.frame))) is.effect fits in
    room g.shown memory memory is.insn c.args.next is.step 0 (count_of c.args.width) (omega arith) (omega (arith, known))

pub returns : goal.returns
returns g c =
    let memory = c.args.mote.now in
    let is = c.requires in
    let next = is.step.ready.next in
    let new = c.put_number.new.mote in
    rw c.put_number.ensures.on
    (gives_number g.shown memory new is.insn c.args.next is.step 0 0 c.args.width c.args.number c.args.number refl c.ranges.number refl (omega arith) c.put_number.ensures.stepped
    (is.pushes next.frame next.others c.args.next (rows g.shown memory new is.insn c.args.next is.step)))
