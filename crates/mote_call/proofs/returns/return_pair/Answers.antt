use Rattle.std.proofs.Common.{[], Some, refl, reverse, sym, take, ap, subst, ◌∙◌}
use Rattle.image_instr.specs.declared.insn.Kind.TheVariants as kind
use Rattle.image_instr.specs.declared.insn.MInsn.TheVariants as insns
use Rattle.mote_stack.specs.Frames.{youngest_frame, last_items}
use Rattle.mote_model.specs.SplitMoves.{push_cells}
use Rattle.mote_call.specs.Leaving.{HasCaller, returned}
use Rattle.mote_call.proofs.Results.{called, ends}
use Rattle.mote_call.proofs.ReturnedKinds.{cells_back, cells_caller, cells_room, cells_there, gives_two, two_there}
use Rattle.mote_call.proofs.returns.return_pair.Goals as goal

pub returns-then-frame_count-eq1 : goal.returns-then-frame_count-eq1
returns-then-frame_count-eq1 g c left =
    let old = c.args.mote.now in
    let ready = c.requires.1 in
    (ends g.shown old (insns.Ret (Some kind.Two)) ready (push_cells (reverse (take 2 ready.next.frame.cells.operands))) (gives_two g.shown old ready) c.frame_count.result c.frame_count.ensures.value c.if-frame_count-eq1.true, refl)

pub leave_pair-requires-clause-caller : goal.leave_pair-requires-clause-caller
leave_pair-requires-clause-caller g c =
    let old = c.args.mote.now in
    let ready = c.requires.1 in
    let up = called g.shown old (insns.Ret (Some kind.Two)) ready c.frame_count.result c.frame_count.ensures.value c.if-frame_count-eq1.false in
    subst (λ image. HasCaller image old.region) c.requires.0 (cells_caller g.shown old kind.Two 2 ready (two_there g.shown old ready) (gives_two g.shown old ready) up)

pub leave_pair-requires-clause-there : goal.leave_pair-requires-clause-there
leave_pair-requires-clause-there g c =
    let old = c.args.mote.now in
    let ready = c.requires.1 in
    cells_there g.shown old kind.Two 2 ready (two_there g.shown old ready)

pub leave_pair-requires-clause-room : goal.leave_pair-requires-clause-room
leave_pair-requires-clause-room g c =
    let old = c.args.mote.now in
    let ready = c.requires.1 in
    let up = called g.shown old (insns.Ret (Some kind.Two)) ready c.frame_count.result c.frame_count.ensures.value c.if-frame_count-eq1.false in
    cells_room g.shown old kind.Two 2 ready (two_there g.shown old ready) (gives_two g.shown old ready) up

pub returns : goal.returns
returns g c =
    let old = c.args.mote.now in
    let ready = c.requires.1 in
    let up = called g.shown old (insns.Ret (Some kind.Two)) ready c.frame_count.result c.frame_count.ensures.value c.if-frame_count-eq1.false in
    let youngest = youngest_frame old.region in
    cells_back g.shown old kind.Two 2 ready (two_there g.shown old ready) (gives_two g.shown old ready) up c.leave_pair.new.region
    (c.leave_pair.ensures ∙ ap (λ image. returned image old.region [] (last_items 2 youngest.cells)) (sym c.requires.0))
