use Rattle.std.proofs.Common.{◌≤◌, ◌%◌, [], ◌∷◌, ◌++◌, ℕ, ap, ◌∙◌, arith, length}
use Rattle.image_instr.specs.declared.insn.MInsn.TheVariants as insns
use Rattle.mote_stack.specs.Frames.{youngest_frame, without_last}
use Rattle.mote_model.specs.SplitMoves.{goes_on, push_cells}
use Rattle.mote_exec.specs.Steps.{stepped, with_stack}
use Rattle.mote_exec.proofs.GoingOn.{at, cells_counted, gives, room}
use Rattle.mote_exec.proofs.Taking.{takes_cell, top_of}
use Rattle.mote_exec.proofs.TopCells.{top_is}
use Rattle.mote_exec.proofs.small.keep_bit.Goals as goal

pub top_cell-cell-requires-clause-there : goal.top_cell-cell-requires-clause-there
top_cell-cell-requires-clause-there g c =
    let memory = c.args.mote.now in
    let insn = insns.Bit in
    let here = at g.shown memory memory insn c.args.next c.requires in
    omega (arith, here.operands.cells, cells_counted g.shown memory memory insn c.args.next c.requires)

pub put_cell-requires-clause-room : goal.put_cell-requires-clause-room
put_cell-requires-clause-room g c =
    let memory = c.args.mote.now in
    let insn = insns.Bit in
    let here = at g.shown memory memory insn c.args.next c.requires in
    room g.shown memory memory insn c.args.next c.requires 1 1 (omega (arith, here.operands.cells)) (omega (arith, here.operands.cells, here.fits_after))

pub returns : goal.returns
returns g c =
    let memory = c.args.mote.now in
    let insn = insns.Bit in
    let here = at g.shown memory memory insn c.args.next c.requires in
    let next = c.requires.ready.next in
    let frame = next.frame in
    let operands = frame.cells.operands in
    let enough : 1 ≤ length operands = omega (arith, here.operands.cells) in
    let top = top_is g.shown memory memory insn c.args.next c.requires c.top_cell-cell.result enough c.top_cell-cell.ensures in
    let put : ℕ → _ = λ cell. with_stack memory (stepped memory.region c.args.next (youngest_frame memory.region).refs (without_last 1 (youngest_frame memory.region).cells ++ (cell % 2) ∷ [])) in
    rw c.put_cell.ensures.on
    (gives g.shown memory c.put_cell.new.mote insn c.args.next c.requires 1 ((top_of operands % 2) ∷ []) enough (c.put_cell.ensures.stepped ∙ ap put top)
    (takes_cell frame (λ cell rest. goes_on g.shown.state (push_cells ((cell % 2) ∷ []) rest) next.others c.args.next) enough))
