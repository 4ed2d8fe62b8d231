use Rattle.std.proofs.Common.{◌≤◌, pos, ℕ, FitsSigned, rules, refl, ap, ◌∙◌, arith, length}
use Rattle.std.specs.Int.{w32}
use Rattle.image_instr.specs.declared.insn.MInsn.TheVariants as insns
use Rattle.image_instr.specs.declared.insn.Width.TheVariants as width
use Rattle.mote_model.specs.SplitMoves.{cells_of, goes_on, push_cells}
use Rattle.mote_exec.proofs.GoingOn.{at, cells_counted, gives_number, room}
use Rattle.mote_exec.proofs.Taking.{takes_cell, top_of}
use Rattle.mote_exec.proofs.TopCells.{top_is}
use Rattle.mote_exec.proofs.small.extend_zero.Goals as goal

pub top_cell-requires-clause-there : goal.top_cell-requires-clause-there
top_cell-requires-clause-there g c =
    let memory = c.args.mote.now in
    let insn = insns.Zx in
    let here = at g.shown memory memory insn c.args.next c.requires in
    omega (arith, here.operands.cells, cells_counted g.shown memory memory insn c.args.next c.requires)

pub put_number-requires-clause-room : goal.put_number-requires-clause-room
put_number-requires-clause-room g c =
    let memory = c.args.mote.now in
    let insn = insns.Zx in
    let here = at g.shown memory memory insn c.args.next c.requires in
    room g.shown memory memory insn c.args.next c.requires 1 2 (omega (arith, here.operands.cells)) (omega (arith, here.operands.cells, here.fits_after))

pub returns : goal.returns
returns g c =
    let memory = c.args.mote.now in
    let insn = insns.Zx in
    let here = at g.shown memory memory insn c.args.next c.requires in
    let next = c.requires.ready.next in
    let frame = next.frame in
    let operands = frame.cells.operands in
    let enough : 1 ≤ length operands = omega (arith, here.operands.cells) in
    let top = top_is g.shown memory memory insn c.args.next c.requires c.top_cell.result enough c.top_cell.ensures in
    let number = c.from-number.ensures ∙ ap (λ (cell : ℕ). pos cell) top in
    let fits : FitsSigned w32 c.from-number.result = search rules in
    rw c.put_number.ensures.on
    (gives_number g.shown memory c.put_number.new.mote insn c.args.next c.requires 1 1 width.Two c.from-number.result (pos (top_of operands)) refl fits number enough c.put_number.ensures.stepped
    (takes_cell frame (λ cell rest. goes_on g.shown.state (push_cells (cells_of width.Two (pos cell)) rest) next.others c.args.next) enough))
