use Rattle.std.proofs.Common.{◌+◌, ◌≤◌, List, ℕ, Option, refl, ap, ap₂, ◌∙◌, arith, length}
use Rattle.image_instr.specs.declared.insn.MInsn.TheVariants as insns
use Rattle.mote_stack.specs.Frames.{youngest_frame}
use Rattle.mote_stack.specs.Shuffles.{duplicated}
use Rattle.mote_model.specs.declared.memory.State.{State as Memory}
use Rattle.mote_model.specs.SplitMoves.{SplitMove, with_cells}
use Rattle.mote_model.specs.SplitStep.{move_cells}
use Rattle.split_safety.proofs.facts.Parts.{doubled, dupx_there}
use Rattle.mote_exec.proofs.GoingOn.{at, cells_counted, free_cells, goes_cells, move_here, own_cells}
use Rattle.mote_exec.proofs.Shuffled.{duplicated_is}
use Rattle.mote_exec.proofs.shuffles.duplicate.Goals as goal

pub dupx-requires-clause-there : goal.dupx-requires-clause-there
dupx-requires-clause-there g c =
    let memory = c.args.mote.now in
    let insn = insns.DupX c.args.m c.args.n in
    let here = at g.shown memory memory insn c.args.next c.requires in
    omega (arith, here.operands.cells, cells_counted g.shown memory memory insn c.args.next c.requires, c.from.ensures, c.from-2.ensures)

pub dupx-requires-clause-room : goal.dupx-requires-clause-room
dupx-requires-clause-room g c =
    let memory = c.args.mote.now in
    let insn = insns.DupX c.args.m c.args.n in
    let here = at g.shown memory memory insn c.args.next c.requires in
    free_cells g.shown memory memory insn c.args.next c.requires c.from.result (omega (arith, here.operands.cells, here.fits_after, c.from.ensures))

pub returns : goal.returns
returns g c =
    let memory = c.args.mote.now in
    let m = c.args.m in
    let n = c.args.n in
    let insn = insns.DupX m n in
    let here = at g.shown memory memory insn c.args.next c.requires in
    let next = c.requires.ready.next in
    let frame = next.frame in
    let operands = frame.cells.operands in
    let enough : m + n ≤ length operands = omega (arith, here.operands.cells) in
    let new : Memory = record memory { region = c.set_pc.new.self } in
    let cells = duplicated c.from.result c.from-2.result (youngest_frame memory.region).cells in
    let moves : Option (List ℕ) → SplitMove = move_cells g.shown.state frame next.others c.args.next in
    let numbers = ap₂ (λ m n. duplicated m n (youngest_frame memory.region).cells) c.from.ensures c.from-2.ensures in
    let same = numbers ∙ ap (duplicated m n) (own_cells g.shown memory new insn c.args.next c.requires) ∙ duplicated_is m n frame.cells.locals operands enough in
    goes_cells g.shown memory new insn c.args.next c.requires (with_cells frame (doubled m n operands enough)) cells c.dupx.new.self c.set_pc.new.self
    c.dupx.ensures c.set_pc.ensures same refl refl refl
    (move_here g.shown memory new insn c.args.next c.requires ∙ ap moves (dupx_there m n operands enough))
