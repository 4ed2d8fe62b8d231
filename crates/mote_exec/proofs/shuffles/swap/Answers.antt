use Rattle.std.proofs.Common.{◌+◌, ◌≤◌, List, ℕ, Option, refl, ap, ap₂, ◌∙◌, arith, length}
use Rattle.image_instr.specs.declared.insn.MInsn.TheVariants as insns
use Rattle.mote_stack.specs.Frames.{youngest_frame}
use Rattle.mote_stack.specs.Shuffles.{exchanged}
use Rattle.mote_model.specs.declared.memory.State.{State as Memory}
use Rattle.mote_model.specs.SplitMoves.{SplitMove, with_cells}
use Rattle.mote_model.specs.SplitStep.{move_cells}
use Rattle.split_safety.proofs.facts.Parts.{turned, swapped_there}
use Rattle.mote_exec.proofs.GoingOn.{at, cells_counted, goes_cells, move_here, own_cells}
use Rattle.mote_exec.proofs.Shuffled.{exchanged_is}
use Rattle.mote_exec.proofs.shuffles.swap.Goals as goal

pub swap-requires : goal.swap-requires
swap-requires g c =
    let memory = c.args.mote.now in
    let insn = insns.Swap c.args.m c.args.n in
    let here = at g.shown memory memory insn c.args.next c.requires in
    record { there = omega (arith, here.operands.cells, cells_counted g.shown memory memory insn c.args.next c.requires, c.from.ensures, c.from-2.ensures) }

pub returns : goal.returns
returns g c =
    let memory = c.args.mote.now in
    let m = c.args.m in
    let n = c.args.n in
    let insn = insns.Swap m n in
    let here = at g.shown memory memory insn c.args.next c.requires in
    let next = c.requires.ready.next in
    let frame = next.frame in
    let operands = frame.cells.operands in
    let enough : m + n ≤ length operands = omega (arith, here.operands.cells) in
    let new : Memory = record memory { region = c.set_pc.new.self } in
    let cells = exchanged c.from.result c.from-2.result (youngest_frame memory.region).cells in
    let moves : Option (List ℕ) → SplitMove = move_cells g.shown.state frame next.others c.args.next in
    let numbers = ap₂ (λ m n. exchanged m n (youngest_frame memory.region).cells) c.from.ensures c.from-2.ensures in
    let same = numbers ∙ ap (exchanged m n) (own_cells g.shown memory new insn c.args.next c.requires) ∙ exchanged_is m n frame.cells.locals operands enough in
    goes_cells g.shown memory new insn c.args.next c.requires (with_cells frame (turned m n operands enough)) cells c.swap.new.self c.set_pc.new.self
    c.swap.ensures c.set_pc.ensures same refl refl refl
    (move_here g.shown memory new insn c.args.next c.requires ∙ ap moves (swapped_there m n operands enough))
