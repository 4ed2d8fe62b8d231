use Rattle.std.proofs.Common.{◌+◌, ◌≤◌, List, ℕ, Option, refl, ap, ◌∙◌, arith, length}
use Rattle.image_instr.specs.declared.insn.MInsn.TheVariants as insns
use Rattle.mote_stack.specs.Frames.{youngest_frame}
use Rattle.mote_stack.specs.Shuffles.{without_item}
use Rattle.mote_model.specs.declared.memory.State.{State as Memory}
use Rattle.mote_model.specs.SplitMoves.{SplitMove, with_cells}
use Rattle.mote_model.specs.SplitStep.{move_cells}
use Rattle.split_safety.proofs.facts.Parts.{less, less_there}
use Rattle.mote_exec.proofs.GoingOn.{at, cells_counted, goes_cells, move_here, own_cells}
use Rattle.mote_exec.proofs.Shuffled.{without_item_is}
use Rattle.mote_exec.proofs.operands.drop_below.Goals as goal

pub drop_at-requires : goal.drop_at-requires
drop_at-requires g c =
    let memory = c.args.mote.now in
    let insn = insns.Drop c.args.above in
    let here = at g.shown memory memory insn c.args.next c.requires in
    omega (arith, here.operands.cells, cells_counted g.shown memory memory insn c.args.next c.requires)

pub returns : goal.returns
returns g c =
    let memory = c.args.mote.now in
    let above = c.args.above in
    let insn = insns.Drop above in
    let here = at g.shown memory memory insn c.args.next c.requires in
    let next = c.requires.ready.next in
    let frame = next.frame in
    let operands = frame.cells.operands in
    let enough : above + 1 ≤ length operands = omega (arith, here.operands.cells) in
    let new : Memory = record memory { region = c.set_pc.new.self } in
    let moves : Option (List ℕ) → SplitMove = move_cells g.shown.state frame next.others c.args.next in
    let same = ap (without_item above) (own_cells g.shown memory new insn c.args.next c.requires) ∙ without_item_is above frame.cells.locals operands enough in
    goes_cells g.shown memory new insn c.args.next c.requires (with_cells frame (less above operands enough)) (without_item above (youngest_frame memory.region).cells) c.drop_at.new.self c.set_pc.new.self
    c.drop_at.ensures c.set_pc.ensures same refl refl refl
    (move_here g.shown memory new insn c.args.next c.requires ∙ ap moves (less_there above operands enough))
