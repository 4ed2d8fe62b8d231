use Rattle.std.proofs.Common.{◌≤◌, List, ℕ, Option, refl, ap, arith, length}
use Rattle.image_instr.specs.declared.insn.MInsn.TheVariants as insns
use Rattle.mote_model.specs.SplitMoves.{SplitMove, goes_on, using, with_cells}
use Rattle.split_safety.proofs.facts.Parts.{without_there}
use Rattle.mote_exec.proofs.GoingOn.{at, cells_counted}
use Rattle.mote_exec.proofs.Jumping.{falls}
use Rattle.mote_exec.proofs.operands.pop.Goals as goal

pub fall-requires-clause-there : goal.fall-requires-clause-there
fall-requires-clause-there g c =
    let memory = c.args.mote.now in
    let insn = insns.Pop c.args.count in
    let here = at g.shown memory memory insn c.args.next c.requires in
    omega (arith, here.operands.cells, cells_counted g.shown memory memory insn c.args.next c.requires)

pub returns : goal.returns
returns g c =
    let memory = c.args.mote.now in
    let insn = insns.Pop c.args.count in
    let here = at g.shown memory memory insn c.args.next c.requires in
    let next = c.requires.ready.next in
    let frame = next.frame in
    let enough : c.args.count ≤ length frame.cells.operands = omega (arith, here.operands.cells) in
    let moves : Option (List ℕ) → SplitMove = λ moved. using moved (λ operands. goes_on g.shown.state (with_cells frame operands) next.others c.args.next) in
    rw c.fall.ensures.on
    (falls g.shown memory c.fall.new.mote insn c.args.next c.requires c.args.count c.args.count refl enough c.fall.ensures.stepped
    (ap moves (without_there c.args.count frame.cells.operands enough)))
