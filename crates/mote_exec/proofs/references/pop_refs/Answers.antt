use Rattle.std.proofs.Common.{◌≤◌, List, Option, ap, arith, length}
use Rattle.image_instr.specs.declared.insn.MInsn.TheVariants as insns
use Rattle.mote_model.specs.State.{Reference}
use Rattle.mote_model.specs.SplitMoves.{SplitMove}
use Rattle.mote_model.specs.SplitStep.{move_refs}
use Rattle.split_safety.proofs.facts.Parts.{without_there}
use Rattle.mote_exec.proofs.GoingOn.{at}
use Rattle.mote_exec.proofs.TakenReferences.{falls_refs, refs_there}
use Rattle.mote_exec.proofs.references.pop_refs.Goals as goal

pub fall_refs-requires-clause-there : goal.fall_refs-requires-clause-there
fall_refs-requires-clause-there g c =
    let memory = c.args.mote.now in
    let insn = insns.RPop c.args.count in
    let here = at g.shown memory memory insn c.args.next c.requires in
    rw c.from.ensures (refs_there g.shown memory memory insn c.args.next c.requires c.args.count (omega (arith, here.operands.refs)))

pub returns : goal.returns
returns g c =
    let memory = c.args.mote.now in
    let insn = insns.RPop c.args.count in
    let here = at g.shown memory memory insn c.args.next c.requires in
    let next = c.requires.ready.next in
    let frame = next.frame in
    let operands = frame.refs.operands in
    let enough : c.args.count ≤ length operands = omega (arith, here.operands.refs) in
    let moves : Option (List Reference) → SplitMove = move_refs g.shown.state frame next.others c.args.next in
    rw c.fall_refs.ensures.on
    (falls_refs g.shown memory c.fall_refs.new.mote insn c.args.next c.requires c.from.result c.args.count c.from.ensures enough c.fall_refs.ensures.stepped
    (ap moves (without_there c.args.count operands enough)))
