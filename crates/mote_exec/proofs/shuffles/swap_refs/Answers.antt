use Rattle.std.proofs.Common.{◌+◌, ◌++◌, ◌≤◌, List, ℕ, Option, map, reverse, refl, ap, ◌∙◌, arith, length}
use Rattle.std.proofs.lemmas.List.{length-map}
use Rattle.image_instr.specs.declared.insn.MInsn.TheVariants as insns
use Rattle.mote_stack.specs.Frames.{youngest_frame}
use Rattle.mote_stack.specs.Shuffles.{exchanged}
use Rattle.mote_model.specs.declared.memory.State.{State as Memory}
use Rattle.mote_model.specs.State.{Reference}
use Rattle.mote_model.specs.Picture.{cell_of, IsKept}
use Rattle.mote_model.specs.SplitMoves.{SplitMove}
use Rattle.mote_model.specs.SplitStep.{move_refs}
use Rattle.split_safety.proofs.facts.Parts.{turned, turned_are, swapped_there}
use Rattle.mote_exec.proofs.GoingOn.{at, refs_counted}
use Rattle.mote_exec.proofs.MovedReferences.{cells_of_refs, gives_refs, operands_kept}
use Rattle.mote_exec.proofs.Shuffled.{exchanged_is, exchanged_mapped}
use Rattle.mote_exec.proofs.shuffles.swap_refs.Goals as goal

pub swap-requires : goal.swap-requires
swap-requires g c =
    let memory = c.args.mote.now in
    let insn = insns.RSwap in
    let here = at g.shown memory memory insn c.args.next c.requires in
    record { there = omega (arith, here.operands.refs, refs_counted g.shown memory memory insn c.args.next c.requires) }

pub returns : goal.returns
returns g c =
    let memory = c.args.mote.now in
    let insn = insns.RSwap in
    let here = at g.shown memory memory insn c.args.next c.requires in
    let next = c.requires.ready.next in
    let frame = next.frame in
    let operands = frame.refs.operands in
    let cell = cell_of g.shown.naming in
    let enough : 1 + 1 ≤ length operands = omega (arith, here.operands.refs) in
    let new : Memory = record memory { region = c.set_pc.new.self } in
    let cells = exchanged 1 1 (youngest_frame memory.region).refs in
    let moves : Option (List Reference) → SplitMove = move_refs g.shown.state frame next.others c.args.next in
    let same = ap (exchanged 1 1) (cells_of_refs g.shown memory new insn c.args.next c.requires)
    ∙ exchanged_is 1 1 (map cell frame.refs.locals) (map cell operands) (omega (arith, enough, length-map operands cell))
    ∙ ap (λ (more : List ℕ). map cell frame.refs.locals ++ reverse more) (exchanged_mapped cell 1 1 operands) in
    gives_refs g.shown memory new insn c.args.next c.requires (turned 1 1 operands enough) cells c.swap.new.self c.set_pc.new.self
    (turned_are 1 1 operands enough (IsKept g.shown.naming) (operands_kept g.shown memory new insn c.args.next c.requires))
    c.swap.ensures c.set_pc.ensures same refl (ap moves (swapped_there 1 1 operands enough))
