use Rattle.std.proofs.Common.{◌+◌, ◌++◌, ◌≤◌, List, ℕ, Option, map, reverse, refl, ap, ap₂, ◌∙◌, arith, length}
use Rattle.std.proofs.lemmas.List.{length-map}
use Rattle.image_instr.specs.declared.insn.MInsn.TheVariants as insns
use Rattle.mote_stack.specs.Frames.{youngest_frame}
use Rattle.mote_stack.specs.Shuffles.{duplicated}
use Rattle.mote_model.specs.declared.memory.State.{State as Memory}
use Rattle.mote_model.specs.State.{Reference}
use Rattle.mote_model.specs.Picture.{cell_of, IsKept}
use Rattle.mote_model.specs.SplitMoves.{SplitMove}
use Rattle.mote_model.specs.SplitStep.{move_refs}
use Rattle.split_safety.proofs.facts.Parts.{doubled, doubled_are, dupx_there}
use Rattle.mote_exec.proofs.GoingOn.{at, free_cells, refs_counted}
use Rattle.mote_exec.proofs.MovedReferences.{cells_of_refs, gives_refs, operands_kept}
use Rattle.mote_exec.proofs.Shuffled.{duplicated_is, duplicated_mapped}
use Rattle.mote_exec.proofs.shuffles.duplicate_refs.Goals as goal

pub dupx-requires-clause-there : goal.dupx-requires-clause-there
dupx-requires-clause-there g c =
    let memory = c.args.mote.now in
    let insn = insns.RDupX c.args.m c.args.n in
    let here = at g.shown memory memory insn c.args.next c.requires in
    omega (arith, here.operands.refs, refs_counted g.shown memory memory insn c.args.next c.requires, c.from.ensures, c.from-2.ensures)

pub dupx-requires-clause-room : goal.dupx-requires-clause-room
dupx-requires-clause-room g c =
    let memory = c.args.mote.now in
    let insn = insns.RDupX c.args.m c.args.n in
    let here = at g.shown memory memory insn c.args.next c.requires in
    free_cells g.shown memory memory insn c.args.next c.requires c.from.result (omega (arith, here.operands.refs, here.fits_after, c.from.ensures))

pub returns : goal.returns
returns g c =
    let memory = c.args.mote.now in
    let m = c.args.m in
    let n = c.args.n in
    let insn = insns.RDupX m n in
    let here = at g.shown memory memory insn c.args.next c.requires in
    let next = c.requires.ready.next in
    let frame = next.frame in
    let operands = frame.refs.operands in
    let cell = cell_of g.shown.naming in
    let enough : m + n ≤ length operands = omega (arith, here.operands.refs) in
    let new : Memory = record memory { region = c.set_pc.new.self } in
    let cells = duplicated c.from.result c.from-2.result (youngest_frame memory.region).refs in
    let moves : Option (List Reference) → SplitMove = move_refs g.shown.state frame next.others c.args.next in
    let numbers = ap₂ (λ m n. duplicated m n (youngest_frame memory.region).refs) c.from.ensures c.from-2.ensures in
    let same = numbers ∙ ap (duplicated m n) (cells_of_refs g.shown memory new insn c.args.next c.requires)
    ∙ duplicated_is m n (map cell frame.refs.locals) (map cell operands) (omega (arith, enough, length-map operands cell))
    ∙ ap (λ (more : List ℕ). map cell frame.refs.locals ++ reverse more) (duplicated_mapped cell m n operands) in
    gives_refs g.shown memory new insn c.args.next c.requires (doubled m n operands enough) cells c.dupx.new.self c.set_pc.new.self
    (doubled_are m n operands enough (IsKept g.shown.naming) (operands_kept g.shown memory new insn c.args.next c.requires))
    c.dupx.ensures c.set_pc.ensures same refl (ap moves (dupx_there m n operands enough))
