use Rattle.std.proofs.Common.{◌+◌, ◌≤◌, length, [], ◌∷◌, refl, ap, ◌∙◌, arith}
use Rattle.image_instr.specs.declared.insn.Kind.TheVariants as kinds
use Rattle.image_instr.specs.declared.insn.MInsn.TheVariants as insns
use Rattle.mote_model.specs.declared.memory.State.{State}
use Rattle.mote_exec.proofs.GoingOn.{at, cells_counted}
use Rattle.mote_exec.proofs.ReadStatics.{cells_there}
use Rattle.mote_exec.proofs.WrittenStatics.{stores_cells}
use Rattle.mote_exec.proofs.statics.store_pair.Goals as goal

pub top_pair-first-requires-clause-there : goal.top_pair-first-requires-clause-there
top_pair-first-requires-clause-there g c =
    let memory = c.args.mote.now in
    let insn = insns.PutS kinds.Two c.args.at in
    let here = at g.shown memory memory insn c.args.next c.requires in
    omega (arith, here.operands.cells, cells_counted g.shown memory memory insn c.args.next c.requires)

pub set_pair-requires : goal.set_pair-requires
set_pair-requires g c =
    let memory = c.args.mote.now in
    let insn = insns.PutS kinds.Two c.args.at in
    let here = at g.shown memory memory insn c.args.next c.requires in
    omega (arith, cells_there g.shown memory memory insn c.args.next c.requires (c.args.at + 2) (omega (arith, here.ids)))

pub returns : goal.returns
returns g c =
    let memory = c.args.mote.now in
    let insn = insns.PutS kinds.Two c.args.at in
    let here = at g.shown memory memory insn c.args.next c.requires in
    let frame = c.requires.ready.next.frame in
    let enough : 2 ≤ length frame.cells.operands = omega (arith, here.operands.cells) in
    let within : c.args.at + 2 ≤ length memory.cell_statics.items = cells_there g.shown memory memory insn c.args.next c.requires (c.args.at + 2) (omega (arith, here.ids)) in
    let stepped = c.fall.ensures.stepped in
    rw c.fall.ensures.on
    (stores_cells g.shown memory c.fall.new.mote insn c.args.next c.requires c.args.at 2 (c.top_pair-first.result.0 ∷ c.top_pair-first.result.1 ∷ []) enough within c.top_pair-first.ensures (ap (λ (memory : State). memory.region) stepped)
    (ap (λ (memory : State). memory.ref_statics.items) stepped) (ap (λ (memory : State). memory.cell_statics.items) stepped ∙ c.set_pair.ensures) (ap (λ (memory : State). memory.collections) stepped) refl)
