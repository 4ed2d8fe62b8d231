use Rattle.std.proofs.Common.{◌+◌, ◌≤◌, length, [], ◌∷◌, refl, arith}
use Rattle.image_instr.specs.declared.insn.Kind.TheVariants as kinds
use Rattle.image_instr.specs.declared.insn.MInsn.TheVariants as insns
use Rattle.mote_exec.proofs.GoingOn.{at, free_cells}
use Rattle.mote_exec.proofs.ReadStatics.{cells_there, reads_cells}
use Rattle.mote_exec.proofs.statics.load_cell.Goals as goal

pub cell_at-cell-requires : goal.cell_at-cell-requires
cell_at-cell-requires g c =
    let memory = c.args.mote.now in
    let insn = insns.GetS kinds.One c.args.at in
    let here = at g.shown memory memory insn c.args.next c.requires in
    omega (arith, cells_there g.shown memory memory insn c.args.next c.requires (c.args.at + 1) (omega (arith, here.ids)))

pub add_cell-requires-clause-room : goal.add_cell-requires-clause-room
add_cell-requires-clause-room g c =
    let memory = c.args.mote.now in
    let insn = insns.GetS kinds.One c.args.at in
    let here = at g.shown memory memory insn c.args.next c.requires in
    free_cells g.shown memory memory insn c.args.next c.requires 1 (omega (arith, here.fits_after))

pub returns : goal.returns
returns g c =
    let memory = c.args.mote.now in
    let insn = insns.GetS kinds.One c.args.at in
    let here = at g.shown memory memory insn c.args.next c.requires in
    let within : c.args.at + 1 ≤ length memory.cell_statics.items = cells_there g.shown memory memory insn c.args.next c.requires (c.args.at + 1) (omega (arith, here.ids)) in
    rw c.add_cell.ensures.on
    (reads_cells g.shown memory c.add_cell.new.mote insn c.args.next c.requires c.args.at 1 (c.cell_at-cell.result ∷ []) within c.cell_at-cell.ensures c.add_cell.ensures.stepped refl)
