use Rattle.std.proofs.Common.{◌+◌, ◌≤◌, length, [], ◌∷◌, refl, arith}
use Rattle.image_instr.specs.declared.insn.Kind.TheVariants as kinds
use Rattle.image_instr.specs.declared.insn.MInsn.TheVariants as insns
use Rattle.mote_exec.proofs.GoingOn.{at, free_cells}
use Rattle.mote_exec.proofs.ReadStatics.{cells_there, reads_cells}
use Rattle.mote_exec.proofs.statics.load_pair.Goals as goal

pub pair_at-first-requires : goal.pair_at-first-requires
pair_at-first-requires g c =
    let memory = c.args.mote.now in
    let insn = insns.GetS kinds.Two c.args.at in
    let here = at g.shown memory memory insn c.args.next c.requires in
    omega (arith, cells_there g.shown memory memory insn c.args.next c.requires (c.args.at + 2) (omega (arith, here.ids)))

pub add_pair-requires-clause-room : goal.add_pair-requires-clause-room
add_pair-requires-clause-room g c =
    let memory = c.args.mote.now in
    let insn = insns.GetS kinds.Two c.args.at in
    let here = at g.shown memory memory insn c.args.next c.requires in
    free_cells g.shown memory memory insn c.args.next c.requires 2 (omega (arith, here.fits_after))

pub returns : goal.returns
returns g c =
    let memory = c.args.mote.now in
    let insn = insns.GetS kinds.Two c.args.at in
    let here = at g.shown memory memory insn c.args.next c.requires in
    let within : c.args.at + 2 ≤ length memory.cell_statics.items = cells_there g.shown memory memory insn c.args.next c.requires (c.args.at + 2) (omega (arith, here.ids)) in
    rw c.add_pair.ensures.on
    (reads_cells g.shown memory c.add_pair.new.mote insn c.args.next c.requires c.args.at 2 (c.pair_at-first.result.0 ∷ c.pair_at-first.result.1 ∷ []) within c.pair_at-first.ensures c.add_pair.ensures.stepped refl)
