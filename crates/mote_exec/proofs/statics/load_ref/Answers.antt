use Rattle.std.proofs.Common.{refl, arith}
use Rattle.image_instr.specs.declared.insn.Kind.TheVariants as kinds
use Rattle.image_instr.specs.declared.insn.MInsn.TheVariants as insns
use Rattle.mote_exec.proofs.GoingOn.{at, free_cells}
use Rattle.mote_exec.proofs.ReadStatics.{reads_ref, ref_there}
use Rattle.mote_exec.proofs.statics.load_ref.Goals as goal

pub cell_at-reference-requires : goal.cell_at-reference-requires
cell_at-reference-requires g c =
    let memory = c.args.mote.now in
    let insn = insns.GetS kinds.Ref c.args.at in
    let here = at g.shown memory memory insn c.args.next c.requires in
    omega (arith, ref_there g.shown memory memory insn c.args.next c.requires c.args.at here.ids)

pub put_ref-requires-clause-room : goal.put_ref-requires-clause-room
put_ref-requires-clause-room g c =
    let memory = c.args.mote.now in
    let insn = insns.GetS kinds.Ref c.args.at in
    let here = at g.shown memory memory insn c.args.next c.requires in
    free_cells g.shown memory memory insn c.args.next c.requires 1 (omega (arith, here.fits_after))

pub returns : goal.returns
returns g c =
    let memory = c.args.mote.now in
    let insn = insns.GetS kinds.Ref c.args.at in
    let here = at g.shown memory memory insn c.args.next c.requires in
    rw c.put_ref.ensures.on
    (reads_ref g.shown memory c.put_ref.new.mote insn c.args.next c.requires c.args.at c.cell_at-reference.result (ref_there g.shown memory memory insn c.args.next c.requires c.args.at here.ids) c.cell_at-reference.ensures c.put_ref.ensures.stepped refl)
