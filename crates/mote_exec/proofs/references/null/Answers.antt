use Rattle.std.proofs.Common.{None, refl, arith}
use Rattle.image_instr.specs.declared.insn.MInsn.TheVariants as insns
use Rattle.mote_exec.proofs.GoingOn.{at, free_cells}
use Rattle.mote_exec.proofs.PushedReferences.{gives_ref}
use Rattle.mote_exec.proofs.references.null.Goals as goal

pub put_ref-requires-clause-room : goal.put_ref-requires-clause-room
put_ref-requires-clause-room g c =
    let memory = c.args.mote.now in
    let insn = insns.Null in
    let here = at g.shown memory memory insn c.args.next c.requires in
    free_cells g.shown memory memory insn c.args.next c.requires 1 (omega (arith, here.fits_after))

pub returns : goal.returns
returns g c =
    let memory = c.args.mote.now in
    rw c.put_ref.ensures.on (gives_ref g.shown memory c.put_ref.new.mote insns.Null c.args.next c.requires None tt c.put_ref.ensures.stepped refl)
