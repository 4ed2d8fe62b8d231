use Rattle.std.proofs.Common.{ap}
use Rattle.image_instr.specs.declared.insn.MInsn.TheVariants as insns
use Rattle.mote_exec.proofs.Standing.{same_step}
use Rattle.mote_exec.proofs.statics.put_static.Goals as goal

pub store_ref-requires : goal.store_ref-requires
store_ref-requires g c = same_step g.shown c.args.mote.now c.args.next _ _ (ap (λ kind. insns.PutS kind c.args.at) c.in-Ref.is) c.requires

pub store_cell-requires : goal.store_cell-requires
store_cell-requires g c = same_step g.shown c.args.mote.now c.args.next _ _ (ap (λ kind. insns.PutS kind c.args.at) c.in-One.is) c.requires

pub store_pair-requires : goal.store_pair-requires
store_pair-requires g c = same_step g.shown c.args.mote.now c.args.next _ _ (ap (λ kind. insns.PutS kind c.args.at) c.in-Two.is) c.requires
