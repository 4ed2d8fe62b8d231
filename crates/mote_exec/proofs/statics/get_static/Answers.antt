use Rattle.std.proofs.Common.{ap}
use Rattle.image_instr.specs.declared.insn.MInsn.TheVariants as insns
use Rattle.mote_exec.proofs.Standing.{same_step}
use Rattle.mote_exec.proofs.statics.get_static.Goals as goal

pub load_ref-requires : goal.load_ref-requires
load_ref-requires g c = same_step g.shown c.args.mote.now c.args.next _ _ (ap (λ kind. insns.GetS kind c.args.at) c.in-Ref.is) c.requires

pub load_cell-requires : goal.load_cell-requires
load_cell-requires g c = same_step g.shown c.args.mote.now c.args.next _ _ (ap (λ kind. insns.GetS kind c.args.at) c.in-One.is) c.requires

pub load_pair-requires : goal.load_pair-requires
load_pair-requires g c = same_step g.shown c.args.mote.now c.args.next _ _ (ap (λ kind. insns.GetS kind c.args.at) c.in-Two.is) c.requires
