use Rattle.std.proofs.Common.{◌≤◌, length, refl, ap, ◌∙◌, arith}
use Rattle.image_instr.specs.declared.insn.Kind.TheVariants as kinds
use Rattle.image_instr.specs.declared.insn.MInsn.TheVariants as insns
use Rattle.mote_model.specs.declared.memory.State.{State}
use Rattle.mote_exec.proofs.GoingOn.{at, refs_counted}
use Rattle.mote_exec.proofs.ReadStatics.{ref_there}
use Rattle.mote_exec.proofs.WrittenStatics.{stores_ref}
use Rattle.mote_exec.proofs.statics.store_ref.Goals as goal

pub top_ref-reference-requires-clause-there : goal.top_ref-reference-requires-clause-there
top_ref-reference-requires-clause-there g c =
    let memory = c.args.mote.now in
    let insn = insns.PutS kinds.Ref c.args.at in
    let here = at g.shown memory memory insn c.args.next c.requires in
    omega (arith, here.operands.refs, refs_counted g.shown memory memory insn c.args.next c.requires)

pub set_cell-requires : goal.set_cell-requires
set_cell-requires g c =
    let memory = c.args.mote.now in
    let insn = insns.PutS kinds.Ref c.args.at in
    let here = at g.shown memory memory insn c.args.next c.requires in
    omega (arith, ref_there g.shown memory memory insn c.args.next c.requires c.args.at here.ids)

pub returns : goal.returns
returns g c =
    let memory = c.args.mote.now in
    let insn = insns.PutS kinds.Ref c.args.at in
    let here = at g.shown memory memory insn c.args.next c.requires in
    let frame = c.requires.ready.next.frame in
    let enough : 1 ≤ length frame.refs.operands = omega (arith, here.operands.refs) in
    let within = ref_there g.shown memory memory insn c.args.next c.requires c.args.at here.ids in
    let stepped = c.fall_refs.ensures.stepped in
    rw c.fall_refs.ensures.on
    (stores_ref g.shown memory c.fall_refs.new.mote insn c.args.next c.requires c.args.at c.top_ref-reference.result enough within c.top_ref-reference.ensures (ap (λ (memory : State). memory.region) stepped)
    (ap (λ (memory : State). memory.ref_statics.items) stepped ∙ c.set_cell.ensures) (ap (λ (memory : State). memory.cell_statics.items) stepped) (ap (λ (memory : State). memory.collections) stepped) refl)
