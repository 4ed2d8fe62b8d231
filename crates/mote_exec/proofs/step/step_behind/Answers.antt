use Rattle.std.proofs.Common.{◌∙◌, FitsSigned, ℤ, rules, ap, sym}
use mir.Syntax.{w16}
use Rattle.std.proofs.lemmas.Int.{to_z-of_z}
use Rattle.image_instr.specs.declared.insn.MInsn.TheVariants as insns
use Rattle.mote_exec.proofs.Standing.{same_step, same_step_in, switch_choice, table_choice}
use Rattle.mote_exec.proofs.step.step_behind.Goals as goal

pub increment-requires : goal.increment-requires
increment-requires g c =
    let fits : FitsSigned w16 c.in-Inc.amount = search rules in
    let same = c.in-Inc.is ∙ ap (λ (amount : ℤ). insns.Inc c.in-Inc.width c.in-Inc.local amount) (sym (to_z-of_z w16 c.in-Inc.amount fits)) in
    same_step g.shown c.args.mote.now c.args.next _ _ same c.requires.0.step

pub choose-requires : goal.choose-requires
choose-requires g c =
    let at = same_step_in g.shown c.args.mote.now c.args.code.now c.args.next _ _ c.in-Switch.is c.requires.0 in
    switch_choice g.shown c.args.mote.now c.args.code.now c.args.next c.in-Switch.width c.in-Switch.default c.in-Switch.count at

pub choose-requires-in-Table : goal.choose-requires-in-Table
choose-requires-in-Table g c =
    let at = same_step_in g.shown c.args.mote.now c.args.code.now c.args.next _ _ c.in-Table.is c.requires.0 in
    table_choice g.shown c.args.mote.now c.args.code.now c.args.next c.in-Table.width c.in-Table.default c.in-Table.low c.in-Table.count at

pub returns-in-Null : goal.returns-in-Null
returns-in-Null g c = c.null.ensures c.args.left.now

pub returns-in-Load : goal.returns-in-Load
returns-in-Load g c = c.load.ensures c.args.left.now

pub returns-in-Store : goal.returns-in-Store
returns-in-Store g c = c.store.ensures c.args.left.now

pub returns-in-RClear : goal.returns-in-RClear
returns-in-RClear g c = c.clear.ensures c.args.left.now

pub returns-in-Inc : goal.returns-in-Inc
returns-in-Inc g c = c.increment.ensures c.args.left.now

pub returns-in-RDupX : goal.returns-in-RDupX
returns-in-RDupX g c = c.duplicate_refs.ensures c.args.left.now

pub returns-in-DupX : goal.returns-in-DupX
returns-in-DupX g c = c.duplicate.ensures c.args.left.now

pub returns-in-RPop : goal.returns-in-RPop
returns-in-RPop g c = c.pop_refs.ensures c.args.left.now

pub returns-in-Pop : goal.returns-in-Pop
returns-in-Pop g c = c.pop.ensures c.args.left.now

pub returns-in-RSwap : goal.returns-in-RSwap
returns-in-RSwap g c = c.swap_refs.ensures c.args.left.now

pub returns-in-Swap : goal.returns-in-Swap
returns-in-Swap g c = c.swap.ensures c.args.left.now

pub returns-in-Drop : goal.returns-in-Drop
returns-in-Drop g c = c.drop_below.ensures c.args.left.now

pub returns-in-Bin : goal.returns-in-Bin
returns-in-Bin g c = c.binary.ensures c.args.left.now

pub returns-in-Neg : goal.returns-in-Neg
returns-in-Neg g c = c.negate.ensures c.args.left.now

pub returns-in-Sx : goal.returns-in-Sx
returns-in-Sx g c = c.extend_sign.ensures c.args.left.now

pub returns-in-Zx : goal.returns-in-Zx
returns-in-Zx g c = c.extend_zero.ensures c.args.left.now

pub returns-in-Sb : goal.returns-in-Sb
returns-in-Sb g c = c.extend_byte.ensures c.args.left.now

pub returns-in-Bit : goal.returns-in-Bit
returns-in-Bit g c = c.keep_bit.ensures c.args.left.now

pub returns-in-GetS : goal.returns-in-GetS
returns-in-GetS g c = c.get_static.ensures c.args.left.now

pub returns-in-PutS : goal.returns-in-PutS
returns-in-PutS g c = c.put_static.ensures c.args.left.now
