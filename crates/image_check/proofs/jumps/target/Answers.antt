use Rattle.std.proofs.Common.{◌<◌, ◌+◌, arith, subst}
use Rattle.image_instr.specs.declared.insn.MInsn.{MInsn}
use Rattle.image_check.specs.Targets.{target_count, HoldsAt}
use Rattle.image_check.proofs.Targets.{switch_row, table_row, switch_bytes, table_bytes}
use Rattle.image_check.proofs.jumps.target.Goals as goal

pub target_in-requires : goal.target_in-requires
target_in-requires c =
    let stands = subst (HoldsAt c.args.code.now c.args.pc) c.in-Switch.is c.requires.holds in
    let bytes = switch_bytes c.args.code.now c.args.pc c.in-Switch.width c.in-Switch.default c.in-Switch.count (λ i. omega (arith, c.type_inv.code i)) stands in
    let index : c.args.index < c.in-Switch.count + 1 = subst (λ (insn : MInsn). c.args.index < target_count insn) c.in-Switch.is c.requires.index in
    omega (arith, bytes, index, c.from-pc.ensures, c.if-index-eq0.false)

pub target_in-requires-else-index-eq0-2 : goal.target_in-requires-else-index-eq0-2
target_in-requires-else-index-eq0-2 c =
    let stands = subst (HoldsAt c.args.code.now c.args.pc) c.in-Table.is c.requires.holds in
    let bytes = table_bytes c.args.code.now c.args.pc c.in-Table.width c.in-Table.default c.in-Table.low c.in-Table.count (λ i. omega (arith, c.type_inv.code i)) stands in
    let index : c.args.index < c.in-Table.count + 1 = subst (λ (insn : MInsn). c.args.index < target_count insn) c.in-Table.is c.requires.index in
    omega (arith, bytes, index, c.from-pc.ensures, c.if-index-eq0-2.false)

pub returns-else-index-eq0 : goal.returns-else-index-eq0
returns-else-index-eq0 c =
    let index : c.args.index < c.in-Switch.count + 1 = subst (λ (insn : MInsn). c.args.index < target_count insn) c.in-Switch.is c.requires.index in
    let row = switch_row c.args.code.now c.args.pc c.in-Switch.default c.in-Switch.count c.args.index (omega arith) index in
    rw (c.target_in.ensures, c.from-pc.ensures, c.in-Switch.is) row

pub returns-else-index-eq0-2 : goal.returns-else-index-eq0-2
returns-else-index-eq0-2 c =
    let index : c.args.index < c.in-Table.count + 1 = subst (λ (insn : MInsn). c.args.index < target_count insn) c.in-Table.is c.requires.index in
    let row = table_row c.args.code.now c.args.pc c.in-Table.default c.in-Table.low c.in-Table.count c.args.index (omega arith) index in
    rw (c.target_in-else-index-eq0-2.ensures, c.from-pc.ensures, c.in-Table.is) row
