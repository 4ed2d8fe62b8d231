use Rattle.std.proofs.Common.{◌≡◌, arith, ◌∙◌, ap, w32, to_z, of_z}
use Rattle.std.proofs.lemmas.Int.{to_z-of_z}
use Rattle.std.proofs.lemmas.List.{drop-drop}
use Rattle.image_instr.specs.Switch.{default_of, target_in}
use Rattle.image_instr.proofs.switches.SwitchPrefix.{switch_there, switch_at}
use Rattle.image_instr.proofs.switch.first_target.Goals as goal

pub bytes_from-operands-requires : goal.bytes_from-operands-requires
bytes_from-operands-requires c = (switch_there c.args.bytes.now (λ i. omega (arith, c.type_inv.bytes i)) c.requires).2.present

pub bounds-bytes-0 : goal.bounds-bytes-0
bounds-bytes-0 c = let present = (switch_there c.args.bytes.now (λ i. omega (arith, c.type_inv.bytes i)) c.requires).2.present in omega (arith, present)

pub switch_operands_target-requires-clause-there : goal.switch_operands_target-requires-clause-there
switch_operands_target-requires-clause-there c =
    let prefix = (switch_there c.args.bytes.now (λ i. omega (arith, c.type_inv.bytes i)) c.requires).2.low_byte c.if-bytes-le-SWITCH2.true in
    rw c.bytes_from-operands.ensures prefix.0.there

pub switch_operands_target-requires-clause-rows : goal.switch_operands_target-requires-clause-rows
switch_operands_target-requires-clause-rows c =
    let prefix = (switch_there c.args.bytes.now (λ i. omega (arith, c.type_inv.bytes i)) c.requires).2.low_byte c.if-bytes-le-SWITCH2.true in
    rw (c.bytes_from-operands.ensures, drop-drop 2 1 c.args.bytes.now, drop-drop 4 1 c.args.bytes.now) prefix.0.rows

pub switch_operands_target-requires-clause-rise : goal.switch_operands_target-requires-clause-rise
switch_operands_target-requires-clause-rise c =
    let prefix = (switch_there c.args.bytes.now (λ i. omega (arith, c.type_inv.bytes i)) c.requires).2.low_byte c.if-bytes-le-SWITCH2.true in
    rw (c.bytes_from-operands.ensures, drop-drop 2 1 c.args.bytes.now, drop-drop 4 1 c.args.bytes.now) prefix.0.rise

pub table_operands_target-requires-clause-there : goal.table_operands_target-requires-clause-there
table_operands_target-requires-clause-there c =
    let prefix = (switch_there c.args.bytes.now (λ i. omega (arith, c.type_inv.bytes i)) c.requires).2.high_byte c.if-bytes-le-SWITCH2.false in
    rw c.bytes_from-operands.ensures prefix.0.there

pub table_operands_target-requires-clause-targets : goal.table_operands_target-requires-clause-targets
table_operands_target-requires-clause-targets c =
    let prefix = (switch_there c.args.bytes.now (λ i. omega (arith, c.type_inv.bytes i)) c.requires).2.high_byte c.if-bytes-le-SWITCH2.false in
    rw (c.bytes_from-operands.ensures, drop-drop 6 1 c.args.bytes.now, drop-drop 8 1 c.args.bytes.now) prefix.0.targets

pub returns-then-bytes-le-SWITCH2 : goal.returns-then-bytes-le-SWITCH2
returns-then-bytes-le-SWITCH2 c = λ insn rows size at.
    let prefix = (switch_at c.args.bytes.now c.requires insn rows size at).low_byte c.if-bytes-le-SWITCH2.true in
    let passed : to_z w32 (of_z w32 c.args.key) ≡ c.args.key = to_z-of_z w32 c.args.key c.ranges.key in
    c.switch_operands_target.ensures ∙ (rw (c.bytes_from-operands.ensures, drop-drop 2 1 c.args.bytes.now, drop-drop 4 1 c.args.bytes.now) (prefix.1 (to_z w32 (of_z w32 c.args.key)))) ∙ ap (target_in (default_of insn) rows) passed

pub returns-else-bytes-le-SWITCH2 : goal.returns-else-bytes-le-SWITCH2
returns-else-bytes-le-SWITCH2 c = λ insn rows size at.
    let prefix = (switch_at c.args.bytes.now c.requires insn rows size at).high_byte c.if-bytes-le-SWITCH2.false in
    let passed : to_z w32 (of_z w32 c.args.key) ≡ c.args.key = to_z-of_z w32 c.args.key c.ranges.key in
    c.table_operands_target.ensures ∙ (rw (c.bytes_from-operands.ensures, drop-drop 2 1 c.args.bytes.now, drop-drop 6 1 c.args.bytes.now, drop-drop 8 1 c.args.bytes.now) (prefix.1 (to_z w32 (of_z w32 c.args.key)))) ∙ ap (target_in (default_of insn) rows) passed
