use Rattle.std.proofs.Common.{arith, drop, length-drop}
use Rattle.image_instr.proofs.encoding.Bytes.{IsBytes-drop}
use Rattle.image_instr.proofs.switches.SwitchPrefix.{switch_there}
use Rattle.image_instr.proofs.switch.switch_target.Goals as goal

pub bytes_from-requires : goal.bytes_from-requires
bytes_from-requires c =
    let present = (switch_there (drop c.args.pc c.args.code.now) (IsBytes-drop c.args.pc c.args.code.now (λ i. omega (arith, c.type_inv.code i))) c.requires).2.present in
    omega (arith, present, length-drop c.args.pc c.args.code.now)
