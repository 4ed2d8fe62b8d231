use Rattle.std.proofs.Common.{arith, drop, subst}
use Rattle.std.specs.Prelude.{IfSome}
use Rattle.image_instr.specs.Insn.{IsAtPrefix}
use Rattle.image_instr.specs.Reading.{rows_at}
use Rattle.image_instr.proofs.encoding.Bytes.{IsBytes-drop}
use Rattle.image_instr.proofs.encoding.Decode.{found_holds}
use Rattle.image_instr.proofs.read.decode_known.Goals as goal

pub returns-clause-found : goal.returns-clause-found
returns-clause-found c =
    let bytes = drop c.args.pc c.args.code.now in
    subst (λ f. IfSome f (λ found. IsAtPrefix found.0 (rows_at found.0 bytes) found.1 bytes)) c.known_at.ensures (found_holds bytes (IsBytes-drop c.args.pc c.args.code.now (λ i. omega (arith, c.type_inv.code i))))
