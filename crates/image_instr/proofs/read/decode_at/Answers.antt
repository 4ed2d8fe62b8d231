use Rattle.std.proofs.Common.{arith, drop, ◌∙◌}
use Rattle.image_instr.proofs.encoding.Bytes.{IsBytes-drop}
use Rattle.image_instr.proofs.encoding.Decode.{found_holds, prefix_found, prefix_rows, none_holds}
use Rattle.image_instr.proofs.read.decode_at.Goals as goal

pub returns-clause-found : goal.returns-clause-found
returns-clause-found c =
    rw c.found_at.ensures (found_holds (drop c.args.pc c.args.code.now) (IsBytes-drop c.args.pc c.args.code.now (λ i. omega (arith, c.type_inv.code i))))

pub returns-clause-only : goal.returns-clause-only
returns-clause-only c = λ insn rows size at.
    (c.found_at.ensures ∙ prefix_found (drop c.args.pc c.args.code.now) insn rows size at, prefix_rows (drop c.args.pc c.args.code.now) insn rows size at)

pub returns-clause-none : goal.returns-clause-none
returns-clause-none c = rw c.found_at.ensures (none_holds (drop c.args.pc c.args.code.now))
