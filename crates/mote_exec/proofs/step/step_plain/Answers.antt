use Rattle.std.proofs.Common.{◌+◌, length, sym, ap, ap₂, ◌∙◌, arith}
use Rattle.std.proofs.lemmas.Option.{some_pair_parts}
use Rattle.image_check.proofs.Targets.{size_fits}
use Rattle.mote_exec.proofs.Jumping.{pc_is}
use Rattle.mote_exec.proofs.Standing.{behind, step_of, there, method_there, code_fits}
use Rattle.mote_exec.proofs.step.step_plain.Goals as goal

pub overflow_cast-next : goal.overflow_cast-next
overflow_cast-next g c =
    let memory = c.args.mote.now in
    let ready = c.requires.1.0 in
    let insn = c.args.insn in
    let next = ready.next in
    let code_is = c.code-code.ensures next.method (method_there g.shown memory insn ready c.args.checked.now c.method_at.result c.requires.0 c.method_at.ensures) in
    let here = c.from-pc.ensures ∙ c.pc_at.ensures ∙ pc_is g.shown memory memory insn (behind g.shown memory insn ready) (step_of g.shown memory insn ready) in
    let found = c.decode_known-size.result in
    let fits = size_fits c.code-code.result.now c.from-pc.result found.0 found.1 (λ i. omega (arith, c.type_inv.code i)) c.decode_known-size.ensures.exact in
    record { fits = omega (arith, fits.1, ap length code_is, code_fits g.shown memory insn ready) }

pub step_behind-requires : goal.step_behind-requires
step_behind-requires g c =
    let memory = c.args.mote.now in
    let ready = c.requires.1.0 in
    let insn = c.args.insn in
    let next = ready.next in
    let code_is = c.code-code.ensures next.method (method_there g.shown memory insn ready c.args.checked.now c.method_at.result c.requires.0 c.method_at.ensures) in
    let here = c.from-pc.ensures ∙ c.pc_at.ensures ∙ pc_is g.shown memory memory insn (behind g.shown memory insn ready) (step_of g.shown memory insn ready) in
    let found = c.decode_known-size.result in
    let same = some_pair_parts found.0 insn found.1 next.size (sym c.decode_known-size.ensures.exact ∙ there g.shown memory insn ready c.code-code.result.now code_is c.from-pc.result here) in
    (record { step = record { ready = ready; behind = ap₂ (λ pc size. pc + size) here same.1 }; code_is = code_is }, c.requires.1.1)
