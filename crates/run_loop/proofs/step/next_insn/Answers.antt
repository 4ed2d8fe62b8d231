use Rattle.std.proofs.Common.{refl, sym, subst, ◌∙◌}
use Rattle.std.specs.Option.{IsSome}
use Rattle.run_loop.proofs.NextInsn.{found, is_next, runs}
use Rattle.run_loop.proofs.step.next_insn.Goals as goal

pub decode_known-requires : goal.decode_known-requires
decode_known-requires g c =
    let there = found g.shown c.args.mote.now c.requires.1 c.args.checked.now c.method_at.result c.from.result c.code-code.result.now c.requires.0 c.method_at.ensures c.code-code.ensures (c.from.ensures ∙ c.pc_at.ensures) in
    subst IsSome (sym there) refl

pub returns-clause-next : goal.returns-clause-next
returns-clause-next g c =
    is_next g.shown c.args.mote.now c.requires.1 c.args.checked.now c.method_at.result c.from.result c.code-code.result.now c.requires.0 c.method_at.ensures c.code-code.ensures (c.from.ensures ∙ c.pc_at.ensures)
    c.decode_known.result c.decode_known.ensures.exact

pub returns-clause-runs : goal.returns-clause-runs
returns-clause-runs g c =
    runs g.shown c.args.mote.now c.requires.1 c.args.checked.now c.method_at.result c.from.result c.code-code.result.now c.requires.0 c.method_at.ensures c.code-code.ensures (c.from.ensures ∙ c.pc_at.ensures)
    c.decode_known.result c.decode_known.ensures.exact
