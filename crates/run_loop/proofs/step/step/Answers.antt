use Rattle.run_loop.proofs.PlainTurns.{plain_else, plain_turn, thrown_turn}
use Rattle.run_loop.proofs.step.step.Goals as goal

pub returns-in-Throws : goal.returns-in-Throws
returns-in-Throws g c =
    let C = g.C.Console in
    let insn = c.next_insn-insn.result in
    let next = c.next_insn-insn.ensures in
    let plain = plain_else insn next.runs c.in_default.not-Ret c.in_default.not-CallS in
    thrown_turn g.shown c.requires.1.1.sound insn next.next plain C.left C.shown C.noted C.faults C.room c.args.console.now c.args.mote.now c.step_plain.new.mote c.raise.new.mote c.args.left.now c.step_plain.new.left c.raise.new.left
    c.in-Throws.class c.raise.result c.in-Throws.ensures c.raise.ensures

pub returns-in_default-step_plain : goal.returns-in_default-step_plain
returns-in_default-step_plain g c =
    let C = g.C.Console in
    let insn = c.next_insn-insn.result in
    let next = c.next_insn-insn.ensures in
    let plain = plain_else insn next.runs c.in_default.not-Ret c.in_default.not-CallS in
    plain_turn g.shown c.requires.1.1.sound insn next.next plain c.args.mote.now c.step_plain.new.mote c.args.left.now c.step_plain.new.left C.left C.shown C.noted C.faults C.room c.args.console.now
    c.step_plain.result c.in_default-step_plain.not-Throws c.step_plain.ensures
