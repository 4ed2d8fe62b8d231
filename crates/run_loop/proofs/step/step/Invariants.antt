use Rattle.run_loop.proofs.step.step.Given as goal

abbrev pub ghost-next_insn : goal.ghost-next_insn
ghost-next_insn g a = g.shown

abbrev pub ghost-step_call : goal.ghost-step_call
ghost-step_call g a = g.shown

abbrev pub ghost-step_plain : goal.ghost-step_plain
ghost-step_plain g a = g.shown

abbrev pub ghost-raise : goal.ghost-raise
ghost-raise g a = g.shown
