use Rattle.mote_exec.proofs.step.step_plain.Given as goal

abbrev pub ghost-step_behind : goal.ghost-step_behind
ghost-step_behind g a = g.shown
