use Rattle.mote_call.proofs.step.step_call.Given as goal

abbrev pub ghost-step_return : goal.ghost-step_return
ghost-step_return g a = g.shown

abbrev pub ghost-write : goal.ghost-write
ghost-write g a = g.shown

abbrev pub ghost-read_byte : goal.ghost-read_byte
ghost-read_byte g a = g.shown

abbrev pub ghost-print : goal.ghost-print
ghost-print g a = g.shown

abbrev pub ghost-call_own : goal.ghost-call_own
ghost-call_own g a = g.shown
