use Rattle.mote_core.proofs.mote.run_within.Given as goal

abbrev pub ghost-run_from : goal.ghost-run_from
ghost-run_from g a = g.start
