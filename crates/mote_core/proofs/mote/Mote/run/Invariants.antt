use Rattle.mote_core.proofs.mote.Mote.run.Given as goal

abbrev pub ghost-run_within : goal.ghost-run_within
ghost-run_within g a = record { at = g.at; heap = a._heap }
