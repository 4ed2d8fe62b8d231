use Rattle.mote_call.proofs.natives.write.Given as goal

abbrev pub ghost-show_number : goal.ghost-show_number
ghost-show_number g a = g.shown
