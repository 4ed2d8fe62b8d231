use Rattle.mote_exec.proofs.statics.get_static.Given as goal

abbrev pub ghost-load_ref : goal.ghost-load_ref
ghost-load_ref g a = g.shown

abbrev pub ghost-load_cell : goal.ghost-load_cell
ghost-load_cell g a = g.shown

abbrev pub ghost-load_pair : goal.ghost-load_pair
ghost-load_pair g a = g.shown
