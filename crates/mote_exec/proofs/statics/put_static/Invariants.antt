use Rattle.mote_exec.proofs.statics.put_static.Given as goal

abbrev pub ghost-store_ref : goal.ghost-store_ref
ghost-store_ref g a = g.shown

abbrev pub ghost-store_cell : goal.ghost-store_cell
ghost-store_cell g a = g.shown

abbrev pub ghost-store_pair : goal.ghost-store_pair
ghost-store_pair g a = g.shown
