use Rattle.mote_call.proofs.returns.step_return.Given as goal

abbrev pub ghost-return_nothing : goal.ghost-return_nothing
ghost-return_nothing g a = g.shown

abbrev pub ghost-return_ref : goal.ghost-return_ref
ghost-return_ref g a = g.shown

abbrev pub ghost-return_cell : goal.ghost-return_cell
ghost-return_cell g a = g.shown

abbrev pub ghost-return_pair : goal.ghost-return_pair
ghost-return_pair g a = g.shown
