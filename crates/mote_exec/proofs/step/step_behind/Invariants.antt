use Rattle.mote_exec.proofs.step.step_behind.Given as goal

abbrev pub ghost-constant : goal.ghost-constant
ghost-constant g a = g.shown

abbrev pub ghost-null : goal.ghost-null
ghost-null g a = g.shown

abbrev pub ghost-load : goal.ghost-load
ghost-load g a = g.shown

abbrev pub ghost-store : goal.ghost-store
ghost-store g a = g.shown

abbrev pub ghost-clear : goal.ghost-clear
ghost-clear g a = g.shown

abbrev pub ghost-increment : goal.ghost-increment
ghost-increment g a = g.shown

abbrev pub ghost-duplicate_refs : goal.ghost-duplicate_refs
ghost-duplicate_refs g a = g.shown

abbrev pub ghost-duplicate : goal.ghost-duplicate
ghost-duplicate g a = g.shown

abbrev pub ghost-pop_refs : goal.ghost-pop_refs
ghost-pop_refs g a = g.shown

abbrev pub ghost-pop : goal.ghost-pop
ghost-pop g a = g.shown

abbrev pub ghost-swap_refs : goal.ghost-swap_refs
ghost-swap_refs g a = g.shown

abbrev pub ghost-swap : goal.ghost-swap
ghost-swap g a = g.shown

abbrev pub ghost-drop_below : goal.ghost-drop_below
ghost-drop_below g a = g.shown

abbrev pub ghost-binary : goal.ghost-binary
ghost-binary g a = g.shown

abbrev pub ghost-negate : goal.ghost-negate
ghost-negate g a = g.shown

abbrev pub ghost-extend_sign : goal.ghost-extend_sign
ghost-extend_sign g a = g.shown

abbrev pub ghost-extend_zero : goal.ghost-extend_zero
ghost-extend_zero g a = g.shown

abbrev pub ghost-extend_byte : goal.ghost-extend_byte
ghost-extend_byte g a = g.shown

abbrev pub ghost-keep_bit : goal.ghost-keep_bit
ghost-keep_bit g a = g.shown

abbrev pub ghost-jump_if_zero : goal.ghost-jump_if_zero
ghost-jump_if_zero g a = g.shown

abbrev pub ghost-jump_if_compared : goal.ghost-jump_if_compared
ghost-jump_if_compared g a = g.shown

abbrev pub ghost-jump_if_reference : goal.ghost-jump_if_reference
ghost-jump_if_reference g a = g.shown

abbrev pub ghost-goto : goal.ghost-goto
ghost-goto g a = g.shown

abbrev pub ghost-choose : goal.ghost-choose
ghost-choose g a = g.shown

abbrev pub ghost-get_static : goal.ghost-get_static
ghost-get_static g a = g.shown

abbrev pub ghost-put_static : goal.ghost-put_static
ghost-put_static g a = g.shown
