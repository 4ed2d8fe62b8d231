use Rattle.type_table.proofs.trees.+set_local.Given as goal

abbrev pub decreases-set_local : goal.decreases-set_local
decreases-set_local l = l.depth
