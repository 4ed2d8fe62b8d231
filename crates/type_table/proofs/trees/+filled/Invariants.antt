use Rattle.type_table.proofs.trees.+filled.Given as goal

abbrev pub decreases-filled : goal.decreases-filled
decreases-filled l = l.depth
