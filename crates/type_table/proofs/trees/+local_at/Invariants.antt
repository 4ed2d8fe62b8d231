use Rattle.type_table.proofs.trees.+local_at.Given as goal

abbrev pub decreases-local_at : goal.decreases-local_at
decreases-local_at l = l.depth
