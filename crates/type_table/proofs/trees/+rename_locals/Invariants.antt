use Rattle.type_table.proofs.trees.+rename_locals.Given as goal

abbrev pub decreases-rename_locals : goal.decreases-rename_locals
decreases-rename_locals l = l.depth
