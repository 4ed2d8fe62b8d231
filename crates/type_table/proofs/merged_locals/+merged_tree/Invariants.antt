use Rattle.type_table.proofs.merged_locals.+merged_tree.Given as goal

abbrev pub decreases-merged_tree : goal.decreases-merged_tree
decreases-merged_tree l = l.depth
