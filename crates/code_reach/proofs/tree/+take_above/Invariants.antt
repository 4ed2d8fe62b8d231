use Rattle.code_reach.proofs.tree.+take_above.Given as goal

abbrev pub decreases-take_above : goal.decreases-take_above
decreases-take_above l = l.node
