use Rattle.type_table.proofs.MergedChains.{IsMergeWalked}
use Rattle.type_table.proofs.merged_operands.merged_values.Given as goal

abbrev pub decreases-loop-a : goal.decreases-loop-a
decreases-loop-a l = l.above.height

abbrev pub invariant-loop-a : goal.invariant-loop-a
invariant-loop-a l = IsMergeWalked l.set l.cells l.fn.upper l.fn.lower l.above l.below l.values.items l.count
