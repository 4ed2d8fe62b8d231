use Rattle.std.proofs.Common.{◌≡◌, take}
use Rattle.type_table.specs.Trees.{tree_of}
use Rattle.type_table.proofs.trees.first_locals.Given as goal

abbrev pub invariant-loop-index : goal.invariant-loop-index
invariant-loop-index l = l.values.items ≡ take l.index (tree_of l.trees l.depth l.root)
