use Rattle.std.proofs.Common.{◌^◌, replicate}
use Rattle.body_form.specs.declared.types.VType.TheVariants as known
use Rattle.type_table.specs.Trees.{IsTree, TreesGrow}
use Rattle.type_table.proofs.trees.bare.Given as goal

abbrev pub invariant-loop-below : goal.invariant-loop-below
invariant-loop-below l = record { grow : TreesGrow l.fn.trees l.trees; bare : IsTree l.trees l.below l.root (replicate (2 ^ l.below) known.Top) }
