use Rattle.std.proofs.Common.{◌≤◌, ◌++◌, drop, length}
use Rattle.type_table.specs.Frames.{Begins}
use Rattle.type_table.specs.Chains.{chain_of, IsChain}
use Rattle.type_table.proofs.operands.push_all.Given as goal

abbrev pub decreases-loop-left : goal.decreases-loop-left
decreases-loop-left l = l.left

abbrev pub invariant-loop-left : goal.invariant-loop-left
invariant-loop-left l = record {
  within : l.left ≤ length l.values;
  begins : Begins l.fn.cells.items l.cells.items;
  pushed : IsChain l.cells.items l.pushed (drop l.left l.values ++ chain_of l.fn.cells.items l.fn.chain);
}
