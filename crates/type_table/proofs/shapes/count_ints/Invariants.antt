use Rattle.std.proofs.Common.{◌≡◌, ◌+◌}
use Rattle.type_table.specs.Chains.{chain_of, HasChain}
use Rattle.type_table.specs.Counts.{ints_in}
use Rattle.type_table.proofs.shapes.count_ints.Given as goal

abbrev pub decreases-loop-cell : goal.decreases-loop-cell
decreases-loop-cell l = l.rest.height

abbrev pub invariant-loop-cell : goal.invariant-loop-cell
invariant-loop-cell l = record {
  has : HasChain l.cells l.rest;
  sum : l.passed + ints_in (chain_of l.cells l.rest) ≡ ints_in (chain_of l.cells l.fn.chain);
}
