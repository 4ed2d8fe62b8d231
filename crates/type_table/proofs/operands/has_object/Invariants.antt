use Rattle.std.proofs.Common.{◌≡◌}
use Rattle.std.specs.List.{list_any}
use Rattle.jvm_model.specs.TypesRules.{is_same_object}
use Rattle.type_table.specs.Chains.{chain_of, HasChain}
use Rattle.type_table.proofs.operands.has_object.Given as goal

abbrev pub decreases-loop-cell : goal.decreases-loop-cell
decreases-loop-cell l = l.rest.height

abbrev pub invariant-loop-cell : goal.invariant-loop-cell
invariant-loop-cell l = record {
  has : HasChain l.cells l.rest;
  same : list_any (is_same_object l.object) (chain_of l.cells l.rest) ≡ list_any (is_same_object l.object) (chain_of l.cells l.fn.chain);
}
