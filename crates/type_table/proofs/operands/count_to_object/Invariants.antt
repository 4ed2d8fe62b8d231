use Rattle.std.proofs.Common.{◌≡◌, ◌≤◌, ◌-◌, false, drop}
use Rattle.std.specs.List.{list_any}
use Rattle.jvm_model.specs.TypesRules.{is_same_object}
use Rattle.type_table.specs.Chains.{chain_of}
use Rattle.type_table.proofs.Chaining.{IsWalked}
use Rattle.type_table.proofs.operands.count_to_object.Given as goal

abbrev pub decreases-loop-cell : goal.decreases-loop-cell
decreases-loop-cell l = l.rest.height

abbrev pub invariant-loop-cell : goal.invariant-loop-cell
invariant-loop-cell l = record {
  within : l.rest.height ≤ l.fn.chain.height;
  walked : IsWalked l.cells l.fn.chain (l.fn.chain.height - l.rest.height) l.rest;
  count : l.count ≤ l.fn.chain.height - l.rest.height;
  lacks : list_any (is_same_object l.object) (chain_of l.cells l.rest) ≡ false → list_any (is_same_object l.object) (drop l.count (chain_of l.cells l.fn.chain)) ≡ false;
}
