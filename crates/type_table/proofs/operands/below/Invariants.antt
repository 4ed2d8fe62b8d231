use Rattle.type_table.proofs.Chaining.{IsWalked}
use Rattle.type_table.proofs.operands.below.Given as goal

abbrev pub invariant-loop : goal.invariant-loop
invariant-loop l = IsWalked l.cells l.fn.chain l.counter l.rest
