use Rattle.std.proofs.Common.{◌≡◌, take}
use Rattle.type_table.specs.Chains.{chain_of}
use Rattle.type_table.proofs.Chaining.{IsWalked}
use Rattle.type_table.proofs.operands.top_values.Given as goal

abbrev pub invariant-loop : goal.invariant-loop
invariant-loop l = record { walked : IsWalked l.cells l.fn.chain l.counter l.rest; taken : l.values.items ≡ take l.counter (chain_of l.cells l.fn.chain) }
