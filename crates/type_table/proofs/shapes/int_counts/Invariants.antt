use Rattle.std.proofs.Common.{◌≡◌, map, take}
use Rattle.type_table.specs.Chains.{chain_at, chain_of}
use Rattle.type_table.specs.Counts.{ints_in, AreCounted}
use Rattle.type_table.proofs.shapes.int_counts.Given as goal

abbrev pub invariant-loop-row : goal.invariant-loop-row
invariant-loop-row l = record {
  counted : AreCounted l.cells l.noted.items;
  counts : l.counts.items ≡ map (λ row. ints_in (chain_of l.cells (chain_at row.1))) (take l.row-index l.rows);
}
