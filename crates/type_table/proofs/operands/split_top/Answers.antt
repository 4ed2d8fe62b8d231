-- The cell that is read is the top of the chain.
use Rattle.std.proofs.Common.{arith, ◌-◌}
use Rattle.std.proofs.lemmas.Option.{slice_get-get_or}
use Rattle.type_table.proofs.Chaining.{top_within, is_top}
use Rattle.type_table.proofs.operands.split_top.Goals as goal

pub bounds-cells-chain : goal.bounds-cells-chain
bounds-cells-chain c = top_within c.args.cells.now c.args.chain.height c.args.chain.top (omega arith) c.requires

pub returns : goal.returns
returns c =
    let cells = c.args.cells.now in
    let chain = c.args.chain in
    is_top cells chain.height chain.top (chain.height - 1) _ (omega arith) c.requires (slice_get-get_or cells chain.top _ (top_within cells chain.height chain.top (omega arith) c.requires))
