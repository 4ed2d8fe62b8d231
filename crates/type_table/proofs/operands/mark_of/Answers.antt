-- No operand is an object that is not yet constructed where there are none.
use Rattle.std.proofs.Common.{ap}
use Rattle.std.specs.List.{list_any}
use Rattle.type_table.specs.Frames.{is_unconstructed}
use Rattle.type_table.proofs.Chaining.{no_operands}
use Rattle.type_table.proofs.operands.mark_of.Goals as goal

pub returns-in-None : goal.returns-in-None
returns-in-None c clear = ap (list_any is_unconstructed) (no_operands c.args.cells.now c.args.chain.height c.args.chain.top c.in-None.ensures)
