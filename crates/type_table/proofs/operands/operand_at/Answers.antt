-- The top of the operands below so many is the operand at that position.
use Rattle.type_table.proofs.Chaining.{operand_found, operand_lacks}
use Rattle.type_table.proofs.operands.operand_at.Goals as goal

pub returns-in-Some : goal.returns-in-Some
returns-in-Some c =
    operand_found c.args.cells.now c.args.chain c.below-rest.result c.in-Some.field-0-1 c.in-Some.cell c.args.position c.min.result c.below-rest.ensures.below c.below-rest.ensures.height c.min.ensures c.in-Some.ensures

pub returns-in-None : goal.returns-in-None
returns-in-None c =
    operand_lacks c.args.cells.now c.args.chain c.below-rest.result c.args.position c.min.result c.requires c.below-rest.ensures.height c.min.ensures c.in-None.ensures
