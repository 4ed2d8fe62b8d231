-- Where the mark is not set, or no operand is left, the object is none of them.
use Rattle.std.proofs.Common.{sym, ap, ◌∙◌}
use Rattle.std.specs.List.{list_any}
use Rattle.jvm_model.specs.TypesRules.{is_same_object}
use Rattle.type_table.proofs.Chaining.{marked_lacks, no_operands}
use Rattle.type_table.proofs.operands.has_object.Goals as goal

pub returns-then-not-cell : goal.returns-then-not-cell
returns-then-not-cell c =
    sym (marked_lacks c.args.cells.now c.loop-cell.rest c.in-Some.below c.in-Some.cell c.args.object c.in-Some.ensures c.if-not-cell.true) ∙ c.loop-cell.invariant.same

pub returns : goal.returns
returns c =
    sym (ap (list_any (is_same_object c.args.object)) (no_operands c.args.cells.now c.loop-cell.rest.height c.loop-cell.rest.top c.in_default.ensures)) ∙ c.loop-cell.invariant.same
