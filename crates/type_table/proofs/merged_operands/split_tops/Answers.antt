-- Chains that have no operands are the same.
use Rattle.std.proofs.Common.{sym, ◌∙◌}
use Rattle.type_table.proofs.Chaining.{no_operands}
use Rattle.type_table.proofs.merged_operands.split_tops.Goals as goal

pub returns-in_default : goal.returns-in_default
returns-in_default c =
    let cells = c.args.cells.now in
    no_operands cells c.args.upper.height c.args.upper.top c.in_default.ensures
    ∙ sym (no_operands cells c.args.lower.height c.args.lower.top (sym c.requires.same ∙ c.in_default.ensures))
