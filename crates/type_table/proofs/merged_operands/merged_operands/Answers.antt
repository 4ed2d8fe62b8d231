-- Operands of two heights do not merge.
use Rattle.std.proofs.Common.{sym, ◌∙◌}
use Rattle.jvm_model.specs.TypesFrames.{may_be_operand}
use Rattle.type_table.specs.Chains.{chain_of}
use Rattle.type_table.proofs.Chaining.{length_operands}
use Rattle.type_table.proofs.MergedChains.{heights_clash}
use Rattle.type_table.proofs.merged_operands.merged_operands.Goals as goal

pub returns-then-upper-lower-clause-merged : goal.returns-then-upper-lower-clause-merged
returns-then-upper-lower-clause-merged c =
    let cells = c.args.cells.now.items in
    let upper = c.args.upper in
    let lower = c.args.lower in
    heights_clash c.args.set.now may_be_operand (chain_of cells upper) (chain_of cells lower)
    (λ same. c.if-upper-lower.true (sym (length_operands cells upper.height upper.top c.requires.upper) ∙ same ∙ length_operands cells lower.height lower.top c.requires.lower))
