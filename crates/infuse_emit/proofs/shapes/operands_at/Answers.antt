use Rattle.std.proofs.Common.{◌≡◌, List, take, ◌∙◌}
use Rattle.std.proofs.lemmas.Result.{IfOk-weaker}
use Rattle.jvm_model.specs.WidthsShapes.{types_at}
use Rattle.body_form.specs.declared.types.VType.{VType}
use Rattle.type_table.specs.Types.{table_of}
use Rattle.infuse_emit.proofs.RowHeights.{parts_rise, operands_read}
use Rattle.infuse_emit.proofs.shapes.operands_at.Goals as goal

pub row_of-index-requires : goal.row_of-index-requires
row_of-index-requires c = parts_rise c.args.parts.now c.requires

pub returns : goal.returns
returns c =
    let parts = c.args.parts.now in
    let read = operands_read parts.heights.now parts.types.now c.args.pc c.args.count c.row_of-index.result c.requires.heights c.row_of-index.ensures in
    IfOk-weaker c.top_operands.result _ (λ (operands : List VType). operands ≡ take c.args.count (types_at (table_of parts.types.now) c.args.pc))
    (λ operands is. is ∙ read) c.top_operands.ensures
