use Rattle.std.proofs.Common.{◌≡◌, ◌-◌, List, length, take, ap, ◌∙◌}
use Rattle.std.specs.Prelude.{true}
use Rattle.jvm_model.specs.declared.entries.Entry.{Entry}
use Rattle.jvm_model.specs.WidthsShapes.{types_at, width_where, is_narrow}
use Rattle.type_table.specs.Types.{table_of}
use Rattle.infuse_emit.specs.Parts.{source_in}
use Rattle.infuse_emit.specs.Shapes.{shapes_upon}
use Rattle.infuse_emit.proofs.RowHeights.{parts_rise}
use Rattle.infuse_emit.proofs.ShapeLists.{shapes_told}
use Rattle.infuse_emit.proofs.shapes.shapes_at.Goals as goal

pub height_at-height-requires : goal.height_at-height-requires
height_at-height-requires c = parts_rise c.args.parts.now c.requires

pub returns : goal.returns
returns c =
    let parts = c.args.parts.now in
    let source = source_in parts in
    let operands = c.as_slice.result.now in
    let high : c.height_at-height.result ≡ length (types_at (table_of parts.types.now) c.args.pc) = c.height_at-height.ensures parts.types.now c.requires.heights in
    let top : operands ≡ take c.args.count (types_at (table_of parts.types.now) c.args.pc) = c.as_slice.ensures ∙ c.in_ok-operands.ensures in
    c.from_vec.ensures
    ∙ c.in_ok-shapes.ensures
    ∙ ap (λ (list : List Entry). shapes_upon (λ place. width_where (is_narrow list c.args.pc true place)) (c.height_at-height.result - length operands) operands) c.as_slice-narrow.ensures
    ∙ shapes_told source.widths source.table c.args.pc c.args.count c.height_at-height.result operands high top
