-- What is measured is what the frame takes.
use Rattle.std.proofs.Common.{◌≤◌, List, refl, ap, subst, ◌∙◌}
use Rattle.jvm_model.specs.declared.entries.Entry.{Entry}
use Rattle.jvm_model.specs.WidthsShapes.{widths_of}
use Rattle.jvm_model.specs.WidthsFrame.{frame_cells}
use Rattle.type_table.specs.Types.{table_of}
use Rattle.flow_split.proofs.Laying.{measured_cells}
use Rattle.flow_split.proofs.frame.split.Goals as goal

pub returns-then-cells-gt-MOST_FRAME_CELLS-clause-refused : goal.returns-then-cells-gt-MOST_FRAME_CELLS-clause-refused
returns-then-cells-gt-MOST_FRAME_CELLS-clause-refused c =
    let body = c.args.body.now in
    let table = table_of c.args.types.now in
    let whole = c.in-Some.ensures ∙ measured_cells body table (widths_of c.as_slice-entries.result.now table body.ops) c.in-Ok.measured c.in-Ok.ensures.is
    ∙ ap (λ (list : List Entry). frame_cells body (widths_of list table body.ops) table) c.as_slice-entries.ensures
    in
    (refl, whole, c.if-cells-gt-MOST_FRAME_CELLS.true)

pub returns-in-Ok-laid_out-clause-fits : goal.returns-in-Ok-laid_out-clause-fits
returns-in-Ok-laid_out-clause-fits c =
    let body = c.args.body.now in
    let table = table_of c.args.types.now in
    let whole = c.in-Some.ensures ∙ measured_cells body table (widths_of c.as_slice-entries.result.now table body.ops) c.in-Ok.measured c.in-Ok.ensures.is
    ∙ ap (λ (list : List Entry). frame_cells body (widths_of list table body.ops) table) c.as_slice-entries.ensures
    in
    subst (λ n. n ≤ 32767) whole c.if-cells-gt-MOST_FRAME_CELLS.false
