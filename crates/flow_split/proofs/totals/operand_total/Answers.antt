-- Whole numbers of one cell are counted by their entries.
use Rattle.std.proofs.Common.{ℕ, List, length, slice_get, option_map, ap, sym, ◌∙◌, arith}
use Rattle.std.proofs.lemmas.Option.{same_Some, slice_get-map}
use Rattle.body_form.specs.declared.types.VFrame.{VFrame}
use Rattle.type_table.specs.Counts.{ints_in}
use Rattle.flow_split.proofs.OneCells.{cells_counted}
use Rattle.flow_split.proofs.RowsByPc.{row_found}
use Rattle.flow_split.proofs.Deciding.{where_some}
use Rattle.flow_split.proofs.totals.operand_total.Goals as goal

pub returns-in-Some-checked_add : goal.returns-in-Some-checked_add
returns-in-Some-checked_add c = where_some _ c.checked_sub.result c.checked_sub.ensures (λ within frame found.
    let rows = c.args.types.now in
    let narrow = c.args.narrow.now in
    let pc = c.args.pc in
    let counted = cells_counted rows narrow pc frame c.requires.entries (row_found 0 rows c.requires.rise c.args.index pc frame found) in
    let height = same_Some c.in-Some.height (length frame.stack) (sym c.in-Some.is ∙ c.height_at.ensures ∙ ap (option_map (λ (row : ℕ × VFrame). length row.1.stack)) found) in
    let ints = same_Some c.in-Some-number_at.ints (ints_in frame.stack) (sym c.in-Some-number_at.is ∙ c.number_at.ensures ∙ ap (λ (list : List ℕ). slice_get list c.args.index) c.requires.ints
    ∙ slice_get-map (λ (row : ℕ × VFrame). ints_in row.1.stack) rows c.args.index ∙ ap (option_map (λ (row : ℕ × VFrame). ints_in row.1.stack)) found) in
    omega (arith, counted, height, ints, c.narrow_count.ensures, c.from-whole.ensures, c.in-Some-checked_add.ensures.1))
