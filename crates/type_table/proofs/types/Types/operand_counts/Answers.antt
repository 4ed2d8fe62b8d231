-- The chain of each row is that of its frame.
use Rattle.std.proofs.Common.{ℕ, List, map, ap, ◌∙◌}
use Rattle.body_form.specs.declared.types.VFrame.{VFrame}
use Rattle.type_table.specs.declared.store.Cell.{Cell}
use Rattle.type_table.specs.declared.store.FrameId.{FrameId}
use Rattle.type_table.specs.Chains.{chain_at, chain_of}
use Rattle.type_table.specs.Counts.{ints_in}
use Rattle.type_table.specs.Types.{Rows}
use Rattle.type_table.proofs.TypeRows.{all_rows}
use Rattle.type_table.proofs.types.Types.operand_counts.Goals as goal

pub returns : goal.returns
returns c =
    let inside = c.self.inside in
    let counts : List Cell → List (ℕ × FrameId) → List ℕ = λ cells rows. map (λ (row : ℕ × FrameId). ints_in (chain_of cells (chain_at row.1))) rows in
    c.from_vec.ensures ∙ c.in_ok-counts.ensures
    ∙ ap (λ (cells : List Cell). counts cells c.as_slice.result.now) c.cells.ensures
    ∙ ap (counts inside.store.cells) c.as_slice.ensures.value
    ∙ all_rows inside.store (λ (frame : VFrame). ints_in frame.stack) inside.rows.items
    ∙ ap (λ (rows : Rows). map (λ (row : ℕ × VFrame). ints_in row.1.stack) rows) c.self.view_is
