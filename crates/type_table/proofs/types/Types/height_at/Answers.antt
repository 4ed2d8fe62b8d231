-- A frame has as many operands as it is high.
use Rattle.std.proofs.Common.{◌≡◌, ℕ, Some, option_map, length, slice_get, sym, ap, ◌∙◌}
use Rattle.body_form.specs.declared.types.VFrame.{VFrame}
use Rattle.type_table.specs.declared.store.FrameId.{FrameId}
use Rattle.type_table.specs.Frames.{frame_of}
use Rattle.type_table.proofs.Lengths.{frame_is_high}
use Rattle.type_table.proofs.TypeRows.{row_is, row_there}
use Rattle.type_table.proofs.types.Types.height_at.Goals as goal
use Rattle.type_table.proofs.types.Types.height_at.Goals.{After-row_at}

-- how many operands the row that was read has
high : (c : After-row_at) → option_map (λ (row : ℕ × FrameId). length (frame_of c.self.inside.store row.1).stack) c.row_at.result ≡ option_map (λ (row : ℕ × VFrame). length row.1.stack) (slice_get c.args.self.now c.args.index)
high c = row_is c.self.inside.store (λ (frame : VFrame). length frame.stack) c.self.inside.rows.items c.as_slice.result.now c.args.self.now c.args.index c.row_at.result c.self.view_is c.as_slice.ensures.value c.row_at.ensures

pub returns-in-Some : goal.returns-in-Some
returns-in-Some c =
    let store = c.self.inside.store in
    let row : ℕ × FrameId = (c.in-Some.field-0-0, c.in-Some.id) in
    let read : slice_get c.self.inside.rows.items c.args.index ≡ Some row =
    sym (c.row_at.ensures ∙ ap (λ list. slice_get list c.args.index) c.as_slice.ensures.value) ∙ c.in-Some.is
    in
    ap (λ n. Some n) (sym (frame_is_high store c.in-Some.id (row_there store c.self.inside.rows.items c.self.invariant c.args.index row read)))
    ∙ sym (ap (option_map (λ (found : ℕ × FrameId). length (frame_of store found.1).stack)) c.in-Some.is)
    ∙ high (goal.at.returns-in-Some c).After-row_at

pub returns-in-None : goal.returns-in-None
returns-in-None c =
    sym (ap (option_map (λ (found : ℕ × FrameId). length (frame_of c.self.inside.store found.1).stack)) c.in-None.is) ∙ high (goal.at.returns-in-None c).After-row_at
