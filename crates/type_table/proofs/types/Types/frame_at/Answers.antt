-- The frame of the row that is read is copied out.
use Rattle.std.proofs.Common.{◌≡◌, ℕ, List, Option, Some, option_map, slice_get, sym, ap, ◌∙◌}
use Rattle.body_form.specs.declared.types.VFrame.{VFrame}
use Rattle.type_table.specs.declared.store.FrameId.{FrameId}
use Rattle.type_table.specs.Frames.{frame_of}
use Rattle.type_table.specs.Types.{Rows}
use Rattle.type_table.proofs.TypeRows.{row_frame}
use Rattle.type_table.proofs.types.Types.frame_at.Goals as goal
use Rattle.type_table.proofs.types.Types.frame_at.Goals.{After-row_at}

-- the frame of the row that was read
row_is : (c : After-row_at) → option_map (λ (row : ℕ × FrameId). frame_of c.self.inside.store row.1) c.row_at.result ≡ option_map (λ (row : ℕ × VFrame). row.1) (slice_get c.args.self.now c.args.index)
row_is c =
    let inside = c.self.inside in
    let frames : Option (ℕ × FrameId) → Option VFrame = option_map (λ (row : ℕ × FrameId). frame_of inside.store row.1) in
    ap frames (c.row_at.ensures ∙ ap (λ (list : List (ℕ × FrameId)). slice_get list c.args.index) c.as_slice.ensures.value)
    ∙ sym (row_frame inside.store inside.rows.items c.args.index)
    ∙ ap (λ (rows : Rows). option_map (λ (row : ℕ × VFrame). row.1) (slice_get rows c.args.index)) c.self.view_is

pub returns-in_ok-frame-in-Some : goal.returns-in_ok-frame-in-Some
returns-in_ok-frame-in-Some c =
    ap (λ (f : VFrame). Some f) c.in_ok-frame-in-Some.ensures
    ∙ sym (ap (option_map (λ (row : ℕ × FrameId). frame_of c.self.inside.store row.1)) c.in-Some.is)
    ∙ row_is (goal.at.returns-in_ok-frame-in-Some c).After-row_at

pub returns-in-None : goal.returns-in-None
returns-in-None c =
    sym (ap (option_map (λ (row : ℕ × FrameId). frame_of c.self.inside.store row.1)) c.in-None.is) ∙ row_is (goal.at.returns-in-None c).After-row_at
