-- The operands are those of the row that is read.
use Rattle.std.proofs.Common.{◌≡◌, ℕ, List, [], Option, option_map, unwrap_or, take, slice_get, sym, ap, ◌∙◌}
use Rattle.body_form.specs.declared.types.VFrame.{VFrame}
use Rattle.body_form.specs.declared.types.VType.{VType}
use Rattle.type_table.specs.declared.store.FrameId.{FrameId}
use Rattle.type_table.specs.Frames.{frame_of}
use Rattle.std.specs.Option.{option_map_or}
use Rattle.type_table.proofs.TypeRows.{row_is, row_or}
use Rattle.type_table.proofs.types.Types.top_operands.Goals as goal
use Rattle.type_table.proofs.types.Types.top_operands.Goals.{After-row_at}

-- the top operands of the row that was read
tops : (c : After-row_at) → unwrap_or (option_map (λ (row : ℕ × FrameId). take c.args.count (frame_of c.self.inside.store row.1).stack) c.row_at.result) []
    ≡ option_map_or (λ (row : ℕ × VFrame). take c.args.count row.1.stack) (slice_get c.args.self.now c.args.index) []
tops c =
    let top : VFrame → List VType = λ frame. take c.args.count frame.stack in
    row_or c.self.inside.store top c.args.self.now c.args.index [] _
    (row_is c.self.inside.store top c.self.inside.rows.items c.as_slice.result.now c.args.self.now c.args.index c.row_at.result c.self.view_is c.as_slice.ensures.value c.row_at.ensures)

pub returns-in_ok-values-in-Some : goal.returns-in_ok-values-in-Some
returns-in_ok-values-in-Some c =
    let top : Option (ℕ × FrameId) → List VType = λ found. unwrap_or (option_map (λ (row : ℕ × FrameId). take c.args.count (frame_of c.self.inside.store row.1).stack) found) [] in
    c.from_vec.ensures ∙ c.in_ok-values-in-Some.ensures ∙ sym (ap top c.in-Some.is) ∙ tops (goal.at.returns-in_ok-values-in-Some c).After-row_at

pub returns-in-None : goal.returns-in-None
returns-in-None c =
    let top : Option (ℕ × FrameId) → List VType = λ found. unwrap_or (option_map (λ (row : ℕ × FrameId). take c.args.count (frame_of c.self.inside.store row.1).stack) found) [] in
    c.empty.ensures ∙ sym (ap top c.in-None.is) ∙ tops (goal.at.returns-in-None c).After-row_at
