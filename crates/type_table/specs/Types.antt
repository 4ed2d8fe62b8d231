-- Tables of types: frames of a store, each with the pc of its instruction.
use Rattle.std.specs.Prelude.{ℕ, nat_eq, if◌then◌else◌, List, [], ◌∷◌, map, Some, None}
use Rattle.body_form.specs.declared.types.VFrame.{VFrame}
use Rattle.jvm_model.specs.TypesRight.{Table}
use Rattle.type_table.specs.declared.store.FrameId.{FrameId}
use Rattle.type_table.specs.Frames.{Stored, frame_of}

-- frames, each with the pc of its instruction
abbrev pub Rows : Type 0
Rows = List (ℕ × VFrame)

abbrev pub rows_of : Stored → List (ℕ × FrameId) → Rows
rows_of stored rows = map (λ row. (row.0, frame_of stored row.1)) rows

-- the frame of the row with the pc
unfoldable pub table_of : Rows → Table
table_of [] at = None
table_of ((pc, frame) ∷ rows) at = if nat_eq pc at then Some frame else table_of rows at
