-- The rows of the frames that are known.
use Rattle.std.specs.Prelude.{ℕ, Option, Some, None}
use Rattle.std.specs.List.{filter_map, zip}
use Rattle.body_form.specs.declared.op.Op.{Op}
use Rattle.body_form.specs.Flow.{Ops}
use Rattle.type_table.specs.Frames.{Stored}
use Rattle.type_table.specs.Types.{Rows, rows_of}
use Rattle.type_table.specs.declared.store.FrameId.{FrameId}
use Rattle.flow_verify.specs.declared.frames.Known.{Known}
use Rattle.flow_verify.specs.KnownFrames.{Entries}

-- the row of an instruction before which a frame is known
abbrev pub row_of : (ℕ × Op) × Option Known → Option (ℕ × FrameId)
row_of (x, None) = None
row_of (x, Some known) = Some (x.0, known.frame)

-- the rows of all instructions before which one is, in order
abbrev pub known_rows : Ops → Stored → Entries → Rows
known_rows ops stored entries = rows_of stored (filter_map row_of (zip ops entries))
