-- What holds of stores and their frames.
use Rattle.std.specs.Prelude.{◌≡◌, length}
use Rattle.type_table.specs.declared.store.FrameId.{FrameId}
use Rattle.type_table.specs.Frames.{Stored, Grows, IsDeep, IsFrame, frame_of}
use Rattle.type_table.specs.Changes.{IsFound}

-- a frame that is there stays what it is where entries are added
abbrev pub FramesStay : Type 0
FramesStay = (old new : Stored) (id : FrameId) → Grows old new → IsFrame old id → IsFound new id (frame_of old id)

-- growth goes on, and a store may stay as it is
abbrev pub GrowthGoesOn : Type 0
GrowthGoesOn = (first second third : Stored) → Grows first second → Grows second third → Grows first third

abbrev pub GrowthMayStop : Type 0
GrowthMayStop = (stored : Stored) → Grows stored stored

-- a frame has as many operands as it is high
abbrev pub FramesAreHigh : Type 0
FramesAreHigh = (stored : Stored) (id : FrameId) → IsFrame stored id → length (frame_of stored id).stack ≡ id.height

-- and as many locals as each one of the store
abbrev pub FramesAreWide : Type 0
FramesAreWide = (stored : Stored) (id : FrameId) → IsDeep stored → IsFrame stored id → length (frame_of stored id).locals ≡ stored.locals
