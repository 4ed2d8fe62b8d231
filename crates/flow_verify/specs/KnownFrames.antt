-- What the frames that are known so far say: one for each position at which there is one, in a store.
use Rattle.std.specs.Prelude.{◌≡◌, ℕ, ◌≤◌, List, Option, None, IfSome, length, get_or, option_map}
use Rattle.std.specs.List.{Contains}
use Rattle.class_file.specs.declared.record.ClassFile.{ClassFile}
use Rattle.body_form.specs.declared.types.VFrame.{VFrame}
use Rattle.type_order.specs.OrderLaws.{IsProper}
use Rattle.type_table.specs.Frames.{Stored, IsFrame, frame_of}
use Rattle.type_table.specs.declared.store.FrameId.{FrameId}
use Rattle.flow_verify.specs.declared.frames.Frames.{Frames}
use Rattle.flow_verify.specs.declared.frames.Known.{Known}

-- what is known by position
abbrev pub Entries : Type 0
Entries = List (Option Known)

-- the frame that is known at a position
abbrev pub frame_at : Stored → Entries → ℕ → Option VFrame
frame_at stored entries position = option_map (λ known. frame_of stored known.frame) (get_or entries position None)

-- and in frames with their store
abbrev pub known_at : Frames → ℕ → Option VFrame
known_at frames position = frame_at frames.store frames.known.items position

-- a frame is in the store and is proper
pub record IsSound (files : List ClassFile) (stored : Stored) (id : FrameId) : Type 0 where
  pub there : IsFrame stored id
  pub proper : IsProper files (frame_of stored id)

-- each frame that is known is sound
abbrev pub AreSound : List ClassFile → Stored → Entries → Type 0
AreSound files stored entries = (position : ℕ) → IfSome (get_or entries position None) (λ known. IsSound files stored known.frame)

-- there are so many entries, which are sound, and no later round than this one changed one
pub record AreKept (files : List ClassFile) (positions round : ℕ) (stored : Stored) (entries : Entries) : Type 0 where
  pub count : length entries ≡ positions
  pub sound : AreSound files stored entries
  pub last : (position : ℕ) → IfSome (get_or entries position None) (λ known. known.round ≤ round)

-- each position that a round changed is in a list
abbrev pub AreListed : ℕ → Entries → List ℕ → Type 0
AreListed round entries list = (position : ℕ) → IfSome (get_or entries position None) (λ known. known.round ≡ round → Contains list position)
