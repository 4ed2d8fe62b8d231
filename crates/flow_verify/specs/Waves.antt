-- What is sent by the instructions at some positions, the wave of a round, and what arrives then.
use Rattle.std.specs.Prelude.{◌≡◌, ℕ, ◌<◌, Bool, List, [], ◌++◌, map, filter, length, None, Some, is_some, slice_get}
use Rattle.std.specs.Option.{option_map_or}
use Rattle.std.specs.List.{AllByRecursion, Contains, flat_map}
use Rattle.class_file.specs.declared.record.ClassFile.{ClassFile}
use Rattle.body_form.specs.declared.body.Body.{Body}
use Rattle.body_form.specs.declared.op.Op.{Op}
use Rattle.body_form.specs.declared.types.VFrame.{VFrame}
use Rattle.body_form.specs.Flow.{Ops, pc_at}
use Rattle.jvm_model.specs.TypesRules.{op_at, frame_after}
use Rattle.jvm_model.specs.TypesRight.{Sent}
use Rattle.jvm_model.specs.TypesRounds.{Arrival, Clash, arrival_of, arrive_at, sent_by}
use Rattle.type_table.specs.Frames.{Stored, IsFrame, frame_of}
use Rattle.flow_verify.specs.declared.frames.Arriving.{Arriving}
use Rattle.flow_verify.specs.KnownFrames.{Entries, frame_at}

-- ---- the rule of one instruction

-- the rule of the instruction at a position, which has this pc, does not hold in its frame
pub record IsUnruled (files : List ClassFile) (body : Body) (stored : Stored) (entries : Entries) (position pc : ℕ) : Type 0 where
  pub instruction : Op
  pub frame : VFrame
  pub here : slice_get body.ops position ≡ Some (pc, instruction)
  pub has : frame_at stored entries position ≡ Some frame
  pub fails : frame_after files body pc instruction frame ≡ None

-- a rule of the wave does not hold at this pc
abbrev pub UnruledIn : List ClassFile → Body → Stored → Entries → List ℕ → ℕ → Type 0
UnruledIn files body stored entries wave pc = (position : ℕ) × Contains wave position × IsUnruled files body stored entries position pc

-- ---- what is sent

-- what the instruction at a position sends
abbrev pub sent_at : List ClassFile → Body → Stored → Entries → ℕ → List Sent
sent_at files body stored entries position = option_map_or (sent_by files body (λ pc. frame_at stored entries position)) (slice_get body.ops position) []

-- a frame that is sent to a pc
abbrev pub sent_with : VFrame → ℕ → Sent
sent_with frame pc = record { to = pc; frame = frame }

-- an instruction is at the pc to which a frame is sent
abbrev pub is_received : Ops → Sent → Bool
is_received ops sent = is_some (op_at ops sent.to)

-- what a wave sends to instructions
abbrev pub sent_in : List ClassFile → Body → Stored → Entries → List ℕ → List Sent
sent_in files body stored entries wave = filter (is_received body.ops) (flat_map (sent_at files body stored entries) wave)

abbrev pub meaning_of : Ops → Stored → Arriving → Sent
meaning_of ops stored arriving = record { to = pc_at ops arriving.position; frame = frame_of stored arriving.frame }

-- its instruction is there, and its frame is in the store
pub record IsThere (ops : Ops) (stored : Stored) (arriving : Arriving) : Type 0 where
  pub position : arriving.position < length ops
  pub frame : IsFrame stored arriving.frame

-- those of these that are sent to instructions are added to a list
pub record Adds (ops : Ops) (stored : Stored) (sent : List Sent) (old new : List Arriving) : Type 0 where
  pub more : List Arriving
  pub is : new ≡ old ++ more
  pub there : AllByRecursion (IsThere ops stored) more
  pub means : map (meaning_of ops stored) more ≡ filter (is_received ops) sent

-- ---- what arrives

-- the merge of the frame at a position and of those of these that are sent there
abbrev pub arrival_at : List ClassFile → Ops → Stored → Entries → List Sent → ℕ → Arrival
arrival_at files ops stored entries sent position = arrive_at files (pc_at ops position) (arrival_of (frame_at stored entries position)) sent

-- frames do not merge at the instruction that has this pc
abbrev pub ClashesAt : List ClassFile → Ops → Stored → Entries → List Sent → ℕ → Type 0
ClashesAt files ops stored entries sent pc =
    (position : ℕ) × (position < length ops) × (pc_at ops position ≡ pc) × (arrival_at files ops stored entries sent position ≡ Clash)
