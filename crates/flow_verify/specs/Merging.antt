-- What frames that arrive make of those that are known.
use Rattle.std.specs.Prelude.{◌≡◌, ℕ, ◌<◌, ◌⊎◌, ◌≢◌, List, length, Option, None, Some}
use Rattle.std.specs.List.{Contains}
use Rattle.class_file.specs.declared.record.ClassFile.{ClassFile}
use Rattle.body_form.specs.declared.types.VFrame.{VFrame}
use Rattle.body_form.specs.Flow.{Ops, pc_at}
use Rattle.jvm_model.specs.TypesRight.{Sent}
use Rattle.jvm_model.specs.TypesRounds.{Clash, arrival_of, arrives}
use Rattle.type_table.specs.Frames.{Grows, frame_of}
use Rattle.flow_verify.specs.declared.frames.Arriving.{Arriving}
use Rattle.flow_verify.specs.declared.frames.Frames.{Frames}
use Rattle.flow_verify.specs.KnownFrames.{known_at, AreKept, AreListed}
use Rattle.flow_verify.specs.Lowest.{IsLowest}
use Rattle.flow_verify.specs.Waves.{arrival_at, ClashesAt}

-- a list has a position besides
pub record IsListed (position : ℕ) (old new : List ℕ) : Type 0 where
  pub has : Contains new position
  pub keeps : (other : ℕ) → Contains old other → Contains new other
  pub only : (other : ℕ) → Contains new other → Contains old other ⊎ (position ≡ other)

-- what arrives at a position with one frame more: it is known then, or the frames clash at this pc
abbrev pub ArrivesAt : List ClassFile → ℕ → Option VFrame → VFrame → Option VFrame → Option ℕ → Type 0
ArrivesAt files at before frame after None = arrives files (arrival_of before) frame ≡ arrival_of after
ArrivesAt files at before frame after (Some pc) = (pc ≡ at) × (arrives files (arrival_of before) frame ≡ Clash)

-- a frame has arrived at its position, and nowhere else; a list has the position if its frame changed
pub record HasArrived (files : List ClassFile) (ops : Ops) (arriving : Arriving) (before after : Frames) (old new : List ℕ) (clash : Option ℕ) : Type 0 where
  pub here : ArrivesAt files (pc_at ops arriving.position) (known_at before arriving.position) (frame_of before.store arriving.frame) (known_at after arriving.position) clash
  pub others : (position : ℕ) → position ≢ arriving.position → known_at after position ≡ known_at before position
  pub keeps : (position : ℕ) → Contains old position → Contains new position
  pub only : (position : ℕ) → Contains new position → Contains old position ⊎ (arriving.position ≡ position)
  pub changed : Contains new arriving.position ⊎ (known_at after arriving.position ≡ known_at before arriving.position)

-- All these have arrived. A list has the positions whose frames changed, and the lowest pc at which frames clash is
-- known; where they do not, the merge is.
pub record HaveArrived (files : List ClassFile) (ops : Ops) (round : ℕ) (sent : List Sent) (before after : Frames) (wave : List ℕ) (clash : Option ℕ) : Type 0 where
  pub grows : Grows before.store after.store
  pub kept : AreKept files (length ops) round after.store after.known.items
  pub listed : AreListed round after.known.items wave
  pub clashes : IsLowest (ClashesAt files ops before.store before.known.items sent) clash
  pub merged : (position : ℕ) → position < length ops
      → (arrival_at files ops before.store before.known.items sent position ≡ Clash) ⊎ (arrival_at files ops before.store before.known.items sent position ≡ arrival_of (known_at after position))
  pub within : (position : ℕ) → Contains wave position → position < length ops
  pub changed : (position : ℕ) → Contains wave position ⊎ (known_at after position ≡ known_at before position)
