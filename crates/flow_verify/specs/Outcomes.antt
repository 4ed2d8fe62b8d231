-- What a round does, and what rounds come to.
use Rattle.std.specs.Prelude.{◌≡◌, ℕ, suc, ◌<◌, ◌⊎◌, List, length, get_or, Option, None, IfSome}
use Rattle.std.specs.List.{AllByRecursion, Contains}
use Rattle.class_file.specs.declared.record.ClassFile.{ClassFile}
use Rattle.body_form.specs.declared.body.Body.{Body}
use Rattle.body_form.specs.Flow.{pc_at}
use Rattle.jvm_model.specs.TypesRight.{Table}
use Rattle.jvm_model.specs.TypesRounds.{arrival_of, first_table, table_before, IsFailing}
use Rattle.type_rounds.specs.RoundLaws.{IsQuiet}
use Rattle.type_table.specs.Frames.{IsFrame}
use Rattle.flow_verify.specs.declared.frames.Frames.{Frames}
use Rattle.flow_verify.specs.declared.rounds.Outcome.{Outcome}
use Rattle.flow_verify.specs.declared.rounds.Outcome.TheVariants.{Quiet, Failing}
use Rattle.flow_verify.specs.KnownFrames.{known_at, AreKept}
use Rattle.flow_verify.specs.Lowest.{IsLowest}
use Rattle.flow_verify.specs.Waves.{sent_in, arrival_at, UnruledIn, ClashesAt}

-- a round fails at this pc, by what its wave sends
abbrev pub WaveFails : List ClassFile → Body → Frames → List ℕ → ℕ → Type 0
WaveFails files body frames wave pc =
    UnruledIn files body frames.store frames.known.items wave pc
    ⊎ ClashesAt files body.ops frames.store frames.known.items (sent_in files body frames.store frames.known.items wave) pc

-- At first the frame of the start is known at pc 0, which is the first wave, and no other.
pub record IsFirst (files : List ClassFile) (body : Body) (frames : Frames) (wave : List ℕ) : Type 0 where
  pub kept : AreKept files (length body.ops) 0 frames.store frames.known.items
  pub same : (position : ℕ) → position < length body.ops → known_at frames position ≡ first_table files body (pc_at body.ops position)
  pub within : AllByRecursion (λ position. position < length body.ops) wave
  pub all : (position : ℕ) → position < length body.ops → Contains wave position ⊎ (known_at frames position ≡ None)

-- A round takes what is known to what is known then, and gives the lowest pc at which it fails, if it does, and the
-- next wave.
pub record IsRound (files : List ClassFile) (body : Body) (round : ℕ) (before after : Frames) (wave next : List ℕ) (failing : Option ℕ) : Type 0 where
  pub kept : AreKept files (length body.ops) (suc round) after.store after.known.items
  pub fails : IsLowest (WaveFails files body before wave) failing
  pub merged : failing ≡ None → (position : ℕ) → position < length body.ops
      → arrival_at files body.ops before.store before.known.items (sent_in files body before.store before.known.items wave) position ≡ arrival_of (known_at after position)
  pub within : AllByRecursion (λ position. position < length body.ops) next
  pub changed : (position : ℕ) → position < length body.ops → Contains next position ⊎ (known_at after position ≡ known_at before position)

-- the frames that are known are those of a table
pub record AreOf (body : Body) (table : Table) (frames : Frames) : Type 0 where
  pub count : length frames.known.items ≡ length body.ops
  pub there : (position : ℕ) → IfSome (get_or frames.known.items position None) (λ known. IsFrame frames.store known.frame)
  pub same : (position : ℕ) → position < length body.ops → known_at frames position ≡ table (pc_at body.ops position)

-- rounds come to a quiet one, or to one that fails
abbrev pub IsOutcome : List ClassFile → Body → Outcome → Type 0
IsOutcome files body (Quiet frames) = (round : ℕ) × IsQuiet files body round × AreOf body (table_before files body round) frames
IsOutcome files body (Failing pc) = IsFailing files body pc
