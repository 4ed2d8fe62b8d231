-- Where a body has no right table: the failing pc, which is found by rounds. Each round starts from what is known so
-- far, and merges into it what every instruction sends.
use Rattle.std.specs.Prelude.{◌≡◌, ℕ, zero, suc, ◌<◌, nat_eq, if◌then◌else◌, List, [], ◌∷◌, ◌++◌, Option, Some, None}
use Rattle.std.specs.Option.{option_map_or}
use Rattle.class_file.specs.declared.record.ClassFile.{ClassFile}
use Rattle.body_form.specs.declared.body.Body.{Body}
use Rattle.body_form.specs.declared.op.Op.{Op}
use Rattle.body_form.specs.declared.types.VFrame.{VFrame}
use Rattle.body_form.specs.Flow.{Ops, IsStart}
use Rattle.jvm_model.specs.TypesFrames.{merge_frames, start_frame}
use Rattle.jvm_model.specs.TypesRules.{op_at, frame_after}
use Rattle.jvm_model.specs.TypesRight.{Table, Sent, sent_from}

-- ---- what arrives at an instruction

-- no frame, frames that do not merge, or their merge
pub data Arrival : Type 0 where
  Nothing : Arrival
  Clash : Arrival
  Merged : (frame : VFrame) → Arrival

abbrev pub arrival_of : Option VFrame → Arrival
arrival_of None = Nothing
arrival_of (Some frame) = Merged frame

abbrev pub or_clash : Option VFrame → Arrival
or_clash None = Clash
or_clash (Some frame) = Merged frame

-- one frame more
abbrev pub arrives : List ClassFile → Arrival → VFrame → Arrival
arrives files Nothing frame = Merged frame
arrives files Clash frame = Clash
arrives files (Merged other) frame = or_clash (merge_frames files other frame)

-- those of these that are sent to the pc
unfoldable pub arrive_at : List ClassFile → ℕ → Arrival → List Sent → Arrival
arrive_at files pc arrival [] = arrival
arrive_at files pc arrival (sent ∷ rest) = arrive_at files pc (if nat_eq sent.to pc then arrives files arrival sent.frame else arrival) rest

-- ---- what all instructions send

-- an instruction without a frame sends nothing, nor does one whose rule does not hold
abbrev pub sent_by : List ClassFile → Body → Table → ℕ × Op → List Sent
sent_by files body table x =
    option_map_or (λ frame. option_map_or (sent_from body x.0 frame) (frame_after files body x.0 x.1 frame) []) (table x.0) []

unfoldable pub sent_by_each : List ClassFile → Body → Table → Ops → List Sent
sent_by_each files body table [] = []
sent_by_each files body table (x ∷ ops) = sent_by files body table x ++ sent_by_each files body table ops

-- the merge of the frame at a pc and of all that are sent there
abbrev pub arrival : List ClassFile → Body → Table → ℕ → Arrival
arrival files body table pc = arrive_at files pc (arrival_of (table pc)) (sent_by_each files body table body.ops)

-- ---- rounds

-- at first the start frame is known, and no other
abbrev pub first_table : List ClassFile → Body → Table
first_table files body pc = if nat_eq pc 0 then Some (start_frame files body) else None

abbrev pub frame_in : Arrival → Option VFrame
frame_in (Merged frame) = Some frame
frame_in _ = None

-- what is known after a round
abbrev pub next_table : List ClassFile → Body → Table → Table
next_table files body table pc = frame_in (arrival files body table pc)

-- what is known before each round
unfoldable pub table_before : List ClassFile → Body → ℕ → Table
table_before files body zero = first_table files body
table_before files body (suc round) = next_table files body (table_before files body round)

-- A round fails at an instruction whose rule does not hold in its frame, and where frames do not merge.
pub data FailsAt (files : List ClassFile) (body : Body) (table : Table) (pc : ℕ) : Type 0 where
  IsRuled : (instruction : Op) (frame : VFrame) → op_at body.ops pc ≡ Some instruction → table pc ≡ Some frame → frame_after files body pc instruction frame ≡ None → FailsAt files body table pc
  IsMerged : IsStart body.ops pc → arrival files body table pc ≡ Clash → FailsAt files body table pc

-- The failing pc is the lowest at which the first round that fails does so.
pub record IsFailing (files : List ClassFile) (body : Body) (pc : ℕ) : Type 0 where
  pub round : ℕ
  pub earlier : (other : ℕ) → other < round → (at : ℕ) → FailsAt files body (table_before files body other) at → ⊥
  pub fails : FailsAt files body (table_before files body round) pc
  pub lowest : (at : ℕ) → at < pc → FailsAt files body (table_before files body round) at → ⊥
