-- Right tables of types (JVMS 4.10.2): a frame for each instruction that is reached, such that every rule holds, and
-- no frame that an instruction sends to another says less than is known there.
use Rattle.std.specs.Prelude.{◌≡◌, ℕ, List, [], ◌∷◌, ◌++◌, map, filter, Option, Some, unwrap_or}
use Rattle.std.specs.List.{AllByRecursion}
use Rattle.class_file.specs.declared.record.ClassFile.{ClassFile}
use Rattle.class_tree.specs.Subtypes.{class_type}
use Rattle.body_form.specs.declared.body.Body.{Body}
use Rattle.body_form.specs.declared.body.Guard.{Guard}
use Rattle.body_form.specs.declared.op.Op.{Op}
use Rattle.body_form.specs.declared.types.VFrame.{VFrame}
use Rattle.body_form.specs.declared.types.VType.TheVariants as known
use Rattle.body_form.specs.Flow.{IsStart, covers, successors}
use Rattle.body_form.specs.Reach.{IsReached}
use Rattle.jvm_model.specs.Instructions.{throwable}
use Rattle.jvm_model.specs.TypesFrames.{IsAbove, IsKnownFrame, start_frame}
use Rattle.jvm_model.specs.TypesRules.{op_at, frame_after}

-- what is known before the instruction at a pc, if anything
abbrev pub Table : Type 0
Table = ℕ → Option VFrame

-- ---- what an instruction sends

-- a frame that is sent to the instruction at a pc
pub record Sent : Type 0 where
  pub to : ℕ
  pub frame : VFrame

-- a handler is entered with the locals of a frame, and with what it catches as the one operand
abbrev pub entered : Guard → VFrame → VFrame
entered guard frame = record { locals = frame.locals; stack = known.Ref (class_type (unwrap_or guard.class throwable)) ∷ []; pending = frame.pending }

-- once as it is before the instruction, and once as it is after it
unfoldable pub sent_to_handlers : VFrame → VFrame → List Guard → List Sent
sent_to_handlers before after [] = []
sent_to_handlers before after (guard ∷ guards) =
    record { to = guard.target; frame = entered guard before } ∷ record { to = guard.target; frame = entered guard after } ∷ sent_to_handlers before after guards

-- what the instruction at a pc sends: the frame after it to its successors, and to the handlers that cover it
abbrev pub sent_from : Body → ℕ → VFrame → VFrame → List Sent
sent_from body pc before after =
    map (λ to. record { to = to; frame = after }) (successors body.ops pc) ++ sent_to_handlers before after (filter (covers pc) body.handlers)

-- ---- right tables

-- an instruction at the pc has a frame by the table, which the frame that is sent leaves as it is
pub record IsMet (files : List ClassFile) (table : Table) (sent : Sent) : Type 0 where
  pub upper : VFrame
  pub has : table sent.to ≡ Some upper
  pub above : IsAbove files upper sent.frame

-- the rule of an instruction holds in its frame, and what it sends is met where there are instructions
pub record HoldsAt (files : List ClassFile) (body : Body) (table : Table) (pc : ℕ) (instruction : Op) (frame : VFrame) : Type 0 where
  pub after : VFrame
  pub rule : frame_after files body pc instruction frame ≡ Some after
  pub met : AllByRecursion (λ sent. IsStart body.ops sent.to → IsMet files table sent) (sent_from body pc frame after)

pub record IsRight (files : List ClassFile) (body : Body) (table : Table) : Type 0 where
  -- the frames are of types of the set, and stand at the instructions that are reached
  pub known : (pc : ℕ) (frame : VFrame) → table pc ≡ Some frame → IsKnownFrame files frame
  pub only : (pc : ℕ) (frame : VFrame) → table pc ≡ Some frame → IsStart body.ops pc × IsReached body pc
  pub reached : (pc : ℕ) → IsStart body.ops pc → IsReached body pc → (frame : VFrame) × (table pc ≡ Some frame)
  -- the start frame is sent to pc 0, and every rule holds
  pub start : IsStart body.ops 0 → IsMet files table (record { to = 0; frame = start_frame files body })
  pub rules : (pc : ℕ) (instruction : Op) (frame : VFrame) → op_at body.ops pc ≡ Some instruction → table pc ≡ Some frame → HoldsAt files body table pc instruction frame

-- a right table that says at least as much as each right one
pub record IsLeast (files : List ClassFile) (body : Body) (table : Table) : Type 0 where
  pub right : IsRight files body table
  pub least : (other : Table) → IsRight files body other → (pc : ℕ) (frame upper : VFrame) → table pc ≡ Some frame → other pc ≡ Some upper → IsAbove files upper frame
