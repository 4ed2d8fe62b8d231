-- What holds of frames of types and of the typing rules in a set that the phases accept: merges are joins, and a
-- rule that holds in a frame holds in each frame that says more, and sends what says more.
use Rattle.std.specs.Prelude.{◌≡◌, ◌⊎◌, ℕ, true, false, List, Some, None}
use Rattle.std.specs.List.{AllByRecursion, Contains}
use Rattle.class_file.specs.declared.record.ClassFile.{ClassFile}
use Rattle.class_tree.specs.Tree.{Gathers}
use Rattle.body_form.specs.declared.body.Body.{Body}
use Rattle.body_form.specs.declared.body.Guard.{Guard}
use Rattle.body_form.specs.declared.op.Op.{Op}
use Rattle.body_form.specs.declared.types.VFrame.{VFrame}
use Rattle.body_form.specs.declared.types.VType.{VType}
use Rattle.jvm_model.specs.TypesFrames.{may_be_operand, merge_frames, start_frame, IsAbove, IsKnownFrame}
use Rattle.jvm_model.specs.TypesNames.{IsOfSet}
use Rattle.jvm_model.specs.TypesRules.{is_this, op_at, frame_after}
use Rattle.jvm_model.specs.TypesRight.{entered}

-- no type is that of an object on which a constructor has yet to call another one
abbrev pub LacksThis : List VType → Type 0
LacksThis types = AllByRecursion (λ type. is_this type ≡ false) types

-- The types are of the set, something is known of each operand, and a constructor's own object is not yet
-- constructed only where it has yet to call another constructor.
pub record IsProper (files : List ClassFile) (frame : VFrame) : Type 0 where
  pub known : IsKnownFrame files frame
  pub operands : AllByRecursion (λ type. may_be_operand type ≡ true) frame.stack
  pub pending : (frame.pending ≡ true) ⊎ (LacksThis frame.locals × LacksThis frame.stack)

-- ---- merges

-- a frame is the merge of two: it is above both, and each other that is is above it
abbrev pub MergesAreAbove : Type 0
MergesAreAbove = (files : List ClassFile) → Gathers files None → (f g h : VFrame) → IsKnownFrame files f → IsKnownFrame files g
    → merge_frames files f g ≡ Some h → IsAbove files h f × IsAbove files h g × IsKnownFrame files h

abbrev pub MergesAreLeast : Type 0
MergesAreLeast = (files : List ClassFile) → Gathers files None → (f g upper : VFrame) → IsKnownFrame files f → IsKnownFrame files g → IsKnownFrame files upper
    → IsAbove files upper f → IsAbove files upper g → (h : VFrame) × (merge_frames files f g ≡ Some h) × IsAbove files upper h

abbrev pub AboveGoesOn : Type 0
AboveGoesOn = (files : List ClassFile) → Gathers files None → (f g h : VFrame) → IsKnownFrame files f → IsKnownFrame files g → IsKnownFrame files h
    → IsAbove files f g → IsAbove files g h → IsAbove files f h

abbrev pub AboveIsOneWay : Type 0
AboveIsOneWay = (files : List ClassFile) → Gathers files None → (f g : VFrame) → IsKnownFrame files f → IsKnownFrame files g
    → IsAbove files f g → IsAbove files g f → f ≡ g

abbrev pub ProperIsAbove : Type 0
ProperIsAbove = (files : List ClassFile) → Gathers files None → (f : VFrame) → IsProper files f → IsAbove files f f

-- ---- proper frames

abbrev pub StartIsProper : Type 0
StartIsProper = (files : List ClassFile) → Gathers files None → (body : Body) → IsOfSet files body → IsProper files (start_frame files body)

abbrev pub AfterIsProper : Type 0
AfterIsProper = (files : List ClassFile) → Gathers files None → (body : Body) → IsOfSet files body → (pc : ℕ) (instruction : Op) (frame after : VFrame)
    → op_at body.ops pc ≡ Some instruction → IsProper files frame → frame_after files body pc instruction frame ≡ Some after → IsProper files after

abbrev pub EnteredIsProper : Type 0
EnteredIsProper = (files : List ClassFile) → Gathers files None → (body : Body) → IsOfSet files body → (guard : Guard) (frame : VFrame)
    → Contains body.handlers guard → IsProper files frame → IsProper files (entered guard frame)

abbrev pub MergeIsProper : Type 0
MergeIsProper = (files : List ClassFile) → Gathers files None → (f g h : VFrame) → IsProper files f → IsProper files g → merge_frames files f g ≡ Some h → IsProper files h

-- ---- rules

-- the rule of an instruction in a frame and in one above it
abbrev pub RulesAreMonotone : Type 0
RulesAreMonotone = (files : List ClassFile) → Gathers files None → (body : Body) → IsOfSet files body → (pc : ℕ) (instruction : Op) (upper lower above : VFrame)
    → op_at body.ops pc ≡ Some instruction → IsKnownFrame files upper → IsProper files lower → IsAbove files upper lower
    → frame_after files body pc instruction upper ≡ Some above
    → (after : VFrame) × (frame_after files body pc instruction lower ≡ Some after) × IsAbove files above after

abbrev pub EnteredIsAbove : Type 0
EnteredIsAbove = (files : List ClassFile) → Gathers files None → (body : Body) → IsOfSet files body → (guard : Guard) (upper lower : VFrame)
    → Contains body.handlers guard → IsKnownFrame files upper → IsProper files lower → IsAbove files upper lower → IsAbove files (entered guard upper) (entered guard lower)

-- the frame after an instruction is of types of the set, whatever else is so of the one before it
abbrev pub AfterIsKnown : Type 0
AfterIsKnown = (files : List ClassFile) → Gathers files None → (body : Body) → IsOfSet files body → (pc : ℕ) (instruction : Op) (frame after : VFrame)
    → op_at body.ops pc ≡ Some instruction → IsKnownFrame files frame → frame_after files body pc instruction frame ≡ Some after → IsKnownFrame files after
