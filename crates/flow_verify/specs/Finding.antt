-- Frames of a store that are found for frames of types.
use Rattle.std.specs.Prelude.{◌≡◌, ℕ, Bool, false, ◌&&◌, List, Option, option_map, option_and_then, slice_get, IfSome}
use Rattle.std.specs.Option.{option_map_or}
use Rattle.class_file.specs.declared.record.ClassFile.{ClassFile}
use Rattle.body_form.specs.declared.body.Body.{Body}
use Rattle.body_form.specs.declared.types.VFrame.{VFrame}
use Rattle.body_form.specs.Flow.{goes_on}
use Rattle.jvm_model.specs.TypesRules.{frame_after, is_last}
use Rattle.type_table.specs.declared.store.FrameId.{FrameId}
use Rattle.type_table.specs.Frames.{Stored, IsFrame, frame_of}

-- the frame, if there is one, is there, and is this one
pub record IsOption (stored : Stored) (id : Option FrameId) (frame : Option VFrame) : Type 0 where
  pub there : IfSome id (IsFrame stored)
  pub is : option_map (frame_of stored) id ≡ frame

-- the frame after the instruction at a position
abbrev pub after_at : List ClassFile → Body → ℕ → VFrame → Option VFrame
after_at files body position frame = option_and_then (λ x. frame_after files body x.0 x.1 frame) (slice_get body.ops position)

-- it is the last one, and goes on
abbrev pub falls_off_at : Body → ℕ → Bool
falls_off_at body position = option_map_or (λ x. goes_on x.1 && is_last body.ops x.0) (slice_get body.ops position) false
