-- The forms of lemmas on moves: the move of an instruction, from a state that fits, fits, and so does a frame of a method
-- that starts.
use Rattle.std.specs.Prelude.{◌≡◌, List, ◌∷◌, Some}
use Rattle.std.specs.List.{AllByRecursion}
use Rattle.body_form.specs.declared.body.Body.{Body}
use Rattle.body_form.specs.declared.op.Op.{Op}
use Rattle.body_form.specs.declared.types.VFrame.{VFrame}
use Rattle.jvm_model.specs.TypesFrames.{start_frame}
use Rattle.typed_machine.specs.TypedState.{Object, Frame, State}
use Rattle.typed_machine.specs.TypedStep.{move_of}
use Rattle.typed_machine.specs.TypedWorld.{World, body_among, pc_after}
use Rattle.type_safety.specs.Fitting.{Tables, ObjectFits, FrameFits, YoungestFits, StateFits}
use Rattle.type_safety.specs.Parts.{AreParts, StandsAt}
use Rattle.type_safety.specs.Safety.{IsSet, MoveFits}

abbrev pub MoveLemma : Op → Type 0
MoveLemma op =
    (parts : AreParts) (world : World) (tables : Tables) → IsSet world tables → (state : State) (frame : Frame) (others : List Frame) → state.frames ≡ frame ∷ others → StateFits world tables state
    → (body : Body) (types after : VFrame) → StandsAt world tables frame body op types after → FrameFits world state.objects body frame types
    → MoveFits world tables (move_of world state frame others body (pc_after body.ops frame.pc) op)

-- A frame that fits its method's start frame fits the method's types at pc 0, where the objects fit.
abbrev pub StartingFits : Type 0
StartingFits = (world : World) (tables : Tables) → IsSet world tables → (objects : List Object) → AllByRecursion (ObjectFits world objects) objects → (frame : Frame) (body : Body) → body_among world.bodies frame.method ≡ Some body → frame.pc ≡ 0
    → FrameFits world objects body frame (start_frame world.files body) → YoungestFits world tables objects frame
