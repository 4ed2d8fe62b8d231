-- The parts of which each move of typed code is made: objects that grow, a frame that goes on, and throws.
use Rattle.std.specs.Prelude.{◌≡◌, ℕ, List, ◌∷◌, Some, slice_get}
use Rattle.std.specs.List.{AllByRecursion, Contains}
use Rattle.class_pool.specs.declared.descriptor.Kind.{Kind}
use Rattle.class_pool.specs.declared.types.TypeRef.{TypeRef}
use Rattle.body_form.specs.declared.body.Body.{Body}
use Rattle.body_form.specs.declared.op.Op.{Op}
use Rattle.body_form.specs.declared.types.VFrame.{VFrame}
use Rattle.body_form.specs.declared.types.VType.{VType}
use Rattle.body_form.specs.Flow.{successors}
use Rattle.jvm_model.specs.State.{Value}
use Rattle.jvm_model.specs.TypesFrames.{IsKnownFrame}
use Rattle.jvm_model.specs.TypesRules.{op_at, frame_after}
use Rattle.typed_machine.specs.TypedMoves.{at_pc, throws, throws_object}
use Rattle.typed_machine.specs.TypedState.{Fields, Object, Instance, Elements, Frame, State}
use Rattle.typed_machine.specs.TypedWorld.{World, body_among}
use Rattle.type_safety.specs.Facts.{IsConcrete, ClassFits}
use Rattle.type_safety.specs.Fitting.{Tables, ValueFits, FrameFits, ObjectFits, KindFits, TypeFits, OthersWait, YoungestFits, StateFits}
use Rattle.type_safety.specs.Safety.{IsSet, MoveFits}

-- ---- objects

-- two objects are instances of one class, or arrays of one type
abbrev pub SameShape : Object → Object → Type 0
SameShape (Instance class fields) (Instance other more) = class ≡ other
SameShape (Elements array elements) (Elements other more) = array ≡ other
SameShape a b = ⊥

-- an object is there
pub record StaysAs (new : List Object) (name : ℕ) (object : Object) : Type 0 where
  pub other : Object
  pub there : slice_get new name ≡ Some other
  pub same : SameShape object other

-- each object that was there is there, of the same class or type
abbrev pub Grown : List Object → List Object → Type 0
Grown old new = (name : ℕ) (object : Object) → slice_get old name ≡ Some object → StaysAs new name object

-- what fits goes on to fit
pub record GrownFits (world : World) (tables : Tables) (old new : List Object) : Type 0 where
  pub value : (body : Body) (value : Value) (type : VType) → ValueFits world old body value type → ValueFits world new body value type
  pub frame : (body : Body) (frame : Frame) (types : VFrame) → FrameFits world old body frame types → FrameFits world new body frame types
  pub kind : (kind : Kind) (value : Value) → KindFits world old kind value → KindFits world new kind value
  pub element : (type : TypeRef) (value : Value) → TypeFits world old type value → TypeFits world new type value
  pub others : (above : Frame) (others : List Frame) → OthersWait world tables old above others → OthersWait world tables new above others

abbrev pub GrowingFits : Type 0
GrowingFits = (world : World) (tables : Tables) (old new : List Object) → Grown old new → GrownFits world tables old new

-- ---- going on

-- an instruction of a body, with the types before and after it
pub record StandsAt (world : World) (tables : Tables) (frame : Frame) (body : Body) (instruction : Op) (types after : VFrame) : Type 0 where
  pub found : body_among world.bodies frame.method ≡ Some body
  pub at : op_at body.ops frame.pc ≡ Some instruction
  pub known : tables frame.method frame.pc ≡ Some types
  pub of_set : IsKnownFrame world.files types
  pub rule : frame_after world.files body frame.pc instruction types ≡ Some after

-- A frame that fits what its instruction leaves fits its method's types at each pc to which the instruction leads,
-- where the objects fit.
abbrev pub LeavingFits : Type 0
LeavingFits = (world : World) (tables : Tables) → IsSet world tables → (objects : List Object) → AllByRecursion (ObjectFits world objects) objects → (frame next : Frame) (body : Body) (instruction : Op) (types after : VFrame)
    → StandsAt world tables frame body instruction types after → next.method ≡ frame.method → FrameFits world objects body next after
    → (to : ℕ) → Contains (successors body.ops frame.pc) to → YoungestFits world tables objects (at_pc next to next.operands)

-- the youngest frame of a state that fits stands at an instruction, whose rule holds
pub record Stands (world : World) (tables : Tables) (state : State) (frame : Frame) : Type 0 where
  pub body : Body
  pub instruction : Op
  pub types : VFrame
  pub after : VFrame
  pub is : StandsAt world tables frame body instruction types after
  pub has : FrameFits world state.objects body frame types

abbrev pub FittingStands : Type 0
FittingStands = (world : World) (tables : Tables) → IsSet world tables → (state : State) (frame : Frame) (others : List Frame) → state.frames ≡ frame ∷ others → StateFits world tables state → Stands world tables state frame

-- ---- throws

-- a throw in the youngest frame of a state that fits: of an object of a class that the machine makes, which is a
-- Throwable of the library, or of one that is there
abbrev pub ThrowsFit : Type 0
ThrowsFit = (world : World) (tables : Tables) → IsSet world tables → (state : State) → StateFits world tables state → (class : ℕ) → IsConcrete world class → ClassFits world class 1
    → MoveFits world tables (throws world state state.frames class)

abbrev pub ObjectThrowsFit : Type 0
ObjectThrowsFit = (world : World) (tables : Tables) → IsSet world tables → (state : State) → StateFits world tables state → (class name : ℕ) (fields : Fields)
    → slice_get state.objects name ≡ Some (Instance class fields) → ClassFits world class 1 → MoveFits world tables (throws_object world state state.frames class name)

-- all of them
pub record AreParts : Type 0 where
  pub growing : GrowingFits
  pub leaving : LeavingFits
  pub stands : FittingStands
  pub throwing : ThrowsFit
  pub object_throwing : ObjectThrowsFit
