-- A state of the typed machine (JVMS 2.5, 2.6): values know what they are, and objects do not move.
use Rattle.std.specs.Prelude.{ℕ, Bool, ◌&&◌, nat_eq, if◌then◌else◌, List, ◌++◌, Option, Some, slice_set}
use Rattle.dialogue.specs.Answers.{Answers}
use Rattle.class_pool.specs.declared.types.MemberId.{MemberId}
use Rattle.class_pool.specs.declared.types.TypeRef.{TypeRef}
use Rattle.jvm_model.specs.State.{Value}

-- what fields hold, by the class that declares one and its position there
abbrev pub Fields : Type 0
Fields = MemberId → Option Value

-- an object has a class and its fields, an array its type and its elements
pub data Object : Type 0 where
  Instance : (class : ℕ) (fields : Fields) → Object
  Elements : (array : TypeRef) (elements : List Value) → Object

-- An activation: a method, a pc, the locals, set or not, and the operands, the top first. One that waits for a callee
-- has the pc of its call.
pub record Frame : Type 0 where
  pub method : MemberId
  pub pc : ℕ
  pub locals : List (Option Value)
  pub operands : List Value

-- the frames, the youngest first; the objects by their names 0, 1, 2 and so on; the statics; and the answers to the gets
-- that are still to come
pub record State : Type 0 where
  pub frames : List Frame
  pub objects : List Object
  pub statics : Fields
  pub answers : Answers

-- ---- fields

abbrev pub is_member : MemberId → MemberId → Bool
is_member a b = nat_eq a.class b.class && nat_eq a.member b.member

-- the fields with one set
abbrev pub with_field : Fields → MemberId → Value → Fields
with_field fields id value other = if is_member id other then Some value else fields other

-- ---- states

-- the state with these frames
abbrev pub with_frames : State → List Frame → State
with_frames state frames = record { frames = frames; objects = state.objects; statics = state.statics; answers = state.answers }

-- the state with an object more, whose name is the number of those before it
abbrev pub with_objects : State → List Object → State
with_objects state objects = record { frames = state.frames; objects = state.objects ++ objects; statics = state.statics; answers = state.answers }

-- the state with another object of a name
abbrev pub with_object : State → ℕ → Object → State
with_object state name object = record { frames = state.frames; objects = slice_set state.objects name object; statics = state.statics; answers = state.answers }

abbrev pub with_static : State → MemberId → Value → State
with_static state id value = record { frames = state.frames; objects = state.objects; statics = with_field state.statics id value; answers = state.answers }

abbrev pub with_answers : State → Answers → State
with_answers state answers = record { frames = state.frames; objects = state.objects; statics = state.statics; answers = answers }
