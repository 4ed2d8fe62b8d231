-- The parts of the typed machine's moves (JVMS 2.11, 6.5): going on, jumps, objects that are made, and throws.
use Rattle.std.specs.Prelude.{ℕ, Bool, true, false, nat_lt, if◌then◌else◌, List, [], ◌∷◌, length, Option, Some, None, option_and_then, slice_get}
use Rattle.std.specs.Option.{option_map_or}
use Rattle.account.specs.Account.{Event, Need, Move, Does, Stops, Stuck}
use Rattle.class_tree.specs.AccessTests.{is_subclass}
use Rattle.body_form.specs.declared.body.Guard.{Guard}
use Rattle.jvm_model.specs.State.{Value, Whole, Null, Name}
use Rattle.typed_machine.specs.TypedState.{Object, Frame, State, with_frames, with_objects}
use Rattle.typed_machine.specs.TypedWorld.{World, body_among, guards_at, new_object, object_cells}

-- the oldest frame, which is main's, returned, or no frame handled what was thrown, which is of this class
pub data Ending : Type 0 where
  Done : Ending
  Uncaught : (class : ℕ) → Ending

abbrev pub TypedMove : Type 0
TypedMove = Move State Ending

-- ---- needs

abbrev pub no_need : Need
no_need = record { placed = None; tick = false; frame = None }

abbrev pub tick_need : Need
tick_need = record { placed = None; tick = true; frame = None }

abbrev pub place_need : ℕ → Need
place_need cells = record { placed = Some cells; tick = false; frame = None }

abbrev pub call_need : ℕ → Need
call_need cells = record { placed = None; tick = true; frame = Some cells }

-- ---- going on

-- a frame at a pc with these operands
abbrev pub at_pc : Frame → ℕ → List Value → Frame
at_pc frame pc operands = record { method = frame.method; pc = pc; locals = frame.locals; operands = operands }

-- the frame goes on at the next pc, where there is one
abbrev pub does_next : Need → List Event → State → Frame → List Frame → Option ℕ → List Value → TypedMove
does_next need events state frame others None operands = Stuck
does_next need events state frame others (Some next) operands = Does need events (with_frames state (at_pc frame next operands ∷ others))

abbrev pub goes_on : State → Frame → List Frame → Option ℕ → List Value → TypedMove
goes_on state frame others next operands = does_next no_need [] state frame others next operands

-- a jump that is taken; one to a target that is not after its instruction is a tick
abbrev pub jumps : State → Frame → List Frame → ℕ → List Value → TypedMove
jumps state frame others target operands =
    Does (if nat_lt frame.pc target then no_need else tick_need) [] (with_frames state (at_pc frame target operands ∷ others))

abbrev pub branches : Bool → State → Frame → List Frame → ℕ → Option ℕ → List Value → TypedMove
branches taken state frame others target next operands = if taken then jumps state frame others target operands else goes_on state frame others next operands

-- ---- objects

-- the object of a name
abbrev pub object_at : State → ℕ → Option Object
object_at state name = slice_get state.objects name

-- an object of some cells is made, and its name is pushed
abbrev pub makes : State → Frame → List Frame → Option ℕ → List Value → ℕ → Object → TypedMove
makes state frame others next operands cells object =
    does_next (place_need cells) [] (with_objects state (object ∷ [])) frame others next (Name (length state.objects) ∷ operands)

-- ---- throws (JVMS 2.10)

-- the row handles what is of a class
abbrev pub handles : World → ℕ → Guard → Bool
handles world class guard = option_map_or (is_subclass world.files class) guard.class true

unfoldable pub first_handler : World → ℕ → List Guard → Option Guard
first_handler world class [] = None
first_handler world class (guard ∷ guards) = if handles world class guard then Some guard else first_handler world class guards

-- the first row that covers the frame's pc and handles it
abbrev pub handler_of : World → ℕ → Frame → Option Guard
handler_of world class frame = option_and_then (λ body. first_handler world class (guards_at body frame.pc)) (body_among world.bodies frame.method)

-- The youngest frame that handles it goes on at its handler, with it as the one operand; younger frames leave.
unfoldable pub caught : World → ℕ → ℕ → List Frame → Option (List Frame)
caught world class name [] = None
caught world class name (frame ∷ others) =
    option_map_or (λ (guard : Guard). Some (at_pc frame guard.target (Name name ∷ []) ∷ others)) (handler_of world class frame) (caught world class name others)

-- a throw that is caught is a tick; the search stands before it
abbrev pub after_search : Option ℕ → State → ℕ → Option (List Frame) → TypedMove
after_search placed state class (Some frames) = Does (record { placed = placed; tick = true; frame = None }) [] (with_frames state frames)
after_search placed state class None = Stops (record { placed = placed; tick = false; frame = None }) [] (Uncaught class)

-- an object that is there is thrown
abbrev pub throws_object : World → State → List Frame → ℕ → ℕ → TypedMove
throws_object world state frames class name = after_search None state class (caught world class name frames)

-- the machine throws an object of a class, which it makes
abbrev pub throws : World → State → List Frame → ℕ → TypedMove
throws world state frames class =
    after_search (Some (object_cells world.files class)) (with_objects state (new_object world.files class ∷ [])) class (caught world class (length state.objects) frames)

-- ---- what the machine throws, by the number of its class

abbrev pub arithmetic_exception : ℕ
arithmetic_exception = 4

abbrev pub null_pointer_exception : ℕ
null_pointer_exception = 5

abbrev pub class_cast_exception : ℕ
class_cast_exception = 6

abbrev pub array_store_exception : ℕ
array_store_exception = 7

abbrev pub negative_array_size_exception : ℕ
negative_array_size_exception = 8

abbrev pub array_index_out_of_bounds_exception : ℕ
array_index_out_of_bounds_exception = 10

abbrev pub incompatible_class_change_error : ℕ
incompatible_class_change_error = 13

-- ---- a reference

-- what is done with a reference: null throws NullPointerException, and of a name the object is looked up
abbrev pub with_object_of : World → State → List Frame → Value → (ℕ → Object → TypedMove) → TypedMove
with_object_of world state frames Null use_object = throws world state frames null_pointer_exception
with_object_of world state frames (Name name) use_object = option_map_or (use_object name) (object_at state name) Stuck
with_object_of world state frames (Whole number) use_object = Stuck
