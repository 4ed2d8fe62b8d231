-- The parts of moves keep objects: going on, jumps, objects that are made, and throws.
use Rattle.std.proofs.Common.{◌≡◌, ℕ, Bool, true, false, List, [], ◌∷◌, Option, Some, None, refl}
use Rattle.std.specs.Prelude.{if◌then◌else◌}
use Rattle.std.specs.Option.{option_map_or}
use Rattle.account.specs.Account.{Event, Need, Stuck}
use Rattle.jvm_model.specs.State.{Value, Whole, Null, Name}
use Rattle.typed_machine.specs.TypedMoves.{TypedMove, does_next, goes_on, jumps, branches, object_at, caught, after_search, throws_object, throws, with_object_of, no_need, place_need}
use Rattle.typed_machine.specs.TypedState.{Object, Frame, State, with_objects}
use Rattle.typed_machine.specs.TypedWorld.{World, object_cells, new_object}
use Rattle.typed_machine.proofs.KeptObjects.{AreKept, Keeps, kept_itself, kept_append}

pub next_keeps : (objects : List Object) (need : Need) (events : List Event) (state : State) (frame : Frame) (others : List Frame) (next : Option ℕ) (operands : List Value)
    → AreKept objects state.objects → Keeps objects (does_next need events state frame others next operands)
next_keeps objects need events state frame others None operands kept = tt
next_keeps objects need events state frame others (Some next) operands kept = kept

-- one of two moves
pub either_keeps : (objects : List Object) (b : Bool) (first second : TypedMove) → Keeps objects first → Keeps objects second → Keeps objects (if b then first else second)
either_keeps objects true first second one two = one
either_keeps objects false first second one two = two

-- what is done with a value that may be missing
pub option_keeps : {A : Type 0} (objects : List Object) (option : Option A) (use_value : A → TypedMove) → ((value : A) → option ≡ Some value → Keeps objects (use_value value))
    → Keeps objects (option_map_or use_value option Stuck)
option_keeps objects None use_value keeps = tt
option_keeps objects (Some value) use_value keeps = keeps value refl

module _ (world : World) (state : State) where
  pub going_on_keeps : (frame : Frame) (others : List Frame) (next : Option ℕ) (operands : List Value) → Keeps state.objects (goes_on state frame others next operands)
  going_on_keeps frame others next operands = next_keeps state.objects no_need [] state frame others next operands (kept_itself state.objects)

  pub jump_keeps : (frame : Frame) (others : List Frame) (target : ℕ) (operands : List Value) → Keeps state.objects (jumps state frame others target operands)
  jump_keeps frame others target operands = kept_itself state.objects

  pub branch_keeps : (taken : Bool) (frame : Frame) (others : List Frame) (target : ℕ) (next : Option ℕ) (operands : List Value)
      → Keeps state.objects (branches taken state frame others target next operands)
  branch_keeps taken frame others target next operands =
      either_keeps state.objects taken (jumps state frame others target operands) (goes_on state frame others next operands)
      (jump_keeps frame others target operands) (going_on_keeps frame others next operands)

  pub placing_keeps : (frame : Frame) (others : List Frame) (next : Option ℕ) (operands : List Value) (cells : ℕ) (more : List Object)
      → Keeps state.objects (does_next (place_need cells) [] (with_objects state more) frame others next operands)
  placing_keeps frame others next operands cells more =
      next_keeps state.objects (place_need cells) [] (with_objects state more) frame others next operands (kept_append state.objects more)

  -- ---- throws

  search_keeps : (objects : List Object) (placed : Option ℕ) (after : State) (class : ℕ) (found : Option (List Frame)) → AreKept objects after.objects
      → Keeps objects (after_search placed after class found)
  search_keeps objects placed after class None kept = tt
  search_keeps objects placed after class (Some frames) kept = kept

  pub object_throw_keeps : (frames : List Frame) (class name : ℕ) → Keeps state.objects (throws_object world state frames class name)
  object_throw_keeps frames class name = search_keeps state.objects None state class (caught world class name frames) (kept_itself state.objects)

  pub throw_keeps : (frames : List Frame) (class : ℕ) → Keeps state.objects (throws world state frames class)
  throw_keeps frames class =
      search_keeps state.objects (Some (object_cells world.files class)) (with_objects state (new_object world.files class ∷ [])) class _
      (kept_append state.objects (new_object world.files class ∷ []))

  -- what is done with the object of a reference
  pub object_keeps : (frames : List Frame) (reference : Value) (use_object : ℕ → Object → TypedMove)
      → ((name : ℕ) (object : Object) → object_at state name ≡ Some object → Keeps state.objects (use_object name object))
      → Keeps state.objects (with_object_of world state frames reference use_object)
  object_keeps frames Null use_object keeps = throw_keeps frames _
  object_keeps frames (Name name) use_object keeps = option_keeps state.objects (object_at state name) (use_object name) (keeps name)
  object_keeps frames (Whole number) use_object keeps = tt
