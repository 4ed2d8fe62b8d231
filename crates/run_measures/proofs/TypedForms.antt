-- The forms of the typed machine's moves, each of which is a tick, ends the run, or leaves fewer instructions behind the pcs.
use Rattle.std.proofs.Common.{◌≡◌, ℕ, ◌<◌, Bool, true, false, nat_lt, if◌then◌else◌, List, [], ◌∷◌, length, Option, Some, None, refl}
use Rattle.std.proofs.lemmas.Bool.{ltb-true}
use Rattle.account.specs.Account.{Event, Need, Stuck}
use Rattle.jvm_model.specs.State.{Value, Whole, Null, Name}
use Rattle.typed_machine.specs.TypedMoves.{TypedMove, Uncaught, no_need, tick_need, at_pc, does_next, goes_on, jumps, branches, object_at, after_search, caught, throws, with_object_of, null_pointer_exception}
use Rattle.typed_machine.specs.TypedState.{Object, Frame, State, with_frames, with_objects}
use Rattle.typed_machine.specs.TypedWorld.{World, new_object, object_cells}
use Rattle.run_measures.proofs.Lowering.{Lowers, stuck, stops, ticks, to_state, either, mapped_or}
use Rattle.run_measures.proofs.TypedRank.{rank_of, IsAhead, later_lowers}

-- the rank of a state
abbrev pub rank_in : World → State → ℕ
rank_in world state = rank_of world state.frames

module _ {rank : State → ℕ} {bound : ℕ} where
  -- a throw is a tick, or ends the run
  pub searched : (placed : Option ℕ) (state : State) (class : ℕ) (found : Option (List Frame)) → Lowers rank bound (after_search placed state class found)
  searched placed state class (Some frames) = ticks (record { placed = placed; tick = true; frame = None }) [] (with_frames state frames) refl
  searched placed state class None = stops (record { placed = placed; tick = false; frame = None }) [] (Uncaught class)

  pub thrown : (world : World) (state : State) (frames : List Frame) (class : ℕ) → Lowers rank bound (throws world state frames class)
  thrown world state frames class =
      searched (Some (object_cells world.files class)) (with_objects state (new_object world.files class ∷ [])) class (caught world class (length state.objects) frames)

  pub of_object : (world : World) (state : State) (frames : List Frame) (reference : Value) (use_object : ℕ → Object → TypedMove) → ((name : ℕ) (object : Object) → Lowers rank bound (use_object name object))
      → Lowers rank bound (with_object_of world state frames reference use_object)
  of_object world state frames Null use_object each = thrown world state frames null_pointer_exception
  of_object world state frames (Name name) use_object each = mapped_or (object_at state name) (use_object name) Stuck (each name) stuck
  of_object world state frames (Whole number) use_object each = stuck

-- ---- the youngest frame

module _ {world : World} {frame : Frame} {next : Option ℕ} (ahead : IsAhead world frame next) (others : List Frame) where
  -- the move lowers the rank of the state
  abbrev Lower : TypedMove → Type 0
  Lower move = Lowers (rank_in world) (rank_of world (frame ∷ others)) move

  pub goes : (need : Need) (events : List Event) (state : State) (moved : Frame) (operands : List Value) → moved.method ≡ frame.method → Lower (does_next need events state moved others next operands)
  goes need events state moved operands method = by_next next refl
    where
      by_next : (found : Option ℕ) → next ≡ found → Lower (does_next need events state moved others found operands)
      by_next None is = stuck
      by_next (Some to) is = to_state need events (with_frames state (at_pc moved to operands ∷ others)) (λ quiet. later_lowers world frame (at_pc moved to operands) others next ahead method (ahead.later to is))

  pub on : (state : State) (moved : Frame) (operands : List Value) → moved.method ≡ frame.method → Lower (goes_on state moved others next operands)
  on state moved operands method = goes no_need [] state moved operands method

  -- a jump that is no tick leads forward
  pub jumped : (state : State) (target : ℕ) (operands : List Value) → Lower (jumps state frame others target operands)
  jumped state target operands = to_state (if nat_lt frame.pc target then no_need else tick_need) [] (with_frames state (at_pc frame target operands ∷ others)) (by_order (nat_lt frame.pc target) refl)
    where
      by_order : (forward : Bool) → nat_lt frame.pc target ≡ forward → (if forward then no_need else tick_need).tick ≡ false → rank_of world (at_pc frame target operands ∷ others) < rank_of world (frame ∷ others)
      by_order true is quiet = later_lowers world frame (at_pc frame target operands) others next ahead refl (ltb-true frame.pc target is)
      by_order false is quiet = absurd cc

  pub branched : (taken : Bool) (state : State) (target : ℕ) (operands : List Value) → Lower (branches taken state frame others target next operands)
  branched taken state target operands = either taken (jumps state frame others target operands) (goes_on state frame others next operands) (jumped state target operands) (on state frame operands refl)
