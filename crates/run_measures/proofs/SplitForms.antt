-- The forms of the split machine's moves, each of which is a tick, ends the run, or leaves less code behind the pcs.
use Rattle.std.proofs.Common.{◌≡◌, ℕ, ◌<◌, Bool, true, false, nat_lt, nat_le, if◌then◌else◌, List, [], ◌∷◌, ◌++◌, length, drop, take, reverse, Option, Some, None, refl, subst}
use Rattle.std.proofs.lemmas.Bool.{ltb-true}
use Rattle.account.specs.Account.{Stuck, no_need, tick_need}
use Rattle.image_form.specs.declared.record.Image.{Image}
use Rattle.mote_model.specs.State.{Reference, Frame}
use Rattle.mote_model.specs.SplitMoves.{Uncaught, SplitMove, at_pc, with_cells, with_refs, goes_on, jumps, branches, using, take_cells, take_ref, take_ref_from, after_search, caught, throws}
use Rattle.mote_model.specs.SplitState.{State, object_cells}
use Rattle.mote_model.specs.SplitTypes.{new_object}
use Rattle.run_measures.proofs.Lowering.{Lowers, stuck, stops, ticks, to_state, either}
use Rattle.run_measures.proofs.SplitRank.{rank_of, IsAhead, later_lowers}

-- the rank of a state
abbrev pub rank_in : Image → State → ℕ
rank_in image state = rank_of image state.frames

-- ---- the forms of moves

module _ {rank : State → ℕ} {bound : ℕ} where
  pub used : {X : Type 0} (found : Option X) (use_it : X → SplitMove) → ((x : X) → Lowers rank bound (use_it x)) → Lowers rank bound (using found use_it)
  used None use_it each = stuck
  used (Some x) use_it each = each x

  pub taken_cells : (count : ℕ) (from : Frame) (use_them : List ℕ → Frame → SplitMove)
      → Lowers rank bound (use_them (reverse (take count from.cells.operands)) (with_cells from (drop count from.cells.operands))) → Lowers rank bound (take_cells count from use_them)
  taken_cells count from use_them lowers =
      either (nat_le count (length from.cells.operands)) (use_them (reverse (take count from.cells.operands)) (with_cells from (drop count from.cells.operands))) Stuck lowers stuck

  from_refs : (from : Frame) (operands : List Reference) (use_it : Reference → Frame → SplitMove) → ((reference : Reference) (rest : List Reference) → Lowers rank bound (use_it reference (with_refs from rest)))
      → Lowers rank bound (take_ref_from from operands use_it)
  from_refs from [] use_it each = stuck
  from_refs from (reference ∷ rest) use_it each = each reference rest

  pub taken_ref : (from : Frame) (use_it : Reference → Frame → SplitMove) → ((reference : Reference) (rest : List Reference) → Lowers rank bound (use_it reference (with_refs from rest)))
      → Lowers rank bound (take_ref from use_it)
  taken_ref from use_it each = from_refs from from.refs.operands use_it each

  -- a throw is a tick, or ends the run
  searched : (placed : Option ℕ) (state : State) (class : ℕ) (found : Option (List Frame)) → Lowers rank bound (after_search placed state class found)
  searched placed state class (Some frames) = ticks (record { placed = placed; tick = true; frame = None }) [] (record state { frames = frames }) refl
  searched placed state class None = stops (record { placed = placed; tick = false; frame = None }) [] (Uncaught class)

  pub thrown : (image : Image) (state : State) (frames : List Frame) (class : ℕ) → Lowers rank bound (throws image state frames class)
  thrown image state frames class =
      searched (Some (object_cells (new_object image class))) (record state { objects = state.objects ++ (new_object image class ∷ []) }) class (caught image class (length state.objects) frames)

-- ---- the youngest frame

module _ {image : Image} {frame : Frame} {next : ℕ} (ahead : IsAhead image frame next) (others : List Frame) where
  abbrev LowerHere : SplitMove → Type 0
  LowerHere move = Lowers (rank_in image) (rank_of image (frame ∷ others)) move

  pub on : (state : State) (moved : Frame) → moved.method ≡ frame.method → LowerHere (goes_on state moved others next)
  on state moved method = to_state no_need [] (record state { frames = at_pc moved next ∷ others }) (λ quiet. later_lowers image frame others (at_pc moved next) method ahead)

  -- a jump that is no tick leads forward
  pub jumped : (state : State) (moved : Frame) (target : ℕ) → moved.method ≡ frame.method → moved.pc ≡ frame.pc → LowerHere (jumps state moved others target)
  jumped state moved target method place = to_state (if nat_lt moved.pc target then no_need else tick_need) [] (record state { frames = at_pc moved target ∷ others }) (by_order (nat_lt moved.pc target) refl)
    where
      by_order : (forward : Bool) → nat_lt moved.pc target ≡ forward → (if forward then no_need else tick_need).tick ≡ false → rank_of image (at_pc moved target ∷ others) < rank_of image (frame ∷ others)
      by_order true is quiet =
          later_lowers image frame others (at_pc moved target) method (record { some = ahead.some; later = subst (λ pc. pc < target) place (ltb-true moved.pc target is) })
      by_order false is quiet = absurd cc

  pub branched : (taken : Bool) (state : State) (moved : Frame) (target : ℕ) → moved.method ≡ frame.method → moved.pc ≡ frame.pc → LowerHere (branches taken state moved others target next)
  branched taken state moved target method place = either taken (jumps state moved others target) (goes_on state moved others next) (jumped state moved target method place) (on state moved method)
