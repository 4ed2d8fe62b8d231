-- The forms of the split machine's moves: each keeps the answers that it does not ask for.
use Rattle.std.proofs.Common.{◌≡◌, ℕ, ℤ, Bool, true, false, cond, nat_le, List, [], ◌∷◌, map, drop, take, reverse, length, Option, Some, None, refl}
use Rattle.std.specs.Option.{option_map_or}
use Rattle.dialogue.specs.Answers.{Answers}
use Rattle.dialogue.specs.Natives.{after_byte}
use Rattle.image_form.specs.declared.record.Image.{Image}
use Rattle.image_instr.specs.declared.insn.Width.{Width}
use Rattle.account.specs.Account.{Does, Stops, Stuck, Put}
use Rattle.account.specs.RunLaws.{asked}
use Rattle.mote_model.specs.State.{Reference, Frame, Object}
use Rattle.mote_model.specs.SplitMoves.{SplitMove, after_search, branches, caught, count_of, goes_on, jumps, number_of, take_cells, take_number, take_ref, take_ref_from, throws, throws_object, using, with_cells, with_object_of, with_refs, null_pointer_exception}
use Rattle.mote_model.specs.SplitObjects.{or_misfit}
use Rattle.mote_model.specs.SplitState.{State, object_at, object_cells, with_objects}
use Rattle.mote_model.specs.SplitTypes.{new_object}

-- what is asked for is answered, and the rest is kept; where a run stops nothing is asked for
abbrev pub Keeps : Answers → SplitMove → Type 0
Keeps answers (Does need events next) = next.answers ≡ drop (asked events) answers
Keeps answers (Stops need events ending) = asked events ≡ 0
Keeps answers Stuck = Unit {0}

-- ---- what is asked for

pub nothing_asked : (bytes : List ℕ) → asked (map Put bytes) ≡ 0
nothing_asked [] = refl
nothing_asked (byte ∷ bytes) = nothing_asked bytes

pub one_asked : (answers : Answers) → after_byte answers ≡ drop 1 answers
one_asked [] = refl
one_asked (answer ∷ rest) = refl

-- ---- forms

module _ (answers : Answers) where
  pub either : (test : Bool) (first second : SplitMove) → Keeps answers first → Keeps answers second → Keeps answers (cond test first second)
  either true first second p q = p
  either false first second p q = q

  pub used : {X : Type 0} (found : Option X) (use_it : X → SplitMove) → ((x : X) → Keeps answers (use_it x)) → Keeps answers (using found use_it)
  used None use_it each = tt
  used (Some x) use_it each = each x

  pub mapped_or : {X : Type 0} (found : Option X) (use_it : X → SplitMove) (other : SplitMove) → ((x : X) → Keeps answers (use_it x)) → Keeps answers other → Keeps answers (option_map_or use_it found other)
  mapped_or None use_it other each none = none
  mapped_or (Some x) use_it other each none = each x

  pub taken_cells : (count : ℕ) (from : Frame) (use_them : List ℕ → Frame → SplitMove) → ((cells : List ℕ) (rest : Frame) → Keeps answers (use_them cells rest)) → Keeps answers (take_cells count from use_them)
  taken_cells count from use_them each =
      let cells = reverse (take count from.cells.operands) in
      let rest = with_cells from (drop count from.cells.operands) in
      either (nat_le count (length from.cells.operands)) (use_them cells rest) Stuck (each cells rest) tt

  pub taken_number : (w : Width) (from : Frame) (use_it : ℤ → Frame → SplitMove) → ((number : ℤ) (rest : Frame) → Keeps answers (use_it number rest)) → Keeps answers (take_number w from use_it)
  taken_number w from use_it each = taken_cells (count_of w) from (λ cells. use_it (number_of cells)) (λ cells rest. each (number_of cells) rest)

  from_refs : (from : Frame) (operands : List Reference) (use_it : Reference → Frame → SplitMove) → ((reference : Reference) (rest : Frame) → Keeps answers (use_it reference rest)) → Keeps answers (take_ref_from from operands use_it)
  from_refs from [] use_it each = tt
  from_refs from (reference ∷ rest) use_it each = each reference (with_refs from rest)

  pub taken_ref : (from : Frame) (use_it : Reference → Frame → SplitMove) → ((reference : Reference) (rest : Frame) → Keeps answers (use_it reference rest)) → Keeps answers (take_ref from use_it)
  taken_ref from use_it each = from_refs from from.refs.operands use_it each

  pub or_misfits : {X : Type 0} (object : Object) (place : ℕ) (found : Option X) (use_it : X → SplitMove) → ((x : X) → Keeps answers (use_it x)) → Keeps answers (or_misfit object place found use_it)
  or_misfits object place None use_it each = refl
  or_misfits object place (Some x) use_it each = each x

-- ---- of a state

module _ (image : Image) (state : State) where
  abbrev pub KeepsHere : SplitMove → Type 0
  KeepsHere move = Keeps state.answers move

  pub branched : (taken : Bool) (frame : Frame) (others : List Frame) (target next : ℕ) → KeepsHere (branches taken state frame others target next)
  branched taken frame others target next = either state.answers taken (jumps state frame others target) (goes_on state frame others next) refl refl

  searched : (placed : Option ℕ) (from : State) (class : ℕ) (found : Option (List Frame)) → from.answers ≡ state.answers → KeepsHere (after_search placed from class found)
  searched placed from class (Some frames) same = same
  searched placed from class None same = refl

  pub thrown : (frames : List Frame) (class : ℕ) → KeepsHere (throws image state frames class)
  thrown frames class =
      searched (Some (object_cells (new_object image class))) (with_objects state (new_object image class ∷ [])) class (caught image class (length state.objects) frames) refl

  pub object_thrown : (frames : List Frame) (class name : ℕ) → KeepsHere (throws_object image state frames class name)
  object_thrown frames class name = searched None state class (caught image class name frames) refl

  pub with_object : (frames : List Frame) (reference : Reference) (use_object : ℕ → Object → SplitMove) → ((name : ℕ) (object : Object) → KeepsHere (use_object name object)) → KeepsHere (with_object_of image state frames reference use_object)
  with_object frames None use_object each = thrown frames null_pointer_exception
  with_object frames (Some name) use_object each = mapped_or state.answers (object_at state name) (use_object name) Stuck (each name) tt

  -- of a reference that is taken
  pub object_taken : (frames : List Frame) (from : Frame) (use_object : Frame → ℕ → Object → SplitMove) → ((rest : Frame) (name : ℕ) (object : Object) → KeepsHere (use_object rest name object))
      → KeepsHere (take_ref from (λ reference rest. with_object_of image state frames reference (use_object rest)))
  object_taken frames from use_object each =
      taken_ref state.answers from (λ reference rest. with_object_of image state frames reference (use_object rest)) (λ reference rest. with_object frames reference (use_object rest) (each rest))
