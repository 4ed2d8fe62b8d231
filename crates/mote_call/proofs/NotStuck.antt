-- What a move that is not stuck used is there, and what the frames of reached states are.
use Rattle.std.proofs.Common.{◌≡◌, ◌<◌, Bool, true, false, if◌then◌else◌, List, ◌∷◌, length, Option, Some, None, refl, sym, subst, ◌∙◌}
use Rattle.image_form.specs.declared.record.Image.{Image}
use Rattle.image_form.specs.declared.record.Method.{Method}
use Rattle.image_check.specs.Visits.{FitsBody}
use Rattle.account.specs.Account.{Stuck}
use Rattle.mote_model.specs.State.{Frame}
use Rattle.mote_model.specs.SplitMoves.{SplitMove, using}
use Rattle.mote_model.specs.SplitState.{State, method_at}
use Rattle.split_safety.specs.Reached.{IsReached, depth_of}
use Rattle.split_safety.specs.Safety.{IsSound, StaysReached}
use Rattle.split_safety.proofs.facts.Standing.{found_inside}
use Rattle.split_safety.proofs.moves.AllMoves as all

module _ (image : Image) where
  pub used_there : {X : Type 0} (found : Option X) (use_it : X → SplitMove) → StaysReached image (using found use_it) → (x : X) × (found ≡ Some x) × StaysReached image (use_it x)
  used_there None use_it stays = absurd stays
  used_there (Some x) use_it stays = (x, refl, stays)

  pub tested : (test : Bool) (made : SplitMove) → StaysReached image (if test then made else Stuck) → (test ≡ true) × StaysReached image made
  tested true made stays = (refl, stays)
  tested false made stays = absurd stays

first_same : (a b : Frame) (xs ys : List Frame) → (a ∷ xs) ≡ (b ∷ ys) → a ≡ b
first_same a b xs ys e = cc

-- the frame has a method's locals, its operands fit the body, and it is in the code
pub record IsHeld (image : Image) (frame : Frame) : Type 0 where
  pub method : Method
  pub found : method_at image frame.method ≡ Some method
  pub ref_locals : length frame.refs.locals ≡ method.ref_locals
  pub cell_locals : length frame.cells.locals ≡ method.cell_locals
  pub fits : FitsBody method (depth_of frame)
  pub inside : frame.pc < length method.code

-- so is the youngest frame of a reached state
pub held : (image : Image) → IsSound image → (state : State) (frame : Frame) (others : List Frame) → state.frames ≡ frame ∷ others → IsReached image state → IsHeld image frame
held image sound state frame others are reached =
    let there = all.stands image sound state reached in
    let at = all.at image sound state reached in
    let same = first_same reached.frame frame reached.others others (sym reached.frames_are ∙ are) in
    let it : IsHeld image reached.frame = record {
      method = reached.running.method;
      found = at.method_is;
      ref_locals = at.ref_locals;
      cell_locals = at.cell_locals;
      fits = at.fits;
      inside = found_inside reached.running.method.code reached.frame.pc (there.insn, there.size) at.there;
    } in
    subst (IsHeld image) same it
