-- The cells in use are those that the account sees.
use Rattle.std.proofs.Common.{◌≡◌, ℕ, ◌+◌, List, [], ◌∷◌, map, sum, Option, Some, refl, sym, ap, ap₂, subst, ◌∙◌, arith}
use Rattle.std.specs.List.{AllByRecursion}
use Rattle.std.specs.Option.{option_map_or}
use Rattle.std.proofs.lemmas.List.Sums.{sum-map}
use Rattle.image_form.specs.declared.record.Image.{Image}
use Rattle.image_form.specs.declared.record.Method.{Method}
use Rattle.mote_stack.specs.Frames.{Stack, cells_in_use}
use Rattle.mote_stack.specs.Frames as stack
use Rattle.mote_model.specs.declared.memory.State.{State as Memory}
use Rattle.mote_model.specs.State.{Frame}
use Rattle.mote_model.specs.Picture.{Naming, Pictures, shown_frame}
use Rattle.mote_model.specs.SplitState.{State, cells_of_frame, frame_cells, method_at, view_of}
use Rattle.split_safety.specs.Reached.{AreWaiting, IsReached}

-- the method of the frame has code
pub record HasMethod (image : Image) (frame : Frame) : Type 0 where
  pub method : Method
  pub found : method_at image frame.method ≡ Some method

waiting_have : (image : Image) (above : Frame) (others : List Frame) → AreWaiting image above others → AllByRecursion (HasMethod image) others
unfolding AreWaiting
waiting_have image above [] wait = tt
waiting_have image above (frame ∷ others) wait = let one = wait.0 in (record { method = one.method; found = one.found }, waiting_have image frame others wait.1)

module _ (image : Image) (naming : Naming) where
  one_same : (frame : Frame) → HasMethod image frame → stack.cells_of (shown_frame image naming frame) ≡ cells_of_frame image frame
  one_same frame has =
      let shown = ap (λ (o : Option Method). option_map_or (λ (method : Method). method.body) o 0 + 4) has.found in
      let seen = ap (λ (o : Option Method). option_map_or frame_cells o 0) has.found in
      omega (arith, shown, seen)

  all_same : (frames : List Frame) → AllByRecursion (HasMethod image) frames → map stack.cells_of (map (shown_frame image naming) frames) ≡ map (cells_of_frame image) frames
  all_same [] all = refl
  all_same (frame ∷ others) all = ap₂ (λ m rest. m ∷ rest) (one_same frame all.0) (all_same others all.1)

pub used_is : (image : Image) (naming : Naming) (size : ℕ) (memory : Memory) (state : State) → IsReached image state → Pictures image naming size memory state → let view = view_of image state in cells_in_use memory.region ≡ view.frames
used_is image naming size memory state reached pictures =
    let one : HasMethod image reached.frame = record { method = reached.running.method; found = reached.running.found } in
    let all = subst (AllByRecursion (HasMethod image)) (sym reached.frames_are) (one, waiting_have image reached.frame reached.others reached.waiting) in
    ap cells_in_use pictures.region ∙ sym (sum-map stack.cells_of (map (shown_frame image naming) state.frames))
    ∙ ap sum (all_same image naming state.frames all) ∙ sum-map (cells_of_frame image) state.frames
