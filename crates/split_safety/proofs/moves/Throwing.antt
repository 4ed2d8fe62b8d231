-- What the machine throws is not caught, since no method has handlers, so a throw ends the run.
use Rattle.std.proofs.Common.{◌≡◌, ℕ, ◌-◌, Bool, true, false, cond, nat_lt, List, [], ◌∷◌, length, Option, Some, None, refl, sym, ap, subst, ◌∙◌, slice_get, option_and_then}
use Rattle.std.specs.List.{AllByRecursion, find}
use Rattle.std.specs.Option.{option_map_or}
use Rattle.std.proofs.lemmas.Option.{none-some}
use Rattle.image_form.specs.declared.record.HandlerEntry.{HandlerEntry}
use Rattle.image_form.specs.declared.record.Image.{Image}
use Rattle.image_form.specs.declared.record.Method.{Method}
use Rattle.image_check.proofs.Flowing.{more-all}
use Rattle.mote_model.specs.State.{Frame}
use Rattle.mote_model.specs.SplitMoves.{handles, handler_of, at_handler, caught, after_search, throws}
use Rattle.mote_model.specs.SplitTypes.{new_object}
use Rattle.mote_model.specs.SplitState.{State, with_objects, object_cells, method_at}
use Rattle.split_safety.specs.Runs.{RunsMethod}
use Rattle.split_safety.specs.Safety.{IsSound, StaysReached}
use Rattle.split_safety.proofs.facts.Lists.{all_get}

-- what holds of each method of the image holds of the method of an id
pub own_method : (P : Method → Type 0) (image : Image) (id : ℕ) (method : Method) → AllByRecursion P image.methods → method_at image id ≡ Some method → P method
own_method P image id method all is = own (nat_lt id 32) is
  where
    own : (below : Bool) → cond below None (slice_get image.methods (id - 32)) ≡ Some method → P method
    own true e = absurd (none-some method e)
    own false e = all_get P image.methods (id - 32) method all e

module _ (image : Image) (sound : IsSound image) where
  none_in : (type pc : ℕ) (found : Option Method) → ((method : Method) → found ≡ Some method → method.handlers ≡ []) → option_and_then (λ (method : Method). find (handles image type pc) method.handlers) found ≡ None
  none_in type pc None none = refl
  none_in type pc (Some method) none = ap (find (handles image type pc)) (none method refl)

  none_handles : (type : ℕ) (frame : Frame) → handler_of image type frame ≡ None
  none_handles type frame =
      none_in type frame.pc (method_at image frame.method) (λ method is.
      own_method (λ (m : Method). m.handlers ≡ []) image frame.method method (more-all RunsMethod (λ (m : Method). m.handlers ≡ []) (λ m runs. runs.handlers) image.methods sound.runs) is)

  pub none_catches : (type name : ℕ) (frames : List Frame) → caught image type name frames ≡ None
  unfolding caught
  none_catches type name [] = refl
  none_catches type name (frame ∷ others) =
      ap (λ (found : Option HandlerEntry). option_map_or (λ (handler : HandlerEntry). Some (at_handler frame handler name ∷ others)) found (caught image type name others)) (none_handles type frame) ∙ none_catches type name others

  pub throws_stays : (state : State) (frames : List Frame) (class : ℕ) → StaysReached image (throws image state frames class)
  throws_stays state frames class =
      subst (λ (found : Option (List Frame)). StaysReached image (after_search (Some (object_cells (new_object image class))) (with_objects state (new_object image class ∷ [])) class found))
      (sym (none_catches class (length state.objects) frames)) tt
