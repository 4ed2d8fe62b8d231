-- Where a set has no refusal, none of its bodies has one, and no count is above its limit.
use Rattle.std.proofs.Common.{◌≡◌, ℕ, List, [], ◌∷◌, slice_get, Option, Some, None, option_map, refl, sym}
use Rattle.std.specs.List.{AllByRecursion, filter_map, cons_option}
use Rattle.std.specs.Option.{option_or}
use Rattle.std.proofs.lemmas.Option.{none-some}
use Rattle.jvm_model.specs.declared.refusal.Refusal.{Refusal}
use Rattle.jvm_model.specs.ImageLimits.{first_excess}
use Rattle.jvm_model.specs.Phases.{too_many}
use Rattle.set_image.specs.Linked.{Linked, bodies_of, numbering_in}
use Rattle.set_image.specs.LinkRefusals.{count_refusal, first_of, form_refusal, frame_refusal, length_refusal, link_refusal}
use Rattle.set_image.proofs.CountLimits.{first_none, second_none}

-- none of these items has a refusal
abbrev pub HaveNone : {X : Type 0} → (X → Option Refusal) → List X → Type 0
HaveNone refusal items = AllByRecursion (λ item. refusal item ≡ None) items

pub have_none : {X : Type 0} (refusal : X → Option Refusal) (items : List X) → first_of refusal items ≡ None → HaveNone refusal items
have_none refusal [] none = tt
have_none refusal (item ∷ items) none = by (refusal item) refl (have_none refusal items) none
  where
    by : (found : Option Refusal) → refusal item ≡ found → (first_of refusal items ≡ None → HaveNone refusal items) → slice_get (cons_option found (filter_map refusal items)) 0 ≡ None → HaveNone refusal (item ∷ items)
    by None is rest none = (is, rest none)
    by (Some why) is rest none = absurd (none-some why (sym none))

-- ---- a set

-- a count that is told is a refusal
no_count : (found : Option (ℕ × ℕ)) → option_map (λ count. too_many count.0 count.1) found ≡ None → found ≡ None
no_count None none = refl
no_count (Some count) none = absurd (none-some (too_many count.0 count.1) (sym none))

-- what has no refusal in a set that has none
pub record HasNoRefusal (linked : Linked) : Type 0 where
  pub forms : HaveNone form_refusal (bodies_of linked)
  pub frames : HaveNone frame_refusal linked.code
  pub counts : first_excess linked.classes (numbering_in linked) ≡ None
  pub lengths : HaveNone (length_refusal (numbering_in linked)) linked.code

pub no_refusal : (linked : Linked) → link_refusal linked ≡ None → HasNoRefusal linked
no_refusal linked none =
    let forms = first_of form_refusal (bodies_of linked) in
    let frames = first_of frame_refusal linked.code in
    let counts = count_refusal linked.classes (numbering_in linked) in
    let lengths = first_of (length_refusal (numbering_in linked)) linked.code in
    let after_counts = option_or counts lengths in
    let after_frames = option_or frames after_counts in
    let behind_forms = second_none forms after_frames none in
    let behind_frames = second_none frames after_counts behind_forms in
    record {
      forms = have_none form_refusal (bodies_of linked) (first_none forms after_frames none);
      frames = have_none frame_refusal linked.code (first_none frames after_counts behind_forms);
      counts = no_count (first_excess linked.classes (numbering_in linked)) (first_none counts lengths behind_frames);
      lengths = have_none (length_refusal (numbering_in linked)) linked.code (second_none counts lengths behind_frames);
    }
