-- The reference of a static stands among those of all statics where its member is placed.
use Rattle.std.proofs.Common.{◌≡◌, ℕ, suc, ◌+◌, Bool, true, false, ◌||◌, if◌then◌else◌, List, [], ◌∷◌, map, filter, Some, None, slice_get, refl, ap, ◌∙◌, arith}
use Rattle.std.specs.List.{list_any}
use Rattle.std.specs.Option.{option_map_or}
use Rattle.std.proofs.lemmas.Bool.Decides.{nat_tests}
use Rattle.class_pool.specs.declared.types.MemberId.{MemberId}
use Rattle.jvm_model.specs.ImageNumbering.{Field, is_member, is_reference_field, place_among, static_fields}
use Rattle.mote_model.specs.State.{Reference}
use Rattle.typed_machine.specs.TypedState.{Fields}
use Rattle.match_states.specs.MatchedFrames.{reference_of}
use Rattle.match_states.specs.MatchedObjects.{StaticsMatch, field_reference}
use Rattle.match_states.specs.Setting.{Setting}

-- members that are the same by their test are equal
same_member : (member other : MemberId) → is_member member other ≡ true → other ≡ member
same_member member other is =
    let class : other.class ≡ member.class = grind (arith, nat_tests, is) in
    let at : other.member ≡ member.member = grind (arith, nat_tests, is) in
    ap (λ (class : ℕ). record { class = class; member = other.member }) class ∙ ap (λ (at : ℕ). record { class = member.class; member = at }) at

module _ (fields : Fields) (member : MemberId) where
  abbrev one_each : Field → ℕ
  one_each field = 1

  abbrev is_here : Field → Bool
  is_here field = is_member member field.member

  abbrev StandsIn : List Field → ℕ → Type 0
  StandsIn all place = slice_get (map (field_reference fields) all) place ≡ Some (option_map_or reference_of (fields member) None)

  first_or_later : (field : Field) (all : List Field) (is : Bool) → is_here field ≡ is → (is || list_any is_here all) ≡ true → (list_any is_here all ≡ true → StandsIn all (place_among one_each all member))
      → StandsIn (field ∷ all) (if is then 0 else 1 + place_among one_each all member)
  first_or_later field all true same some later = ap (λ id. Some (option_map_or reference_of (fields id) None)) (same_member member field.member same)
  first_or_later field all false same some later =
      let next : 1 + place_among one_each all member ≡ suc (place_among one_each all member) = omega arith in
      ap (slice_get (map (field_reference fields) (field ∷ all))) next ∙ later some

  pub reference_placed : (all : List Field) → list_any is_here all ≡ true → StandsIn all (place_among one_each all member)
  unfolding place_among
  reference_placed [] some = absurd cc
  reference_placed (field ∷ all) some = first_or_later field all (is_here field) refl some (reference_placed all)

-- the split machine has there what the static holds
pub reference_static : (setting : Setting) (statics : Fields) (refs : List Reference) (cells : List ℕ) → StaticsMatch setting statics refs cells
    → (member : MemberId) → list_any (λ (field : Field). is_member member field.member) (filter is_reference_field (static_fields setting.world.files)) ≡ true
    → slice_get refs (place_among (λ field. 1) (filter is_reference_field (static_fields setting.world.files)) member) ≡ Some (option_map_or reference_of (statics member) None)
reference_static setting statics refs cells match member listed =
    let all = filter is_reference_field (static_fields setting.world.files) in
    ap (λ (held : List Reference). slice_get held (place_among (λ field. 1) all member)) match.refs_are ∙ reference_placed statics member all listed
