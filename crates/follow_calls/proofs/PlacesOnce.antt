-- The place of a field that stands once is what the fields before it take; what they hold, and what those behind it hold,
-- does not change with it.
use Rattle.std.proofs.Common.{◌≡◌, ℕ, ◌+◌, Bool, true, false, nat_eq, cond, List, [], ◌∷◌, ◌++◌, map, length, refl, sym, ap, ap₂, subst, ◌∙◌, length-append}
use Rattle.std.specs.List.{AllByRecursion, flat_map}
use Rattle.std.proofs.lemmas.Bool.{eq-eqb, and_from}
use Rattle.std.proofs.lemmas.Grind.{flat_map-append}
use Rattle.std.proofs.lemmas.List.{map-append}
use Rattle.class_pool.specs.declared.types.MemberId.{MemberId}
use Rattle.jvm_model.specs.declared.numbers.FieldPlace.{FieldPlace}
use Rattle.jvm_model.specs.ImageNumbering.{Field, is_member, place_among, place_listed}
use Rattle.follow_calls.proofs.FieldsOnce.{AreOthers, StandsOnce}

pub own_member : (member : MemberId) → is_member member member ≡ true
own_member member = and_from (nat_eq member.class member.class) (nat_eq member.member member.member) (eq-eqb member.class member.class refl) (eq-eqb member.member member.member refl)

-- ---- what other fields hold

module _ {X : Type 0} (member : MemberId) (old new : Field → X) (same : (other : Field) → is_member member other.member ≡ false → new other ≡ old other) where
  pub others_mapped : (fields : List Field) → AreOthers member fields → map new fields ≡ map old fields
  others_mapped [] others = refl
  others_mapped (field ∷ fields) others = ap₂ (λ (x : X) (l : List X). x ∷ l) (same field others.0) (others_mapped fields others.1)

module _ {X : Type 0} (member : MemberId) (old new : Field → List X) (same : (other : Field) → is_member member other.member ≡ false → new other ≡ old other) where
  pub others_held : (fields : List Field) → AreOthers member fields → flat_map new fields ≡ flat_map old fields
  others_held [] others = refl
  others_held (field ∷ fields) others = ap₂ (λ (a b : List X). a ++ b) (same field others.0) (others_held fields others.1)

-- ---- places

module _ {X : Type 0} (size : Field → ℕ) (items : Field → List X) where
  abbrev pub HoldsSo : Field → Type 0
  HoldsSo field = length (items field) ≡ size field

  placed_behind : (field : Field) (before after : List Field) → AreOthers field.member before → AllByRecursion HoldsSo before → place_among size (before ++ field ∷ after) field.member ≡ length (flat_map items before)
  unfolding place_among
  placed_behind field [] after others holds = ap (λ (is : Bool). cond is 0 (size field + place_among size after field.member)) (own_member field.member)
  placed_behind field (first ∷ before) after others holds =
      ap (λ (is : Bool). cond is 0 (size first + place_among size (before ++ field ∷ after) field.member)) others.0
      ∙ ap₂ (λ (a b : ℕ). a + b) (sym holds.0) (placed_behind field before after others.1 holds.1)
      ∙ sym (length-append (items first) (flat_map items before))

first_part : (P : Field → Type 0) (before after : List Field) → AllByRecursion P (before ++ after) → AllByRecursion P before
first_part P [] after all = tt
first_part P (field ∷ before) after all = (all.0, first_part P before after all.1)

abbrev pub at_place : (Field → ℕ) → Field → FieldPlace
at_place place field = record { member = field.member; place = place field }

listed_behind : (place : Field → ℕ) (field : Field) (before after : List Field) → AreOthers field.member before → place_listed (map (at_place place) (before ++ field ∷ after)) field.member ≡ place field
unfolding place_listed
listed_behind place field [] after others = ap (λ (is : Bool). cond is (place field) (place_listed (map (at_place place) after) field.member)) (own_member field.member)
listed_behind place field (first ∷ before) after others =
    ap (λ (is : Bool). cond is (place first) (place_listed (map (at_place place) (before ++ field ∷ after)) field.member)) others.0 ∙ listed_behind place field before after others.1

module _ (field : Field) (all : List Field) (once : StandsOnce field all) where
  -- behind what the fields before it hold
  pub place_once : {X : Type 0} (size : Field → ℕ) (items : Field → List X) → AllByRecursion (λ (other : Field). length (items other) ≡ size other) all → place_among size all field.member ≡ length (flat_map items once.before)
  place_once size items holds =
      let part : AllByRecursion (HoldsSo size items) (once.before ++ field ∷ once.after) = subst (AllByRecursion (HoldsSo size items)) once.is holds in
      ap (λ (l : List Field). place_among size l field.member) once.is
      ∙ placed_behind size items field once.before once.after once.others_before (first_part (HoldsSo size items) once.before (field ∷ once.after) part)

  -- what all hold, in three parts
  pub held_once : {X : Type 0} (items : Field → List X) → flat_map items all ≡ flat_map items once.before ++ (items field ++ flat_map items once.after)
  held_once items = ap (flat_map items) once.is ∙ flat_map-append items once.before (field ∷ once.after)

  pub mapped_once : {X : Type 0} (item : Field → X) → map item all ≡ map item once.before ++ item field ∷ map item once.after
  mapped_once item = ap (map item) once.is ∙ map-append item once.before (field ∷ once.after)

  -- the place that is listed for it
  pub listed_once : (place : Field → ℕ) → place_listed (map (at_place place) all) field.member ≡ place field
  listed_once place = ap (λ (l : List Field). place_listed (map (at_place place) l) field.member) once.is ∙ listed_behind place field once.before once.after once.others_before
