-- The place of a field behind others, and how it is counted.
use Rattle.std.proofs.Common.{◌≡◌, ℕ, suc, ◌+◌, Bool, true, false, ◌||◌, nat_eq, cond, List, [], ◌∷◌, ◌++◌, length, filter, refl, sym, ap, ◌∙◌, arith}
use Rattle.std.specs.List.{AllByRecursion, sum_by}
use Rattle.std.proofs.lemmas.Bool.{eq-eqb, and_from}
use Rattle.std.proofs.lemmas.List.{append-nil, length_push}
use Rattle.std.proofs.lemmas.List.Elements.{filter-append}
use Rattle.std.proofs.lemmas.List.Sums.{sum_by-cons, sum_by_push}
use Rattle.class_pool.specs.declared.descriptor.Kind.{Kind}
use Rattle.class_pool.specs.declared.descriptor.Kind.TheVariants as kind
use Rattle.class_pool.specs.declared.types.MemberId.{MemberId}
use Rattle.jvm_model.specs.declared.numbers.Layout.{Layout}
use Rattle.jvm_model.specs.Initialisers.{is_whole_kind, is_reference_kind}
use Rattle.jvm_model.specs.ImageNumbering.{Field, is_member, is_reference_field, is_number_field, field_cells, place_among, place_in}
use Rattle.infuse_ids.specs.Places.{layout_in, place_behind, with_kind}

-- no field of these is the member
abbrev pub IsAbsent : MemberId → List Field → Type 0
IsAbsent member fields = AllByRecursion (λ (field : Field). is_member member field.member ≡ false) fields

own_member : (member : MemberId) → is_member member member ≡ true
own_member member = and_from (nat_eq member.class member.class) (nat_eq member.member member.member) (eq-eqb member.class member.class refl) (eq-eqb member.member member.member refl)

-- what a filter keeps passes any test that all pass
pub kept_all : {X : Type 0} (P : X → Type 0) (test : X → Bool) (xs : List X) → AllByRecursion P xs → AllByRecursion P (filter test xs)
kept_all P test [] all = tt
kept_all {X} P test (x ∷ xs) all = by (test x) (kept_all P test xs all.1)
  where
    by : (is : Bool) → AllByRecursion P (filter test xs) → AllByRecursion P (cond is (x ∷ filter test xs) (filter test xs))
    by true rest = (all.0, rest)
    by false rest = rest

-- a filter keeps what passes, behind what it keeps before
module _ {X : Type 0} (test : X → Bool) (x : X) where
  pub kept_here : test x ≡ true → (before after : List X) → filter test (before ++ x ∷ after) ≡ filter test before ++ x ∷ filter test after
  kept_here e before after =
      filter-append test before (x ∷ after)
      ∙ ap (λ (is : Bool). filter test before ++ cond is (x ∷ filter test after) (filter test after)) e

  pub left_here : test x ≡ false → (before after : List X) → filter test (before ++ x ∷ after) ≡ filter test before ++ filter test after
  left_here e before after =
      filter-append test before (x ∷ after)
      ∙ ap (λ (is : Bool). filter test before ++ cond is (x ∷ filter test after) (filter test after)) e

-- behind fields that are others, a field's place is what they take
place_found : (size : Field → ℕ) (field : Field) (before after : List Field) → IsAbsent field.member before → place_among size (before ++ field ∷ after) field.member ≡ sum_by size before
unfolding place_among
place_found size field [] after absent =
    ap (λ (is : Bool). cond is 0 (size field + place_among size after field.member)) (own_member field.member)
place_found size field (other ∷ before) after absent =
    ap (λ (is : Bool). cond is 0 (size other + place_among size (before ++ field ∷ after) field.member)) absent.0
    ∙ ap (λ (n : ℕ). size other + n) (place_found size field before after absent.1)
    ∙ sym (sum_by-cons size other before)

ones : (fields : List Field) → sum_by (λ (other : Field). 1) fields ≡ length fields
ones [] = refl
ones (field ∷ fields) =
    sum_by-cons (λ (other : Field). 1) field fields ∙ ap (λ (n : ℕ). 1 + n) (ones fields) ∙ (let same : 1 + length fields ≡ suc (length fields) = omega arith in same)

-- a reference is no whole number
pub not_whole : (kind : Kind) → is_reference_kind kind ≡ true → is_whole_kind kind ≡ false
not_whole (kind.Class name) e = refl
not_whole (kind.Array dims of) e = refl
not_whole kind.Byte e = cc
not_whole kind.Char e = cc
not_whole kind.Short e = cc
not_whole kind.Int e = cc
not_whole kind.Boolean e = cc
not_whole kind.Long e = cc
not_whole kind.Float e = cc
not_whole kind.Double e = cc

other_way : (first second : Bool) → (first || second) ≡ true → first ≡ false → second ≡ true
other_way true second e is = cc
other_way false second e is = e

abbrev counts : ℕ → ℕ → Layout
counts refs nums = record { refs = refs; nums = nums }

same_layout : {refs more_refs nums more_nums : ℕ} → refs ≡ more_refs → nums ≡ more_nums → counts refs nums ≡ counts more_refs more_nums
same_layout {refs} {more_refs} {nums} {more_nums} first second = ap (λ (n : ℕ). counts n nums) first ∙ ap (counts more_refs) second

module _ (field : Field) (known : (is_reference_kind field.kind || is_whole_kind field.kind) ≡ true) where
  -- the place of a field behind others
  pub placed_behind : (before after : List Field) → IsAbsent field.member before → place_in (before ++ field ∷ after) field ≡ place_behind field.kind (layout_in before)
  placed_behind before after absent = by (is_reference_kind field.kind) refl
    where
      by : (is : Bool) → is_reference_kind field.kind ≡ is
          → cond is (place_among (λ (other : Field). 1) (filter is_reference_field (before ++ field ∷ after)) field.member) (place_among field_cells (filter is_number_field (before ++ field ∷ after)) field.member)
          ≡ cond is (layout_in before).refs (layout_in before).nums
      by true e =
          ap (λ (fields : List Field). place_among (λ (other : Field). 1) fields field.member) (kept_here is_reference_field field e before after)
          ∙ place_found (λ (other : Field). 1) field (filter is_reference_field before) (filter is_reference_field after) (kept_all (λ (other : Field). is_member field.member other.member ≡ false) is_reference_field before absent)
          ∙ ones (filter is_reference_field before)
      by false e =
          ap (λ (fields : List Field). place_among field_cells fields field.member) (kept_here is_number_field field (other_way (is_reference_kind field.kind) (is_whole_kind field.kind) known e) before after)
          ∙ place_found field_cells field (filter is_number_field before) (filter is_number_field after) (kept_all (λ (other : Field). is_member field.member other.member ≡ false) is_number_field before absent)

  -- the count with the field
  pub counted_too : (fields : List Field) → layout_in (fields ++ field ∷ []) ≡ with_kind field.kind (layout_in fields)
  counted_too fields = by (is_reference_kind field.kind) refl
    where
      by : (is : Bool) → is_reference_kind field.kind ≡ is
          → layout_in (fields ++ field ∷ [])
          ≡ cond is (record { refs = (layout_in fields).refs + 1; nums = (layout_in fields).nums }) (record { refs = (layout_in fields).refs; nums = (layout_in fields).nums + field_cells field })
      by true e =
          same_layout
          (ap (λ (xs : List Field). length xs) (kept_here is_reference_field field e fields []) ∙ length_push (filter is_reference_field fields) field)
          (ap (sum_by field_cells) (left_here is_number_field field (not_whole field.kind e) fields [] ∙ append-nil (filter is_number_field fields)))
      by false e =
          same_layout
          (ap (λ (xs : List Field). length xs) (left_here is_reference_field field e fields [] ∙ append-nil (filter is_reference_field fields)))
          (
          ap (sum_by field_cells) (kept_here is_number_field field (other_way (is_reference_kind field.kind) (is_whole_kind field.kind) known e) fields [])
          ∙ sum_by_push field_cells (filter is_number_field fields) field
          )
