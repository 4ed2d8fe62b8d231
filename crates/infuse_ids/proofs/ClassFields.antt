-- The fields of classes: which class they are of, and at which position.
use Rattle.std.proofs.Common.{◌≡◌, ℕ, zero, suc, ◌+◌, ◌-◌, ◌<◌, ◌≤◌, Bool, true, false, not, nat_eq, nat_lt, cond, List, [], ◌∷◌, ◌++◌, length, take, drop, get_or, map, position, filter, Option, Some, None, option_and_then, slice_get, refl, sym, ap, ◌∙◌, arith}
use Rattle.std.specs.List.{AllByRecursion, IsDistinct, flat_map, list_all}
use Rattle.std.specs.Option.{option_map_or}
use Rattle.std.proofs.lemmas.Bool.{eqb-false, eqb-true, ne_eqb, and_left, and_right, lt-ltb, ltb-true, and_parts}
use Rattle.std.proofs.lemmas.List.{append-nil, take-append-drop, take_more, drop_more, get_or-map}
use Rattle.std.proofs.lemmas.List.Quantifiers.{position-Some}
use Rattle.std.proofs.lemmas.Grind.{flat_map-append}
use Rattle.library.specs.Classes.{first_own, superclasses}
use Rattle.class_pool.specs.declared.types.MemberId.{MemberId}
use Rattle.class_file.specs.declared.record.ClassFile.{ClassFile}
use Rattle.class_file.specs.declared.record.Member.{Member}
use Rattle.class_tree.specs.DirectSupers.{class_count, superclass_of}
use Rattle.class_tree.specs.Members.{member_at}
use Rattle.class_tree.specs.Set.{file_of}
use Rattle.class_tree.proofs.ancestors.Superclasses.{IsRanked, falls_to, super_by_library}
use Rattle.class_tree.proofs.lookups.Climbing.{all_map, all_append}
use Rattle.jvm_model.specs.declared.numbers.Layout.{Layout}
use Rattle.jvm_model.specs.ImageNumbering.{Field, is_member, fields_from, class_fields, object_fields, fields_of_object, layout_of}
use Rattle.infuse_ids.specs.Layouts.{own_fields}
use Rattle.infuse_ids.specs.Places.{AreOthers, field_at, fields_above}
use Rattle.infuse_ids.proofs.Folds.{taken}
use Rattle.infuse_ids.proofs.PlacesAmong.{IsAbsent, kept_all}

-- ---- one class

-- each field of a class is one of it
abbrev pub AreOf : ℕ → List Field → Type 0
AreOf class fields = AllByRecursion (λ (field : Field). field.member.class ≡ class) fields

module _ (class : ℕ) (file : ClassFile) where
  own_from : (at : ℕ) (members : List Member) → AreOf class (fields_from class file at members)
  unfolding fields_from
  own_from at [] = tt
  own_from at (member ∷ members) = (refl, own_from (suc at) members)

  -- the field at a position
  pub field_from : (at position : ℕ) (members : List Member) (member : Member) (d : Field) → position < length members → member ≡ get_or members position member
      → get_or (fields_from class file at members) position d ≡ field_at (member_at class (at + position)) file.pool member
  unfolding fields_from
  field_from at position [] member d lt is = absurd (omega (arith, lt))
  field_from at zero (first ∷ members) member d lt is =
      let start : at ≡ at + 0 = omega arith in
      ap (λ (m : Member). field_at (member_at class at) file.pool m) (sym is) ∙ ap (λ (n : ℕ). field_at (member_at class n) file.pool member) start
  field_from at (suc position) (first ∷ members) member d lt is =
      let next : suc at + position ≡ at + suc position = omega arith in
      field_from (suc at) position members member d (omega (arith, lt)) is ∙ ap (λ (n : ℕ). field_at (member_at class n) file.pool member) next

  -- as many as the members
  pub as_many : (at : ℕ) (members : List Member) → length (fields_from class file at members) ≡ length members
  unfolding fields_from
  as_many at [] = refl
  as_many at (member ∷ members) = ap suc (as_many (suc at) members)

  -- the fields before a position are at others
  pub earlier_positions : (at many position : ℕ) (members : List Member) → at + many ≤ position → IsAbsent (member_at class position) (take many (fields_from class file at members))
  unfolding fields_from
  earlier_positions at zero position members le = tt
  earlier_positions at (suc many) position [] le = tt
  earlier_positions at (suc many) position (member ∷ members) le = (
    and_right (nat_eq class class) (nat_eq position at) (ne_eqb position at (λ (e : position ≡ at). omega (arith, e, le))),
    earlier_positions (suc at) many position members (omega (arith, le)),
  )

  -- the fields around a position
  module _ (members : List Member) (position : ℕ) (member : Member) (lt : position < length members) (here : member ≡ get_or members position member) where
    at_position : (d : Field) → get_or (fields_from class file 0 members) position d ≡ field_at (member_at class position) file.pool member
    at_position d =
        let start : 0 + position ≡ position = omega arith in
        field_from 0 position members member d lt here ∙ ap (λ (n : ℕ). field_at (member_at class n) file.pool member) start

    inside : position < length (fields_from class file 0 members)
    inside = let many = as_many 0 members in omega (arith, many, lt)

    abbrev d : Field
    d = field_at (member_at class position) file.pool member

    pub split_at : fields_from class file 0 members ≡ take position (fields_from class file 0 members) ++ field_at (member_at class position) file.pool member ∷ drop (position + 1) (fields_from class file 0 members)
    split_at =
        sym (take-append-drop position (fields_from class file 0 members))
        ∙ ap (λ (fields : List Field). take position (fields_from class file 0 members) ++ fields)
        (drop_more (fields_from class file 0 members) position d inside ∙ ap (λ (field : Field). field ∷ drop (position + 1) (fields_from class file 0 members)) (at_position d))

    pub take_next : take (position + 1) (fields_from class file 0 members) ≡ take position (fields_from class file 0 members) ++ field_at (member_at class position) file.pool member ∷ []
    take_next =
        take_more (fields_from class file 0 members) position d inside
        ∙ ap (λ (field : Field). take position (fields_from class file 0 members) ++ field ∷ []) (at_position d)

-- the fields of a class with a file
pub fields_in : (files : List ClassFile) (class : ℕ) (file : ClassFile) → file_of files class ≡ Some file → class_fields files class ≡ fields_from class file 0 file.fields
fields_in files class file e = ap (λ (o : Option ClassFile). option_map_or (λ (f : ClassFile). fields_from class f 0 f.fields) o []) e

-- a class without one has none
pub no_fields_in : (files : List ClassFile) (class : ℕ) → file_of files class ≡ None → class_fields files class ≡ []
no_fields_in files class e = ap (λ (o : Option ClassFile). option_map_or (λ (f : ClassFile). fields_from class f 0 f.fields) o []) e

pub own_class : (files : List ClassFile) (class : ℕ) → AreOf class (class_fields files class)
own_class files class = by (file_of files class)
  where
    by : (o : Option ClassFile) → AreOf class (option_map_or (λ (f : ClassFile). fields_from class f 0 f.fields) o [])
    by None = tt
    by (Some file) = own_from class file 0 file.fields

-- the fields of the classes up to a position, with those of the next class
pub fields_more : (files : List ClassFile) (order : List ℕ) (position class : ℕ) → position < length order → class ≡ get_or order position class
    → flat_map (class_fields files) (take (position + 1) order) ≡ flat_map (class_fields files) (take position order) ++ class_fields files class
fields_more files order position class lt here =
    ap (flat_map (class_fields files)) (taken order position class lt here)
    ∙ flat_map-append (class_fields files) (take position order) (class ∷ [])
    ∙ ap (λ (fields : List Field). flat_map (class_fields files) (take position order) ++ fields) (append-nil (class_fields files class))

-- ---- other classes

-- a field is none of other classes
pub others_absent : (member : MemberId) (fields : List Field) → AreOthers member.class fields → IsAbsent member fields
others_absent member =
    all_map (λ (field : Field). nat_eq member.class field.member.class ≡ false) (λ (field : Field). is_member member field.member ≡ false)
    (λ (field : Field) e. and_left (nat_eq member.class field.member.class) (nat_eq member.member field.member.member) e)

-- the fields of other classes
pub flat_others : (files : List ClassFile) (class : ℕ) (classes : List ℕ) → AllByRecursion (λ (other : ℕ). nat_eq class other ≡ false) classes → AreOthers class (flat_map (class_fields files) classes)
flat_others files class [] all = tt
flat_others files class (other ∷ classes) all =
    all_append (λ (field : Field). nat_eq class field.member.class ≡ false) (class_fields files other) (flat_map (class_fields files) classes)
    (
    all_map (λ (field : Field). field.member.class ≡ other) (λ (field : Field). nat_eq class field.member.class ≡ false)
    (λ (field : Field) e. ap (nat_eq class) e ∙ all.0)
    (class_fields files other) (own_class files other)
    )
    (flat_others files class classes all.1)

not_either : (a b : ℕ) → nat_eq a b ≡ false → nat_eq b a ≡ false
not_either a b e = ne_eqb b a (λ (same : b ≡ a). eqb-false a b e (sym same))

at_place : (first : ℕ) (classes : List ℕ) (position class : ℕ) → AllByRecursion (λ (other : ℕ). nat_eq first other ≡ false) classes → position < length classes → class ≡ get_or classes position class → nat_eq first class ≡ false
at_place first [] position class all lt is = absurd (omega (arith, lt))
at_place first (other ∷ classes) zero class all lt is = ap (nat_eq first) is ∙ all.0
at_place first (other ∷ classes) (suc position) class all lt is = at_place first classes position class all.1 (omega (arith, lt)) is

-- in a list of distinct classes those before a position are others
pub distinct_before : (classes : List ℕ) (position class : ℕ) → IsDistinct nat_eq classes → position < length classes → class ≡ get_or classes position class
    → AllByRecursion (λ (other : ℕ). nat_eq class other ≡ false) (take position classes)
unfolding IsDistinct
distinct_before [] position class distinct lt is = absurd (omega (arith, lt))
distinct_before (first ∷ classes) zero class distinct lt is = tt
distinct_before (first ∷ classes) (suc position) class distinct lt is = (
  not_either first class (at_place first classes position class distinct.0 (omega (arith, lt)) is),
  distinct_before classes position class distinct.1 (omega (arith, lt)) is,
)

-- ---- superclasses

module _ (files : List ClassFile) (rank : ℕ → ℕ) (is : IsRanked files rank) where
  abbrev Below : ℕ → Field → Type 0
  Below class field = rank field.member.class ≤ rank class

  abbrev AreBelow : ℕ → List Field → Type 0
  AreBelow class fields = AllByRecursion (Below class) fields

  own_below : (class : ℕ) → AreBelow class (own_fields files class)
  own_below class =
      all_map (λ (field : Field). field.member.class ≡ class) (Below class) (λ (field : Field) e. let same = ap rank e in omega (arith, same))
      (own_fields files class) (kept_all (λ (field : Field). field.member.class ≡ class) (λ (field : Field). not field.static) (class_fields files class) (own_class files class))

  below_by_super : (class : ℕ) (fields : ℕ → List Field) → ((upper : ℕ) → AreBelow upper (fields upper)) → (o : Option ℕ) → superclass_of files class ≡ o → AreBelow class (option_map_or fields o [])
  below_by_super class fields each None e = tt
  below_by_super class fields each (Some upper) e =
      let falls = falls_to files rank is class upper e in
      all_map (Below upper) (Below class) (λ (field : Field) le. omega (arith, le, falls)) (fields upper) (each upper)

  object_below : (levels class : ℕ) → AreBelow class (object_fields files levels class)
  unfolding object_fields
  object_below zero class = tt
  object_below (suc levels) class =
      all_append (Below class) (option_map_or (object_fields files levels) (superclass_of files class) []) (own_fields files class)
      (below_by_super class (object_fields files levels) (object_below levels) (superclass_of files class) refl) (own_below class)

  -- the fields of objects of a superclass are of other classes
  pub others_above : (class : ℕ) → AreOthers class (fields_above files class)
  others_above class = by (superclass_of files class) refl
    where
      by : (o : Option ℕ) → superclass_of files class ≡ o → AreOthers class (option_map_or (fields_of_object files) o [])
      by None e = tt
      by (Some upper) e =
          let falls = falls_to files rank is class upper e in
          all_map (Below upper) (λ (field : Field). nat_eq class field.member.class ≡ false)
          (λ (field : Field) le. ne_eqb class field.member.class (λ (same : class ≡ field.member.class). let ranks = ap rank same in omega (arith, ranks, le, falls)))
          (fields_of_object files upper) (object_below (class_count files) upper)

-- ---- classes of the library

-- a class of the library, or none
abbrev pub is_library : Option ℕ → Bool
is_library None = true
is_library (Some class) = nat_lt class first_own

library_at : (above : List (Option ℕ)) → list_all is_library above ≡ true → (class upper : ℕ) → option_and_then (λ (o : Option ℕ). o) (slice_get above class) ≡ Some upper → upper < first_own
library_at [] all class upper e = cc
library_at (o ∷ above) all zero upper e =
    ltb-true upper first_own (ap is_library (sym e) ∙ (and_parts (is_library o) (list_all is_library above) all).0)
library_at (o ∷ above) all (suc class) upper e = library_at above (and_parts (is_library o) (list_all is_library above) all).1 class upper e

no_file : (files : List ClassFile) (class : ℕ) → class < first_own → file_of files class ≡ None
no_file files class lt = ap (λ (is : Bool). cond is None (slice_get files (class - first_own))) (lt-ltb class first_own lt)

module _ (files : List ClassFile) where
  none_by_super : (class : ℕ) → class < first_own → (fields : ℕ → List Field) → ((upper : ℕ) → upper < first_own → fields upper ≡ []) → (o : Option ℕ) → superclass_of files class ≡ o → option_map_or fields o [] ≡ []
  none_by_super class lt fields each None e = refl
  none_by_super class lt fields each (Some upper) e = each upper (library_at superclasses refl class upper (sym (super_by_library files class lt) ∙ e))

  none_of_library : (levels class : ℕ) → class < first_own → object_fields files levels class ≡ []
  unfolding object_fields
  none_of_library zero class lt = refl
  none_of_library (suc levels) class lt =
      ap (λ (above : List Field). above ++ own_fields files class) (none_by_super class lt (object_fields files levels) (none_of_library levels) (superclass_of files class) refl)
      ∙ ap (λ (fields : List Field). filter (λ (field : Field). not field.static) fields) (no_fields_in files class (no_file files class lt))

  -- an object of a class of the library has no fields
  pub library_has_none : (class : ℕ) → class < first_own → fields_of_object files class ≡ []
  library_has_none class lt = none_of_library (class_count files) class lt

-- the layout at the place of a class
pub layout_found : (files : List ClassFile) (keys : List ℕ) (layouts : List Layout) (class at : ℕ) (layout : Layout) → layouts ≡ map (layout_of files) keys → position (nat_eq class) keys ≡ Some at → layout ≡ get_or layouts at layout → layout ≡ layout_of files class
layout_found files keys layouts class at layout are found is =
    let there = position-Some (nat_eq class) keys at 0 found in
    is ∙ ap (λ (xs : List Layout). get_or xs at layout) are ∙ get_or-map (layout_of files) keys at 0 layout there.0
    ∙ ap (layout_of files) (sym (eqb-true class (get_or keys at 0) there.1))
