-- A field of a set stands once among the fields of all its classes.
use Rattle.std.proofs.Common.{◌≡◌, ℕ, zero, suc, ◌+◌, ◌<◌, Bool, true, false, nat_eq, cond, List, [], ◌∷◌, ◌++◌, filter, Option, Some, None, is_some, slice_get, refl, sym, ap, ap₂, subst, ◌∙◌, arith}
use Rattle.std.specs.List.{AllByRecursion, flat_map}
use Rattle.std.specs.Option.{option_map_or}
use Rattle.std.proofs.lemmas.Bool.{and_left, and_right, or_parts, ne_eqb}
use Rattle.std.proofs.lemmas.Grind.{flat_map-append}
use Rattle.std.proofs.lemmas.List.{append_assoc}
use Rattle.std.proofs.lemmas.List.Elements.{filter-append}
use Rattle.std.proofs.lemmas.List.Folds.{list_any-append}
use Rattle.std.proofs.lemmas.Option.{none-some, same_Some}
use Rattle.class_pool.specs.declared.types.MemberId.{MemberId}
use Rattle.class_file.specs.Rules.{is_static}
use Rattle.class_file.specs.declared.record.ClassFile.{ClassFile}
use Rattle.class_file.specs.declared.record.Member.{Member}
use Rattle.class_order.proofs.ClassOrders.{right_order}
use Rattle.class_tree.proofs.lookups.Climbing.{all_append, all_map}
use Rattle.class_tree.specs.Members.{member_at}
use Rattle.class_tree.specs.Set.{file_of}
use Rattle.class_tree.specs.Tree.{Gathers}
use Rattle.jvm_model.specs.ImageNumbering.{Field, is_among, is_member, fields_from, class_fields, class_order, all_fields}
use Rattle.jvm_model.specs.InitialStatics.{kind_of}
use Rattle.follow_numbers.proofs.ClassPlaces.{first_place}

-- each of these fields is another one than the member
abbrev pub AreOthers : MemberId → List Field → Type 0
AreOthers member fields = AllByRecursion (λ (field : Field). is_member member field.member ≡ false) fields

-- a field stands among others
pub record StandsOnce (field : Field) (all : List Field) : Type 0 where
  pub before : List Field
  pub after : List Field
  pub is : all ≡ before ++ field ∷ after
  pub others_before : AreOthers field.member before
  pub others_after : AreOthers field.member after

-- ---- in its class

module _ (class : ℕ) (file : ClassFile) where
  -- the field of a file at a position
  abbrev pub field_at : ℕ → Member → Field
  field_at at member = record { member = member_at class at; kind = kind_of file.pool member; static = is_static member.flags }

  other_position : (at other : ℕ) → (at ≡ other → ⊥) → is_member (member_at class at) (member_at class other) ≡ false
  other_position at other differs = and_right (nat_eq class class) (nat_eq at other) (ne_eqb at other differs)

  later_others : (from at : ℕ) (members : List Member) → at < from → AreOthers (member_at class at) (fields_from class file from members)
  unfolding fields_from
  later_others from at [] low = tt
  later_others from at (member ∷ members) low = (other_position at from (λ e. omega (arith, e, low)), later_others (suc from) at members (omega (arith, low)))

  stands_from : (from i at : ℕ) (members : List Member) (member : Member) → at ≡ from + i → slice_get members i ≡ Some member → StandsOnce (field_at at member) (fields_from class file from members)
  unfolding fields_from
  stands_from from i at [] member is there = absurd (none-some member there)
  stands_from from zero at (first ∷ members) member is there =
      let same : from ≡ at = omega (arith, is) in
      record {
        before = [];
        after = fields_from class file (suc from) members;
        is = ap₂ (λ (n : ℕ) (m : Member). field_at n m ∷ fields_from class file (suc from) members) same (same_Some first member there);
        others_before = tt;
        others_after = later_others (suc from) at members (omega (arith, is));
      }
  stands_from from (suc i) at (first ∷ members) member is there =
      let rest = stands_from (suc from) i at members member (omega (arith, is)) there in
      record {
        before = field_at from first ∷ rest.before;
        after = rest.after;
        is = ap (λ (l : List Field). field_at from first ∷ l) rest.is;
        others_before = (other_position at from (λ e. omega (arith, e, is)), rest.others_before);
        others_after = rest.others_after;
      }

-- ---- beside other classes

other_class : (member : MemberId) (class : ℕ) → nat_eq member.class class ≡ false → (file : ClassFile) (at : ℕ) (members : List Member) → AreOthers member (fields_from class file at members)
unfolding fields_from
other_class member class differs file at [] = tt
other_class member class differs file at (first ∷ members) = (and_left (nat_eq member.class class) (nat_eq member.member at) differs, other_class member class differs file (suc at) members)

others_in : (member : MemberId) (class : ℕ) → nat_eq member.class class ≡ false → (found : Option ClassFile) → AreOthers member (option_map_or (λ (file : ClassFile). fields_from class file 0 file.fields) found [])
others_in member class differs None = tt
others_in member class differs (Some file) = other_class member class differs file 0 file.fields

module _ (files : List ClassFile) where
  others_of : (member : MemberId) (classes : List ℕ) → is_among member.class classes ≡ false → AreOthers member (flat_map (class_fields files) classes)
  others_of member [] none = tt
  others_of member (class ∷ classes) none =
      let parts = or_parts (nat_eq member.class class) (is_among member.class classes) none in
      all_append (λ (field : Field). is_member member field.member ≡ false) (class_fields files class) (flat_map (class_fields files) classes)
      (others_in member class parts.0 (file_of files class)) (others_of member classes parts.1)

  -- a field of a file among those of all classes
  pub stands_once : Gathers files None → (class : ℕ) (file : ClassFile) → file_of files class ≡ Some file → (at : ℕ) (member : Member) → slice_get file.fields at ≡ Some member
      → StandsOnce (field_at class file at member) (all_fields files)
  stands_once gathers class file found at member there =
      let right = right_order files gathers in
      let place = first_place class (class_order files) (right.each class (ap (λ (o : Option ClassFile). is_some o) found)) in
      let once = or_parts (is_among class place.before) (is_among class place.after) (sym (list_any-append (nat_eq class) place.before place.after) ∙ right.once place.before place.after class place.is) in
      let own = stands_from class file 0 at at file.fields member (omega arith) there in
      let fields : class_fields files class ≡ own.before ++ field_at class file at member ∷ own.after =
      ap (λ (o : Option ClassFile). option_map_or (λ (f : ClassFile). fields_from class f 0 f.fields) o []) found ∙ own.is in
      let first = flat_map (class_fields files) place.before in
      let last = flat_map (class_fields files) place.after in
      let id = member_at class at in
      record {
        before = first ++ own.before;
        after = own.after ++ last;
        is =
            ap (flat_map (class_fields files)) place.is ∙ flat_map-append (class_fields files) place.before (class ∷ place.after)
            ∙ ap (λ (l : List Field). first ++ (l ++ last)) fields
            ∙ ap (λ (l : List Field). first ++ l) (append_assoc own.before (field_at class file at member ∷ own.after) last)
            ∙ sym (append_assoc first own.before (field_at class file at member ∷ (own.after ++ last)));
        others_before = all_append (λ (field : Field). is_member id field.member ≡ false) first own.before (others_of id place.before once.0) own.others_before;
        others_after = all_append (λ (field : Field). is_member id field.member ≡ false) own.after last own.others_after (others_of id place.after once.1);
      }

-- ---- among those that pass a test

first_where : (P : Field → Type 0) (test : Field → Bool) (field : Field) (fields : List Field) → (passes : Bool) → (passes ≡ true → P field) → AllByRecursion P (filter test fields)
    → AllByRecursion P (cond passes (field ∷ filter test fields) (filter test fields))
first_where P test field fields true here rest = (here refl, rest)
first_where P test field fields false here rest = rest

-- what holds of those that pass, holds of what is kept
pub kept_where : (P : Field → Type 0) (test : Field → Bool) (fields : List Field) → AllByRecursion (λ (field : Field). test field ≡ true → P field) fields → AllByRecursion P (filter test fields)
kept_where P test [] all = tt
kept_where P test (field ∷ fields) all = first_where P test field fields (test field) all.0 (kept_where P test fields all.1)

pub kept_all : (P : Field → Type 0) (test : Field → Bool) (fields : List Field) → AllByRecursion P fields → AllByRecursion P (filter test fields)
kept_all P test fields all = kept_where P test fields (all_map P (λ (field : Field). test field ≡ true → P field) (λ field holds passes. holds) fields all)

module _ (test : Field → Bool) (field : Field) (all : List Field) (once : StandsOnce field all) where
  filtered : filter test all ≡ filter test once.before ++ cond (test field) (field ∷ filter test once.after) (filter test once.after)
  filtered = ap (filter test) once.is ∙ filter-append test once.before (field ∷ once.after)

  -- one that passes stands once
  pub once_kept : test field ≡ true → StandsOnce field (filter test all)
  once_kept passes =
      record {
        before = filter test once.before;
        after = filter test once.after;
        is = filtered ∙ ap (λ (b : Bool). filter test once.before ++ cond b (field ∷ filter test once.after) (filter test once.after)) passes;
        others_before = kept_all (λ (other : Field). is_member field.member other.member ≡ false) test once.before once.others_before;
        others_after = kept_all (λ (other : Field). is_member field.member other.member ≡ false) test once.after once.others_after;
      }

  -- one that fails is not there
  pub once_left : test field ≡ false → AreOthers field.member (filter test all)
  once_left fails =
      subst (AreOthers field.member) (sym (filtered ∙ ap (λ (b : Bool). filter test once.before ++ cond b (field ∷ filter test once.after) (filter test once.after)) fails))
      (
      all_append (λ (other : Field). is_member field.member other.member ≡ false) (filter test once.before) (filter test once.after)
      (kept_all (λ (other : Field). is_member field.member other.member ≡ false) test once.before once.others_before)
      (kept_all (λ (other : Field). is_member field.member other.member ≡ false) test once.after once.others_after)
      )
