-- The fields that instructions name are there, of the kind that they say.
use Rattle.std.proofs.Common.{◌≡◌, ℕ, Bool, true, false, List, slice_get, Option, Some, None, option_and_then, unwrap_or, Ok, Err, refl, sym, ap, subst, ◌∙◌, arith}
use Rattle.std.specs.Prelude.{if◌then◌else◌}
use Rattle.std.specs.List.{AllByRecursion}
use Rattle.std.specs.Option.{ok_or}
use Rattle.class_pool.specs.declared.descriptor.Kind.{Kind}
use Rattle.class_pool.specs.declared.descriptor.Kind.TheVariants as kind
use Rattle.class_pool.specs.declared.types.MemberId.{MemberId}
use Rattle.class_pool.specs.Pool.{Slots}
use Rattle.class_pool.specs.Members.{MemberName}
use Rattle.class_pool.specs.DescriptorReading.{field_of}
use Rattle.class_file.specs.declared.record.ClassFile.{ClassFile}
use Rattle.class_file.specs.Rules.{is_static, is_interface}
use Rattle.body_form.specs.declared.op.FieldUse.{FieldUse}
use Rattle.class_tree.specs.Members.{Declaration, fields_of, field_in, member_flags}
use Rattle.class_tree.specs.Set.{IsClass, flags_of}
use Rattle.class_tree.specs.Subtypes.{IsSubclass}
use Rattle.class_tree.specs.Tree.{Gathers}
use Rattle.class_tree.specs.DirectSupers.{class_count, superclass_of, all_supers_of}
use Rattle.class_tree.specs.FieldLookup.{find_field}
use Rattle.class_tree.proofs.ancestors.Forest.{over}
use Rattle.class_tree.proofs.ancestors.CommonSuper.{Above, complete}
use Rattle.class_tree.proofs.ancestors.Superclasses.{IsRanked}
use Rattle.jvm_model.specs.declared.refusal.Cause.{Cause}
use Rattle.jvm_model.specs.declared.refusal.Cause.TheVariants.{Unresolved, WrongKind, Denied}
use Rattle.jvm_model.specs.Resolution.{and_then, where_passes, is_as_asked, class_named, field_name_at}
use Rattle.jvm_model.specs.FieldUses.{FieldAsked, may_use_field, field_found, field_tested, field_used}
use Rattle.jvm_model.proofs.bodies.BodyNames.{then_ok, there_ok, class_ok}
use Rattle.typed_machine.specs.TypedWorld.{World, kind_of}
use Rattle.type_safety.specs.Facts.{IsStaticField, HasField, IsInstanceField}
use Rattle.type_safety.proofs.fitting.SetLists.{not_true_is}
use Rattle.type_safety.proofs.facts.CodeRead.{IsRead}
use Rattle.type_safety.proofs.facts.ClassWays.{up_found, way_leads, all_lie, no_interface_above, over_interface}
use Rattle.type_safety.proofs.fitting.FitsOver.{above_object, super_fits, no_array_fits}
use Rattle.type_safety.proofs.facts.Declared.{field_declared, no_interface_declares, flags_there}

-- ---- tests that let through

pub passed : {X : Type 0} (passes : Bool) (why : Cause) (x y : X) → where_passes passes why x ≡ Ok y → (passes ≡ true) × (x ≡ y)
passed true why x y e = (refl, cc)
passed false why x y e = absurd (let bad : Err why ≡ Ok y = e in cc)

-- ---- what a field's use says

record IsUsed (files : List ClassFile) (static : Bool) (used : FieldUse) : Type 0 where
  name : List ℕ
  descriptor : List ℕ
  class : IsClass files used.class
  kind : field_of descriptor ≡ Some used.kind
  found : find_field files name descriptor used.class ≡ Some used.field
  asked : is_as_asked static (is_static (member_flags files true used.field)) ≡ true

module _ (files : List ClassFile) where
  found_used : (from : ℕ) (asked : FieldAsked) (member : MemberName) (class : ℕ) (found used : FieldUse) → IsClass files class → field_found files member class ≡ Ok found → field_tested files from asked found ≡ Ok used → IsUsed files asked.static used
  found_used from asked member class found used inside e tests =
      let kind = then_ok (λ kind. and_then (λ id. Ok (record { field = id; kind = kind; class = class })) (ok_or (find_field files member.name member.descriptor class) Unresolved)) (ok_or (field_of member.descriptor) Unresolved) found e in
      let id = then_ok {X = MemberId} {Y = FieldUse} (λ id. Ok (record { field = id; kind = kind.0; class = class })) (ok_or (find_field files member.name member.descriptor class) Unresolved) found kind.2 in
      let made : record { field = id.0; kind = kind.0; class = class } ≡ found = cc in
      let tested = then_ok (λ (checked : FieldUse). where_passes (may_use_field files from asked checked.class checked.field) Denied checked) (where_passes (is_as_asked asked.static (is_static (member_flags files true found.field))) WrongKind found) used tests in
      let first = passed (is_as_asked asked.static (is_static (member_flags files true found.field))) WrongKind found tested.0 tested.1 in
      let second = passed (may_use_field files from asked tested.0.class tested.0.field) Denied tested.0 used tested.2 in
      subst (IsUsed files asked.static) (first.1 ∙ second.1)
      (subst (λ (f : FieldUse). is_as_asked asked.static (is_static (member_flags files true f.field)) ≡ true → IsUsed files asked.static f) made
      (λ as_asked. record {
        name = member.name;
        descriptor = member.descriptor;
        class = inside;
        kind = there_ok (field_of member.descriptor) Unresolved kind.0 kind.1;
        found = there_ok (find_field files member.name member.descriptor class) Unresolved id.0 id.1;
        asked = as_asked;
      }) first.0)

  use_says : (from : ℕ) (pool : Slots) (asked : FieldAsked) (index : ℕ) (used : FieldUse) → field_used files from pool asked index ≡ Ok used → IsUsed files asked.static used
  use_says from pool asked index used e =
      let member = then_ok (λ member. and_then (λ class. and_then (field_tested files from asked) (field_found files member class)) (class_named files member.class)) (ok_or (field_name_at pool index) WrongKind) used e in
      let class = then_ok (λ class. and_then (field_tested files from asked) (field_found files member.0 class)) (class_named files member.0.class) used member.2 in
      let found = then_ok (field_tested files from asked) (field_found files member.0 class.0) used class.2 in
      found_used from asked member.0 class.0 found.0 used (class_ok files member.0.class class.0 class.1) found.1 found.2

  -- ---- the field that is there

  record IsThere (used : FieldUse) (static : Bool) : Type 0 where
    declaration : Declaration
    there : slice_get (fields_of files used.field.class) used.field.member ≡ Some declaration
    kind : kind_of declaration ≡ used.kind
    flags : is_static declaration.flags ≡ static
    below : IsSubclass files used.class used.field.class

  asked_is : (asked is : Bool) → is_as_asked asked is ≡ true → is ≡ asked
  asked_is true is e = e
  asked_is false is e = not_true_is is e

  field_there : (static : Bool) (used : FieldUse) → IsUsed files static used → IsThere used static
  field_there static used is =
      let up = up_found (all_supers_of files) (field_in files is.name is.descriptor) (class_count files) used.class used.field is.found in
      let own = field_declared files is.name is.descriptor up.at used.field up.is in
      let there : slice_get (fields_of files used.field.class) used.field.member ≡ Some own.declaration = subst (λ (c : ℕ). slice_get (fields_of files c) used.field.member ≡ Some own.declaration) (sym own.class_is) own.there in
      record {
        declaration = own.declaration;
        there = there;
        kind = ap (λ (d : List ℕ). unwrap_or (field_of d) kind.Int) own.descriptor_is ∙ ap (λ (o : Option Kind). unwrap_or o kind.Int) is.kind;
        flags = ap is_static (sym (flags_there files (fields_of files used.field.class) used.field.member own.declaration there)) ∙ asked_is static (is_static (member_flags files true used.field)) is.asked;
        below = subst (λ (c : ℕ). IsSubclass files used.class c) (sym own.class_is) (way_leads files (all_supers_of files) (all_lie files) used.class up.at up.way);
      }

-- ---- the facts

module _ (world : World) (gathers : Gathers world.files None) (rank : ℕ → ℕ) (ranked : IsRanked world.files rank) (read : AllByRecursion IsRead world.files) where
  pub named_static : (from : ℕ) (pool : Slots) (asked : FieldAsked) (index : ℕ) (used : FieldUse) → asked.static ≡ true → field_used world.files from pool asked index ≡ Ok used → IsStaticField world used
  named_static from pool asked index used static e =
      let is = field_there world.files asked.static used (use_says world.files from pool asked index used e) in
      let flags : is_static is.declaration.flags ≡ true = is.flags ∙ static in
      record {
        field = is.declaration;
        is = ap (option_and_then (λ (field : Declaration). if is_static field.flags then Some field else None)) is.there ∙ ap (λ b. if b then Some is.declaration else None) flags;
        kind = is.kind;
      }

  pub named_instance : (from : ℕ) (pool : Slots) (asked : FieldAsked) (index : ℕ) (used : FieldUse) → asked.static ≡ false → field_used world.files from pool asked index ≡ Ok used → IsInstanceField world used
  named_instance from pool asked index used instance e =
      let says = use_says world.files from pool asked index used e in
      let is = field_there world.files asked.static used says in
      let flags : is_static is.declaration.flags ≡ false = is.flags ∙ instance in
      let declares = no_interface_declares world.files read used.field.class used.field.member is.declaration is.there flags in
      let not_object : used.field.class ≡ 0 → ⊥ = λ e. omega (arith, e, declares.1) in
      let class_is : is_interface (flags_of world.files used.class) ≡ false = plain (is_interface (flags_of world.files used.class)) (λ interface. not_object (over_interface world.files gathers rank ranked used.class used.field.class says.class is.below declares.0 interface)) in
      let upper = no_interface_above world.files gathers rank ranked used.class used.field.class says.class is.below declares.0 in
      let has : (class : ℕ) → Above world.files class used.field.class → HasField world class used = λ class way. record {
        field = is.declaration;
        is =
            ap (λ b. if b then option_and_then (λ (field : Declaration). if is_static field.flags then None else Some field) (slice_get (fields_of world.files used.field.class) used.field.member) else None) (complete world.files rank ranked class used.field.class way)
            ∙ ap (option_and_then (λ (field : Declaration). if is_static field.flags then None else Some field)) is.there ∙ ap (λ b. if b then None else Some is.declaration) flags;
        kind = is.kind;
      } in
      record {
        named = λ class concrete below. has class (over (superclass_of world.files) class used.class used.field.class (super_fits world.files gathers class used.class class_is below) upper);
        declared = λ class concrete below. has class (super_fits world.files gathers class used.field.class declares.0 below);
        no_array = no_array_fits world.files gathers used.class class_is (λ zero_is. not_object (sym (above_object world.files gathers used.field.class (subst (λ (c : ℕ). Above world.files c used.field.class) zero_is upper))));
      }
    where
      plain : (b : Bool) → (b ≡ true → ⊥) → b ≡ false
      plain true h = absurd (h refl)
      plain false h = refl
