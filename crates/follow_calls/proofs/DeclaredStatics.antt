-- The static fields of a set are those that its classes declare, and hold values of their declared types.
use Rattle.std.proofs.Common.{◌≡◌, ◌⊎◌, inl, inr, ℕ, zero, suc, ◌+◌, ◌≤◌, Bool, true, false, List, [], ◌∷◌, map, Option, Some, None, Ok, Err, option_map, option_and_then, unwrap_or, slice_get, if◌then◌else◌, refl, sym, ap, subst, ◌∙◌, arith}
use Rattle.std.specs.List.{AllByRecursion, flat_map}
use Rattle.std.specs.Option.{option_map_or, ok_or}
use Rattle.std.proofs.lemmas.Option.{none-some, same_Some, slice_get-map}
use Rattle.class_pool.specs.declared.descriptor.Kind.{Kind}
use Rattle.class_pool.specs.declared.descriptor.Kind.TheVariants as kind
use Rattle.class_pool.specs.declared.types.MemberId.{MemberId}
use Rattle.class_pool.specs.declared.types.TypeBase.{TypeBase}
use Rattle.class_pool.specs.declared.types.TypeBase.TheVariants as base
use Rattle.class_pool.specs.declared.types.TypeRef.{TypeRef}
use Rattle.class_pool.specs.DescriptorReading.{field_of, kind_at, base_at, brackets}
use Rattle.class_pool.specs.Descriptors.{HasDims}
use Rattle.class_pool.specs.Pool.{utf8_at}
use Rattle.class_file.specs.Rules.{is_static}
use Rattle.class_file.specs.declared.record.ClassFile.{ClassFile}
use Rattle.class_file.specs.declared.record.Member.{Member}
use Rattle.class_tree.proofs.lookups.Climbing.{all_append}
use Rattle.class_tree.specs.Members.{Declaration, in_file}
use Rattle.class_tree.specs.Set.{file_of, number_of}
use Rattle.class_tree.specs.Tree.{Gathers}
use Rattle.body_form.specs.declared.body.Body.{Body}
use Rattle.body_form.specs.declared.types.VType.{VType}
use Rattle.body_form.specs.declared.types.VType.TheVariants as known
use Rattle.jvm_model.specs.declared.refusal.Cause.TheVariants.{Unresolved}
use Rattle.jvm_model.specs.ImageNumbering.{Field, fields_from, class_fields, class_order, all_fields, static_fields}
use Rattle.jvm_model.specs.Initialisers.{is_whole_kind, is_reference_kind}
use Rattle.jvm_model.specs.Resolution.{Resolved, and_then, base_named, type_with}
use Rattle.jvm_model.specs.State.{Value, Null, Name}
use Rattle.jvm_model.specs.TypesFrames.{value_in}
use Rattle.typed_machine.specs.TypedState.{Object}
use Rattle.typed_machine.specs.TypedWorld.{World, kind_of}
use Rattle.type_safety.proofs.facts.Declared.{field_of_file}
use Rattle.type_safety.proofs.facts.RunMethods.{own_file}
use Rattle.type_safety.proofs.fitting.NewObject.{IsOfNames, field_of_names}
use Rattle.type_safety.specs.Fitting.{IsWhole, ValueFits, KindFits, static_field}
use Rattle.follow_calls.proofs.FieldsOnce.{StandsOnce, field_at, kept_where, stands_once}

-- ---- what is declared of them

-- a static field that its class declares
pub record IsDeclared (files : List ClassFile) (field : Field) : Type 0 where
  pub declaration : Declaration
  pub is : static_field files field.member ≡ Some declaration
  pub kind : kind_of declaration ≡ field.kind

no_text : field_of [] ≡ None
unfolding field_of kind_at base_at brackets
no_text = refl

same_kind : (text : Option (List ℕ)) → unwrap_or (field_of (unwrap_or text [])) kind.Int ≡ unwrap_or (option_and_then field_of text) kind.Int
same_kind None = ap (λ (o : Option Kind). unwrap_or o kind.Int) no_text
same_kind (Some text) = refl

abbrev where_static : Declaration → Option Declaration
where_static declaration = if is_static declaration.flags then Some declaration else None

abbrev IsDeclaredWhereStatic : List ClassFile → Field → Type 0
IsDeclaredWhereStatic files field = field.static ≡ true → IsDeclared files field

module _ (files : List ClassFile) where
  module _ (class : ℕ) (file : ClassFile) (found : file_of files class ≡ Some file) where
    declared_here : (at : ℕ) (member : Member) → slice_get file.fields at ≡ Some member → IsDeclaredWhereStatic files (field_at class file at member)
    declared_here at member there static =
        record {
          declaration = in_file file.pool member;
          is =
              ap (λ (o : Option ClassFile). option_and_then where_static (slice_get (option_map_or (λ (f : ClassFile). map (in_file f.pool) f.fields) o []) at)) found
              ∙ ap (option_and_then where_static) (slice_get-map (in_file file.pool) file.fields at ∙ ap (option_map (in_file file.pool)) there)
              ∙ ap (λ (b : Bool). if b then Some (in_file file.pool member) else None) static;
          kind = same_kind (utf8_at file.pool member.descriptor);
        }

    declared_from : (at : ℕ) (members : List Member) → ((i : ℕ) → slice_get members i ≡ slice_get file.fields (at + i)) → AllByRecursion (IsDeclaredWhereStatic files) (fields_from class file at members)
    unfolding fields_from
    declared_from at [] part = tt
    declared_from at (member ∷ members) part =
        let here : at + 0 ≡ at = omega arith in (
          declared_here at member (ap (slice_get file.fields) (sym here) ∙ sym (part 0)),
          declared_from (suc at) members (λ i. let next : at + suc i ≡ suc at + i = omega arith in part (suc i) ∙ ap (slice_get file.fields) next),
        )

  declared_in : (class : ℕ) (found : Option ClassFile) → file_of files class ≡ found → AllByRecursion (IsDeclaredWhereStatic files) (option_map_or (λ (file : ClassFile). fields_from class file 0 file.fields) found [])
  declared_in class None is = tt
  declared_in class (Some file) is = declared_from class file is 0 file.fields (λ i. ap (slice_get file.fields) (omega arith))

  declared_of : (classes : List ℕ) → AllByRecursion (IsDeclaredWhereStatic files) (flat_map (class_fields files) classes)
  declared_of [] = tt
  declared_of (class ∷ classes) =
      all_append (IsDeclaredWhereStatic files) (class_fields files class) (flat_map (class_fields files) classes) (declared_in class (file_of files class) refl) (declared_of classes)

  pub statics_declared : AllByRecursion (IsDeclared files) (static_fields files)
  statics_declared = kept_where (IsDeclared files) (λ (field : Field). field.static) (all_fields files) (declared_of (class_order files))

  -- ---- where one stands

  pub record IsListed (id : MemberId) (declaration : Declaration) : Type 0 where
    pub field : Field
    pub member : field.member ≡ id
    pub kind : field.kind ≡ kind_of declaration
    pub static : field.static ≡ true
    pub once : StandsOnce field (all_fields files)

  by_flag : (found declaration : Declaration) (static : Bool) → is_static found.flags ≡ static → (if static then Some found else None) ≡ Some declaration → (found ≡ declaration) × (is_static found.flags ≡ true)
  by_flag found declaration true is e = (same_Some found declaration e, is)
  by_flag found declaration false is e = absurd (none-some declaration e)

  static_there : (found : Option Declaration) (declaration : Declaration) → option_and_then where_static found ≡ Some declaration → (found ≡ Some declaration) × (is_static declaration.flags ≡ true)
  static_there None declaration e = absurd (none-some declaration e)
  static_there (Some found) declaration e =
      let is = by_flag found declaration (is_static found.flags) refl e in
      (ap (λ (d : Declaration). Some d) is.0, ap (λ (d : Declaration). is_static d.flags) (sym is.0) ∙ is.1)

  pub static_listed : Gathers files None → (id : MemberId) (declaration : Declaration) → static_field files id ≡ Some declaration → IsListed id declaration
  static_listed gathers id declaration is =
      let there = static_there _ declaration is in
      let stands = field_of_file files id.class id.member declaration there.0 in
      let file = stands.has.file in
      let found : file_of files id.class ≡ Some file = own_file files id.class stands.has.own ∙ stands.has.is in
      record {
        field = field_at id.class file id.member stands.field;
        member = refl;
        kind = sym (same_kind (utf8_at file.pool stands.field.descriptor)) ∙ ap kind_of stands.is;
        static = ap (λ (d : Declaration). is_static d.flags) stands.is ∙ there.1;
        once = stands_once files gathers id.class file found id.member stands.field stands.there;
      }

  -- ---- their types

  pub static_named : Gathers files None → (id : MemberId) (declaration : Declaration) → static_field files id ≡ Some declaration → IsOfNames files (kind_of declaration)
  static_named gathers id declaration is = field_of_names files gathers id.class id.member declaration (static_there _ declaration is).0

-- a declared type is of whole numbers, or of references
pub whole_or_reference : (files : List ClassFile) (of : Kind) → IsOfNames files of → (is_whole_kind of ≡ true) ⊎ (is_reference_kind of ≡ true)
whole_or_reference files kind.Byte named = inl refl
whole_or_reference files kind.Char named = inl refl
whole_or_reference files kind.Short named = inl refl
whole_or_reference files kind.Int named = inl refl
whole_or_reference files kind.Boolean named = inl refl
whole_or_reference files kind.Long named = let e = named.narrow in cc
whole_or_reference files kind.Float named = let e = named.narrow in cc
whole_or_reference files kind.Double named = let e = named.narrow in cc
whole_or_reference files (kind.Class name) named = inr refl
whole_or_reference files (kind.Array dims of) named = inr refl

-- ---- their values

module _ (world : World) (objects : List Object) (body : Body) (value : Value) where
  int_fits : (type : VType) → Some known.Int ≡ Some type → ValueFits world objects body value type → IsWhole value
  int_fits type is has = subst (ValueFits world objects body value) (sym (same_Some known.Int type is)) has

  pub whole_value : (of : Kind) → is_whole_kind of ≡ true → KindFits world objects of value → IsWhole value
  whole_value kind.Byte whole has = int_fits has.type has.is (has.has body)
  whole_value kind.Char whole has = int_fits has.type has.is (has.has body)
  whole_value kind.Short whole has = int_fits has.type has.is (has.has body)
  whole_value kind.Int whole has = int_fits has.type has.is (has.has body)
  whole_value kind.Boolean whole has = int_fits has.type has.is (has.has body)
  whole_value of whole has = absurd cc

  abbrev IsReference : Type 0
  IsReference = (value ≡ Null) ⊎ ((name : ℕ) × (value ≡ Name name))

  named_fits : (of : TypeRef) → ValueFits world objects body value (known.Ref of) → IsReference
  named_fits of (inl null) = inl null
  named_fits of (inr names) = inr (names.name, names.is)

  ref_fits : (of : TypeRef) (type : VType) → Some (known.Ref of) ≡ Some type → ValueFits world objects body value type → IsReference
  ref_fits of type is has = named_fits of (subst (ValueFits world objects body value) (sym (same_Some (known.Ref of) type is)) has)

  class_fits : (found : Resolved ℕ) (type : VType) → value_in (and_then (λ of. Ok (type_with 0 of)) (and_then (λ (class : ℕ). Ok (base.Class class)) found)) ≡ Some type → ValueFits world objects body value type → IsReference
  class_fits (Ok class) type is has = ref_fits (type_with 0 (base.Class class)) type is has
  class_fits (Err why) type is has = absurd (none-some type is)

  array_fits : (dims : ℕ) (found : Resolved TypeBase) (type : VType) → 1 ≤ dims → value_in (and_then (λ of. Ok (type_with dims of)) found) ≡ Some type → ValueFits world objects body value type → IsReference
  array_fits zero found type some is has = absurd (omega (arith, some))
  array_fits (suc dims) (Ok of) type some is has = ref_fits (type_with (suc dims) of) type is has
  array_fits (suc dims) (Err why) type some is has = absurd (none-some type is)

  pub reference_value : (of : Kind) → is_reference_kind of ≡ true → HasDims of → KindFits world objects of value → IsReference
  reference_value (kind.Class name) refers dims has = class_fits (ok_or (number_of world.files name) Unresolved) has.type has.is (has.has body)
  reference_value (kind.Array count of) refers dims has = array_fits count (base_named world.files of) has.type dims.0 has.is (has.has body)
  reference_value of refers dims has = absurd cc
