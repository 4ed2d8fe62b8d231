-- An object of a class of a set that is new fits: its fields hold 0 or null, of types of the set.
use Rattle.std.proofs.Common.{◌≡◌, ℕ, zero, suc, ◌-◌, ◌+◌, Bool, true, false, ◌||◌, nat_lt, List, [], ◌∷◌, map, Option, Some, None, Ok, option_map, option_and_then, unwrap_or, refl, sym, ap, subst, inl, arith}
use Rattle.std.specs.Prelude.{pos, slice_get, is_none, if◌then◌else◌}
use Rattle.std.specs.Option.{option_map_or, option_or, ok_or}
use Rattle.std.proofs.lemmas.Bool.{or_parts}
use Rattle.std.proofs.lemmas.Option.{same_Some}
use Rattle.library.specs.Classes.{first_own}
use Rattle.class_pool.specs.declared.descriptor.Base.{Base}
use Rattle.class_pool.specs.declared.descriptor.Base.TheVariants as named
use Rattle.class_pool.specs.declared.descriptor.Kind.{Kind}
use Rattle.class_pool.specs.declared.descriptor.Kind.TheVariants as kind
use Rattle.class_pool.specs.declared.types.TypeBase.{TypeBase}
use Rattle.class_pool.specs.declared.types.TypeBase.TheVariants as bases
use Rattle.class_pool.specs.declared.types.TypeRef.{TypeRef}
use Rattle.class_pool.specs.Descriptors.{HasDims, base_of}
use Rattle.class_pool.specs.DescriptorReading.{brackets, base_at, kind_at, field_of}
use Rattle.class_pool.specs.Pool.{Slots, utf8_at}
use Rattle.class_pool.proofs.descriptors.FieldTypes.{field_taken}
use Rattle.class_file.specs.Rules.{is_static}
use Rattle.class_file.specs.declared.record.ClassFile.{ClassFile}
use Rattle.class_file.specs.declared.record.Member.{Member}
use Rattle.class_tree.specs.Descriptors.{lacks_base, is_wide_base, kinds_fault, field_text_fault, field_fault, method_fault, fault_refusal, member_refusal, file_refusal, declared_refusal}
use Rattle.class_tree.specs.Members.{Declaration, in_file, fields_of}
use Rattle.class_tree.specs.Merge.{is_class_or_super}
use Rattle.class_tree.specs.Scan.{first_refusal, saturated}
use Rattle.class_tree.specs.Set.{own_name, number_of}
use Rattle.class_tree.specs.Tree.{Gathers}
use Rattle.class_tree.proofs.ancestors.Superclasses.{passed}
use Rattle.body_form.specs.declared.types.VType.TheVariants as known
use Rattle.jvm_model.specs.declared.refusal.Cause.TheVariants.{Unresolved}
use Rattle.jvm_model.specs.Resolution.{and_then, base_named, type_with}
use Rattle.jvm_model.specs.State.{Null}
use Rattle.jvm_model.specs.TypesFrames.{value_in, value_of_kind}
use Rattle.typed_machine.specs.TypedState.{Object}
use Rattle.typed_machine.specs.TypedWorld.{World, kind_of, default_of_kind, new_object}
use Rattle.type_safety.proofs.fitting.Numbers.{small_fits, default_kept}
use Rattle.type_safety.specs.Facts.{IsConcrete}
use Rattle.type_safety.specs.Fitting.{KindFits, ObjectFits}

-- ---- what a descriptor names

-- a type whose class, if it is of one, the set has
pub record IsOfNames (files : List ClassFile) (kind : Kind) : Type 0 where
  pub there : lacks_base (map own_name files) (base_of kind) ≡ false
  pub narrow : is_wide_base (base_of kind) ≡ false
  pub dims : HasDims kind

int_named : (files : List ClassFile) → IsOfNames files kind.Int
int_named files = record { there = refl; narrow = refl; dims = tt }

no_fault : {X : Type 0} (b : Bool) (fault : X) (rest : Option X) → (if b then Some fault else rest) ≡ None → b ≡ false
no_fault true fault rest e = cc
no_fault false fault rest e = refl

no_later_fault : {X : Type 0} (b : Bool) (fault : X) (rest : Option X) → (if b then Some fault else rest) ≡ None → rest ≡ None
no_later_fault true fault rest e = cc
no_later_fault false fault rest e = e

module _ (files : List ClassFile) where
  text_with : (text : List ℕ) (found : Option Kind) → field_of text ≡ found → option_and_then (λ k. kinds_fault (map own_name files) (k ∷ [])) found ≡ None
      → IsOfNames files (unwrap_or found kind.Int)
  text_with text None is e = int_named files
  text_with text (Some k) is e =
      let names = map own_name files in
      let lacks = lacks_base names (base_of k) in
      let wide = is_wide_base (base_of k) in
      record {
        there = (or_parts lacks false (no_fault (lacks || false) _ _ e)).0;
        narrow = (or_parts wide false (no_fault (wide || false) _ _ (no_later_fault (lacks || false) _ _ e))).0;
        dims = (field_taken text k is).0.0;
      }

  no_text : field_of [] ≡ None
  unfolding field_of kind_at base_at brackets
  no_text = refl

  member_with : (text : Option (List ℕ)) → option_and_then (field_text_fault (map own_name files)) text ≡ None → IsOfNames files (unwrap_or (field_of (unwrap_or text [])) kind.Int)
  member_with None e = subst (λ o. IsOfNames files (unwrap_or o kind.Int)) (sym no_text) (int_named files)
  member_with (Some text) e = text_with text (field_of text) refl e

  -- ---- fields of the set

  nothing_first : {X : Type 0} (first second : Option X) → option_or first second ≡ None → first ≡ None
  nothing_first None second e = refl
  nothing_first (Some why) second e = e

  nothing_of : {X Y : Type 0} (found : Option X) (refuse : X → Y) → option_map refuse found ≡ None → found ≡ None
  nothing_of None refuse e = refl
  nothing_of (Some fault) refuse e = cc

  field_named : (pool : Slots) (fields : List Member) (member : ℕ) (field : Declaration) → slice_get (map (in_file pool) fields) member ≡ Some field
      → ((m : Member) → slice_get fields member ≡ Some m → field_fault (map own_name files) pool m.descriptor ≡ None) → IsOfNames files (kind_of field)
  field_named pool [] member field is none = cc
  field_named pool (m ∷ fields) zero field is none =
      subst (λ f. IsOfNames files (kind_of f)) (same_Some (in_file pool m) field is) (member_with (utf8_at pool m.descriptor) (none m refl))
  field_named pool (m ∷ fields) (suc member) field is none = field_named pool fields member field is none

  module _ (gathers : Gathers files None) where
    file_named : (position : ℕ) (file : ClassFile) → slice_get files position ≡ Some file → (member : ℕ) (m : Member) → slice_get file.fields member ≡ Some m
        → field_fault (map own_name files) file.pool m.descriptor ≡ None
    file_named position file is member m there =
        let names = map own_name files in
        let accepted : declared_refusal names files ≡ None = sym gathers.1.1.1.1.0 in
        let file_accepted = passed (file_refusal names) 0 files accepted position file is in
        let test = member_refusal (field_fault names file.pool) (0 + position) 1 in
        let fields = nothing_first (first_refusal test 0 file.fields) (first_refusal (member_refusal (method_fault names file.pool) (0 + position) 2) 0 file.methods) file_accepted in
        nothing_of (field_fault names file.pool m.descriptor) (fault_refusal (0 + position) 1 (saturated (0 + member))) (passed test 0 file.fields fields member m there)

    declared_with : (position : ℕ) (found : Option ClassFile) → slice_get files position ≡ found → (member : ℕ) (field : Declaration)
        → slice_get (option_map_or (λ (file : ClassFile). map (in_file file.pool) file.fields) found []) member ≡ Some field → IsOfNames files (kind_of field)
    declared_with position None there member field is = cc
    declared_with position (Some file) there member field is = field_named file.pool file.fields member field is (file_named position file there member)

    -- a field that a class declares
    declared_named : (library : Bool) (position : ℕ) (member : ℕ) (field : Declaration)
        → slice_get (option_map_or (λ (file : ClassFile). map (in_file file.pool) file.fields) (if library then None else slice_get files position) []) member ≡ Some field → IsOfNames files (kind_of field)
    declared_named true position member field is = cc
    declared_named false position member field is = declared_with position (slice_get files position) refl member field is

    pub field_of_names : (class member : ℕ) (field : Declaration) → slice_get (fields_of files class) member ≡ Some field → IsOfNames files (kind_of field)
    field_of_names class member field is = declared_named (nat_lt class first_own) (class - first_own) member field is

  -- ---- types of the set

  -- the base of a type
  pub record IsBaseNamed (of : Base) : Type 0 where
    pub base : TypeBase
    pub is : base_named files of ≡ Ok base

  class_base : (found : Option ℕ) → is_none found ≡ false → (base : TypeBase) × (and_then (λ class. Ok (bases.Class class)) (ok_or found Unresolved) ≡ Ok base)
  class_base None e = cc
  class_base (Some class) e = (bases.Class class, refl)

  pub base_is_named : (of : Base) → lacks_base (map own_name files) of ≡ false → is_wide_base of ≡ false → IsBaseNamed of
  base_is_named named.Byte there narrow = record { base = bases.Byte; is = refl }
  base_is_named named.Char there narrow = record { base = bases.Char; is = refl }
  base_is_named named.Short there narrow = record { base = bases.Short; is = refl }
  base_is_named named.Int there narrow = record { base = bases.Int; is = refl }
  base_is_named named.Boolean there narrow = record { base = bases.Boolean; is = refl }
  base_is_named (named.Class name) there narrow = let found = class_base (number_of files name) there in record { base = found.0; is = found.1 }
  base_is_named named.Long there narrow = cc
  base_is_named named.Float there narrow = cc
  base_is_named named.Double there narrow = cc

-- ---- what fields hold at first

class_there : (found : Option ℕ) → is_none found ≡ false → (class : ℕ) × (found ≡ Some class)
class_there None e = cc
class_there (Some class) e = (class, refl)

module _ (world : World) (objects : List Object) where
  null_fits : (kind : Kind) (type : TypeRef) → value_of_kind world.files kind ≡ Some (known.Ref type) → KindFits world objects kind Null
  null_fits kind type is = record { type = known.Ref type; is = is; has = λ body. inl refl }

  -- 0 or null fits
  pub default_fits : (kind : Kind) → IsOfNames world.files kind → KindFits world objects kind (default_of_kind kind)
  default_fits kind.Byte is = record { type = known.Int; is = refl; has = λ body. (pos 0, refl, small_fits 0 (omega arith)) }
  default_fits kind.Char is = record { type = known.Int; is = refl; has = λ body. (pos 0, refl, small_fits 0 (omega arith)) }
  default_fits kind.Short is = record { type = known.Int; is = refl; has = λ body. (pos 0, refl, small_fits 0 (omega arith)) }
  default_fits kind.Int is = record { type = known.Int; is = refl; has = λ body. (pos 0, refl, small_fits 0 (omega arith)) }
  default_fits kind.Boolean is = record { type = known.Int; is = refl; has = λ body. (pos 0, refl, small_fits 0 (omega arith)) }
  default_fits (kind.Class name) is =
      let found = class_there (number_of world.files name) is.there in
      null_fits (kind.Class name) (type_with 0 (bases.Class found.0)) (ap (λ o. value_in (and_then (λ b. Ok (type_with 0 b)) (and_then (λ class. Ok (bases.Class class)) (ok_or o Unresolved)))) found.1)
  default_fits (kind.Array zero of) is = absurd (omega (arith, is.dims.0))
  default_fits (kind.Array (suc dims) of) is =
      let found = base_is_named world.files of is.there is.narrow in
      null_fits (kind.Array (suc dims) of) (type_with (suc dims) found.base) (ap (λ r. value_in (and_then (λ b. Ok (type_with (suc dims) b)) r)) found.is)
  default_fits kind.Long is = let f = is.narrow in cc
  default_fits kind.Float is = let f = is.narrow in cc
  default_fits kind.Double is = let f = is.narrow in cc

unstatic : (static : Bool) (first field : Declaration) → (if static then None else Some first) ≡ Some field → Some first ≡ Some field
unstatic true first field e = cc
unstatic false first field e = e

-- the field of a class is declared by a class of the set
found_field : (files : List ClassFile) (above : Bool) (found : Option Declaration) (field : Declaration)
    → (if above then option_and_then (λ (f : Declaration). if is_static f.flags then None else Some f) found else None) ≡ Some field → found ≡ Some field
found_field files false found field e = cc
found_field files true None field e = cc
found_field files true (Some first) field e = unstatic (is_static first.flags) first field e

pub new_object_fits : (world : World) → Gathers world.files None → (objects : List Object) (class : ℕ) → IsConcrete world class → ObjectFits world objects (new_object world.files class)
new_object_fits world gathers objects class concrete = (
  concrete.0,
  concrete.1,
  concrete.2,
  λ id field is.
      let declared = found_field world.files (is_class_or_super world.files class id.class) (slice_get (fields_of world.files id.class) id.member) field is in
      let named = field_of_names world.files gathers id.class id.member field declared in
      record { value = default_of_kind (kind_of field); is = ap (option_map (λ (f : Declaration). default_of_kind (kind_of f))) is; has = default_fits world objects (kind_of field) named; kept = default_kept (kind_of field) },
)
