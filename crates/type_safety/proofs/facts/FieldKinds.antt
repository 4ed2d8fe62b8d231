-- The descriptors of fields of a set name types of the set, and what a field holds at first fits its type.
use Rattle.std.proofs.Common.{◌≡◌, ◌≢◌, ℕ, zero, suc, ◌+◌, ◌-◌, ◌≤◌, ◌==◌, nat_lt, Bool, true, false, pos, inl, List, [], ◌∷◌, map, length, drop, Option, Some, None, Ok, is_none, ok_or, unwrap_or, option_map, option_and_then, if◌then◌else◌, refl, sym, ap, subst, ◌∙◌, arith}
use Rattle.std.specs.Prelude.{slice_get}
use Rattle.std.specs.Option.{option_or, option_map_or}
use Rattle.std.specs.List.{list_any}
use Rattle.std.proofs.lemmas.Bool.{or_parts, eqb-false}
use Rattle.std.proofs.lemmas.Option.{slice_get-map}
use Rattle.library.specs.Classes.{first_own}
use Rattle.class_pool.specs.declared.descriptor.Base.{Base}
use Rattle.class_pool.specs.declared.descriptor.Base.TheVariants as named
use Rattle.class_pool.specs.declared.descriptor.Kind.{Kind}
use Rattle.class_pool.specs.declared.descriptor.Kind.TheVariants as kind
use Rattle.class_pool.specs.declared.types.TypeBase.{TypeBase}
use Rattle.class_pool.specs.declared.types.TypeBase.TheVariants as base
use Rattle.class_pool.specs.Descriptors.{base_of}
use Rattle.class_pool.specs.DescriptorReading.{◌>>=◌, kind_at, kind_with, plain_kind, base_at, brackets, field_of}
use Rattle.class_pool.specs.Pool.{utf8_at}
use Rattle.class_file.specs.declared.record.ClassFile.{ClassFile}
use Rattle.class_file.specs.declared.record.Member.{Member}
use Rattle.body_form.specs.declared.types.VType.TheVariants as known
use Rattle.class_tree.specs.Descriptors.{lacks_base, is_wide_base, kinds_fault, field_text_fault, field_fault, method_fault, fault_refusal, member_refusal, file_refusal}
use Rattle.class_tree.specs.Members.{Declaration, in_file, fields_of}
use Rattle.class_tree.specs.Scan.{first_refusal, saturated}
use Rattle.class_tree.specs.Set.{own_name, number_of}
use Rattle.class_tree.specs.Tree.{Gathers}
use Rattle.class_tree.proofs.ancestors.Superclasses.{passed}
use Rattle.jvm_model.specs.declared.refusal.Cause.TheVariants.{Unresolved}
use Rattle.jvm_model.specs.Resolution.{Resolved, and_then, base_named, type_with}
use Rattle.jvm_model.specs.State.{Whole}
use Rattle.jvm_model.specs.TypesFrames.{value_in, value_of_kind}
use Rattle.typed_machine.specs.TypedState.{Object}
use Rattle.typed_machine.specs.TypedWorld.{World, kind_of, default_of_kind}
use Rattle.type_safety.proofs.fitting.Numbers.{small_fits}
use Rattle.type_safety.specs.Fitting.{KindFits}

-- ---- types as descriptors have them

-- an array has a dimension
abbrev pub HasArrayDims : Kind → Type 0
HasArrayDims (kind.Array dims of) = 1 ≤ dims
HasArrayDims k = Unit {0}

plain_dims : (of : Base) → HasArrayDims (plain_kind of)
plain_dims named.Byte = tt
plain_dims named.Char = tt
plain_dims named.Double = tt
plain_dims named.Float = tt
plain_dims named.Int = tt
plain_dims named.Long = tt
plain_dims named.Short = tt
plain_dims named.Boolean = tt
plain_dims (named.Class name) = tt

chosen_dims : (plain : Bool) (dims : ℕ) (of : Base) → (plain ≡ false → 1 ≤ dims) → HasArrayDims (if plain then plain_kind of else kind.Array dims of)
chosen_dims true dims of some = plain_dims of
chosen_dims false dims of some = some refl

with_dims : (dims : ℕ) (of : Base) → HasArrayDims (kind_with dims of)
with_dims dims of = chosen_dims (dims == 0) dims of (λ e. let some : dims ≢ 0 = eqb-false dims 0 e in omega arith)

same_kind : (a b : Kind × List ℕ) → Some a ≡ Some b → a.0 ≡ b.0
same_kind a b e = cc

same_one : (a b : Kind) → Some a ≡ Some b → a ≡ b
same_one a b e = cc

based_dims : (dims : ℕ) (found : Option (Base × List ℕ)) (read : Kind × List ℕ) → (found >>= λ of. Some (kind_with dims of.0, of.1)) ≡ Some read → HasArrayDims read.0
based_dims dims None read e = cc
based_dims dims (Some of) read e = subst HasArrayDims (same_kind (kind_with dims of.0, of.1) read e) (with_dims dims of.0)

part_dims : (wide : Bool) (dims : ℕ) (found : Option (Base × List ℕ)) (read : Kind × List ℕ)
    → (if wide then None else (found >>= λ of. Some (kind_with dims of.0, of.1))) ≡ Some read → HasArrayDims read.0
part_dims true dims found read e = cc
part_dims false dims found read e = based_dims dims found read e

kind_dims : (text : List ℕ) (read : Kind × List ℕ) → kind_at text ≡ Some read → HasArrayDims read.0
unfolding kind_at
kind_dims text read e = part_dims (nat_lt 255 (brackets text)) (brackets text) (base_at (drop (brackets text) text)) read e

whole_dims : (ends : Bool) (read one : Kind) → HasArrayDims read → (if ends then Some read else None) ≡ Some one → HasArrayDims one
whole_dims true read one has e = subst HasArrayDims (same_one read one e) has
whole_dims false read one has e = cc

read_dims : (found : Option (Kind × List ℕ)) → ((read : Kind × List ℕ) → found ≡ Some read → HasArrayDims read.0) → (one : Kind)
    → (found >>= λ read. if length read.1 == 0 then Some read.0 else None) ≡ Some one → HasArrayDims one
read_dims None has one e = cc
read_dims (Some read) has one e = whole_dims (length read.1 == 0) read.0 one (has read refl) e

field_dims : (text : List ℕ) (one : Kind) → field_of text ≡ Some one → HasArrayDims one
unfolding field_of
field_dims text one e = read_dims (kind_at text) (kind_dims text) one e

no_field : field_of [] ≡ None
unfolding field_of kind_at brackets base_at
no_field = refl

-- ---- the first value of a type

-- what holds of a type whose base the set has
pub record IsDeclared (files : List ClassFile) (k : Kind) : Type 0 where
  pub dims : HasArrayDims k
  pub there : lacks_base (map own_name files) (base_of k) ≡ false
  pub narrow : is_wide_base (base_of k) ≡ false

class_there : (found : Option ℕ) → is_none found ≡ false → (class : ℕ) × (found ≡ Some class)
class_there None e = cc
class_there (Some class) e = (class, refl)

class_base : (files : List ClassFile) (name : List ℕ) → lacks_base (map own_name files) (named.Class name) ≡ false → (class : ℕ) × (base_named files (named.Class name) ≡ Ok (base.Class class))
class_base files name e =
    let found = class_there (number_of files name) e in
    (found.0, ap (λ (o : Option ℕ). and_then (λ class. Ok (base.Class class)) (ok_or o Unresolved)) found.1)

named_base : (files : List ClassFile) (of : Base) → lacks_base (map own_name files) of ≡ false → is_wide_base of ≡ false → (found : TypeBase) × (base_named files of ≡ Ok found)
named_base files named.Byte there narrow = (base.Byte, refl)
named_base files named.Char there narrow = (base.Char, refl)
named_base files named.Short there narrow = (base.Short, refl)
named_base files named.Int there narrow = (base.Int, refl)
named_base files named.Boolean there narrow = (base.Boolean, refl)
named_base files (named.Class name) there narrow = let found = class_base files name there in (base.Class found.0, found.1)
named_base files of there narrow = cc

module _ (world : World) (objects : List Object) where
  abbrev DefaultFits : Kind → Type 0
  DefaultFits k = KindFits world objects k (default_of_kind k)

  zero_fits : (k : Kind) → value_of_kind world.files k ≡ Some known.Int → KindFits world objects k (Whole (pos 0))
  zero_fits k is = record { type = known.Int; is = is; has = λ body. (pos 0, refl, small_fits 0 (omega arith)) }

  array_default : (dims : ℕ) (of : Base) → 1 ≤ dims → (found : TypeBase) → base_named world.files of ≡ Ok found → DefaultFits (kind.Array dims of)
  array_default zero of some found is = absurd (omega (arith, some))
  array_default (suc dims) of some found is =
      record {
        type = known.Ref (type_with (suc dims) found);
        is = ap (λ (b : Resolved TypeBase). value_in (and_then (λ of. Ok (type_with (suc dims) of)) b)) is;
        has = λ body. inl refl;
      }

  pub kind_default : (k : Kind) → IsDeclared world.files k → DefaultFits k
  kind_default kind.Byte is = zero_fits kind.Byte refl
  kind_default kind.Char is = zero_fits kind.Char refl
  kind_default kind.Short is = zero_fits kind.Short refl
  kind_default kind.Int is = zero_fits kind.Int refl
  kind_default kind.Boolean is = zero_fits kind.Boolean refl
  kind_default (kind.Class name) is =
      let found = class_base world.files name is.there in
      record {
        type = known.Ref (type_with 0 (base.Class found.0));
        is = ap (λ (b : Resolved TypeBase). value_in (and_then (λ of. Ok (type_with 0 of)) b)) found.1;
        has = λ body. inl refl;
      }
  kind_default (kind.Array dims of) is = let found = named_base world.files of is.there is.narrow in array_default dims of is.dims found.0 found.1
  kind_default k is = let e = is.narrow in cc

-- ---- fields of a set

int_declared : (files : List ClassFile) → IsDeclared files kind.Int
int_declared files = record { dims = tt; there = refl; narrow = refl }

no_fault : {F : Type 0} (missing wide : F) (lacks is_wide : Bool) → (if lacks then Some missing else (if is_wide then Some wide else None)) ≡ None → (lacks ≡ false) × (is_wide ≡ false)
no_fault missing wide false false e = (refl, refl)
no_fault missing wide false true e = cc
no_fault missing wide true is_wide e = cc

kind_declared : (files : List ClassFile) (k : Kind) → HasArrayDims k → kinds_fault (map own_name files) (k ∷ []) ≡ None → IsDeclared files k
kind_declared files k dims e =
    let names = map own_name files in
    let parts = no_fault _ _ (list_any (λ (k : Kind). lacks_base names (base_of k)) (k ∷ [])) (list_any (λ (k : Kind). is_wide_base (base_of k)) (k ∷ [])) e in
    record { dims = dims; there = (or_parts (lacks_base names (base_of k)) false parts.0).0; narrow = (or_parts (is_wide_base (base_of k)) false parts.1).0 }

read_declared : (files : List ClassFile) (found : Option Kind) → ((k : Kind) → found ≡ Some k → HasArrayDims k)
    → option_and_then (λ k. kinds_fault (map own_name files) (k ∷ [])) found ≡ None → IsDeclared files (unwrap_or found kind.Int)
read_declared files None dims e = int_declared files
read_declared files (Some k) dims e = kind_declared files k (dims k refl) e

text_declared : (files : List ClassFile) (text : Option (List ℕ)) → option_and_then (field_text_fault (map own_name files)) text ≡ None
    → IsDeclared files (unwrap_or (field_of (unwrap_or text [])) kind.Int)
text_declared files None e = subst (λ o. IsDeclared files (unwrap_or o kind.Int)) (sym no_field) (int_declared files)
text_declared files (Some text) e = read_declared files (field_of text) (field_dims text) e

no_refusal : {F R : Type 0} (fault : Option F) (refuse : F → R) → option_map refuse fault ≡ None → fault ≡ None
no_refusal None refuse e = refl
no_refusal (Some fault) refuse e = cc

none_first : {R : Type 0} (first second : Option R) → option_or first second ≡ None → first ≡ None
none_first None second e = refl
none_first (Some x) second e = e

same_field : (a b : Declaration) → Some a ≡ Some b → a ≡ b
same_field a b e = cc

module _ (files : List ClassFile) (gathers : Gathers files None) where
  abbrev names : List (List ℕ)
  names = map own_name files

  file_accepted : (i : ℕ) (file : ClassFile) → slice_get files i ≡ Some file → first_refusal (member_refusal (field_fault names file.pool) (0 + i) 1) 0 file.fields ≡ None
  file_accepted i file is =
      none_first (first_refusal (member_refusal (field_fault names file.pool) (0 + i) 1) 0 file.fields)
      (first_refusal (member_refusal (method_fault names file.pool) (0 + i) 2) 0 file.methods)
      (passed (file_refusal names) 0 files (sym gathers.1.1.1.1.0) i file is)

  member_declared : (i : ℕ) (file : ClassFile) → slice_get files i ≡ Some file → (at : ℕ) (m : Member) → slice_get file.fields at ≡ Some m → IsDeclared files (kind_of (in_file file.pool m))
  member_declared i file is at m there =
      let accepted = passed (member_refusal (field_fault names file.pool) (0 + i) 1) 0 file.fields (file_accepted i file is) at m there in
      let fault = no_refusal (field_fault names file.pool m.descriptor) (fault_refusal (0 + i) 1 (saturated (0 + at))) accepted in
      text_declared files (utf8_at file.pool m.descriptor) fault

  found_declared : (i : ℕ) (file : ClassFile) → slice_get files i ≡ Some file → (at : ℕ) (found : Option Member) → slice_get file.fields at ≡ found → (field : Declaration)
      → option_map (in_file file.pool) found ≡ Some field → IsDeclared files (kind_of field)
  found_declared i file is at None there field e = cc
  found_declared i file is at (Some m) there field e = subst (λ f. IsDeclared files (kind_of f)) (same_field (in_file file.pool m) field e) (member_declared i file is at m there)

  in_place : (own : Bool) (i : ℕ) (found : Option ClassFile) → slice_get files i ≡ found → (at : ℕ) (field : Declaration)
      → slice_get (option_map_or (λ (file : ClassFile). map (in_file file.pool) file.fields) (if own then None else found) []) at ≡ Some field → IsDeclared files (kind_of field)
  in_place true i found is at field e = cc
  in_place false i None is at field e = cc
  in_place false i (Some file) is at field e = found_declared i file is at (slice_get file.fields at) refl field (sym (slice_get-map (in_file file.pool) file.fields at) ∙ e)

  -- a field that a class of the set declares
  pub field_declared : (class at : ℕ) (field : Declaration) → slice_get (fields_of files class) at ≡ Some field → IsDeclared files (kind_of field)
  field_declared class at field e = in_place (nat_lt class first_own) (class - first_own) (slice_get files (class - first_own)) refl at field e
