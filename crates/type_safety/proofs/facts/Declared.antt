-- What a class declares by a name and a descriptor, and the rules that it keeps.
use Rattle.std.proofs.Common.{◌≡◌, inl, inr, ℕ, ◌-◌, ◌≤◌, Bool, true, false, ◌&&◌, ◌||◌, not, cond, List, [], map, get_or, slice_get, Option, Some, None, option_map, option_and_then, position, refl, sym, ap, subst, ◌∙◌}
use Rattle.std.specs.List.{AllByRecursion}
use Rattle.std.specs.Option.{option_map_or}
use Rattle.std.specs.Str.{bytes_eq}
use Rattle.std.proofs.lemmas.Bool.{and_parts, lt-ltb, le-ltb, cases_lt}
use Rattle.std.proofs.lemmas.List.Quantifiers.{position-Some}
use Rattle.std.proofs.lemmas.Option.{slice_get-get_or, slice_get-map}
use Rattle.std.proofs.lemmas.Slice.Eq.{bytes_eq-Decides}
use Rattle.library.specs.Classes.{first_own}
use Rattle.class_pool.specs.declared.types.MemberId.{MemberId}
use Rattle.class_file.specs.declared.record.ClassFile.{ClassFile}
use Rattle.class_file.specs.declared.record.Member.{Member}
use Rattle.class_file.specs.Rules.{is_static, is_public, is_final, is_interface}
use Rattle.class_tree.specs.Set.{file_of, flags_of}
use Rattle.class_tree.specs.Members.{Declaration, in_file, fields_of, methods_of, flags_at, method_flags, is_called, member_at, field_in, method_in, method_passing}
use Rattle.type_safety.proofs.fitting.SetLists.{none_some, same_some, all_at}
use Rattle.type_safety.proofs.facts.ReadRules.{FieldRules, FileRules}
use Rattle.type_safety.proofs.facts.CodeRead.{IsRead}

-- a member of a class, by its name and descriptor
pub record IsDeclared (members : ℕ → List Declaration) (name descriptor : List ℕ) (class : ℕ) (id : MemberId) : Type 0 where
  pub class_is : id.class ≡ class
  pub declaration : Declaration
  pub there : slice_get (members class) id.member ≡ Some declaration
  pub name_is : declaration.name ≡ name
  pub descriptor_is : declaration.descriptor ≡ descriptor

nothing : Declaration
nothing = record { name = []; descriptor = []; flags = 0 }

declared_at : (members : ℕ → List Declaration) (name descriptor : List ℕ) (class : ℕ) (id : MemberId) (o : Option ℕ) → position (is_called name descriptor) (members class) ≡ o → option_map (member_at class) o ≡ Some id → IsDeclared members name descriptor class id
declared_at members name descriptor class id None at e = none_some id e
declared_at members name descriptor class id (Some n) at e =
    let same : member_at class n ≡ id = same_some (member_at class n) id e in
    let found = position-Some (is_called name descriptor) (members class) n nothing at in
    let called = and_parts (bytes_eq name (get_or (members class) n nothing).name) (bytes_eq descriptor (get_or (members class) n nothing).descriptor) found.1 in
    record {
      class_is = ap (λ (i : MemberId). i.class) (sym same);
      declaration = get_or (members class) n nothing;
      there = ap (λ (i : MemberId). slice_get (members class) i.member) (sym same) ∙ slice_get-get_or (members class) n nothing found.0;
      name_is = sym ((bytes_eq-Decides name (get_or (members class) n nothing).name).0 called.0);
      descriptor_is = sym ((bytes_eq-Decides descriptor (get_or (members class) n nothing).descriptor).0 called.1);
    }

module _ (files : List ClassFile) where
  pub field_declared : (name descriptor : List ℕ) (class : ℕ) (id : MemberId) → field_in files name descriptor class ≡ Some id → IsDeclared (fields_of files) name descriptor class id
  field_declared name descriptor class id e = declared_at (fields_of files) name descriptor class id (position (is_called name descriptor) (fields_of files class)) refl e

  pub method_declared : (name descriptor : List ℕ) (class : ℕ) (id : MemberId) → method_in files name descriptor class ≡ Some id → IsDeclared (methods_of files) name descriptor class id
  method_declared name descriptor class id e = declared_at (methods_of files) name descriptor class id (position (is_called name descriptor) (methods_of files class)) refl e

  -- a method that passes a test of its flags
  pub record Passes (test : ℕ → Bool) (name descriptor : List ℕ) (class : ℕ) (id : MemberId) : Type 0 where
    pub is : IsDeclared (methods_of files) name descriptor class id
    pub own : method_in files name descriptor class ≡ Some id
    pub passes : test (method_flags files id) ≡ true

  passing : (test : ℕ → Bool) (name descriptor : List ℕ) (class : ℕ) (id : MemberId) (o : Option MemberId) → method_in files name descriptor class ≡ o
      → option_and_then (λ found. cond (test (method_flags files found)) (Some found) None) o ≡ Some id → Passes test name descriptor class id
  passing test name descriptor class id None at e = none_some id e
  passing test name descriptor class id (Some found) at e = by_test (test (method_flags files found)) refl e
    where
      by_test : (b : Bool) → test (method_flags files found) ≡ b → cond b (Some found) None ≡ Some id → Passes test name descriptor class id
      by_test true passed e =
          let same : found ≡ id = same_some found id e in
          record { is = method_declared name descriptor class id (at ∙ e); own = at ∙ e; passes = ap (λ (i : MemberId). test (method_flags files i)) (sym same) ∙ passed }
      by_test false failed e = none_some id e

  pub method_passes : (test : ℕ → Bool) (name descriptor : List ℕ) (class : ℕ) (id : MemberId) → method_passing test files name descriptor class ≡ Some id → Passes test name descriptor class id
  method_passes test name descriptor class id e = passing test name descriptor class id (method_in files name descriptor class) refl e

  -- ---- files

  -- the file of a class of the set that is not the library's
  pub record HasFile (class : ℕ) : Type 0 where
    pub file : ClassFile
    pub own : 32 ≤ class
    pub is : slice_get files (class - 32) ≡ Some file
    pub flags : flags_of files class ≡ file.flags

  pub file_at : (class : ℕ) (file : ClassFile) → file_of files class ≡ Some file → HasFile class
  file_at class file e =
      elim (cases_lt class first_own) [
        | inl library ↦ none_some file (sym (ap (λ b. cond b None (slice_get files (class - first_own))) (lt-ltb class first_own library)) ∙ e)
        | inr own ↦ record {
          file = file;
          own = own;
          is = sym (ap (λ b. cond b None (slice_get files (class - first_own))) (le-ltb class first_own own)) ∙ e;
          flags = ap (λ (o : Option ClassFile). option_map_or (λ (f : ClassFile). f.flags) o 1) e;
        }
      ]

  -- ---- fields

  -- a field as it stands in a file
  pub record IsFieldOf (class : ℕ) (at : ℕ) (declaration : Declaration) : Type 0 where
    pub has : HasFile class
    pub field : Member
    pub there : slice_get has.file.fields at ≡ Some field
    pub is : in_file has.file.pool field ≡ declaration

  mapped : (file : ClassFile) (o : Option Member) (declaration : Declaration) → option_map (in_file file.pool) o ≡ Some declaration → (m : Member) × (o ≡ Some m) × (in_file file.pool m ≡ declaration)
  mapped file None declaration e = none_some declaration e
  mapped file (Some m) declaration e = (m, refl, same_some (in_file file.pool m) declaration e)

  pub field_of_file : (class at : ℕ) (declaration : Declaration) → slice_get (fields_of files class) at ≡ Some declaration → IsFieldOf class at declaration
  field_of_file class at declaration e = by_file (file_of files class) refl e
    where
      by_file : (o : Option ClassFile) → file_of files class ≡ o → slice_get (option_map_or (λ (file : ClassFile). map (in_file file.pool) file.fields) o []) at ≡ Some declaration → IsFieldOf class at declaration
      by_file None has e = none_some declaration e
      by_file (Some file) has e =
          let m = mapped file (slice_get file.fields at) declaration (sym (slice_get-map (in_file file.pool) file.fields at) ∙ e) in
          let there = file_at class file has in
          let same : there.file ≡ file = same_some there.file file (sym there.is ∙ stands file has) in
          record { has = there; field = m.0; there = ap (λ (f : ClassFile). slice_get f.fields at) same ∙ m.1; is = ap (λ (f : ClassFile). in_file f.pool m.0) same ∙ m.2 }
        where
          stands : (f : ClassFile) → file_of files class ≡ Some f → slice_get files (class - 32) ≡ Some f
          stands f h = subst (λ (o : Option ClassFile). slice_get files (class - 32) ≡ o) h (sym (ap (λ b. cond b None (slice_get files (class - first_own))) (le-ltb class first_own (file_at class f h).own)))

  module _ (read : AllByRecursion IsRead files) where
    pub rules_of : (class : ℕ) (has : HasFile class) → FileRules has.file
    rules_of class has = (all_at IsRead files read (class - 32) has.file has.is).rules

    -- a field that is not static is none of an interface
    pub no_interface_declares : (class at : ℕ) (declaration : Declaration) → slice_get (fields_of files class) at ≡ Some declaration → is_static declaration.flags ≡ false → (is_interface (flags_of files class) ≡ false) × (32 ≤ class)
    no_interface_declares class at declaration e instance =
        let stands = field_of_file class at declaration e in
        let rules = all_at (FieldRules stands.has.file.flags) stands.has.file.fields (rules_of class stands.has).fields at stands.field stands.there in
        let flags : is_static stands.field.flags ≡ false = ap (λ (d : Declaration). is_static d.flags) stands.is ∙ instance in
        (ap is_interface stands.has.flags ∙ never (is_interface stands.has.file.flags) (is_public stands.field.flags) (is_static stands.field.flags) (is_final stands.field.flags) rules flags, stands.has.own)
      where
        never : (interface public static final : Bool) → (not interface || (public && (static && final))) ≡ true → static ≡ false → interface ≡ false
        never false public static final e f = refl
        never true true true final e f = absurd (let bad : true ≡ false = f in cc)
        never true true false final e f = absurd (let bad : false ≡ true = e in cc)
        never true false static final e f = absurd (let bad : false ≡ true = e in cc)

  -- the flags of a declared member
  pub flags_there : (members : List Declaration) (at : ℕ) (declaration : Declaration) → slice_get members at ≡ Some declaration → flags_at members at ≡ declaration.flags
  flags_there members at declaration e = ap (λ (o : Option Declaration). option_map_or (λ (m : Declaration). m.flags) o 0) e
