-- The methods of the library: constructors, and the static methods of the console.
use Rattle.std.proofs.Common.{◌≡◌, ◌⊎◌, inl, inr, ℕ, ◌-◌, ◌<◌, ◌≤◌, Bool, true, false, not, cond, nat_lt, nat_eq, List, [], ◌∷◌, length, map, slice_get, Option, Some, None, option_map, option_and_then, refl, sym, ap, ◌∙◌, arith, eqb-true, codes}
use Rattle.std.specs.List.{AllByRecursion}
use Rattle.std.specs.Option.{option_map_or}
use Rattle.std.proofs.lemmas.Bool.{lt-ltb, le-ltb, ltb-true}
use Rattle.std.proofs.lemmas.Option.{slice_get-map}
use Rattle.library.specs.Classes.{first_own, superclasses}
use Rattle.library.specs.declared.natives.Native.{Native}
use Rattle.library.specs.declared.natives.Native.TheVariants as native
use Rattle.library.specs.Members.{methods_of as natives_of, name_of, descriptor_of, flags_of as native_flags}
use Rattle.class_pool.specs.declared.descriptor.Descriptor.{Descriptor}
use Rattle.class_pool.specs.declared.descriptor.Kind.{Kind}
use Rattle.class_pool.specs.declared.types.MemberId.{MemberId}
use Rattle.class_pool.specs.DescriptorReading.{method_of, params_at, result_of as read_result, kind_at, base_at, brackets, field_of}
use Rattle.class_file.specs.declared.record.ClassFile.{ClassFile}
use Rattle.class_file.specs.Rules.{is_static, is_abstract, is_private}
use Rattle.class_tree.specs.Set.{own_name, is_number, library_superclass, names_super, file_of}
use Rattle.class_tree.specs.Closure.{Leads, AtOnce, Over as ByWay}
use Rattle.class_tree.specs.Subtypes.{directly_below, IsSubclass}
use Rattle.class_tree.specs.Members.{Declaration, in_file, in_library, methods_of}
use Rattle.body_form.specs.declared.op.MethodUse.{MethodUse}
use Rattle.typed_machine.specs.TypedWorld.{World}
use Rattle.type_safety.specs.Facts.{params_of, result_of, is_construct, RunsNative}
use Rattle.type_safety.proofs.fitting.SetLists.{none_some, same_some, all_at}

-- ---- what is above a class of the library

is_small : Option ℕ → Bool
is_small None = true
is_small (Some n) = nat_lt n 15

small_supers : AllByRecursion (λ o. is_small o ≡ true) superclasses
unfolding is_small
small_supers = (refl, (refl, (refl, (refl, (refl, (refl, (refl, (refl, (refl, (refl, (refl, (refl, (refl, (refl, (refl, tt)))))))))))))))

small_super : (class n : ℕ) → library_superclass class ≡ Some n → n < 32
unfolding is_small
small_super class n e = by_entry (slice_get superclasses class) refl e
  where
    by_entry : (o : Option (Option ℕ)) → slice_get superclasses class ≡ o → option_and_then (λ above. above) o ≡ Some n → n < 32
    by_entry None at is = none_some n is
    by_entry (Some above) at is =
        let small : is_small above ≡ true = all_at (λ o. is_small o ≡ true) superclasses small_supers class above at in
        let lt : n < 15 = ltb-true n 15 (sym (ap is_small is) ∙ small) in
        omega (arith, lt)

number_is : (n : ℕ) (o : Option ℕ) → is_number n o ≡ true → o ≡ Some n
number_is n None e = absurd (let bad : false ≡ true = e in cc)
number_is n (Some m) e = ap (λ (k : ℕ). Some k) (sym (eqb-true n m e))

module _ (files : List ClassFile) where
  one_above : (class upper : ℕ) → class < 32 → directly_below files class upper ≡ true → upper < 32
  one_above class upper lt e =
      small_super class upper (number_is upper (library_superclass class)
      (sym (ap (λ b. cond b (is_number upper (library_superclass class)) (option_map_or (names_super (map own_name files) upper) (slice_get files (class - first_own)) false)) (lt-ltb class first_own lt)) ∙ e))

  leads_low : (class upper : ℕ) → class < 32 → Leads (directly_below files) class upper → upper < 32
  leads_low class upper lt (AtOnce e) = one_above class upper lt e
  leads_low class upper lt (ByWay by e rest) = leads_low by upper (one_above class by lt e) rest

  pub library_above : (class upper : ℕ) → class < 32 → IsSubclass files class upper → upper < 32
  library_above class upper lt (inl same) = omega (arith, lt, same)
  library_above class upper lt (inr leads) = leads_low class upper lt leads

  -- ---- methods

  pub record IsNative (class at : ℕ) (declaration : Declaration) : Type 0 where
    pub native : Native
    pub there : slice_get (natives_of class) at ≡ Some native
    pub is : in_library native ≡ declaration

  pub library_method : (class at : ℕ) (declaration : Declaration) → class < 32 → slice_get (methods_of files class) at ≡ Some declaration → IsNative class at declaration
  library_method class at declaration lt e = by_native (slice_get (natives_of class) at) refl
      (sym (slice_get-map in_library (natives_of class) at)
      ∙ sym (ap (λ b. slice_get (cond b (map in_library (natives_of class)) (option_map_or (λ (file : ClassFile). map (in_file file.pool) file.methods) (file_of files class) [])) at) (lt-ltb class first_own lt)) ∙ e)
    where
      by_native : (o : Option Native) → slice_get (natives_of class) at ≡ o → option_map in_library o ≡ Some declaration → IsNative class at declaration
      by_native None there is = none_some declaration is
      by_native (Some n) there is = record { native = n; there = there; is = same_some (in_library n) declaration is }

-- a native that is not static is a constructor
pub static_or_constructor : (n : Native) → (is_static (native_flags n) ≡ true) ⊎ (name_of n ≡ codes "<init>")
static_or_constructor native.Construct = inr refl
static_or_constructor native.Write = inl refl
static_or_constructor native.Read = inl refl
static_or_constructor native.Print = inl refl

-- a native is public, and neither abstract nor private
pub native_concrete : (n : Native) → is_abstract (native_flags n) ≡ false
native_concrete native.Construct = refl
native_concrete native.Write = refl
native_concrete native.Read = refl
native_concrete native.Print = refl

pub native_shared : (n : Native) → is_private (native_flags n) ≡ false
native_shared native.Construct = refl
native_shared native.Write = refl
native_shared native.Read = refl
native_shared native.Print = refl

-- ---- what a native takes and gives

abbrev typed : List Kind → Option Kind → Descriptor
typed params result = record { params = params; result = result }

native_type : (n : Native) → method_of (descriptor_of n) ≡ Some (typed (params_of n) (result_of n))
unfolding method_of params_at read_result kind_at base_at brackets field_of
native_type native.Construct = refl
native_type native.Write = refl
native_type native.Read = refl
native_type native.Print = refl

-- a native takes one argument at most
params_few : (n : Native) → length (params_of n) ≤ 1
params_few native.Construct = omega arith
params_few native.Write = omega arith
params_few native.Read = omega arith
params_few native.Print = omega arith

pub native_few : (n : Native) (type : Descriptor) → method_of (descriptor_of n) ≡ Some type → length type.params ≤ 1
native_few n type is =
    let same : type ≡ typed (params_of n) (result_of n) = same_some type (typed (params_of n) (result_of n)) (sym is ∙ native_type n) in
    let count = ap (λ (d : Descriptor). length d.params) same in
    omega (arith, count, params_few n)

on_object_is : (n : Native) (on_object : Bool) → is_static (native_flags n) ≡ not on_object → on_object ≡ is_construct n
on_object_is native.Construct true e = refl
on_object_is native.Construct false e = absurd (let bad : false ≡ true = e in cc)
on_object_is native.Write true e = absurd (let bad : true ≡ false = e in cc)
on_object_is native.Write false e = refl
on_object_is native.Read true e = absurd (let bad : true ≡ false = e in cc)
on_object_is native.Read false e = refl
on_object_is native.Print true e = absurd (let bad : true ≡ false = e in cc)
on_object_is native.Print false e = refl

pub runs_native : (world : World) (id : MemberId) (used : MethodUse) (on_object : Bool) (n : Native) → slice_get (natives_of id.class) id.member ≡ Some n → method_of (descriptor_of n) ≡ Some used.descriptor → is_static (native_flags n) ≡ not on_object
    → RunsNative world id used on_object
runs_native world id used on_object n there type flags =
    let same : used.descriptor ≡ typed (params_of n) (result_of n) = same_some used.descriptor (typed (params_of n) (result_of n)) (sym type ∙ native_type n) in
    record { found = n; is = there; params = ap (λ (d : Descriptor). d.params) same; result = ap (λ (d : Descriptor). d.result) same; object = on_object_is n on_object flags }

-- a class of a file has no natives
pub no_natives : (class : ℕ) → 32 ≤ class → natives_of class ≡ []
no_natives class le =
    ap (λ b. cond b (native.Write ∷ native.Read ∷ native.Print ∷ []) (cond (nat_lt class 15) (native.Construct ∷ []) [])) (differs (nat_eq class 14) (λ e. omega (arith, eqb-true class 14 e, le)))
    ∙ ap (λ b. cond b (native.Construct ∷ []) []) (le-ltb class 15 (omega (arith, le)))
  where
    differs : (b : Bool) → (b ≡ true → ⊥) → b ≡ false
    differs true h = absurd (h refl)
    differs false h = refl
