-- What stands above a class and is no interface is among its superclasses: so a reference fits a class that is no
-- interface exactly where it is below it.
use Rattle.std.proofs.Common.{◌≡◌, ℕ, zero, suc, ◌+◌, ◌-◌, ◌<◌, ◌≤◌, ◌⊎◌, ◌↔◌, Bool, true, false, ◌&&◌, ◌||◌, not, ◌==◌, cond, nat_lt, inl, inr, List, [], ◌∷◌, map, length, slice_get, Option, Some, None, option_and_then, refl, sym, ap, subst, ◌∙◌, arith}
use Rattle.std.specs.Option.{option_map_or, option_to_list}
use Rattle.std.specs.List.{AllByRecursion, list_any, list_all}
use Rattle.std.proofs.lemmas.Bool.{cases_lt, eqb-true, ltb-true, and_parts}
use Rattle.std.proofs.lemmas.Bool.Decides.{Decides-eqb}
use Rattle.library.specs.Classes.{first_own, superclasses}
use Rattle.class_pool.specs.declared.types.TypeRef.{TypeRef}
use Rattle.class_pool.specs.declared.types.TypeBase.{TypeBase}
use Rattle.class_pool.specs.declared.types.TypeBase.TheVariants.{Class}
use Rattle.class_pool.specs.Pool.{class_name_at}
use Rattle.class_file.specs.declared.record.ClassFile.{ClassFile}
use Rattle.class_file.specs.Rules.{is_interface, is_final}
use Rattle.class_tree.specs.declared.refusal.TreeRefusal.{TreeRefusal}
use Rattle.class_tree.specs.declared.refusal.TreeRefusal.TheVariants.{MissingClass, BadSuper}
use Rattle.class_tree.specs.Set.{own_name, named_among, names_super, is_number, library_superclass, is_directly_below, flags_of, file_of, IsClass}
use Rattle.class_tree.specs.Supers.{lacks_super, is_bad_superclass, is_bad_interface, has_bad_super, super_fault, supers_refusal}
use Rattle.class_tree.specs.Closure.{Leads, AtOnce, Over as ByWay}
use Rattle.class_tree.specs.Subtypes.{directly_below, IsSubclass, IsType, IsBelow, IsSubtype, class_type}
use Rattle.class_tree.specs.Merge.{is_class_or_super, type_of}
use Rattle.class_tree.specs.Fits.{fits_class, fits_ref}
use Rattle.class_tree.specs.Tree.{Gathers}
use Rattle.class_tree.specs.InterfaceLookup.{object}
use Rattle.class_tree.specs.DirectSupers.{superclass_of}
use Rattle.class_tree.proofs.ancestors.Leading.{or_cases}
use Rattle.class_tree.proofs.tables.Within.{is_number_same, same_some}
use Rattle.class_tree.proofs.ancestors.Acyclic.{by_library, by_file}
use Rattle.class_tree.proofs.ancestors.SupersAbove.{superclasses_above, file_there, no_file_there}
use Rattle.class_tree.proofs.ancestors.Forest.{Same, Over, step, last}
use Rattle.class_tree.proofs.ancestors.Superclasses.{IsRanked, named_class, super_by_library, super_by_file, passed, lack, beyond}
use Rattle.class_tree.proofs.ancestors.CommonSuper.{Above, top, sound, complete}
use Rattle.class_tree.proofs.merging.RefParts.{fits_at_class}
use Rattle.class_tree.proofs.ancestors.Subtyping.{below_sound, below_complete}

-- ---- truth values

no_first : (a b : Bool) → (a || b) ≡ false → a ≡ false
no_first false b e = refl
no_first true b e = cc

no_second : (a b : Bool) → (a || b) ≡ false → b ≡ false
no_second false b e = e
no_second true b e = cc

opposite : (b : Bool) → not b ≡ false → b ≡ true
opposite true e = refl
opposite false e = cc

then_none : (b : Bool) (why : TreeRefusal) (other : Option TreeRefusal) → cond b (Some why) other ≡ None → other ≡ None
then_none false why other e = e
then_none true why other e = cc

same_number : (m n : ℕ) → Some m ≡ Some n → m ≡ n
same_number m n e = same_some m n e

opposite_and : (a b : Bool) → a ≡ true → (a && not b) ≡ false → b ≡ true
opposite_and true b e f = opposite b f
opposite_and false b e f = cc

-- ---- superclasses of the library

is_low : Option ℕ → Bool
is_low None = true
is_low (Some n) = nat_lt n 15

low_at : (xs : List (Option ℕ)) → list_all is_low xs ≡ true → (i n : ℕ) → option_and_then (λ above. above) (slice_get xs i) ≡ Some n → n < 15
unfolding is_low
low_at [] all i n e = cc
low_at (None ∷ xs) all zero n e = cc
low_at (Some m ∷ xs) all zero n e = subst (λ k. k < 15) (same_number m n e) (ltb-true m 15 (and_parts (nat_lt m 15) (list_all is_low xs) all).0)
low_at (None ∷ xs) all (suc i) n e = low_at xs all i n e
low_at (Some m ∷ xs) all (suc i) n e = low_at xs (and_parts (nat_lt m 15) (list_all is_low xs) all).1 i n e

library_low : (class n : ℕ) → library_superclass class ≡ Some n → n < 15
unfolding is_low
library_low class n e = low_at superclasses refl class n e

module _ (files : List ClassFile) (gathers : Gathers files None) where
  abbrev names : List (List ℕ)
  names = map own_name files

  -- ---- what the phase of superclasses lets through

  accepted : (class : ℕ) (file : ClassFile) → slice_get files (class - first_own) ≡ Some file → super_fault names files (class - first_own) file ≡ None
  accepted class file is =
      let position = class - first_own in
      let start : 0 + position ≡ position = omega arith in
      let none : supers_refusal names files ≡ None = sym gathers.1.1.0 in
      ap (λ n. super_fault names files n file) (sym start) ∙ passed (super_fault names files) 0 files none position file is

  not_bad : (class : ℕ) (file : ClassFile) → slice_get files (class - first_own) ≡ Some file → has_bad_super names files file ≡ false
  not_bad class file is =
      lack files (has_bad_super names files file) (BadSuper (class - first_own)) None (then_none (lacks_super names file) (MissingClass (class - first_own) 0 0) _ (accepted class file is))

  good_superclass : (class : ℕ) (file : ClassFile) → slice_get files (class - first_own) ≡ Some file → is_bad_superclass files file (named_among names file file.super_class) ≡ false
  good_superclass class file is = no_first (is_bad_superclass files file (named_among names file file.super_class)) _ (not_bad class file is)

  good_interfaces : (class : ℕ) (file : ClassFile) → slice_get files (class - first_own) ≡ Some file → list_any (λ index. is_bad_interface files (named_among names file index)) file.interfaces ≡ false
  good_interfaces class file is = no_second (is_bad_superclass files file (named_among names file file.super_class)) _ (not_bad class file is)

  -- ---- what is directly above is the superclass or an interface

  abbrev IsInterface : ℕ → Type 0
  IsInterface class = is_interface (flags_of files class) ≡ true

  abbrev Direct : ℕ → ℕ → Type 0
  Direct class upper = ((superclass_of files class ≡ Some upper) ⊎ IsInterface upper) × IsClass files upper

  interface_of : (o : Option ℕ) (upper : ℕ) → o ≡ Some upper → is_bad_interface files o ≡ false → IsInterface upper
  interface_of None upper e bad = cc
  interface_of (Some n) upper e bad = subst IsInterface (same_number n upper e) (opposite (is_interface (flags_of files n)) bad)

  among_interfaces : (file : ClassFile) (upper : ℕ) (indexes : List ℕ) → list_any (λ index. is_number upper (named_among names file index)) indexes ≡ true
      → list_any (λ index. is_bad_interface files (named_among names file index)) indexes ≡ false → IsInterface upper × IsClass files upper
  among_interfaces file upper [] e bad = cc
  among_interfaces file upper (index ∷ indexes) e bad =
      elim (or_cases (is_number upper (named_among names file index)) (list_any (λ i. is_number upper (named_among names file i)) indexes) e) [
        | inl here ↦
            let named = is_number_same upper (named_among names file index) here in
            (interface_of (named_among names file index) upper named (no_first (is_bad_interface files (named_among names file index)) _ bad), named_class files (class_name_at file.pool index) upper named)
        | inr later ↦ among_interfaces file upper indexes later (no_second (is_bad_interface files (named_among names file index)) _ bad)
      ]

  file_direct : (class upper : ℕ) → first_own ≤ class → (o : Option ClassFile) → slice_get files (class - first_own) ≡ o → option_map_or (names_super names upper) o false ≡ true → Direct class upper
  file_direct class upper le None is e = cc
  file_direct class upper le (Some file) is e =
      elim (or_cases (is_number upper (named_among names file file.super_class)) (list_any (λ i. is_number upper (named_among names file i)) file.interfaces) e) [
        | inl super ↦
            let named = is_number_same upper (named_among names file file.super_class) super in
            (inl (super_by_file files class le ∙ ap (option_and_then (λ (f : ClassFile). named_among names f f.super_class)) is ∙ named), named_class files (class_name_at file.pool file.super_class) upper named)
        | inr later ↦
            let found = among_interfaces file upper file.interfaces later (good_interfaces class file is) in
            (inr found.0, found.1)
      ]

  direct : (class upper : ℕ) → directly_below files class upper ≡ true → Direct class upper
  direct class upper e =
      elim (cases_lt class first_own) [
        | inl library ↦
            let super = is_number_same upper (library_superclass class) (sym (by_library names files class upper library) ∙ e) in
            (inl (super_by_library files class library ∙ super), inl (library_low class upper super))
        | inr own ↦ file_direct class upper own (slice_get files (class - first_own)) refl (sym (by_file names files class upper own) ∙ e)
      ]

  -- ---- the superclass of an interface

  super_of_interface : (file : ClassFile) (o : Option ℕ) → is_bad_superclass files file o ≡ false → is_interface file.flags ≡ true → o ≡ Some object
  super_of_interface file None bad interface = cc
  super_of_interface file (Some upper) bad interface =
      let third = no_second (is_final (flags_of files upper)) _ (no_second (is_interface (flags_of files upper)) _ bad) in
      let is_object : (upper == 0) ≡ true = opposite_and (is_interface file.flags) (upper == 0) interface third in
      ap Some (eqb-true upper 0 is_object)

  flags_there : (class : ℕ) (o : Option ClassFile) → file_of files class ≡ o → flags_of files class ≡ option_map_or (λ (file : ClassFile). file.flags) o 1
  flags_there class o is = ap (λ (p : Option ClassFile). option_map_or (λ (file : ClassFile). file.flags) p 1) is

  file_super : (class : ℕ) → first_own ≤ class → class - first_own < length files → (o : Option ClassFile) → slice_get files (class - first_own) ≡ o → IsInterface class → superclass_of files class ≡ Some object
  file_super class le within None is interface = absurd (omega (arith, beyond files files (class - first_own) is, within))
  file_super class le within (Some file) is interface =
      let flags : flags_of files class ≡ file.flags = flags_there class (Some file) (file_there names files class le ∙ is) in
      super_by_file files class le ∙ ap (option_and_then (λ (f : ClassFile). named_among names f f.super_class)) is
      ∙ super_of_interface file (named_among names file file.super_class) (good_superclass class file is) (sym (ap is_interface flags) ∙ interface)

  pub interface_super : (class : ℕ) → IsClass files class → IsInterface class → superclass_of files class ≡ Some object
  interface_super class inside interface =
      elim inside [
        | inl library ↦
            let flags : flags_of files class ≡ 1 = flags_there class None (no_file_there names files class (omega (arith, library))) in
            let f : false ≡ true = sym (ap is_interface flags) ∙ interface in
            cc
        | inr own ↦ file_super class own.0 own.1 (slice_get files (class - first_own)) refl interface
      ]

  -- ---- a way up to a class is by superclasses

  no_interface : (class : ℕ) → is_interface (flags_of files class) ≡ false → IsInterface class → ⊥
  no_interface class never interface = let f : false ≡ true = sym never ∙ interface in cc

  pub by_supers : (rank : ℕ → ℕ) → IsRanked files rank → (class upper : ℕ) → IsClass files class → Leads (directly_below files) class upper → is_interface (flags_of files upper) ≡ false → Above files class upper
  by_supers rank is class upper inside (AtOnce e) never =
      elim ((direct class upper e).0) [ inl super ↦ Over upper super Same | inr interface ↦ absurd (no_interface upper never interface) ]
  by_supers rank is class upper inside (ByWay by e p) never =
      let d = direct class by e in
      let rest = by_supers rank is by upper d.1 p never in
      elim (d.0) [
        | inl super ↦ Over by super rest
        | inr interface ↦ elim (step (superclass_of files) by object upper (interface_super by d.1 interface) rest) [
          | inl same ↦ absurd (no_interface upper never (subst IsInterface same interface))
          | inr way ↦ subst (Above files class) (last (superclass_of files) object upper refl way) (top files rank is gathers class inside)
        ]
      ]

  pub supers_lead : (class upper : ℕ) → Above files class upper → IsSubclass files class upper
  supers_lead class upper Same = inl refl
  supers_lead class upper (Over by e rest) =
      let P : Option ℕ → Type 0 = λ o. AllByRecursion (λ u. is_directly_below names files class u ≡ true) (option_to_list o) in
      let d : directly_below files class by ≡ true = (subst P e (superclasses_above names files class)).0 in
      elim (supers_lead by upper rest) [
        | inl same ↦ inr (subst (λ u. Leads (directly_below files) class u) same (AtOnce d))
        | inr leads ↦ inr (ByWay by d leads)
      ]

  -- ---- what fits a class that is no interface

  module _ (rank : ℕ → ℕ) (is : IsRanked files rank) where
    class_fits : (class upper : ℕ) → IsClass files class → is_interface (flags_of files upper) ≡ false → (is_class_or_super files class upper ≡ true) ↔ IsSubclass files class upper
    class_fits class upper inside never = (
      λ e. supers_lead class upper (sound files rank is class upper e),
      λ below. complete files rank is class upper (elim below [
        | inl same ↦ subst (Above files class) same Same
        | inr leads ↦ by_supers rank is class upper inside leads never
      ]),
    )

    -- the test of a type, and what it says
    type_fits : (m : ℕ) (s : TypeBase) (upper : ℕ) → IsType files (type_of m s) → is_interface (flags_of files upper) ≡ false → (fits_class files m s upper ≡ true) ↔ IsBelow files (type_of m s) (class_type upper)
    type_fits zero (Class class) upper inside never =
        let same = class_fits class upper inside.0 never in
        (λ e. inl (refl, same.0 e), λ below. elim below [ inl equal ↦ same.1 equal.1 | inr fewer ↦ absurd (omega (arith, fewer.0)) ])
    type_fits zero s upper inside never = absurd (omega (arith, inside.1))
    type_fits (suc m) s upper inside never = (
      λ e. inr (omega arith, ap Class (eqb-true upper object e)),
      λ below. elim below [ inl equal ↦ absurd (omega (arith, equal.0)) | inr fewer ↦ let n : upper ≡ object = cc (fewer.1) in (Decides-eqb upper object).1 n ],
    )

    pub fits_below : (type : TypeRef) (upper : ℕ) → IsType files type → is_interface (flags_of files upper) ≡ false → (fits_ref files type.dims type.base 0 (Class upper) ≡ true) ↔ IsSubtype files type (class_type upper)
    fits_below type upper inside never =
        let test = type_fits type.dims type.base upper inside never in
        let same : fits_ref files type.dims type.base 0 (Class upper) ≡ fits_class files type.dims type.base upper =
        fits_at_class files type.dims type.base upper ∙ ap (λ b. b || fits_class files type.dims type.base upper) never in
        (λ e. below_sound files type (class_type upper) (test.0 (sym same ∙ e)), λ below. same ∙ test.1 (below_complete files type (class_type upper) below))
