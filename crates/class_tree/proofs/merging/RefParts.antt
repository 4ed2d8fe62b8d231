-- References by their dimensions and bases: components, and how merge and fit go case by case.
use Rattle.std.proofs.Common.{◌≡◌, ℕ, zero, suc, ◌⊎◌, Bool, true, false, ◌&&◌, ◌||◌, ◌==◌, inl, inr, List, if◌then◌else◌, refl, sym, ap, subst, ◌∙◌, arith}
use Rattle.std.proofs.lemmas.Bool.{eqb-true, and_parts, and_from}
use Rattle.class_pool.specs.declared.types.TypeBase.{TypeBase}
use Rattle.class_pool.specs.declared.types.TypeBase.TheVariants.{Class, Byte, Char, Short, Int, Boolean}
use Rattle.class_file.specs.declared.record.ClassFile.{ClassFile}
use Rattle.class_file.specs.Rules.{is_interface}
use Rattle.class_tree.specs.Set.{flags_of}
use Rattle.class_tree.specs.Subtypes.{IsType, HasDimensions, array_of, class_type}
use Rattle.class_tree.specs.InterfaceLookup.{object}
use Rattle.class_tree.specs.Merge.{is_reference, is_same_primitive, are_primitive, type_of, common_super, merge_refs}
use Rattle.class_tree.specs.Fits.{fits_class, fits_ref}

-- ---- tests

pub cases : (b : Bool) → (b ≡ true) ⊎ (b ≡ false)
cases true = inl refl
cases false = inr refl

pub same_test : (a b : Bool) → (a ≡ true → b ≡ true) → (b ≡ true → a ≡ true) → a ≡ b
same_test true b there back = sym (there refl)
same_test false true there back = back refl
same_test false false there back = refl

pub not_true : (b : Bool) → (b ≡ true → ⊥) → b ≡ false
not_true false h = refl
not_true true h = absurd (h refl)

pub both_ways : (a b : Bool) → (a && b) ≡ (b && a)
both_ways true true = refl
both_ways true false = refl
both_ways false true = refl
both_ways false false = refl

pub twice : (a : Bool) → (a && a) ≡ a
twice true = refl
twice false = refl

pub and_no : (a : Bool) → (a && false) ≡ false
and_no true = refl
and_no false = refl

-- ---- references and primitive types

pub has_dims : (m : ℕ) (s : TypeBase) → is_reference m s ≡ true → HasDimensions m s
has_dims m (Class class) e = tt
has_dims zero s e = cc
has_dims (suc m) s e = omega arith

pub component : (files : List ClassFile) (m : ℕ) (s : TypeBase) → IsType files (type_of (suc m) s) → is_reference m s ≡ true → IsType files (type_of m s)
component files m s is e = (is.0, has_dims m s e)

same_base : (s t : TypeBase) → is_same_primitive s t ≡ true → s ≡ t
same_base Byte Byte e = refl
same_base Char Char e = refl
same_base Short Short e = refl
same_base Int Int e = refl
same_base Boolean Boolean e = refl
same_base s t e = cc

no_class : (s t : TypeBase) → is_same_primitive s t ≡ true → is_reference 0 s ≡ false
no_class Byte Byte e = refl
no_class Char Char e = refl
no_class Short Short e = refl
no_class Int Int e = refl
no_class Boolean Boolean e = refl
no_class s t e = cc

-- the parts of a test of two primitive types
pub record ArePrimitive (m : ℕ) (s : TypeBase) (n : ℕ) (t : TypeBase) : Type 0 where
  pub first : m ≡ 0
  pub second : n ≡ 0
  pub test : is_same_primitive s t ≡ true
  pub base : s ≡ t

pub primitive_parts : (m : ℕ) (s : TypeBase) (n : ℕ) (t : TypeBase) → are_primitive m s n t ≡ true → ArePrimitive m s n t
primitive_parts m s n t e =
    let one = and_parts (m == 0) (n == 0 && is_same_primitive s t) e in
    let two = and_parts (n == 0) (is_same_primitive s t) one.1 in
    record { first = eqb-true m 0 one.0; second = eqb-true n 0 two.0; test = two.1; base = same_base s t two.1 }

pub primitive_from : (m : ℕ) (s : TypeBase) (n : ℕ) (t : TypeBase) → m ≡ 0 → n ≡ 0 → is_same_primitive s t ≡ true → are_primitive m s n t ≡ true
primitive_from m s n t first second e =
    let P : ℕ → Type 0 = λ i. are_primitive i s n t ≡ true in
    let Q : ℕ → Type 0 = λ i. are_primitive 0 s i t ≡ true in
    subst P (sym first) (subst Q (sym second) e)

pub primitive_turned : (m : ℕ) (s : TypeBase) (n : ℕ) (t : TypeBase) → are_primitive m s n t ≡ true → are_primitive n t m s ≡ true
primitive_turned m s n t e =
    let is = primitive_parts m s n t e in
    let P : TypeBase → Type 0 = λ x. is_same_primitive x t ≡ true in
    let Q : TypeBase → Type 0 = λ x. is_same_primitive t x ≡ true in
    primitive_from n t m s is.second is.first (subst Q (sym is.base) (subst P is.base is.test))

-- two types that are a third one
pub primitive_over : (m : ℕ) (s : TypeBase) (n : ℕ) (t : TypeBase) (k : ℕ) (u : TypeBase) → are_primitive m s k u ≡ true → are_primitive n t k u ≡ true → are_primitive m s n t ≡ true
primitive_over m s n t k u first second =
    let one = primitive_parts m s k u first in
    let two = primitive_parts n t k u second in
    let P : TypeBase → Type 0 = λ x. is_same_primitive s x ≡ true in
    primitive_from m s n t one.first two.first (subst P (sym two.base) one.test)

-- what is no reference is a primitive type
pub primitive_with_itself : (m : ℕ) (s : TypeBase) → is_reference m s ≡ false → (m ≡ 0) × (are_primitive m s m s ≡ true)
primitive_with_itself zero (Class class) e = cc
primitive_with_itself zero s e = (refl, refl)
primitive_with_itself (suc m) s e = cc

pub reference_is_none : (m : ℕ) (s : TypeBase) (n : ℕ) (t : TypeBase) → is_reference m s ≡ true → are_primitive m s n t ≡ false
reference_is_none m s n t e =
    not_true (are_primitive m s n t) (λ passes.
    let is = primitive_parts m s n t passes in
    let f : false ≡ true = sym (no_class s t is.test) ∙ ap (λ i. is_reference i s) (sym is.first) ∙ e in
    cc)

pub reference_is_no_second : (m : ℕ) (s : TypeBase) (n : ℕ) (t : TypeBase) → is_reference n t ≡ true → are_primitive m s n t ≡ false
reference_is_no_second m s n t e =
    not_true (are_primitive m s n t) (λ passes.
    let is = primitive_parts m s n t passes in
    let f : false ≡ true = sym (no_class s t is.test) ∙ ap (is_reference 0) is.base ∙ ap (λ i. is_reference i t) (sym is.second) ∙ e in
    cc)

-- ---- merge, case by case

module _ (files : List ClassFile) where
  pub merge_arrays : (m : ℕ) (s : TypeBase) (n : ℕ) (t : TypeBase) → is_reference m s ≡ true → is_reference n t ≡ true → merge_refs files (suc m) s (suc n) t ≡ array_of (merge_refs files m s n t)
  unfolding merge_refs
  merge_arrays m s n t first second =
      ap (λ b. if b then array_of (merge_refs files m s n t) else (if are_primitive m s n t then type_of 1 s else class_type object)) (and_from (is_reference m s) (is_reference n t) first second)

  pub merge_others : (m : ℕ) (s : TypeBase) (n : ℕ) (t : TypeBase) → (is_reference m s && is_reference n t) ≡ false
      → merge_refs files (suc m) s (suc n) t ≡ (if are_primitive m s n t then type_of 1 s else class_type object)
  unfolding merge_refs
  merge_others m s n t e = ap (λ b. if b then array_of (merge_refs files m s n t) else (if are_primitive m s n t then type_of 1 s else class_type object)) e

  pub merge_classes : (a b : ℕ) → merge_refs files zero (Class a) zero (Class b) ≡ class_type (common_super files a b)
  unfolding merge_refs
  merge_classes a b = refl

  pub merge_class_array : (s : TypeBase) (n : ℕ) (t : TypeBase) → merge_refs files zero s (suc n) t ≡ class_type object
  unfolding merge_refs
  merge_class_array (Class a) n t = refl
  merge_class_array s n t = refl

  pub merge_array_class : (m : ℕ) (s t : TypeBase) → merge_refs files (suc m) s zero t ≡ class_type object
  unfolding merge_refs
  merge_array_class m s t = refl

  -- ---- fits, case by case

  -- a component fits a component
  abbrev pub fits_component : ℕ → TypeBase → ℕ → TypeBase → Bool
  fits_component m s n t = if is_reference m s && is_reference n t then fits_ref files m s n t else are_primitive m s n t

  pub fits_array : (m : ℕ) (s : TypeBase) (n : ℕ) (t : TypeBase) → fits_ref files (suc m) s (suc n) t ≡ fits_component m s n t
  unfolding fits_ref
  fits_array m s n t = refl

  pub fits_no_array : (s : TypeBase) (n : ℕ) (t : TypeBase) → fits_ref files zero s (suc n) t ≡ false
  unfolding fits_ref
  fits_no_array s n t = refl

  pub fits_at_class : (m : ℕ) (s : TypeBase) (upper : ℕ) → fits_ref files m s zero (Class upper) ≡ (is_interface (flags_of files upper) || fits_class files m s upper)
  unfolding fits_ref
  fits_at_class zero s upper = refl
  fits_at_class (suc m) s upper = refl

  pub fits_no_type : (m : ℕ) (s t : TypeBase) → is_reference 0 t ≡ false → fits_ref files m s zero t ≡ false
  unfolding fits_ref
  fits_no_type zero s (Class upper) e = cc
  fits_no_type (suc m) s (Class upper) e = cc
  fits_no_type zero s t e = refl
  fits_no_type (suc m) s t e = refl

  pub component_refs : (m : ℕ) (s : TypeBase) (n : ℕ) (t : TypeBase) → is_reference m s ≡ true → is_reference n t ≡ true → fits_component m s n t ≡ fits_ref files m s n t
  component_refs m s n t first second = ap (λ b. if b then fits_ref files m s n t else are_primitive m s n t) (and_from (is_reference m s) (is_reference n t) first second)

  pub component_others : (m : ℕ) (s : TypeBase) (n : ℕ) (t : TypeBase) → (is_reference m s && is_reference n t) ≡ false → fits_component m s n t ≡ are_primitive m s n t
  component_others m s n t e = ap (λ b. if b then fits_ref files m s n t else are_primitive m s n t) e
