-- What fits a type fits each type that this one fits, and a class fits itself and the classes above it.
use Rattle.std.proofs.Common.{◌≡◌, ℕ, zero, suc, Bool, true, false, ◌&&◌, ◌⊎◌, inl, inr, List, Some, None, refl, sym, subst, ◌∙◌, arith}
use Rattle.std.proofs.lemmas.Bool.{cases_Bool, and_parts, or_cases, or_left, or_right, eqb-true, eq-eqb}
use Rattle.class_pool.specs.declared.types.TypeRef.{TypeRef}
use Rattle.class_pool.specs.declared.types.TypeBase.{TypeBase}
use Rattle.class_pool.specs.declared.types.TypeBase.TheVariants.{Class}
use Rattle.class_file.specs.declared.record.ClassFile.{ClassFile}
use Rattle.class_file.specs.Rules.{is_interface}
use Rattle.body_form.specs.declared.types.VType.TheVariants as known
use Rattle.class_tree.specs.Set.{IsClass, flags_of}
use Rattle.class_tree.specs.Subtypes.{IsType, class_type}
use Rattle.class_tree.specs.Tree.{Gathers}
use Rattle.class_tree.specs.DirectSupers.{superclass_of}
use Rattle.class_tree.specs.InterfaceLookup.{object}
use Rattle.class_tree.specs.Merge.{is_class_or_super, is_reference, are_primitive, type_of}
use Rattle.class_tree.specs.Fits.{fits, fits_class, fits_ref}
use Rattle.class_tree.proofs.ancestors.Forest.{Same, Over, over, step, last}
use Rattle.class_tree.proofs.ancestors.Superclasses.{IsRanked, ranked}
use Rattle.class_tree.proofs.ancestors.CommonSuper.{Above, sound, complete, top}
use Rattle.class_tree.proofs.merging.MergeLaws.{interfaces}
use Rattle.class_tree.proofs.merging.RefParts.{component, primitive_parts, reference_is_none, fits_component, fits_array, fits_no_array, fits_at_class, fits_no_type, component_refs, component_others}

no_both : (b : Bool) → b ≡ true → b ≡ false → ⊥
no_both true e f = cc
no_both false e f = cc

module _ (files : List ClassFile) (gathers : Gathers files None) where
  abbrev rank : ℕ → ℕ
  rank = (ranked files gathers).0

  is_ranked : IsRanked files rank
  is_ranked = (ranked files gathers).1

  abbrev IsInterface : ℕ → Type 0
  IsInterface class = is_interface (flags_of files class) ≡ true

  -- ---- classes

  above_from : (class upper : ℕ) → is_class_or_super files class upper ≡ true → Above files class upper
  above_from class upper e = sound files rank is_ranked class upper e

  above_to : (class upper : ℕ) → Above files class upper → is_class_or_super files class upper ≡ true
  above_to class upper way = complete files rank is_ranked class upper way

  -- nothing but itself is above java/lang/Object
  pub above_object : (upper : ℕ) → Above files object upper → object ≡ upper
  above_object upper way = last (superclass_of files) object upper refl way

  -- what is above an interface is the interface, or java/lang/Object
  above_interface : (class upper : ℕ) → IsClass files class → IsInterface class → Above files class upper → (class ≡ upper) ⊎ (object ≡ upper)
  above_interface class upper inside interface way =
      elim (step (superclass_of files) class object upper (interfaces files gathers class inside interface) way) [
        | inl same ↦ inl same
        | inr on ↦ inr (above_object upper on)
      ]

  -- ---- what fits a class

  at_class : (m : ℕ) (s : TypeBase) (upper : ℕ) → fits_ref files m s zero (Class upper) ≡ true → (IsInterface upper) ⊎ (fits_class files m s upper ≡ true)
  at_class m s upper e = or_cases (is_interface (flags_of files upper)) (fits_class files m s upper) (sym (fits_at_class files m s upper) ∙ e)

  pub by_interface : (m : ℕ) (s : TypeBase) (upper : ℕ) → IsInterface upper → fits_ref files m s zero (Class upper) ≡ true
  by_interface m s upper interface = fits_at_class files m s upper ∙ or_left (is_interface (flags_of files upper)) (fits_class files m s upper) interface

  by_class : (m : ℕ) (s : TypeBase) (upper : ℕ) → fits_class files m s upper ≡ true → fits_ref files m s zero (Class upper) ≡ true
  by_class m s upper e = fits_at_class files m s upper ∙ or_right (is_interface (flags_of files upper)) (fits_class files m s upper) e

  -- each type fits java/lang/Object
  pub object_fits : (m : ℕ) (s : TypeBase) → IsType files (type_of m s) → fits_ref files m s zero (Class object) ≡ true
  object_fits zero (Class class) inside = by_class zero (Class class) object (above_to class object (top files rank is_ranked gathers class inside.0))
  object_fits zero s inside = absurd (omega (arith, inside.1))
  object_fits (suc m) s inside = by_class (suc m) s object refl

  -- a class that a fitting class is below
  class_over : (m : ℕ) (s : TypeBase) (by upper : ℕ) → IsType files (type_of m s) → fits_class files m s by ≡ true → Above files by upper → fits_ref files m s zero (Class upper) ≡ true
  class_over zero (Class class) by upper inside e way =
      by_class zero (Class class) upper (above_to class upper (over (superclass_of files) class by upper (above_from class by e) way))
  class_over zero s by upper inside e way = absurd (omega (arith, inside.1))
  class_over (suc m) s by upper inside e way =
      let same : by ≡ object = eqb-true by object e in
      subst (λ c. fits_ref files (suc m) s zero (Class c) ≡ true) (above_object upper (subst (λ c. Above files c upper) same way)) (object_fits (suc m) s inside)

  -- ---- what fits what

  over_class : (m : ℕ) (s : TypeBase) (by upper : ℕ) → IsType files (type_of m s) → IsClass files by → fits_ref files m s zero (Class by) ≡ true → Above files by upper → fits_ref files m s zero (Class upper) ≡ true
  over_class m s by upper inside known e way =
      elim (at_class m s by e) [
        | inl interface ↦ elim (above_interface by upper known interface way) [
          | inl same ↦ subst (λ c. fits_ref files m s zero (Class c) ≡ true) same e
          | inr top ↦ subst (λ c. fits_ref files m s zero (Class c) ≡ true) top (object_fits m s inside)
        ]
        | inr fits ↦ class_over m s by upper inside fits way
      ]

  -- an array of what fits, where what it is of goes on to fit
  arrays_over : (m : ℕ) (s : TypeBase) (n : ℕ) (t : TypeBase) (k : ℕ) (u : TypeBase) → IsType files (type_of (suc m) s) → IsType files (type_of (suc n) t)
      → fits_ref files (suc m) s (suc n) t ≡ true → fits_ref files (suc n) t (suc k) u ≡ true
      → (IsType files (type_of m s) → IsType files (type_of n t) → fits_ref files m s n t ≡ true → fits_ref files n t k u ≡ true → fits_ref files m s k u ≡ true)
      → fits_ref files (suc m) s (suc k) u ≡ true
  arrays_over m s n t k u first second e f goes =
      components (cases_Bool (is_reference m s && is_reference n t)) (cases_Bool (is_reference n t && is_reference k u))
    where
      Goal : Type 0
      Goal = fits_ref files (suc m) s (suc k) u ≡ true

      one : fits_component files m s n t ≡ true
      one = sym (fits_array files m s n t) ∙ e

      two : fits_component files n t k u ≡ true
      two = sym (fits_array files n t k u) ∙ f

      both : (is_reference m s && is_reference n t) ≡ true → (is_reference n t && is_reference k u) ≡ true → Goal
      both a b =
          let lower = and_parts (is_reference m s) (is_reference n t) a in
          let upper = and_parts (is_reference n t) (is_reference k u) b in
          fits_array files m s k u ∙ component_refs files m s k u lower.0 upper.1
          ∙ goes (component files m s first lower.0) (component files n t second lower.1)
          (sym (component_refs files m s n t lower.0 lower.1) ∙ one) (sym (component_refs files n t k u upper.0 upper.1) ∙ two)

      primitive : are_primitive m s n t ≡ true → Goal
      primitive is =
          let parts = primitive_parts m s n t is in
          subst (λ b. fits_ref files (suc m) b (suc k) u ≡ true) (sym parts.base)
          (subst (λ i. fits_ref files (suc i) t (suc k) u ≡ true) (parts.second ∙ sym parts.first) f)

      components : ((is_reference m s && is_reference n t) ≡ true) ⊎ ((is_reference m s && is_reference n t) ≡ false)
          → ((is_reference n t && is_reference k u) ≡ true) ⊎ ((is_reference n t && is_reference k u) ≡ false) → Goal
      components (inl a) (inl b) = both a b
      components (inr a) b = primitive (sym (component_others files m s n t a) ∙ one)
      components (inl a) (inr b) =
          let lower = and_parts (is_reference m s) (is_reference n t) a in
          absurd (no_both (are_primitive n t k u) (sym (component_others files n t k u b) ∙ two) (reference_is_none n t k u lower.1))

  pub refs_over : (m : ℕ) (s : TypeBase) (n : ℕ) (t : TypeBase) (k : ℕ) (u : TypeBase) → IsType files (type_of m s) → IsType files (type_of n t)
      → fits_ref files m s n t ≡ true → fits_ref files n t k u ≡ true → fits_ref files m s k u ≡ true
  refs_over m s zero (Class by) zero (Class upper) first second e f =
      elim (at_class zero (Class by) upper f) [
        | inl interface ↦ by_interface m s upper interface
        | inr below ↦ over_class m s by upper first second.0 e (above_from by upper below)
      ]
  refs_over m s zero t zero (Class upper) first second e f = absurd (omega (arith, second.1))
  refs_over m s (suc n) t zero (Class upper) first second e f =
      elim (at_class (suc n) t upper f) [
        | inl interface ↦ by_interface m s upper interface
        | inr below ↦ subst (λ c. fits_ref files m s zero (Class c) ≡ true) (sym (eqb-true upper object below)) (object_fits m s first)
      ]
  refs_over m s n t zero u first second e f = absurd (no_both (fits_ref files n t zero u) f (fits_no_type files n t u refl))
  refs_over m s zero t (suc k) u first second e f = absurd (no_both (fits_ref files zero t (suc k) u) f (fits_no_array files t k u))
  refs_over zero s (suc n) t (suc k) u first second e f = absurd (no_both (fits_ref files zero s (suc n) t) e (fits_no_array files s n t))
  refs_over (suc m) s (suc n) t (suc k) u first second e f = arrays_over m s n t k u first second e f (refs_over m s n t k u)

  pub fits_over : (lower by upper : TypeRef) → IsType files lower → IsType files by → fits files (known.Ref lower) by ≡ true → fits files (known.Ref by) upper ≡ true → fits files (known.Ref lower) upper ≡ true
  fits_over lower by upper first second e f = refs_over lower.dims lower.base by.dims by.base upper.dims upper.base first second e f

  -- ---- classes as types

  -- a class fits each class above it
  pub class_fits_above : (class upper : ℕ) → Above files class upper → fits_ref files zero (Class class) zero (Class upper) ≡ true
  class_fits_above class upper way = by_class zero (Class class) upper (above_to class upper way)

  pub class_fits_itself : (class : ℕ) → fits_ref files zero (Class class) zero (Class class) ≡ true
  class_fits_itself class = class_fits_above class class Same

  pub class_fits_super : (class upper : ℕ) → superclass_of files class ≡ Some upper → fits_ref files zero (Class class) zero (Class upper) ≡ true
  class_fits_super class upper e = class_fits_above class upper (Over upper e Same)

  -- what a class fits and is no interface is itself or a superclass
  pub super_fits : (class upper : ℕ) → is_interface (flags_of files upper) ≡ false → fits_ref files zero (Class class) zero (Class upper) ≡ true → Above files class upper
  super_fits class upper never e =
      elim (at_class zero (Class class) upper e) [ inl interface ↦ absurd (no_both (is_interface (flags_of files upper)) interface never) | inr below ↦ above_from class upper below ]

  -- ---- arrays

  -- no array fits a class that is no interface and not java/lang/Object
  pub no_array_fits : (class : ℕ) → is_interface (flags_of files class) ≡ false → (class ≡ 0 → ⊥) → (array : TypeRef) → fits files (known.Ref array) (class_type class) ≡ true → array.dims ≡ 0
  no_array_fits class never other array e = by_dims array.dims array.base e
    where
      by_dims : (dims : ℕ) (base : TypeBase) → fits_ref files dims base zero (Class class) ≡ true → dims ≡ 0
      by_dims zero base h = refl
      by_dims (suc dims) base h =
          elim (at_class (suc dims) base class h) [ inl interface ↦ absurd (no_both (is_interface (flags_of files class)) interface never) | inr same ↦ absurd (other (eqb-true class object same)) ]

  -- an array fits what java/lang/Object fits
  pub array_fits_as_object : (m : ℕ) (s : TypeBase) (upper : ℕ) → fits_ref files zero (Class object) zero (Class upper) ≡ true → fits_ref files (suc m) s zero (Class upper) ≡ true
  array_fits_as_object m s upper e =
      elim (at_class zero (Class object) upper e) [
        | inl interface ↦ by_interface (suc m) s upper interface
        | inr below ↦ by_class (suc m) s upper (eq-eqb upper object (sym (above_object upper (above_from object upper below))))
      ]

  -- and java/lang/Object fits what an array fits
  pub object_fits_as_array : (m : ℕ) (s : TypeBase) (upper : ℕ) → fits_ref files (suc m) s zero (Class upper) ≡ true → fits_ref files zero (Class object) zero (Class upper) ≡ true
  object_fits_as_array m s upper e =
      elim (at_class (suc m) s upper e) [
        | inl interface ↦ by_interface zero (Class object) upper interface
        | inr below ↦ by_class zero (Class object) upper (above_to object upper (subst (Above files object) (sym (eqb-true upper object below)) Same))
      ]
