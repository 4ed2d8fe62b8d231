-- The merge of two references: it does not matter which comes first, equal ones stay, and it fits what both fit.
use Rattle.std.proofs.Common.{◌≡◌, ℕ, zero, suc, Bool, true, false, ◌&&◌, ◌||◌, inl, inr, List, None, nat_eq, if◌then◌else◌, refl, sym, ap, subst, ◌∙◌, arith, add-one}
use Rattle.std.proofs.lemmas.Bool.{eqb-true, and_parts, and_from}
use Rattle.std.proofs.lemmas.Bool.Decides.{Decides-eqb}
use Rattle.class_pool.specs.declared.types.TypeRef.{TypeRef}
use Rattle.class_pool.specs.declared.types.TypeBase.{TypeBase}
use Rattle.class_pool.specs.declared.types.TypeBase.TheVariants.{Class}
use Rattle.class_file.specs.declared.record.ClassFile.{ClassFile}
use Rattle.class_file.specs.Rules.{is_interface}
use Rattle.class_tree.specs.Set.{flags_of, IsClass}
use Rattle.class_tree.specs.Subtypes.{IsType, array_of, class_type}
use Rattle.class_tree.specs.Tree.{Gathers}
use Rattle.class_tree.specs.InterfaceLookup.{object}
use Rattle.class_tree.specs.DirectSupers.{superclass_of}
use Rattle.class_tree.specs.Merge.{is_class_or_super, is_reference, are_primitive, type_of, common_super, merge_refs}
use Rattle.class_tree.specs.Fits.{fits_class, fits_ref}
use Rattle.class_tree.proofs.ancestors.Forest.{Same, last, over}
use Rattle.class_tree.proofs.ancestors.Superclasses.{IsRanked}
use Rattle.class_tree.proofs.ancestors.CommonSuper.{sound, complete, with_itself, joined, commutes, top}
use Rattle.class_tree.proofs.merging.RefParts.{cases, same_test, not_true, both_ways, twice, and_no, component, primitive_parts, primitive_turned, primitive_over, primitive_with_itself, reference_is_none, reference_is_no_second, merge_arrays, merge_others, merge_classes, merge_class_array, merge_array_class, fits_component, component_refs, component_others, fits_array, fits_no_array, fits_at_class, fits_no_type}

module _ (files : List ClassFile) (gathers : Gathers files None) (rank : ℕ → ℕ) (is : IsRanked files rank) where
  abbrev IsRef : ℕ → TypeBase → Type 0
  IsRef m s = IsType files (type_of m s)

  -- ---- it does not matter which comes first

  abbrev apart : ℕ → TypeBase → ℕ → TypeBase → TypeRef
  apart m s n t = if are_primitive m s n t then type_of 1 s else class_type object

  others_commute : (m : ℕ) (s : TypeBase) (n : ℕ) (t : TypeBase) → apart m s n t ≡ apart n t m s
  others_commute m s n t =
      elim (cases (are_primitive m s n t)) [
        | inl same ↦
            ap (λ b. if b then type_of 1 s else class_type object) same ∙ ap (type_of 1) (primitive_parts m s n t same).base
            ∙ sym (ap (λ b. if b then type_of 1 t else class_type object) (primitive_turned m s n t same))
        | inr other ↦
            let turned : are_primitive n t m s ≡ false = not_true (are_primitive n t m s) (λ e. let f : false ≡ true = sym other ∙ primitive_turned n t m s e in cc) in
            ap (λ b. if b then type_of 1 s else class_type object) other ∙ sym (ap (λ b. if b then type_of 1 t else class_type object) turned)
      ]

  pub refs_commute : (m : ℕ) (s : TypeBase) (n : ℕ) (t : TypeBase) → IsRef m s → IsRef n t → merge_refs files m s n t ≡ merge_refs files n t m s
  refs_commute zero (Class a) zero (Class b) first second =
      merge_classes files a b ∙ ap class_type (commutes files rank is gathers a b first.0 second.0) ∙ sym (merge_classes files b a)
  refs_commute zero (Class a) zero t first second = absurd (omega (arith, second.1))
  refs_commute zero s zero t first second = absurd (omega (arith, first.1))
  refs_commute zero s (suc n) t first second = merge_class_array files s n t ∙ sym (merge_array_class files n t s)
  refs_commute (suc m) s zero t first second = merge_array_class files m s t ∙ sym (merge_class_array files t m s)
  refs_commute (suc m) s (suc n) t first second =
      elim (cases (is_reference m s && is_reference n t)) [
        | inl both ↦
            let one = (and_parts (is_reference m s) (is_reference n t) both).0 in
            let two = (and_parts (is_reference m s) (is_reference n t) both).1 in
            merge_arrays files m s n t one two ∙ ap array_of (refs_commute m s n t (component files m s first one) (component files n t second two)) ∙ sym (merge_arrays files n t m s two one)
        | inr not ↦
            merge_others files m s n t not ∙ others_commute m s n t ∙ sym (merge_others files n t m s (both_ways (is_reference n t) (is_reference m s) ∙ not))
      ]

  -- ---- equal ones stay

  pub refs_stay : (m : ℕ) (s : TypeBase) → IsRef m s → merge_refs files m s m s ≡ type_of m s
  refs_stay zero (Class a) inside = merge_classes files a a ∙ ap class_type (with_itself files rank is a)
  refs_stay zero s inside = absurd (omega (arith, inside.1))
  refs_stay (suc m) s inside =
      elim (cases (is_reference m s)) [
        | inl ref ↦ merge_arrays files m s m s ref ref ∙ ap array_of (refs_stay m s (component files m s inside ref)) ∙ ap (λ n. type_of n s) (add-one m)
        | inr not ↦
            let itself = primitive_with_itself m s not in
            merge_others files m s m s (ap (λ b. b && is_reference m s) not) ∙ ap (λ b. if b then type_of 1 s else class_type object) itself.1
            ∙ ap (λ n. type_of (suc n) s) (sym itself.0)
      ]

  -- ---- a merge is a reference

  abbrev refers : TypeRef → Bool
  refers x = is_reference x.dims x.base

  apart_refers : (b : Bool) (s : TypeBase) → refers (if b then type_of 1 s else class_type object) ≡ true
  apart_refers true s = refl
  apart_refers false s = refl

  pub merge_refers : (m : ℕ) (s : TypeBase) (n : ℕ) (t : TypeBase) → IsRef m s → IsRef n t → refers (merge_refs files m s n t) ≡ true
  merge_refers zero (Class a) zero (Class b) first second = ap refers (merge_classes files a b)
  merge_refers zero (Class a) zero t first second = absurd (omega (arith, second.1))
  merge_refers zero s zero t first second = absurd (omega (arith, first.1))
  merge_refers zero s (suc n) t first second = ap refers (merge_class_array files s n t)
  merge_refers (suc m) s zero t first second = ap refers (merge_array_class files m s t)
  merge_refers (suc m) s (suc n) t first second =
      elim (cases (is_reference m s && is_reference n t)) [
        | inl both ↦
            let parts = and_parts (is_reference m s) (is_reference n t) both in
            let merged = merge_refs files m s n t in
            ap refers (merge_arrays files m s n t parts.0 parts.1) ∙ ap (λ k. is_reference k merged.base) (add-one merged.dims)
        | inr not ↦ ap refers (merge_others files m s n t not) ∙ apart_refers (are_primitive m s n t) s
      ]

  -- ---- which classes a merge fits

  object_fits : (upper : ℕ) → is_class_or_super files object upper ≡ nat_eq upper object
  object_fits upper =
      same_test (is_class_or_super files object upper) (nat_eq upper object)
      (λ e. (Decides-eqb upper object).1 (sym (last (superclass_of files) object upper refl (sound files rank is object upper e))))
      (λ e. subst (λ c. is_class_or_super files object c ≡ true) (sym (eqb-true upper object e)) (complete files rank is object object Same))

  common_fits : (a b upper : ℕ) → IsClass files a → IsClass files b → is_class_or_super files (common_super files a b) upper ≡ (is_class_or_super files a upper && is_class_or_super files b upper)
  common_fits a b upper first second =
      let least = joined files rank is gathers a b first second in
      same_test (is_class_or_super files (common_super files a b) upper) (is_class_or_super files a upper && is_class_or_super files b upper)
      (λ e. let way = sound files rank is (common_super files a b) upper e in
      and_from (is_class_or_super files a upper) (is_class_or_super files b upper)
      (complete files rank is a upper (over (superclass_of files) a (common_super files a b) upper least.left way))
      (complete files rank is b upper (over (superclass_of files) b (common_super files a b) upper least.right way)))
      (λ e. let parts = and_parts (is_class_or_super files a upper) (is_class_or_super files b upper) e in
      complete files rank is (common_super files a b) upper (least.below upper (sound files rank is a upper parts.0) (sound files rank is b upper parts.1)))

  -- each class of the set fits java/lang/Object
  object_last : (a upper : ℕ) → IsClass files a → nat_eq upper object ≡ (is_class_or_super files a upper && nat_eq upper object)
  object_last a upper inside =
      same_test (nat_eq upper object) (is_class_or_super files a upper && nat_eq upper object)
      (λ e. and_from (is_class_or_super files a upper) (nat_eq upper object)
      (subst (λ c. is_class_or_super files a c ≡ true) (sym (eqb-true upper object e)) (complete files rank is a object (top files rank is gathers a inside))) e)
      (λ e. (and_parts (is_class_or_super files a upper) (nat_eq upper object) e).1)

  abbrev at_class : ℕ → TypeRef → Bool
  at_class upper x = fits_class files x.dims x.base upper

  apart_at_class : (b : Bool) (s : TypeBase) (upper : ℕ) → at_class upper (if b then type_of 1 s else class_type object) ≡ nat_eq upper object
  apart_at_class true s upper = refl
  apart_at_class false s upper = object_fits upper

  class_law : (m : ℕ) (s : TypeBase) (n : ℕ) (t : TypeBase) → IsRef m s → IsRef n t → (upper : ℕ) → at_class upper (merge_refs files m s n t) ≡ (fits_class files m s upper && fits_class files n t upper)
  class_law zero (Class a) zero (Class b) first second upper = ap (at_class upper) (merge_classes files a b) ∙ common_fits a b upper first.0 second.0
  class_law zero (Class a) zero t first second upper = absurd (omega (arith, second.1))
  class_law zero s zero t first second upper = absurd (omega (arith, first.1))
  class_law zero (Class a) (suc n) t first second upper = ap (at_class upper) (merge_class_array files (Class a) n t) ∙ object_fits upper ∙ object_last a upper first.0
  class_law zero s (suc n) t first second upper = absurd (omega (arith, first.1))
  class_law (suc m) s zero (Class b) first second upper =
      ap (at_class upper) (merge_array_class files m s (Class b)) ∙ object_fits upper ∙ object_last b upper second.0 ∙ both_ways (is_class_or_super files b upper) (nat_eq upper object)
  class_law (suc m) s zero t first second upper = absurd (omega (arith, second.1))
  class_law (suc m) s (suc n) t first second upper =
      elim (cases (is_reference m s && is_reference n t)) [
        | inl both ↦
            let parts = and_parts (is_reference m s) (is_reference n t) both in
            let merged = merge_refs files m s n t in
            ap (at_class upper) (merge_arrays files m s n t parts.0 parts.1) ∙ ap (λ k. fits_class files k merged.base upper) (add-one merged.dims) ∙ sym (twice (nat_eq upper object))
        | inr not ↦ ap (at_class upper) (merge_others files m s n t not) ∙ apart_at_class (are_primitive m s n t) s upper ∙ sym (twice (nat_eq upper object))
      ]

  -- ---- which types a merge fits

  abbrev at_type : ℕ → TypeBase → TypeRef → Bool
  at_type k u x = fits_ref files x.dims x.base k u

  distributed : (i a b : Bool) → (i || (a && b)) ≡ ((i || a) && (i || b))
  distributed true a b = refl
  distributed false a b = refl

  -- a class fits no array
  no_array : (k : ℕ) (u : TypeBase) (class : ℕ) → at_type (suc k) u (class_type class) ≡ false
  no_array k u class = fits_no_array files (Class class) k u

  first_none : (a b : Bool) → a ≡ false → false ≡ (a && b)
  first_none a b e = sym (ap (λ x. x && b) e)

  second_none : (a b : Bool) → b ≡ false → false ≡ (a && b)
  second_none a b e = sym (ap (λ x. a && x) e ∙ and_no a)

  -- a component of a merge that is a reference
  merged_component : (m : ℕ) (s : TypeBase) (n : ℕ) (t : TypeBase) → is_reference m s ≡ true → is_reference n t ≡ true → (k : ℕ) (u : TypeBase)
      → at_type (suc k) u (merge_refs files (suc m) s (suc n) t) ≡ fits_component files (merge_refs files m s n t).dims (merge_refs files m s n t).base k u
  merged_component m s n t one two k u =
      let merged = merge_refs files m s n t in
      ap (at_type (suc k) u) (merge_arrays files m s n t one two) ∙ ap (λ d. fits_ref files d merged.base (suc k) u) (add-one merged.dims) ∙ fits_array files merged.dims merged.base k u

  -- where two components are not both references and are not the same primitive type, no array type takes both
  none_takes : (m : ℕ) (s : TypeBase) (n : ℕ) (t : TypeBase) → (is_reference m s && is_reference n t) ≡ false → are_primitive m s n t ≡ false → (k : ℕ) (u : TypeBase)
      → (fits_component files m s k u && fits_component files n t k u) ≡ true → ⊥
  none_takes m s n t not other k u e =
      let parts = and_parts (fits_component files m s k u) (fits_component files n t k u) e in
      elim (cases (is_reference k u)) [
        | inl ref ↦
            let is_ref : (i : ℕ) (x : TypeBase) → fits_component files i x k u ≡ true → is_reference i x ≡ true = λ i x takes.
            elim (cases (is_reference i x)) [
              | inl refers ↦ refers
              | inr never ↦
                  let f : false ≡ true = sym (component_others files i x k u (ap (λ b. b && is_reference k u) never) ∙ reference_is_no_second i x k u ref) ∙ takes in
                  cc
            ] in
            let f : false ≡ true = sym not ∙ and_from (is_reference m s) (is_reference n t) (is_ref m s parts.0) (is_ref n t parts.1) in
            cc
        | inr never ↦
            let is_same : (i : ℕ) (x : TypeBase) → fits_component files i x k u ≡ true → are_primitive i x k u ≡ true = λ i x takes.
            sym (component_others files i x k u (ap (λ b. is_reference i x && b) never ∙ and_no (is_reference i x))) ∙ takes in
            let f : false ≡ true = sym other ∙ primitive_over m s n t k u (is_same m s parts.0) (is_same n t parts.1) in
            cc
      ]

  -- two arrays of one primitive type
  same_arrays : (m : ℕ) (s : TypeBase) (n : ℕ) (t : TypeBase) → are_primitive m s n t ≡ true → (k : ℕ) (u : TypeBase)
      → fits_ref files 1 s (suc k) u ≡ (fits_ref files (suc m) s (suc k) u && fits_ref files (suc n) t (suc k) u)
  same_arrays m s n t e k u =
      let parts = primitive_parts m s n t e in
      let one : fits_ref files (suc m) s (suc k) u ≡ fits_ref files 1 s (suc k) u = ap (λ i. fits_ref files (suc i) s (suc k) u) parts.first in
      let two : fits_ref files (suc n) t (suc k) u ≡ fits_ref files 1 s (suc k) u =
      ap (λ i. fits_ref files (suc i) t (suc k) u) parts.second ∙ ap (λ x. fits_ref files 1 x (suc k) u) (sym parts.base) in
      sym (twice (fits_ref files 1 s (suc k) u)) ∙ sym (ap (λ b. b && fits_ref files 1 s (suc k) u) one) ∙ sym (ap (λ b. fits_ref files (suc m) s (suc k) u && b) two)

  arrays_both : (m : ℕ) (s : TypeBase) (n : ℕ) (t : TypeBase) (k : ℕ) (u : TypeBase)
      → (fits_ref files (suc m) s (suc k) u && fits_ref files (suc n) t (suc k) u) ≡ (fits_component files m s k u && fits_component files n t k u)
  arrays_both m s n t k u =
      ap (λ b. b && fits_ref files (suc n) t (suc k) u) (fits_array files m s k u) ∙ ap (λ b. fits_component files m s k u && b) (fits_array files n t k u)

  -- what a component fits that is a reference
  refs_both : (m : ℕ) (s : TypeBase) (n : ℕ) (t : TypeBase) → is_reference m s ≡ true → is_reference n t ≡ true → (k : ℕ) (u : TypeBase) → is_reference k u ≡ true
      → (fits_component files m s k u && fits_component files n t k u) ≡ (fits_ref files m s k u && fits_ref files n t k u)
  refs_both m s n t one two k u ref =
      ap (λ b. b && fits_component files n t k u) (component_refs files m s k u one ref) ∙ ap (λ b. fits_ref files m s k u && b) (component_refs files n t k u two ref)

  takes_no : (m : ℕ) (s : TypeBase) (k : ℕ) (u : TypeBase) → is_reference m s ≡ true → is_reference k u ≡ false → fits_component files m s k u ≡ false
  takes_no m s k u one never =
      component_others files m s k u (ap (λ b. is_reference m s && b) never ∙ and_no (is_reference m s)) ∙ reference_is_none m s k u one

  pub refs_fit : (m : ℕ) (s : TypeBase) (n : ℕ) (t : TypeBase) → IsRef m s → IsRef n t → (k : ℕ) (u : TypeBase)
      → at_type k u (merge_refs files m s n t) ≡ (fits_ref files m s k u && fits_ref files n t k u)
  refs_fit m s n t first second zero (Class upper) =
      let merged = merge_refs files m s n t in
      let interface = is_interface (flags_of files upper) in
      fits_at_class files merged.dims merged.base upper ∙ ap (λ b. interface || b) (class_law m s n t first second upper)
      ∙ distributed interface (fits_class files m s upper) (fits_class files n t upper)
      ∙ sym (ap (λ b. b && (interface || fits_class files n t upper)) (fits_at_class files m s upper))
      ∙ sym (ap (λ b. fits_ref files m s zero (Class upper) && b) (fits_at_class files n t upper))
  refs_fit m s n t first second zero u =
      let merged = merge_refs files m s n t in
      fits_no_type files merged.dims merged.base u refl ∙ first_none (fits_ref files m s zero u) (fits_ref files n t zero u) (fits_no_type files m s u refl)
  refs_fit zero (Class a) zero (Class b) first second (suc k) u =
      ap (at_type (suc k) u) (merge_classes files a b) ∙ no_array k u (common_super files a b) ∙ first_none _ _ (fits_no_array files (Class a) k u)
  refs_fit zero (Class a) zero t first second (suc k) u = absurd (omega (arith, second.1))
  refs_fit zero s zero t first second (suc k) u = absurd (omega (arith, first.1))
  refs_fit zero s (suc n) t first second (suc k) u =
      ap (at_type (suc k) u) (merge_class_array files s n t) ∙ no_array k u object ∙ first_none _ _ (fits_no_array files s k u)
  refs_fit (suc m) s zero t first second (suc k) u =
      ap (at_type (suc k) u) (merge_array_class files m s t) ∙ no_array k u object ∙ second_none _ _ (fits_no_array files t k u)
  refs_fit (suc m) s (suc n) t first second (suc k) u =
      elim (cases (is_reference m s && is_reference n t)) [
        | inl both ↦
            let parts = and_parts (is_reference m s) (is_reference n t) both in
            let one = component files m s first parts.0 in
            let two = component files n t second parts.1 in
            let merged = merge_refs files m s n t in
            let goes = merged_component m s n t parts.0 parts.1 k u in
            elim (cases (is_reference k u)) [
              | inl ref ↦
                  goes ∙ component_refs files merged.dims merged.base k u (merge_refers m s n t one two) ref ∙ refs_fit m s n t one two k u
                  ∙ sym (refs_both m s n t parts.0 parts.1 k u ref) ∙ sym (arrays_both m s n t k u)
              | inr never ↦
                  goes ∙ takes_no merged.dims merged.base k u (merge_refers m s n t one two) never
                  ∙ first_none (fits_component files m s k u) (fits_component files n t k u) (takes_no m s k u parts.0 never) ∙ sym (arrays_both m s n t k u)
            ]
        | inr not ↦ elim (cases (are_primitive m s n t)) [
          | inl same ↦
              ap (at_type (suc k) u) (merge_others files m s n t not ∙ ap (λ b. if b then type_of 1 s else class_type object) same) ∙ same_arrays m s n t same k u
          | inr other ↦
              ap (at_type (suc k) u) (merge_others files m s n t not ∙ ap (λ b. if b then type_of 1 s else class_type object) other) ∙ no_array k u object
              ∙ sym (not_true (fits_component files m s k u && fits_component files n t k u) (none_takes m s n t not other k u)) ∙ sym (arrays_both m s n t k u)
        ]
      ]
