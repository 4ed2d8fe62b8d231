-- It does not matter which two of three references merge first.
use Rattle.std.proofs.Common.{◌≡◌, ℕ, zero, suc, ◌⊎◌, Bool, true, false, ◌&&◌, inl, inr, List, None, if◌then◌else◌, refl, sym, ap, subst, ◌∙◌, arith, add-one}
use Rattle.std.proofs.lemmas.Bool.{and_parts}
use Rattle.class_pool.specs.declared.types.TypeRef.{TypeRef}
use Rattle.class_pool.specs.declared.types.TypeBase.{TypeBase}
use Rattle.class_pool.specs.declared.types.TypeBase.TheVariants.{Class}
use Rattle.class_file.specs.declared.record.ClassFile.{ClassFile}
use Rattle.class_tree.specs.Set.{IsClass}
use Rattle.class_tree.specs.Subtypes.{IsType, array_of, class_type}
use Rattle.class_tree.specs.Tree.{Gathers}
use Rattle.class_tree.specs.InterfaceLookup.{object}
use Rattle.class_tree.specs.DirectSupers.{superclass_of}
use Rattle.class_tree.specs.Merge.{is_reference, are_primitive, type_of, common_super, merge_refs}
use Rattle.class_tree.proofs.ancestors.Forest.{Same, last, over}
use Rattle.class_tree.proofs.ancestors.Superclasses.{IsRanked}
use Rattle.class_tree.proofs.ancestors.CommonSuper.{Above, same, joined, least, top}
use Rattle.class_tree.proofs.merging.RefParts.{cases, and_no, component, primitive_parts, reference_is_none, reference_is_no_second, merge_arrays, merge_others, merge_classes, merge_class_array, merge_array_class}
use Rattle.class_tree.proofs.merging.Merging.{merge_refers}

module _ (files : List ClassFile) (gathers : Gathers files None) (rank : ℕ → ℕ) (is : IsRanked files rank) where
  abbrev IsRef : ℕ → TypeBase → Type 0
  IsRef m s = IsType files (type_of m s)

  -- ---- classes

  above_object : (upper : ℕ) → Above files object upper → object ≡ upper
  above_object upper way = last (superclass_of files) object upper refl way

  -- java/lang/Object takes all
  with_object : (a : ℕ) → IsClass files a → common_super files a object ≡ object
  with_object a inside = sym (above_object (common_super files a object) (least files rank is a object object (top files rank is gathers a inside) Same).right)

  object_with : (a : ℕ) → IsClass files a → common_super files object a ≡ object
  object_with a inside = sym (above_object (common_super files object a) (least files rank is object a object Same (top files rank is gathers a inside)).left)

  classes_assoc : (a b c : ℕ) → IsClass files a → IsClass files b → IsClass files c → common_super files (common_super files a b) c ≡ common_super files a (common_super files b c)
  classes_assoc a b c first second third =
      let super = superclass_of files in
      let ab = common_super files a b in
      let bc = common_super files b c in
      let left_least = joined files rank is gathers a b first second in
      let right_least = joined files rank is gathers b c second third in
      let over_ab = left_least.below object (top files rank is gathers a first) (top files rank is gathers b second) in
      let over_bc = right_least.below object (top files rank is gathers b second) (top files rank is gathers c third) in
      let one = least files rank is ab c object over_ab (top files rank is gathers c third) in
      let two = least files rank is a bc object (top files rank is gathers a first) over_bc in
      let x = common_super files ab c in
      let y = common_super files a bc in
      let a_x = over super a ab x left_least.left one.left in
      let b_x = over super b ab x left_least.right one.left in
      let b_y = over super b bc y right_least.left two.right in
      let c_y = over super c bc y right_least.right two.right in
      same files rank is x y (one.below y (left_least.below y two.left b_y) c_y) (two.below x a_x (right_least.below x b_x one.right))

  -- ---- with java/lang/Object

  abbrev on_left : TypeRef → ℕ → TypeBase → TypeRef
  on_left x k u = merge_refs files x.dims x.base k u

  abbrev on_right : ℕ → TypeBase → TypeRef → TypeRef
  on_right m s y = merge_refs files m s y.dims y.base

  object_left : (k : ℕ) (u : TypeBase) → IsRef k u → on_left (class_type object) k u ≡ class_type object
  object_left zero (Class c) inside = merge_classes files object c ∙ ap class_type (object_with c inside.0)
  object_left zero u inside = absurd (omega (arith, inside.1))
  object_left (suc k) u inside = merge_class_array files (Class object) k u

  object_right : (m : ℕ) (s : TypeBase) → IsRef m s → on_right m s (class_type object) ≡ class_type object
  object_right zero (Class a) inside = merge_classes files a object ∙ ap class_type (with_object a inside.0)
  object_right zero s inside = absurd (omega (arith, inside.1))
  object_right (suc m) s inside = merge_array_class files m s (Class object)

  -- ---- an array with anything is an array, or java/lang/Object

  abbrev IsArrayOrObject : TypeRef → Type 0
  IsArrayOrObject x = (x ≡ class_type object) ⊎ ((d : ℕ) × (x.dims ≡ suc d))

  apart_is : (b : Bool) (s : TypeBase) → IsArrayOrObject (if b then type_of 1 s else class_type object)
  apart_is true s = inr (0, refl)
  apart_is false s = inl refl

  arrays_are : (m : ℕ) (s : TypeBase) (n : ℕ) (t : TypeBase) → IsArrayOrObject (merge_refs files (suc m) s (suc n) t)
  arrays_are m s n t =
      elim (cases (is_reference m s && is_reference n t)) [
        | inl both ↦
            let parts = and_parts (is_reference m s) (is_reference n t) both in
            subst IsArrayOrObject (sym (merge_arrays files m s n t parts.0 parts.1)) (inr ((merge_refs files m s n t).dims, add-one (merge_refs files m s n t).dims))
        | inr not ↦ subst IsArrayOrObject (sym (merge_others files m s n t not)) (apart_is (are_primitive m s n t) s)
      ]

  class_left : (a : ℕ) → IsClass files a → (y : TypeRef) → IsArrayOrObject y → on_right zero (Class a) y ≡ class_type object
  class_left a inside y kind =
      elim kind [
        | inl e ↦ ap (on_right zero (Class a)) e ∙ object_right zero (Class a) (inside, tt)
        | inr more ↦ ap (λ d. merge_refs files zero (Class a) d y.base) more.1 ∙ merge_class_array files (Class a) more.0 y.base
      ]

  class_right : (c : ℕ) → IsClass files c → (x : TypeRef) → IsArrayOrObject x → on_left x zero (Class c) ≡ class_type object
  class_right c inside x kind =
      elim kind [
        | inl e ↦ ap (λ y. on_left y zero (Class c)) e ∙ object_left zero (Class c) (inside, tt)
        | inr more ↦ ap (λ d. merge_refs files d x.base zero (Class c)) more.1 ∙ merge_array_class files more.0 x.base (Class c)
      ]

  -- ---- arrays

  abbrev apart : ℕ → TypeBase → ℕ → TypeBase → TypeRef
  apart m s n t = if are_primitive m s n t then type_of 1 s else class_type object

  -- where components are not both references and not the same primitive type
  differ : (m : ℕ) (s : TypeBase) (n : ℕ) (t : TypeBase) → (is_reference m s && is_reference n t) ≡ false → are_primitive m s n t ≡ false
      → merge_refs files (suc m) s (suc n) t ≡ class_type object
  differ m s n t not other = merge_others files m s n t not ∙ ap (λ b. if b then type_of 1 s else class_type object) other

  -- one is a reference and the other is none
  ref_other : (m : ℕ) (s : TypeBase) (n : ℕ) (t : TypeBase) → is_reference m s ≡ true → is_reference n t ≡ false → merge_refs files (suc m) s (suc n) t ≡ class_type object
  ref_other m s n t one none = differ m s n t (ap (λ b. is_reference m s && b) none ∙ and_no (is_reference m s)) (reference_is_none m s n t one)

  other_ref : (m : ℕ) (s : TypeBase) (n : ℕ) (t : TypeBase) → is_reference m s ≡ false → is_reference n t ≡ true → merge_refs files (suc m) s (suc n) t ≡ class_type object
  other_ref m s n t none two = differ m s n t (ap (λ b. b && is_reference n t) none) (reference_is_no_second m s n t two)

  -- with an array of a merge
  array_left : (x : TypeRef) (k : ℕ) (u : TypeBase) → on_left (array_of x) k u ≡ merge_refs files (suc x.dims) x.base k u
  array_left x k u = ap (λ d. merge_refs files d x.base k u) (add-one x.dims)

  array_right : (m : ℕ) (s : TypeBase) (y : TypeRef) → on_right m s (array_of y) ≡ merge_refs files m s (suc y.dims) y.base
  array_right m s y = ap (λ d. merge_refs files m s d y.base) (add-one y.dims)

  -- where the middle one is an array of a primitive type
  middle : (m : ℕ) (s : TypeBase) (n : ℕ) (t : TypeBase) (k : ℕ) (u : TypeBase) → is_reference n t ≡ false → IsRef (suc m) s → IsRef (suc k) u
      → on_left (merge_refs files (suc m) s (suc n) t) (suc k) u ≡ on_right (suc m) s (merge_refs files (suc n) t (suc k) u)
  middle m s n t k u none first third =
      let not_left : (is_reference m s && is_reference n t) ≡ false = ap (λ b. is_reference m s && b) none ∙ and_no (is_reference m s) in
      let not_right : (is_reference n t && is_reference k u) ≡ false = ap (λ b. b && is_reference k u) none in
      elim (cases (are_primitive m s n t)) [
        | inl left ↦
            let p = primitive_parts m s n t left in
            let x : merge_refs files (suc m) s (suc n) t ≡ type_of 1 s = merge_others files m s n t not_left ∙ ap (λ b. if b then type_of 1 s else class_type object) left in
            -- the first two are the same type
            let one : type_of 1 s ≡ type_of (suc n) t = ap (type_of 1) p.base ∙ ap (λ i. type_of (suc i) t) (sym p.second) in
            elim (cases (are_primitive n t k u)) [
              | inl right ↦
                  let q = primitive_parts n t k u right in
                  let y : merge_refs files (suc n) t (suc k) u ≡ type_of 1 t = merge_others files n t k u not_right ∙ ap (λ b. if b then type_of 1 t else class_type object) right in
                  ap (λ z. on_left z (suc k) u) (x ∙ ap (type_of 1) p.base) ∙ ap (λ i. merge_refs files 1 t (suc i) u) q.second ∙ ap (λ b. merge_refs files 1 t 1 b) (sym q.base)
                  ∙ ap (λ b. merge_refs files 1 b 1 t) (sym p.base) ∙ ap (λ i. merge_refs files (suc i) s 1 t) (sym p.first) ∙ sym (ap (on_right (suc m) s) y)
              | inr other ↦
                  let y = differ n t k u not_right other in
                  ap (λ z. on_left z (suc k) u) (x ∙ one) ∙ y ∙ sym (object_right (suc m) s first) ∙ sym (ap (on_right (suc m) s) y)
            ]
        | inr other ↦
            let x = differ m s n t not_left other in
            elim (cases (are_primitive n t k u)) [
              | inl right ↦
                  let q = primitive_parts n t k u right in
                  let y : merge_refs files (suc n) t (suc k) u ≡ type_of 1 t = merge_others files n t k u not_right ∙ ap (λ b. if b then type_of 1 t else class_type object) right in
                  let two : type_of 1 t ≡ type_of (suc n) t = ap (λ i. type_of (suc i) t) (sym q.first) in
                  ap (λ z. on_left z (suc k) u) x ∙ object_left (suc k) u third ∙ sym x ∙ sym (ap (on_right (suc m) s) (y ∙ two))
              | inr apart ↦
                  let y = differ n t k u not_right apart in
                  ap (λ z. on_left z (suc k) u) x ∙ object_left (suc k) u third ∙ sym (object_right (suc m) s first) ∙ sym (ap (on_right (suc m) s) y)
            ]
      ]

  pub refs_assoc : (m : ℕ) (s : TypeBase) (n : ℕ) (t : TypeBase) (k : ℕ) (u : TypeBase) → IsRef m s → IsRef n t → IsRef k u
      → on_left (merge_refs files m s n t) k u ≡ on_right m s (merge_refs files n t k u)
  refs_assoc zero (Class a) zero (Class b) zero (Class c) first second third =
      ap (λ x. on_left x zero (Class c)) (merge_classes files a b) ∙ merge_classes files (common_super files a b) c ∙ ap class_type (classes_assoc a b c first.0 second.0 third.0)
      ∙ sym (merge_classes files a (common_super files b c)) ∙ sym (ap (on_right zero (Class a)) (merge_classes files b c))
  refs_assoc zero (Class a) zero (Class b) zero u first second third = absurd (omega (arith, third.1))
  refs_assoc zero (Class a) zero (Class b) (suc k) u first second third =
      ap (λ x. on_left x (suc k) u) (merge_classes files a b) ∙ merge_class_array files (Class (common_super files a b)) k u
      ∙ sym (object_right zero (Class a) first) ∙ sym (ap (on_right zero (Class a)) (merge_class_array files (Class b) k u))
  refs_assoc zero (Class a) zero t k u first second third = absurd (omega (arith, second.1))
  refs_assoc zero (Class a) (suc n) t zero u first second third =
      ap (λ x. on_left x zero u) (merge_class_array files (Class a) n t) ∙ object_left zero u third
      ∙ sym (object_right zero (Class a) first) ∙ sym (ap (on_right zero (Class a)) (merge_array_class files n t u))
  refs_assoc zero (Class a) (suc n) t (suc k) u first second third =
      ap (λ x. on_left x (suc k) u) (merge_class_array files (Class a) n t) ∙ object_left (suc k) u third
      ∙ sym (class_left a first.0 (merge_refs files (suc n) t (suc k) u) (arrays_are n t k u))
  refs_assoc zero s n t k u first second third = absurd (omega (arith, first.1))
  refs_assoc (suc m) s zero (Class b) zero (Class c) first second third =
      ap (λ x. on_left x zero (Class c)) (merge_array_class files m s (Class b)) ∙ object_left zero (Class c) third
      ∙ sym (merge_array_class files m s (Class (common_super files b c))) ∙ sym (ap (on_right (suc m) s) (merge_classes files b c))
  refs_assoc (suc m) s zero (Class b) zero u first second third = absurd (omega (arith, third.1))
  refs_assoc (suc m) s zero (Class b) (suc k) u first second third =
      ap (λ x. on_left x (suc k) u) (merge_array_class files m s (Class b)) ∙ object_left (suc k) u third
      ∙ sym (object_right (suc m) s first) ∙ sym (ap (on_right (suc m) s) (merge_class_array files (Class b) k u))
  refs_assoc (suc m) s zero t k u first second third = absurd (omega (arith, second.1))
  refs_assoc (suc m) s (suc n) t zero (Class c) first second third =
      class_right c third.0 (merge_refs files (suc m) s (suc n) t) (arrays_are m s n t)
      ∙ sym (object_right (suc m) s first) ∙ sym (ap (on_right (suc m) s) (merge_array_class files n t (Class c)))
  refs_assoc (suc m) s (suc n) t zero u first second third = absurd (omega (arith, third.1))
  refs_assoc (suc m) s (suc n) t (suc k) u first second third =
      elim (cases (is_reference n t)) [
        | inr none ↦ middle m s n t k u none first third
        | inl two ↦
            let second_part = component files n t second two in
            elim (cases (is_reference m s)) [
              | inl one ↦
                  let first_part = component files m s first one in
                  let left = merge_refs files m s n t in
                  let left_refers = merge_refers files gathers rank is m s n t first_part second_part in
                  let x : on_left (merge_refs files (suc m) s (suc n) t) (suc k) u ≡ merge_refs files (suc left.dims) left.base (suc k) u =
                  ap (λ z. on_left z (suc k) u) (merge_arrays files m s n t one two) ∙ array_left left (suc k) u in
                  elim (cases (is_reference k u)) [
                    | inl three ↦
                        let third_part = component files k u third three in
                        let right = merge_refs files n t k u in
                        let right_refers = merge_refers files gathers rank is n t k u second_part third_part in
                        x ∙ merge_arrays files left.dims left.base k u left_refers three ∙ ap array_of (refs_assoc m s n t k u first_part second_part third_part)
                        ∙ sym (merge_arrays files m s right.dims right.base one right_refers) ∙ sym (array_right (suc m) s right) ∙ sym (ap (on_right (suc m) s) (merge_arrays files n t k u two three))
                    | inr none ↦
                        x ∙ ref_other left.dims left.base k u left_refers none ∙ sym (object_right (suc m) s first) ∙ sym (ap (on_right (suc m) s) (ref_other n t k u two none))
                  ]
              | inr none ↦
                  ap (λ z. on_left z (suc k) u) (other_ref m s n t none two) ∙ object_left (suc k) u third
                  ∙ elim (cases (is_reference k u)) [
                    | inl three ↦
                        let third_part = component files k u third three in
                        let right = merge_refs files n t k u in
                        let right_refers = merge_refers files gathers rank is n t k u second_part third_part in
                        sym (other_ref m s right.dims right.base none right_refers) ∙ sym (array_right (suc m) s right) ∙ sym (ap (on_right (suc m) s) (merge_arrays files n t k u two three))
                    | inr never ↦ sym (object_right (suc m) s first) ∙ sym (ap (on_right (suc m) s) (ref_other n t k u two never))
                  ]
            ]
      ]
