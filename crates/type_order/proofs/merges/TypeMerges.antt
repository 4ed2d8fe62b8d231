-- The merge of two types of a set is a type of the set, and it is their join where one type is above another when
-- the merge of both is the first.
use Rattle.std.proofs.Common.{◌≡◌, ℕ, zero, suc, ◌+◌, Bool, true, false, ◌&&◌, inl, inr, List, Some, None, nat_eq, if◌then◌else◌, sym, ap, subst, ◌∙◌, arith}
use Rattle.std.proofs.lemmas.Bool.{cases_Bool, and_parts}
use Rattle.std.proofs.lemmas.Option.{none-some, same_Some}
use Rattle.class_pool.specs.declared.types.TypeRef.{TypeRef}
use Rattle.class_pool.specs.declared.types.TypeBase.{TypeBase}
use Rattle.class_pool.specs.declared.types.TypeBase.TheVariants.{Class}
use Rattle.class_file.specs.declared.record.ClassFile.{ClassFile}
use Rattle.body_form.specs.declared.types.VType.{VType}
use Rattle.body_form.specs.declared.types.VType.TheVariants.{Top, Int, Null, Ref, New, This}
use Rattle.class_tree.specs.Set.{IsClass}
use Rattle.class_tree.specs.DirectSupers.{superclass_of}
use Rattle.class_tree.specs.Subtypes.{HasDimensions, IsType, array_of, class_type}
use Rattle.class_tree.specs.Tree.{Gathers}
use Rattle.class_tree.specs.InterfaceLookup.{object}
use Rattle.class_tree.specs.Merge.{is_reference, are_primitive, type_of, common_super, merge_refs, merge}
use Rattle.class_tree.specs.MergeLaws.{IsKnown}
use Rattle.class_tree.proofs.ancestors.Forest.{Up, Same, Over}
use Rattle.class_tree.proofs.ancestors.Superclasses.{ranked, next_class}
use Rattle.class_tree.proofs.ancestors.CommonSuper.{joined}
use Rattle.class_tree.proofs.merging.RefParts.{component, merge_arrays, merge_others, merge_classes, merge_class_array, merge_array_class}
use Rattle.class_tree.proofs.merging.MergeLaws.{commutes, associates, stays}

-- ---- dimensions

one_dimension : (s : TypeBase) → HasDimensions 1 s
one_dimension (Class class) = tt
one_dimension s = omega arith

more_dimensions : (d : ℕ) (s : TypeBase) → HasDimensions (d + 1) s
more_dimensions d (Class class) = tt
more_dimensions d s = omega arith

module _ (files : List ClassFile) (gathers : Gathers files None) where
  -- ---- classes of the set

  next_inside : (class by : ℕ) → superclass_of files class ≡ Some by → IsClass files class → IsClass files by
  next_inside class by e inside =
      elim (next_class files gathers class inside) [
        | inl first ↦ absurd (none-some by (subst (λ c. superclass_of files c ≡ Some by) first e))
        | inr next ↦ subst (IsClass files) (same_Some next.0 by (sym next.1 ∙ e)) next.2
      ]

  super_inside : (class upper : ℕ) → Up (superclass_of files) class upper → IsClass files class → IsClass files upper
  super_inside class upper Same inside = inside
  super_inside class upper (Over by e rest) inside = super_inside by upper rest (next_inside class by e inside)

  common_inside : (a b : ℕ) → IsClass files a → IsClass files b → IsClass files (common_super files a b)
  common_inside a b first second =
      let rank = ranked files gathers in
      super_inside a (common_super files a b) (joined files rank.0 rank.1 gathers a b first second).left first

  -- ---- references

  object_known : IsType files (class_type object)
  object_known = (inl (omega arith), tt)

  array_known : (type : TypeRef) → IsType files type → IsType files (array_of type)
  array_known type known = (known.0, more_dimensions type.dims type.base)

  apart_known : (b : Bool) (m : ℕ) (s : TypeBase) → IsType files (type_of m s) → IsType files (if b then type_of 1 s else class_type object)
  apart_known true m s known = (known.0, one_dimension s)
  apart_known false m s known = object_known

  refs_known : (m : ℕ) (s : TypeBase) (n : ℕ) (t : TypeBase) → IsType files (type_of m s) → IsType files (type_of n t) → IsType files (merge_refs files m s n t)
  refs_known zero (Class a) zero (Class b) first second = subst (IsType files) (sym (merge_classes files a b)) (common_inside a b first.0 second.0, tt)
  refs_known zero (Class a) zero t first second = absurd (omega (arith, second.1))
  refs_known zero s zero t first second = absurd (omega (arith, first.1))
  refs_known zero s (suc n) t first second = subst (IsType files) (sym (merge_class_array files s n t)) object_known
  refs_known (suc m) s zero t first second = subst (IsType files) (sym (merge_array_class files m s t)) object_known
  refs_known (suc m) s (suc n) t first second =
      elim (cases_Bool (is_reference m s && is_reference n t)) [
        | inl both ↦
            let refer = and_parts (is_reference m s) (is_reference n t) both in
            let merged = refs_known m s n t (component files m s first refer.0) (component files n t second refer.1) in
            subst (IsType files) (sym (merge_arrays files m s n t refer.0 refer.1)) (array_known (merge_refs files m s n t) merged)
        | inr not ↦ subst (IsType files) (sym (merge_others files m s n t not)) (apart_known (are_primitive m s n t) (suc m) s first)
      ]

  -- ---- types of values

  new_known : (b : Bool) (pc : ℕ) → IsKnown files (if b then New pc else Top)
  new_known true pc = tt
  new_known false pc = tt

  pub merge_known : (a b : VType) → IsKnown files a → IsKnown files b → IsKnown files (merge files a b)
  merge_known Int Int first second = tt
  merge_known Null (Ref t) first second = second
  merge_known (Ref s) Null first second = first
  merge_known (Ref s) (Ref t) first second = refs_known s.dims s.base t.dims t.base first second
  merge_known (New p) (New q) first second = new_known (nat_eq p q) p
  merge_known This This first second = tt
  merge_known a b first second = tt

  -- ---- what is above

  -- the merge is above both
  pub above_first : (a b : VType) → IsKnown files a → IsKnown files b → merge files (merge files a b) a ≡ merge files a b
  above_first a b first second =
      commutes files gathers (merge files a b) a (merge_known a b first second) first ∙ sym (associates files gathers a a b first first second)
      ∙ ap (λ x. merge files x b) (stays files gathers a first)

  pub above_second : (a b : VType) → IsKnown files a → IsKnown files b → merge files (merge files a b) b ≡ merge files a b
  above_second a b first second = associates files gathers a b b first second second ∙ ap (merge files a) (stays files gathers b second)

  -- what is above both is above the merge
  pub above_merge : (upper a b : VType) → IsKnown files upper → IsKnown files a → IsKnown files b → merge files upper a ≡ upper → merge files upper b ≡ upper
      → merge files upper (merge files a b) ≡ upper
  above_merge upper a b known first second one two = sym (associates files gathers upper a b known first second) ∙ ap (λ x. merge files x b) one ∙ two

  pub goes_on : (a b c : VType) → IsKnown files a → IsKnown files b → IsKnown files c → merge files a b ≡ a → merge files b c ≡ b → merge files a c ≡ a
  goes_on a b c first second third one two = ap (λ x. merge files x c) (sym one) ∙ associates files gathers a b c first second third ∙ ap (merge files a) two ∙ one

  pub one_way : (a b : VType) → IsKnown files a → IsKnown files b → merge files a b ≡ a → merge files b a ≡ b → a ≡ b
  one_way a b first second one two = sym one ∙ commutes files gathers a b first second ∙ two

  -- Top takes all
  pub with_top : (a : VType) → IsKnown files a → merge files a Top ≡ Top
  with_top a known = commutes files gathers a Top known tt
