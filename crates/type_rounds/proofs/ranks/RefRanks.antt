-- Ranks of references: one that a merge leaves as it is has a lower rank than the other one, or is the same.
use Rattle.std.proofs.Common.{◌≡◌, ℕ, zero, suc, ◌+◌, ◌<◌, ◌⊎◌, Bool, true, ◌&&◌, ◌==◌, inl, inr, List, None, if◌then◌else◌, refl, sym, ap, subst, ◌∙◌, arith}
use Rattle.std.proofs.lemmas.Bool.{cases_Bool, eqb-true, and_parts}
use Rattle.class_pool.specs.declared.types.TypeRef.{TypeRef}
use Rattle.class_pool.specs.declared.types.TypeBase.{TypeBase}
use Rattle.class_pool.specs.declared.types.TypeBase.TheVariants.{Class, Byte, Char, Short, Int, Boolean}
use Rattle.class_file.specs.declared.record.ClassFile.{ClassFile}
use Rattle.class_tree.specs.Subtypes.{IsType, HasDimensions, array_of, class_type}
use Rattle.class_tree.specs.Tree.{Gathers}
use Rattle.class_tree.specs.InterfaceLookup.{object}
use Rattle.class_tree.specs.Merge.{is_reference, is_same_primitive, are_primitive, type_of, common_super, merge_refs}
use Rattle.type_rounds.proofs.ranks.ClassRanks.{TypesMerge, class_of, class_rank, most, rank_below, class_above}

module _ (files : List ClassFile) where
  pub base_rank : TypeBase → ℕ
  base_rank (Class class) = class_rank files class
  base_rank base = 0

  pub ref_rank : ℕ → TypeBase → ℕ
  ref_rank zero base = base_rank base
  ref_rank (suc dims) base = most files + ref_rank dims base

  object_below : (dims : ℕ) (base : TypeBase) → class_rank files object < ref_rank (suc dims) base
  unfolding ref_rank
  object_below dims base = omega (arith, rank_below files object)

  -- ---- merges, case by case

  merge_classes : (a b : ℕ) → merge_refs files zero (Class a) zero (Class b) ≡ class_type (common_super files a b)
  unfolding merge_refs
  merge_classes a b = refl

  merge_class_array : (s : TypeBase) (n : ℕ) (t : TypeBase) → merge_refs files zero s (suc n) t ≡ class_type object
  unfolding merge_refs
  merge_class_array (Class a) n t = refl
  merge_class_array s n t = refl

  merge_array_class : (m : ℕ) (s t : TypeBase) → merge_refs files (suc m) s zero t ≡ class_type object
  unfolding merge_refs
  merge_array_class m s t = refl

  abbrev apart : ℕ → TypeBase → ℕ → TypeBase → TypeRef
  apart m s n t = if are_primitive m s n t then type_of 1 s else class_type object

  merge_arrays : (m : ℕ) (s : TypeBase) (n : ℕ) (t : TypeBase)
      → merge_refs files (suc m) s (suc n) t ≡ (if is_reference m s && is_reference n t then array_of (merge_refs files m s n t) else apart m s n t)
  unfolding merge_refs
  merge_arrays m s n t = refl

-- ---- components

has_dims : (m : ℕ) (s : TypeBase) → is_reference m s ≡ true → HasDimensions m s
has_dims m (Class class) e = tt
has_dims zero s e = cc
has_dims (suc m) s e = omega arith

same_base : (s t : TypeBase) → is_same_primitive s t ≡ true → s ≡ t
same_base Byte Byte e = refl
same_base Char Char e = refl
same_base Short Short e = refl
same_base Int Int e = refl
same_base Boolean Boolean e = refl
same_base s t e = cc

same_component : (m : ℕ) (s : TypeBase) (n : ℕ) (t : TypeBase) → are_primitive m s n t ≡ true → type_of (suc m) s ≡ type_of (suc n) t
same_component m s n t e =
    let one = and_parts (m == 0) (n == 0 && is_same_primitive s t) e in
    let two = and_parts (n == 0) (is_same_primitive s t) one.1 in
    let first = eqb-true m 0 one.0 in
    let second = eqb-true n 0 two.0 in
    let dims : suc m ≡ suc n = omega (arith, first, second) in
    ap (λ d. type_of d s) dims ∙ ap (type_of (suc n)) (same_base s t two.1)

same_type : (a b : TypeRef) → a.dims ≡ b.dims → a.base ≡ b.base → a ≡ b
same_type a b dims base = λ i. record { dims = dims i; base = base i }

-- ---- what is above

module _ (merges : TypesMerge) (files : List ClassFile) (gathers : Gathers files None) where
  abbrev IsAboveOrSame : ℕ → TypeBase → ℕ → TypeBase → Type 0
  IsAboveOrSame m s n t = (type_of m s ≡ type_of n t) ⊎ (ref_rank files m s < ref_rank files n t)

  classes_above : (a b : ℕ) → IsType files (type_of 0 (Class a)) → IsType files (type_of 0 (Class b)) → class_type (common_super files a b) ≡ type_of 0 (Class a) → IsAboveOrSame 0 (Class a) 0 (Class b)
  unfolding ref_rank base_rank
  classes_above a b first second e =
      elim (class_above merges files gathers a b first.0 second.0 (ap (λ (x : TypeRef). class_of x.base) e)) [
        | inl same ↦ inl (ap (λ c. type_of 0 (Class c)) same)
        | inr less ↦ inr less
      ]

  class_over_array : (s : TypeBase) (n : ℕ) (t : TypeBase) → class_type object ≡ type_of 0 s → IsAboveOrSame 0 s (suc n) t
  unfolding ref_rank base_rank
  class_over_array s n t e = inr (subst (λ b. base_rank files b < ref_rank files (suc n) t) (ap (λ (x : TypeRef). x.base) e) (object_below files n t))

  no_array : (m : ℕ) (s : TypeBase) → class_type object ≡ type_of (suc m) s → ⊥
  no_array m s e = let dims = ap (λ (x : TypeRef). x.dims) e in omega (arith, dims)

  arrays_above : (m : ℕ) (s : TypeBase) (n : ℕ) (t : TypeBase) → IsAboveOrSame m s n t → IsAboveOrSame (suc m) s (suc n) t
  unfolding ref_rank
  arrays_above m s n t is =
      elim is [
        | inl same ↦ inl (ap (λ (x : TypeRef). type_of (suc x.dims) x.base) same)
        | inr less ↦ inr (omega (arith, less))
      ]

  -- the merge of the components of arrays whose merge is the first one
  component_stays : (merged : TypeRef) (m : ℕ) (s : TypeBase) → array_of merged ≡ type_of (suc m) s → merged ≡ type_of m s
  component_stays merged m s e =
      let dims : merged.dims + 1 ≡ suc m = ap (λ (x : TypeRef). x.dims) e in
      same_type merged (type_of m s) (omega (arith, dims)) (ap (λ (x : TypeRef). x.base) e)

  apart_above : (m : ℕ) (s : TypeBase) (n : ℕ) (t : TypeBase) → apart files m s n t ≡ type_of (suc m) s → IsAboveOrSame (suc m) s (suc n) t
  apart_above m s n t e =
      elim (cases_Bool (are_primitive m s n t)) [
        | inl same ↦ inl (same_component m s n t same)
        | inr other ↦ absurd (no_array m s (sym (ap (λ b. if b then type_of 1 s else class_type object) other) ∙ e))
      ]

  -- a reference that a merge leaves as it is is the other one, or has a lower rank
  pub ref_above : (m : ℕ) (s : TypeBase) (n : ℕ) (t : TypeBase) → IsType files (type_of m s) → IsType files (type_of n t) → merge_refs files m s n t ≡ type_of m s → IsAboveOrSame m s n t
  ref_above zero (Class a) zero (Class b) first second e = classes_above a b first second (sym (merge_classes files a b) ∙ e)
  ref_above zero (Class a) zero t first second e = absurd (omega (arith, second.1))
  ref_above zero s zero t first second e = absurd (omega (arith, first.1))
  ref_above zero s (suc n) t first second e = class_over_array s n t (sym (merge_class_array files s n t) ∙ e)
  ref_above (suc m) s zero t first second e = absurd (no_array m s (sym (merge_array_class files m s t) ∙ e))
  ref_above (suc m) s (suc n) t first second e =
      let choose : Bool → TypeRef = λ b. if b then array_of (merge_refs files m s n t) else apart files m s n t in
      elim (cases_Bool (is_reference m s && is_reference n t)) [
        | inl both ↦
            let parts = and_parts (is_reference m s) (is_reference n t) both in
            let stays : merge_refs files m s n t ≡ type_of m s = component_stays (merge_refs files m s n t) m s (sym (merge_arrays files m s n t ∙ ap choose both) ∙ e) in
            arrays_above m s n t (ref_above m s n t (first.0, has_dims m s parts.0) (second.0, has_dims n t parts.1) stays)
        | inr not ↦ apart_above m s n t (sym (merge_arrays files m s n t ∙ ap choose not) ∙ e)
      ]
