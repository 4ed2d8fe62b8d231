-- What is below a type fits it: so each type fits itself, and what fits a type fits each one that it merges to.
use Rattle.std.proofs.Common.{◌≡◌, ℕ, zero, suc, ◌⊎◌, Bool, true, false, ◌&&◌, nat_eq, nat_lt, inl, inr, List, None, refl, sym, ap, subst, ◌∙◌, arith}
use Rattle.std.proofs.lemmas.Bool.{cases_Bool, and_parts, or_cases, eqb-true, ltb-true}
use Rattle.class_pool.specs.declared.types.TypeRef.{TypeRef}
use Rattle.class_pool.specs.declared.types.TypeBase.{TypeBase}
use Rattle.class_pool.specs.declared.types.TypeBase.TheVariants.{Class}
use Rattle.class_file.specs.declared.record.ClassFile.{ClassFile}
use Rattle.class_file.specs.Rules.{is_interface}
use Rattle.body_form.specs.declared.types.VType.TheVariants as known
use Rattle.class_tree.specs.AccessTests.{is_subclass}
use Rattle.class_tree.specs.Closure.{Leads, AtOnce, Over as ByWay}
use Rattle.class_tree.specs.Fits.{fits, fits_ref}
use Rattle.class_tree.specs.InterfaceLookup.{object}
use Rattle.class_tree.specs.Merge.{is_reference, are_primitive, type_of, merge_refs}
use Rattle.class_tree.specs.Set.{flags_of, IsClass}
use Rattle.class_tree.specs.Subtypes.{directly_below, IsBaseBelow, IsBelow, IsSubclass, IsSubtype, Same, Over, Super, HasDimensions, IsType, class_type}
use Rattle.class_tree.specs.Tree.{Gathers}
use Rattle.class_tree.proofs.merging.MergeLaws.{below, merge_fits}
use Rattle.class_tree.proofs.merging.RefParts.{has_dims, primitive_parts, primitive_with_itself, fits_array, component_refs, component_others}
use Rattle.class_tree.proofs.lookups.TestedAccess.{subclass_says}
use Rattle.typed_machine.specs.TypedWorld.{is_base_below, is_object, is_below}
use Rattle.type_safety.proofs.fitting.FitsOver.{by_interface, object_fits, refs_over}

never_both : (b : Bool) → b ≡ true → b ≡ false → ⊥
never_both true e f = cc
never_both false e f = cc

object_refers : (n : ℕ) → is_reference n (Class 0) ≡ true
object_refers zero = refl
object_refers (suc n) = refl

class_of_base : (a b : ℕ) → Class a ≡ Class b → a ≡ b
class_of_base a b e = cc

module _ (files : List ClassFile) (gathers : Gathers files None) where
  abbrev Fits : ℕ → TypeBase → ℕ → TypeBase → Type 0
  Fits m s n t = fits_ref files m s n t ≡ true

  base_same : (s t : TypeBase) → is_reference 0 t ≡ false → IsBaseBelow files s t → s ≡ t
  base_same (Class a) (Class b) none h = cc
  base_same s t none h = h

  first_same : (s t : TypeBase) → is_reference 0 s ≡ false → IsBaseBelow files s t → s ≡ t
  first_same (Class a) t none h = cc
  first_same s t none h = h

  base_parts : (s t : TypeBase) → is_base_below files s t ≡ true → IsBaseBelow files s t
  base_parts (Class a) (Class b) e = (subclass_says files a b).0 e
  base_parts s t e = (primitive_parts 0 s 0 t e).base

  is_object_base : (t : TypeBase) → is_object t ≡ true → t ≡ Class 0
  is_object_base (Class class) e = ap Class (eqb-true class 0 e)
  is_object_base t e = cc

  below_parts : (lower upper : TypeRef) → is_below files lower upper ≡ true → IsBelow files lower upper
  below_parts lower upper e =
      elim (or_cases (nat_eq lower.dims upper.dims && is_base_below files lower.base upper.base) (nat_lt upper.dims lower.dims && is_object upper.base) e) [
        | inl equal ↦
            let is = and_parts (nat_eq lower.dims upper.dims) (is_base_below files lower.base upper.base) equal in
            inl (eqb-true lower.dims upper.dims is.0, base_parts lower.base upper.base is.1)
        | inr fewer ↦
            let is = and_parts (nat_lt upper.dims lower.dims) (is_object upper.base) fewer in
            inr (ltb-true upper.dims lower.dims is.0, is_object_base upper.base is.1)
      ]

  one_less : (m : ℕ) (s : TypeBase) (n : ℕ) (t : TypeBase) → IsBelow files (type_of (suc m) s) (type_of (suc n) t) → IsBelow files (type_of m s) (type_of n t)
  one_less m s n t (inl equal) = inl (omega (arith, equal.0), equal.1)
  one_less m s n t (inr fewer) = inr (omega (arith, fewer.0), fewer.1)

  and_false : (a b : Bool) → (a && b) ≡ false → (a ≡ false) ⊎ (b ≡ false)
  and_false false b e = inl refl
  and_false true b e = inr e

  primitive_alone : (m : ℕ) (s : TypeBase) (n : ℕ) (t : TypeBase) → is_reference m s ≡ false → m ≡ n → s ≡ t → are_primitive m s n t ≡ true
  primitive_alone m s n t none dims base =
      subst (λ k. are_primitive m s k t ≡ true) dims (subst (λ x. are_primitive m s m x ≡ true) base (primitive_with_itself m s none).1)

  -- a primitive type is below itself alone
  same_primitive : (m : ℕ) (s : TypeBase) (n : ℕ) (t : TypeBase) → (is_reference m s && is_reference n t) ≡ false → IsBelow files (type_of m s) (type_of n t) → are_primitive m s n t ≡ true
  same_primitive m s n t none (inl equal) =
      elim (and_false (is_reference m s) (is_reference n t) none) [
        | inl first ↦
            let zero_dims = (primitive_with_itself m s first).0 in
            primitive_alone m s n t first equal.0 (first_same s t (subst (λ k. is_reference k s ≡ false) zero_dims first) equal.1)
        | inr second ↦
            let zero_dims = (primitive_with_itself n t second).0 in
            let base = base_same s t (subst (λ k. is_reference k t ≡ false) zero_dims second) equal.1 in
            let first : is_reference m s ≡ false = subst (λ k. is_reference k s ≡ false) (sym equal.0) (subst (λ x. is_reference n x ≡ false) (sym base) second) in
            primitive_alone m s n t first equal.0 base
      ]
  same_primitive m s n t none (inr fewer) =
      elim (and_false (is_reference m s) (is_reference n t) none) [
        | inl first ↦ absurd (omega (arith, fewer.0, (primitive_with_itself m s first).0))
        | inr second ↦
            let e : is_reference n (Class 0) ≡ false = subst (λ x. is_reference n x ≡ false) fewer.1 second in
            absurd (never_both (is_reference n (Class 0)) (object_refers n) e)
      ]

  leads_below : (lower upper : ℕ) → Leads (directly_below files) lower upper → IsSubtype files (class_type lower) (class_type upper)
  leads_below lower upper (AtOnce e) = Super lower upper e
  leads_below lower upper (ByWay by e rest) = Over (class_type by) (Super lower by e) (leads_below by upper rest)

  subclass_below : (lower upper : ℕ) → IsSubclass files lower upper → IsSubtype files (class_type lower) (class_type upper)
  subclass_below lower upper (inl same) = subst (λ c. IsSubtype files (class_type lower) (class_type c)) same Same
  subclass_below lower upper (inr leads) = leads_below lower upper leads

  below_class : (m : ℕ) (s : TypeBase) (upper : ℕ) → IsType files (type_of m s) → is_interface (flags_of files upper) ≡ false → IsBelow files (type_of m s) (class_type upper) → Fits m s 0 (Class upper)
  below_class zero (Class class) upper lower never (inl equal) =
      (below files gathers (class_type class) upper lower never).1
      (subclass_below class upper equal.1)
  below_class zero (Class class) upper lower never (inr fewer) = absurd (omega (arith, fewer.0))
  below_class zero s upper lower never under = absurd (omega (arith, lower.1))
  below_class (suc m) s upper lower never (inl equal) = absurd (omega (arith, equal.0))
  below_class (suc m) s upper lower never (inr fewer) = subst (λ class. Fits (suc m) s 0 (Class class)) (sym (class_of_base upper object fewer.1)) (object_fits files gathers (suc m) s lower)

  below_fits_parts : (m : ℕ) (s : TypeBase) (n : ℕ) (t : TypeBase) → IsType files (type_of m s) → HasDimensions n t → IsBelow files (type_of m s) (type_of n t) → Fits m s n t
  below_fits_parts m s zero (Class upper) lower has under =
      elim (cases_Bool (is_interface (flags_of files upper))) [ inl is ↦ by_interface files gathers m s upper is | inr never ↦ below_class m s upper lower never under ]
  below_fits_parts m s zero t lower has under = absurd (omega (arith, has))
  below_fits_parts zero s (suc n) t lower has (inl equal) = absurd (omega (arith, equal.0))
  below_fits_parts zero s (suc n) t lower has (inr fewer) = absurd (omega (arith, fewer.0))
  below_fits_parts (suc m) s (suc n) t lower has under =
      let less = one_less m s n t under in
      elim (cases_Bool (is_reference m s && is_reference n t)) [
        | inl refer ↦
            let both = and_parts (is_reference m s) (is_reference n t) refer in
            fits_array files m s n t ∙ component_refs files m s n t both.0 both.1 ∙ below_fits_parts m s n t (lower.0, has_dims m s both.0) (has_dims n t both.1) less
        | inr none ↦ fits_array files m s n t ∙ component_others files m s n t none ∙ same_primitive m s n t none less
      ]

  pub below_fits : (lower upper : TypeRef) → IsType files lower → IsType files upper → is_below files lower upper ≡ true → fits files (known.Ref lower) upper ≡ true
  below_fits lower upper is known e = below_fits_parts lower.dims lower.base upper.dims upper.base is known.1 (below_parts lower upper e)

  base_itself : (s : TypeBase) → IsBaseBelow files s s
  base_itself (Class class) = inl refl
  base_itself s = refl

  pub fits_itself : (type : TypeRef) → IsType files type → fits files (known.Ref type) type ≡ true
  fits_itself type known = below_fits_parts type.dims type.base type.dims type.base known known.1 (inl (refl, base_itself type.base))

  -- a class fits each class and interface above it
  pub subclass_fits : (class upper : ℕ) → IsClass files class → is_subclass files class upper ≡ true → Fits 0 (Class class) 0 (Class upper)
  subclass_fits class upper inside e = below_fits_parts 0 (Class class) 0 (Class upper) (inside, tt) tt (inl (refl, (subclass_says files class upper).0 e))

  -- ---- merges

  -- what fits a type fits each type that gives itself in a merge with it
  pub ref_above : (k : ℕ) (o : TypeBase) (n : ℕ) (t : TypeBase) (m : ℕ) (s : TypeBase) → IsType files (type_of k o) → IsType files (type_of n t) → IsType files (type_of m s)
      → merge_refs files m s n t ≡ type_of m s → Fits k o n t → Fits k o m s
  ref_above k o n t m s one two three above e =
      let itself = fits_itself (type_of m s) three in
      let joined : fits files (known.Ref (merge_refs files m s n t)) (type_of m s) ≡ true = ap (λ (type : TypeRef). fits files (known.Ref type) (type_of m s)) above ∙ itself in
      let both = and_parts (fits_ref files m s m s) (fits_ref files n t m s) (sym (merge_fits files gathers (known.Ref (type_of m s)) (known.Ref (type_of n t)) three two (type_of m s)) ∙ joined) in
      refs_over files gathers k o n t m s one two e both.1
