-- The subtypes of a type, by dimensions and bases.
use Rattle.std.proofs.Common.{◌≡◌, ℕ, zero, suc, ◌+◌, ◌-◌, ◌≤◌, inl, inr, List, refl, sym, ap, subst, ◌∙◌, arith, add-one}
use Rattle.class_pool.specs.declared.types.TypeRef.{TypeRef}
use Rattle.class_pool.specs.declared.types.TypeBase.{TypeBase}
use Rattle.class_pool.specs.declared.types.TypeBase.TheVariants.{Class, Byte, Char, Short, Int, Boolean}
use Rattle.class_file.specs.declared.record.ClassFile.{ClassFile}
use Rattle.class_tree.specs.Closure.{Leads, AtOnce, Over as ByWay}
use Rattle.class_tree.specs.Subtypes.{directly_below, IsSubclass, array_of, class_type, IsSubtype, Same, Over, Super, Array, Component, IsBelow, IsBaseBelow}
use Rattle.class_tree.proofs.ancestors.Leading.{follows}

module _ (files : List ClassFile) where
  -- ---- classes

  -- nothing is above java/lang/Object
  top : (upper : ℕ) → Leads (directly_below files) 0 upper → ⊥
  top upper (AtOnce e) = cc
  top upper (ByWay by e p) = cc

  above_object : (upper : ℕ) → IsSubclass files 0 upper → upper ≡ 0
  above_object upper (inl same) = sym same
  above_object upper (inr leads) = absurd (top upper leads)

  subclass_over : (lower by upper : ℕ) → IsSubclass files lower by → IsSubclass files by upper → IsSubclass files lower upper
  subclass_over lower by upper (inl same) second = let P : ℕ → Type 0 = λ c. IsSubclass files c upper in subst P (sym same) second
  subclass_over lower by upper (inr leads) (inl same) = let P : ℕ → Type 0 = λ c. IsSubclass files lower c in subst P same (inr leads)
  subclass_over lower by upper (inr first) (inr second) = inr (follows (directly_below files) lower by upper first second)

  -- a way up is steps up
  climbs : (lower upper : ℕ) → Leads (directly_below files) lower upper → IsSubtype files (class_type lower) (class_type upper)
  climbs lower upper (AtOnce e) = Super lower upper e
  climbs lower upper (ByWay by e p) = Over (class_type by) (Super lower by e) (climbs by upper p)

  class_sound : (lower upper : ℕ) → IsSubclass files lower upper → IsSubtype files (class_type lower) (class_type upper)
  class_sound lower upper (inl same) = let P : ℕ → Type 0 = λ c. IsSubtype files (class_type lower) (class_type c) in subst P same Same
  class_sound lower upper (inr leads) = climbs lower upper leads

  -- ---- types

  type : ℕ → TypeBase → TypeRef
  type dims base = record { dims = dims; base = base }

  classes_sound : (dims lower upper : ℕ) → IsSubclass files lower upper → IsSubtype files (type dims (Class lower)) (type dims (Class upper))
  unfolding type
  classes_sound zero lower upper h = class_sound lower upper h
  classes_sound (suc dims) lower upper h =
      let P : ℕ → Type 0 = λ n. IsSubtype files (type n (Class lower)) (type n (Class upper)) in
      subst P (add-one dims) (Component (inr (lower, refl)) (inr (upper, refl)) (classes_sound dims lower upper h))

  same_sound : (dims : ℕ) (lower upper : TypeBase) → lower ≡ upper → IsSubtype files (type dims lower) (type dims upper)
  same_sound dims lower upper e = let P : TypeBase → Type 0 = λ base. IsSubtype files (type dims lower) (type dims base) in subst P e Same

  base_sound : (dims : ℕ) (lower upper : TypeBase) → IsBaseBelow files lower upper → IsSubtype files (type dims lower) (type dims upper)
  base_sound dims (Class lower) (Class upper) h = classes_sound dims lower upper h
  base_sound dims (Class lower) Byte h = same_sound dims (Class lower) Byte h
  base_sound dims (Class lower) Char h = same_sound dims (Class lower) Char h
  base_sound dims (Class lower) Short h = same_sound dims (Class lower) Short h
  base_sound dims (Class lower) Int h = same_sound dims (Class lower) Int h
  base_sound dims (Class lower) Boolean h = same_sound dims (Class lower) Boolean h
  base_sound dims Byte upper h = same_sound dims Byte upper h
  base_sound dims Char upper h = same_sound dims Char upper h
  base_sound dims Short upper h = same_sound dims Short upper h
  base_sound dims Int upper h = same_sound dims Int upper h
  base_sound dims Boolean upper h = same_sound dims Boolean upper h

  arrays_sound : (fewer more : ℕ) (base : TypeBase) → 1 ≤ more → IsSubtype files (type (fewer + more) base) (type fewer (Class 0))
  unfolding type
  arrays_sound zero more base some =
      let P : ℕ → Type 0 = λ n. IsSubtype files (type n base) (class_type 0) in subst P (omega arith) (Array (type more base) some)
  arrays_sound (suc fewer) more base some =
      let P : ℕ → Type 0 = λ n. IsSubtype files (type n base) (type (suc fewer) (Class 0)) in
      let Q : ℕ → Type 0 = λ n. IsSubtype files (type (fewer + more + 1) base) (type n (Class 0)) in
      subst P (omega arith) (subst Q (add-one fewer) (Component (inl (omega (arith, some))) (inr (0, refl)) (arrays_sound fewer more base some)))

  pub below_sound : (lower upper : TypeRef) → IsBelow files lower upper → IsSubtype files lower upper
  unfolding type
  below_sound lower upper (inl (dims, bases)) =
      let P : ℕ → Type 0 = λ n. IsSubtype files lower (type n upper.base) in subst P dims (base_sound lower.dims lower.base upper.base bases)
  below_sound lower upper (inr (fewer, object)) =
      let P : ℕ → Type 0 = λ n. IsSubtype files (type n lower.base) (type upper.dims (Class 0)) in
      let Q : TypeBase → Type 0 = λ base. IsSubtype files lower (type upper.dims base) in
      subst Q (sym object) (subst P (omega (arith, fewer)) (arrays_sound upper.dims (lower.dims - upper.dims) lower.base (omega (arith, fewer))))

  -- ---- each subtype is below

  base_same : (base : TypeBase) → IsBaseBelow files base base
  base_same (Class class) = inl refl
  base_same Byte = refl
  base_same Char = refl
  base_same Short = refl
  base_same Int = refl
  base_same Boolean = refl

  base_over : (lower by upper : TypeBase) → IsBaseBelow files lower by → IsBaseBelow files by upper → IsBaseBelow files lower upper
  base_over (Class lower) (Class by) (Class upper) first second = subclass_over lower by upper first second
  base_over (Class lower) (Class by) Byte first second = cc
  base_over (Class lower) (Class by) Char first second = cc
  base_over (Class lower) (Class by) Short first second = cc
  base_over (Class lower) (Class by) Int first second = cc
  base_over (Class lower) (Class by) Boolean first second = cc
  base_over (Class lower) Byte upper first second = cc
  base_over (Class lower) Char upper first second = cc
  base_over (Class lower) Short upper first second = cc
  base_over (Class lower) Int upper first second = cc
  base_over (Class lower) Boolean upper first second = cc
  base_over Byte by upper first second = let P : TypeBase → Type 0 = λ base. IsBaseBelow files base upper in subst P (sym first) second
  base_over Char by upper first second = let P : TypeBase → Type 0 = λ base. IsBaseBelow files base upper in subst P (sym first) second
  base_over Short by upper first second = let P : TypeBase → Type 0 = λ base. IsBaseBelow files base upper in subst P (sym first) second
  base_over Int by upper first second = let P : TypeBase → Type 0 = λ base. IsBaseBelow files base upper in subst P (sym first) second
  base_over Boolean by upper first second = let P : TypeBase → Type 0 = λ base. IsBaseBelow files base upper in subst P (sym first) second

  over_object : (upper : TypeBase) → IsBaseBelow files (Class 0) upper → upper ≡ Class 0
  over_object (Class upper) h = ap Class (above_object upper h)
  over_object Byte h = cc
  over_object Char h = cc
  over_object Short h = cc
  over_object Int h = cc
  over_object Boolean h = cc

  below_over : (lower by upper : TypeRef) → IsBelow files lower by → IsBelow files by upper → IsBelow files lower upper
  below_over lower by upper (inl (dims, bases)) (inl (more, others)) = inl (dims ∙ more, base_over lower.base by.base upper.base bases others)
  below_over lower by upper (inl (dims, bases)) (inr (fewer, object)) = inr (omega (arith, dims, fewer), object)
  below_over lower by upper (inr (fewer, object)) (inl (dims, bases)) =
      let P : TypeBase → Type 0 = λ base. IsBaseBelow files base upper.base in
      inr (omega (arith, dims, fewer), over_object upper.base (subst P object bases))
  below_over lower by upper (inr (fewer, object)) (inr (less, other)) = inr (omega (arith, less, fewer), other)

  lifted : (lower upper : TypeRef) → IsBelow files lower upper → IsBelow files (array_of lower) (array_of upper)
  lifted lower upper (inl (dims, bases)) = inl (ap (λ n. n + 1) dims, bases)
  lifted lower upper (inr (fewer, object)) = inr (omega (arith, fewer), object)

  pub below_complete : (lower upper : TypeRef) → IsSubtype files lower upper → IsBelow files lower upper
  below_complete lower upper Same = inl (refl, base_same lower.base)
  below_complete lower upper (Over by first second) = below_over lower by upper (below_complete lower by first) (below_complete by upper second)
  below_complete lower upper (Super class above e) = inl (refl, inr (AtOnce e))
  below_complete lower upper (Array type some) = inr (some, refl)
  below_complete lower upper (Component first second h) = lifted _ _ (below_complete _ _ h)
