-- How merge and fit go, case by case, by dimensions and bases.
use Rattle.std.proofs.Common.{◌≡◌, ℕ, zero, suc, ◌+◌, Bool, true, false, ◌&&◌, ◌||◌, ◌==◌, List, if◌then◌else◌, refl, sym, ap, ◌∙◌, arith}
use Rattle.std.proofs.lemmas.Bool.{eqb-true, and_parts}
use Rattle.class_pool.specs.declared.types.TypeRef.{TypeRef}
use Rattle.class_pool.specs.declared.types.TypeBase.{TypeBase}
use Rattle.class_pool.specs.declared.types.TypeBase.TheVariants.{Class}
use Rattle.class_file.specs.declared.record.ClassFile.{ClassFile}
use Rattle.class_file.specs.Rules.{is_interface}
use Rattle.class_tree.specs.Set.{flags_of}
use Rattle.class_tree.specs.Subtypes.{array_of, class_type}
use Rattle.class_tree.specs.InterfaceLookup.{object}
use Rattle.class_tree.specs.Merge.{is_reference, are_primitive, type_of, common_super, merge_refs, is_same_primitive}
use Rattle.class_tree.specs.Fits.{fits_class, fits_ref}

-- the components of two arrays
pub record Parts (a b first second : TypeRef) : Type 0 where
  pub dims_a : first.dims + 1 ≡ a.dims
  pub base_a : first.base ≡ a.base
  pub dims_b : second.dims + 1 ≡ b.dims
  pub base_b : second.base ≡ b.base

-- both are references
abbrev are_references : TypeRef → TypeRef → Bool
are_references a b = is_reference a.dims a.base && is_reference b.dims b.base

module _ (files : List ClassFile) where
  -- ---- fits

  fits_at_class : (m : ℕ) (s : TypeBase) (upper : ℕ) → fits_ref files m s 0 (Class upper) ≡ (is_interface (flags_of files upper) || fits_class files m s upper)
  unfolding fits_ref
  fits_at_class zero s upper = refl
  fits_at_class (suc m) s upper = refl

  pub fits_interface : (m : ℕ) (s t : TypeBase) (upper : ℕ) → t ≡ Class upper → is_interface (flags_of files upper) ≡ true → fits_ref files m s 0 t ≡ true
  fits_interface m s t upper is e = ap (fits_ref files m s 0) is ∙ fits_at_class m s upper ∙ ap (λ b. b || fits_class files m s upper) e

  pub fits_by_class : (m : ℕ) (s t : TypeBase) (upper : ℕ) → t ≡ Class upper → is_interface (flags_of files upper) ≡ false → fits_ref files m s 0 t ≡ fits_class files m s upper
  fits_by_class m s t upper is e = ap (fits_ref files m s 0) is ∙ fits_at_class m s upper ∙ ap (λ b. b || fits_class files m s upper) e

  pub fits_primitive : (m : ℕ) (s t : TypeBase) → ((upper : ℕ) → t ≡ Class upper → ⊥) → fits_ref files m s 0 t ≡ false
  unfolding fits_ref
  fits_primitive m s (Class upper) other = absurd (other upper refl)
  fits_primitive zero s t other = refl
  fits_primitive (suc m) s t other = refl

  array_fits_none : (s : TypeBase) (k : ℕ) (t : TypeBase) → fits_ref files 0 s (suc k) t ≡ false
  unfolding fits_ref
  array_fits_none s k t = refl

  pub fits_no_array : (s : TypeBase) (m k n : ℕ) (t : TypeBase) → m ≡ 0 → n + 1 ≡ k → fits_ref files m s k t ≡ false
  fits_no_array s m k n t first second =
      let two : k ≡ suc n = omega (arith, second) in
      ap (λ i. fits_ref files i s k t) first ∙ ap (λ i. fits_ref files 0 s i t) two ∙ array_fits_none s n t

  fits_array : (a b first second : TypeRef) → Parts a b first second
      → fits_ref files a.dims a.base b.dims b.base ≡ (if are_references first second then fits_ref files first.dims first.base second.dims second.base else are_primitive first.dims first.base second.dims second.base)
  unfolding fits_ref
  fits_array a b first second parts =
      let one : a.dims ≡ suc first.dims = omega (arith, parts.dims_a) in
      let two : b.dims ≡ suc second.dims = omega (arith, parts.dims_b) in
      ap (λ k. fits_ref files k a.base b.dims b.base) one ∙ ap (λ k. fits_ref files (suc first.dims) a.base k b.base) two
      ∙ ap (λ s. fits_ref files (suc first.dims) s (suc second.dims) b.base) (sym parts.base_a) ∙ ap (λ t. fits_ref files (suc first.dims) first.base (suc second.dims) t) (sym parts.base_b)

  pub fits_arrays : (a b first second : TypeRef) → Parts a b first second → are_references first second ≡ true → fits_ref files a.dims a.base b.dims b.base ≡ fits_ref files first.dims first.base second.dims second.base
  fits_arrays a b first second parts e =
      fits_array a b first second parts ∙ ap (λ test. if test then fits_ref files first.dims first.base second.dims second.base else are_primitive first.dims first.base second.dims second.base) e

  pub fits_others : (a b first second : TypeRef) → Parts a b first second → are_references first second ≡ false → fits_ref files a.dims a.base b.dims b.base ≡ are_primitive first.dims first.base second.dims second.base
  fits_others a b first second parts e =
      fits_array a b first second parts ∙ ap (λ test. if test then fits_ref files first.dims first.base second.dims second.base else are_primitive first.dims first.base second.dims second.base) e

  -- ---- merge

  abbrev merged_others : Bool → TypeBase → TypeRef
  merged_others same base = if same then type_of 1 base else class_type object

  merge_array : (a b first second : TypeRef) → Parts a b first second
      → merge_refs files a.dims a.base b.dims b.base
      ≡ (if are_references first second then array_of (merge_refs files first.dims first.base second.dims second.base) else merged_others (are_primitive first.dims first.base second.dims second.base) first.base)
  unfolding merge_refs
  merge_array a b first second parts =
      let one : a.dims ≡ suc first.dims = omega (arith, parts.dims_a) in
      let two : b.dims ≡ suc second.dims = omega (arith, parts.dims_b) in
      ap (λ k. merge_refs files k a.base b.dims b.base) one ∙ ap (λ k. merge_refs files (suc first.dims) a.base k b.base) two
      ∙ ap (λ s. merge_refs files (suc first.dims) s (suc second.dims) b.base) (sym parts.base_a) ∙ ap (λ t. merge_refs files (suc first.dims) first.base (suc second.dims) t) (sym parts.base_b)

  pub merge_refs_arrays : (a b first second : TypeRef) → Parts a b first second → are_references first second ≡ true
      → merge_refs files a.dims a.base b.dims b.base ≡ array_of (merge_refs files first.dims first.base second.dims second.base)
  merge_refs_arrays a b first second parts e =
      merge_array a b first second parts
      ∙ ap (λ test. if test then array_of (merge_refs files first.dims first.base second.dims second.base) else merged_others (are_primitive first.dims first.base second.dims second.base) first.base) e

  merge_apart : (a b first second : TypeRef) → Parts a b first second → are_references first second ≡ false → (same : Bool) → are_primitive first.dims first.base second.dims second.base ≡ same
      → merge_refs files a.dims a.base b.dims b.base ≡ merged_others same first.base
  merge_apart a b first second parts e same is =
      merge_array a b first second parts
      ∙ ap (λ test. if test then array_of (merge_refs files first.dims first.base second.dims second.base) else merged_others (are_primitive first.dims first.base second.dims second.base) first.base) e
      ∙ ap (λ test. merged_others test first.base) is

  -- two arrays of one primitive type
  pub merge_primitives : (a b first second : TypeRef) → Parts a b first second → are_references first second ≡ false → are_primitive first.dims first.base second.dims second.base ≡ true
      → merge_refs files a.dims a.base b.dims b.base ≡ a
  merge_primitives a b first second parts e same =
      let none : first.dims ≡ 0 = eqb-true first.dims 0 (and_parts (first.dims == 0) (second.dims == 0 && is_same_primitive first.base second.base) same).0 in
      let one : 1 ≡ a.dims = omega (arith, none, parts.dims_a) in
      merge_apart a b first second parts e true same ∙ ap (λ n. type_of n first.base) one ∙ ap (type_of a.dims) parts.base_a

  pub merge_others : (a b first second : TypeRef) → Parts a b first second → are_references first second ≡ false → are_primitive first.dims first.base second.dims second.base ≡ false
      → merge_refs files a.dims a.base b.dims b.base ≡ class_type object
  merge_others a b first second parts e other = merge_apart a b first second parts e false other

  two_classes : (x y : ℕ) → merge_refs files 0 (Class x) 0 (Class y) ≡ class_type (common_super files x y)
  unfolding merge_refs
  two_classes x y = refl

  pub merge_classes : (a b : TypeBase) (x y : ℕ) → a ≡ Class x → b ≡ Class y → merge_refs files 0 a 0 b ≡ class_type (common_super files x y)
  merge_classes a b x y first second = ap (λ s. merge_refs files 0 s 0 b) first ∙ ap (merge_refs files 0 (Class x) 0) second ∙ two_classes x y

  pub merge_bases : (a b : TypeBase) → ((x y : ℕ) → a ≡ Class x → b ≡ Class y → ⊥) → merge_refs files 0 a 0 b ≡ class_type object
  unfolding merge_refs
  merge_bases (Class a) (Class b) other = absurd (other a b refl refl)
  merge_bases a b other = refl

  class_and_array : (s : TypeBase) (n : ℕ) (t : TypeBase) → merge_refs files 0 s (suc n) t ≡ class_type object
  unfolding merge_refs
  class_and_array (Class a) n t = refl
  class_and_array s n t = refl

  array_and_class : (m : ℕ) (s t : TypeBase) → merge_refs files (suc m) s 0 t ≡ class_type object
  unfolding merge_refs
  array_and_class m s t = refl

  pub merge_class_array : (m n k : ℕ) (s t : TypeBase) → m ≡ 0 → n + 1 ≡ k → merge_refs files m s k t ≡ class_type object
  merge_class_array m n k s t first second =
      let two : k ≡ suc n = omega (arith, second) in
      ap (λ i. merge_refs files i s k t) first ∙ ap (λ i. merge_refs files 0 s i t) two ∙ class_and_array s n t

  pub merge_array_class : (m n k : ℕ) (s t : TypeBase) → n + 1 ≡ k → m ≡ 0 → merge_refs files k s m t ≡ class_type object
  merge_array_class m n k s t first second =
      let one : k ≡ suc n = omega (arith, first) in
      ap (λ i. merge_refs files i s m t) one ∙ ap (λ i. merge_refs files (suc n) s i t) second ∙ array_and_class n s t
