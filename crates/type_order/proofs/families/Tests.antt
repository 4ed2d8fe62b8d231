-- Tests of operands that pass for a type where they pass for one above it.
use Rattle.std.proofs.Common.{◌≡◌, ℕ, zero, suc, ◌-◌, Bool, true, false, ◌&&◌, inl, inr, List, [], ◌∷◌, ◌++◌, map, reverse, replicate, Ok, Err, nat_eq, nat_le, if◌then◌else◌, None, refl, sym, ap, subst, ◌∙◌, arith}
use Rattle.std.specs.List.{AllByRecursion, AllZip}
use Rattle.std.proofs.lemmas.Bool.{cases_Bool, and_parts, and_from, and_left, and_right, le-leb, eqb-true, eq-eqb}
use Rattle.std.proofs.lemmas.List.{reverse-append}
use Rattle.class_pool.specs.declared.descriptor.Kind.{Kind}
use Rattle.class_pool.specs.declared.types.TypeRef.{TypeRef}
use Rattle.class_pool.specs.declared.types.TypeBase.{TypeBase}
use Rattle.class_pool.specs.declared.types.TypeBase.TheVariants.{Class}
use Rattle.class_file.specs.declared.record.ClassFile.{ClassFile}
use Rattle.insn_form.specs.declared.ElementKind.{ElementKind}
use Rattle.insn_form.specs.declared.ElementKind.TheVariants as element
use Rattle.insn_form.specs.declared.ValueKind.{ValueKind}
use Rattle.insn_form.specs.declared.ValueKind.TheVariants as value_kind
use Rattle.body_form.specs.declared.types.VType.{VType}
use Rattle.body_form.specs.declared.types.VType.TheVariants.{Int, Null, Ref, New, This}
use Rattle.class_tree.specs.Subtypes.{array_of, class_type}
use Rattle.class_tree.specs.Tree.{Gathers}
use Rattle.class_tree.specs.InterfaceLookup.{object}
use Rattle.class_tree.specs.Merge.{is_reference, are_primitive, type_of, merge_refs}
use Rattle.class_tree.specs.Fits.{fits}
use Rattle.class_tree.proofs.merging.RefParts.{primitive_parts, reference_is_none, merge_arrays, merge_others, merge_array_class}
use Rattle.class_tree.proofs.merging.MergeLaws.{merge_fits}
use Rattle.jvm_model.specs.Resolution.{Resolved, kind_named}
use Rattle.jvm_model.specs.TypesFrames.{is_int, fits_in, fits_kind}
use Rattle.jvm_model.specs.TypesRules.{takes, is_any_reference, is_constructed, has_kind, fits_class, is_array, is_element, has_elements, is_array_of, is_elements_value}
use Rattle.type_order.proofs.families.Pairs.{AreOrdered, IsOperandPair}

-- where it passes for a type, it passes for one below it
abbrev pub IsDownward : List ClassFile → (VType → Bool) → Type 0
IsDownward files test = (upper lower : VType) → AreOrdered files upper lower → test upper ≡ true → test lower ≡ true

-- ---- kinds of values

module _ (files : List ClassFile) where
  pub int_downward : IsDownward files is_int
  int_downward Int Int ordered e = refl
  int_downward Int lower ordered e = let f = ordered.above in cc
  int_downward upper lower ordered e = cc

  reference_downward : IsDownward files is_any_reference
  reference_downward Null Null ordered e = refl
  reference_downward Null lower ordered e = let f = ordered.above in cc
  reference_downward (Ref s) Null ordered e = refl
  reference_downward (Ref s) (Ref t) ordered e = refl
  reference_downward (Ref s) lower ordered e = let f = ordered.above in cc
  reference_downward (New p) (New q) ordered e = refl
  reference_downward (New p) lower ordered e = let f = ordered.above in cc
  reference_downward This This ordered e = refl
  reference_downward This lower ordered e = let f = ordered.above in cc
  reference_downward upper lower ordered e = cc

  pub constructed_downward : IsDownward files is_constructed
  constructed_downward Null Null ordered e = refl
  constructed_downward Null lower ordered e = let f = ordered.above in cc
  constructed_downward (Ref s) Null ordered e = refl
  constructed_downward (Ref s) (Ref t) ordered e = refl
  constructed_downward (Ref s) lower ordered e = let f = ordered.above in cc
  constructed_downward upper lower ordered e = cc

  pub kind_downward : (kind : ValueKind) → IsDownward files (has_kind kind)
  kind_downward value_kind.Int = int_downward
  kind_downward value_kind.Ref = reference_downward

  -- ---- both of two tests, one or the other

  pub both_downward : (p q : VType → Bool) → IsDownward files p → IsDownward files q → IsDownward files (λ type. p type && q type)
  both_downward p q first second upper lower ordered e =
      let passes = and_parts (p upper) (q upper) e in
      and_from (p lower) (q lower) (first upper lower ordered passes.0) (second upper lower ordered passes.1)

  either_downward : (b : Bool) (p q : VType → Bool) → IsDownward files p → IsDownward files q → IsDownward files (λ type. if b then p type else q type)
  either_downward true p q first second = first
  either_downward false p q first second = second

-- ---- what fits

module _ (files : List ClassFile) (gathers : Gathers files None) where
  fits_downward : (type : TypeRef) → IsDownward files (λ value. fits files value type)
  fits_downward type upper lower ordered e =
      let both = sym (merge_fits files gathers upper lower ordered.upper_known ordered.lower_known type) ∙ ap (λ x. fits files x type) ordered.above ∙ e in
      (and_parts (fits files upper type) (fits files lower type) both).1

  pub class_downward : (class : ℕ) → IsDownward files (fits_class files class)
  class_downward class = fits_downward (class_type class)

  named_downward : (named : Resolved TypeRef) → IsDownward files (fits_in files named)
  named_downward (Ok type) = either_downward files (is_reference type.dims type.base) (λ value. fits files value type) is_int (fits_downward type) (int_downward files)
  named_downward (Err why) = λ upper lower ordered e. cc

  pub fits_kind_downward : (kind : Kind) → IsDownward files (fits_kind files kind)
  fits_kind_downward kind = named_downward (kind_named files kind)

  pub arguments_downward : (params : List Kind) → AllByRecursion (IsDownward files) (map (fits_kind files) params)
  arguments_downward [] = tt
  arguments_downward (param ∷ params) = (fits_kind_downward param, arguments_downward params)

-- ---- arrays

not_object : (d : ℕ) (s : TypeBase) → class_type object ≡ type_of (suc d) s → ⊥
not_object d s e = let f : 0 ≡ suc d = ap (λ (t : TypeRef). t.dims) e in absurd (omega arith)

pub same_ref : (s t : TypeRef) → Ref s ≡ Ref t → s ≡ t
same_ref s t e = cc

element_primitive : (kind : ElementKind) (s : TypeBase) → is_element kind s ≡ true → is_reference 0 s ≡ false
element_primitive element.Int (Class class) e = cc
element_primitive element.Byte (Class class) e = cc
element_primitive element.Char (Class class) e = cc
element_primitive element.Short (Class class) e = cc
element_primitive element.Ref (Class class) e = cc
element_primitive kind s e = refl

-- what is below an array of references is one, and its components are below
pub record AreComponents (files : List ClassFile) (d : ℕ) (s : TypeBase) (n : ℕ) (t : TypeBase) : Type 0 where
  pub lower : (nat_le 1 n && is_reference (n - 1) t) ≡ true
  pub above : merge_refs files (d - 1) s (n - 1) t ≡ type_of (d - 1) s

module _ (files : List ClassFile) where
  -- what is below an array is one
  array_lower : (d : ℕ) (s : TypeBase) (n : ℕ) (t : TypeBase) → merge_refs files d s n t ≡ type_of d s → nat_le 1 d ≡ true → nat_le 1 n ≡ true
  array_lower zero s n t above e = cc
  array_lower (suc d) s zero t above e = absurd (not_object d s (sym (merge_array_class files d s t) ∙ above))
  array_lower (suc d) s (suc n) t above e = le-leb 1 (suc n) (omega arith)

  component_parts : (d : ℕ) (s : TypeBase) (merged : TypeRef) → array_of merged ≡ type_of (suc d) s → merged ≡ type_of d s
  component_parts d s merged e =
      let more : merged.dims ≡ d = omega (arith, ap (λ (t : TypeRef). t.dims) e) in
      ap (λ k. type_of k merged.base) more ∙ ap (type_of d) (ap (λ (t : TypeRef). t.base) e)

  pub components : (d : ℕ) (s : TypeBase) (n : ℕ) (t : TypeBase) → merge_refs files d s n t ≡ type_of d s → (nat_le 1 d && is_reference (d - 1) s) ≡ true → AreComponents files d s n t
  components zero s n t above e = cc
  components (suc d) s zero t above e = absurd (not_object d s (sym (merge_array_class files d s t) ∙ above))
  components (suc d) s (suc n) t above e =
      let one : suc d - 1 ≡ d = omega arith in
      let two : suc n - 1 ≡ n = omega arith in
      let refers : is_reference d s ≡ true = subst (λ k. is_reference k s ≡ true) one (and_parts (nat_le 1 (suc d)) (is_reference (suc d - 1) s) e).1 in
      elim (cases_Bool (is_reference n t)) [
        | inl lower ↦
            let array = sym (merge_arrays files d s n t refers lower) ∙ above in
            let component = component_parts d s (merge_refs files d s n t) array in
            record {
              lower = and_from (nat_le 1 (suc n)) (is_reference (suc n - 1) t) (le-leb 1 (suc n) (omega arith)) (subst (λ k. is_reference k t ≡ true) (sym two) lower);
              above = subst (λ k. merge_refs files k s (suc n - 1) t ≡ type_of k s) (sym one) (subst (λ k. merge_refs files d s k t ≡ type_of d s) (sym two) component);
            }
        | inr none ↦
            let apart = merge_others files d s n t (and_right (is_reference d s) (is_reference n t) none)
            ∙ ap (λ b. if b then type_of 1 s else class_type object) (reference_is_none d s n t refers) in
            absurd (not_object d s (sym apart ∙ above))
      ]

  -- what is below an array of a primitive type is the same array
  module _ (test : TypeBase → Bool) (primitive : (s : TypeBase) → test s ≡ true → is_reference 0 s ≡ false) where
    flat : (s : TypeBase) (n : ℕ) (t : TypeBase) → merge_refs files 1 s n t ≡ type_of 1 s → test s ≡ true → (nat_eq n 1 && test t) ≡ true
    flat s zero t above e = absurd (not_object 0 s (sym (merge_array_class files 0 s t) ∙ above))
    flat s (suc n) t above e =
        let apart = merge_others files 0 s n t (and_left (is_reference 0 s) (is_reference n t) (primitive s e)) in
        elim (cases_Bool (are_primitive 0 s n t)) [
          | inl same ↦
              let is = primitive_parts 0 s n t same in
              let one : suc n ≡ 1 = omega (arith, is.second) in
              and_from (nat_eq (suc n) 1) (test t) (eq-eqb (suc n) 1 one) (subst (λ x. test x ≡ true) is.base e)
          | inr other ↦ absurd (not_object 0 s (sym (apart ∙ ap (λ b. if b then type_of 1 s else class_type object) other) ∙ above))
        ]

    flat_lower : (d : ℕ) (s : TypeBase) (n : ℕ) (t : TypeBase) → merge_refs files d s n t ≡ type_of d s → (nat_eq d 1 && test s) ≡ true → (nat_eq n 1 && test t) ≡ true
    flat_lower d s n t above e =
        let is = and_parts (nat_eq d 1) (test s) e in
        flat s n t (subst (λ k. merge_refs files k s n t ≡ type_of k s) (eqb-true d 1 is.0) above) is.1

  elements_lower : (kind : ElementKind) (s t : TypeRef) → merge_refs files s.dims s.base t.dims t.base ≡ s → has_elements kind s ≡ true → has_elements kind t ≡ true
  elements_lower element.Ref s t above e = (components s.dims s.base t.dims t.base above e).lower
  elements_lower kind s t above e = flat_lower (is_element kind) (element_primitive kind) s.dims s.base t.dims t.base above e

  pub array_downward : IsDownward files is_array
  array_downward Null Null ordered e = refl
  array_downward Null lower ordered e = let f = ordered.above in cc
  array_downward (Ref s) Null ordered e = refl
  array_downward (Ref s) (Ref t) ordered e = array_lower s.dims s.base t.dims t.base (same_ref (merge_refs files s.dims s.base t.dims t.base) s ordered.above) e
  array_downward (Ref s) lower ordered e = let f = ordered.above in cc
  array_downward upper lower ordered e = cc

  pub array_of_downward : (kind : ElementKind) → IsDownward files (is_array_of kind)
  array_of_downward kind Null Null ordered e = refl
  array_of_downward kind Null lower ordered e = let f = ordered.above in cc
  array_of_downward kind (Ref s) Null ordered e = refl
  array_of_downward kind (Ref s) (Ref t) ordered e = elements_lower kind s t (same_ref (merge_refs files s.dims s.base t.dims t.base) s ordered.above) e
  array_of_downward kind (Ref s) lower ordered e = let f = ordered.above in cc
  array_of_downward kind upper lower ordered e = cc

  pub value_downward : (kind : ElementKind) → IsDownward files (is_elements_value kind)
  value_downward element.Ref = constructed_downward files
  value_downward kind = int_downward files

  -- ---- lists of tests

  pub all_ints : (n : ℕ) → AllByRecursion (IsDownward files) (replicate n is_int)
  all_ints zero = tt
  all_ints (suc n) = (int_downward files, all_ints n)

  pub tests_append : (first second : List (VType → Bool)) → AllByRecursion (IsDownward files) first → AllByRecursion (IsDownward files) second → AllByRecursion (IsDownward files) (first ++ second)
  tests_append [] second one two = two
  tests_append (test ∷ first) second one two = (one.0, tests_append first second one.1 two)

  pub tests_reverse : (tests : List (VType → Bool)) → AllByRecursion (IsDownward files) tests → AllByRecursion (IsDownward files) (reverse tests)
  tests_reverse [] all = tt
  tests_reverse (test ∷ tests) all =
      subst (AllByRecursion (IsDownward files)) (sym (reverse-append (test ∷ []) tests)) (tests_append (reverse tests) (test ∷ []) (tests_reverse tests all.1) (all.0, tt))

  -- ---- operands that pass

  module _ (pending : Bool) where
    -- where one test passes for the upper type of a pair of operands, the other one passes for the lower type
    abbrev pub Passes : (VType → Bool) → (VType → Bool) → Type 0
    Passes test other = (upper lower : VType) → IsOperandPair files pending upper lower → test upper ≡ true → other lower ≡ true

    pub tests_pass : (tests : List (VType → Bool)) → AllByRecursion (IsDownward files) tests → AllZip Passes tests tests
    tests_pass [] all = tt
    tests_pass (test ∷ tests) all = (λ upper lower pair. all.0 upper lower pair.ordered, tests_pass tests all.1)

    pub takes_lower : (tests others : List (VType → Bool)) (us ls : List VType) → AllZip Passes tests others → AllZip (IsOperandPair files pending) us ls → takes tests us ≡ true → takes others ls ≡ true
    unfolding takes
    takes_lower [] [] us ls pass pairs e = refl
    takes_lower [] (other ∷ others) us ls pass pairs e = absurd pass
    takes_lower (test ∷ tests) [] us ls pass pairs e = absurd pass
    takes_lower (test ∷ tests) (other ∷ others) [] ls pass pairs e = cc
    takes_lower (test ∷ tests) (other ∷ others) (u ∷ us) [] pass pairs e = absurd pairs
    takes_lower (test ∷ tests) (other ∷ others) (u ∷ us) (l ∷ ls) pass pairs e =
        let is = and_parts (test u) (takes tests us) e in
        and_from (other l) (takes others ls) (pass.0 u l pairs.0 is.0) (takes_lower tests others us ls pass.1 pairs.1 is.1)
