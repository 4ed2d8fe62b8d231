-- What lookups of methods find: a method of the name and the descriptor, of a class or interface above.
use Rattle.std.proofs.Common.{◌≡◌, inl, ℕ, zero, suc, ◌+◌, ◌-◌, ◌<◌, Bool, true, false, ◌&&◌, ◌||◌, not, List, [], ◌∷◌, slice_get, Option, Some, None, refl, sym, ap, subst, ◌∙◌, arith, codes}
use Rattle.std.specs.Prelude.{if◌then◌else◌, filter}
use Rattle.std.specs.List.{Contains, list_any, range_with_len}
use Rattle.std.specs.Option.{option_or, option_map_or}
use Rattle.std.specs.Str.{bytes_eq}
use Rattle.class_pool.specs.declared.types.MemberId.{MemberId}
use Rattle.class_file.specs.declared.record.ClassFile.{ClassFile}
use Rattle.class_file.specs.Rules.{is_static, is_private, is_abstract, is_interface}
use Rattle.class_tree.specs.Set.{IsClass, flags_of}
use Rattle.class_tree.specs.Subtypes.{IsSubclass}
use Rattle.class_tree.specs.AccessTests.{is_subclass}
use Rattle.class_tree.specs.Tree.{Gathers}
use Rattle.class_tree.specs.DirectSupers.{class_count, superclasses_of, superinterfaces_of}
use Rattle.class_tree.specs.Members.{Declaration, methods_of, method_flags, method_in, method_passing}
use Rattle.class_tree.specs.InterfaceLookup.{object, is_public_instance, interface_method_in, find_interface_method}
use Rattle.class_tree.specs.MethodLookup.{first_in_superclasses, method_of_superinterfaces, find_method}
use Rattle.class_tree.specs.Selection.{is_selectable, select}
use Rattle.class_tree.proofs.ancestors.CommonSuper.{Above, top}
use Rattle.class_tree.proofs.ancestors.Superclasses.{IsRanked}
use Rattle.class_tree.proofs.merging.SubtypeFits.{supers_lead}
use Rattle.jvm_model.specs.declared.refusal.Refusal.{Refusal}
use Rattle.jvm_model.specs.Phases.{refusal_of_insn}
use Rattle.jvm_model.specs.FirstOf.{FirstOf}
use Rattle.jvm_model.specs.MethodUses.{has_code}
use Rattle.jvm_model.specs.Overrides.{at_or_above, lacks_body, lacks_bodies, hides_interface}
use Rattle.jvm_model.specs.Linking.{ClassLinks, Linking, refuse_where, override_refusal, declared_refusal}
use Rattle.jvm_model.specs.declared.refusal.Cause.TheVariants as cause
use Rattle.jvm_model.specs.Phases.{first_refusal}
use Rattle.type_safety.proofs.fitting.SetLists.{none_some, same_some, no_first, no_second}
use Rattle.type_safety.proofs.facts.ClassWays.{Way, Here, Higher, up_found, in_list, or_some, way_leads, way_above, supers_lie, interfaces_lie, subclass_test, class_over}
use Rattle.type_safety.proofs.facts.Declared.{HasFile, method_declared, method_passes, flags_there}

-- ---- tests of lists

any_first : (a b : Bool) → (a || b) ≡ false → a ≡ false
any_first true b e = e
any_first false b e = refl

any_second : (a b : Bool) → (a || b) ≡ false → b ≡ false
any_second true b e = absurd (let bad : true ≡ false = e in cc)
any_second false b e = e

none_of : {X : Type 0} (test : X → Bool) (xs : List X) → list_any test xs ≡ false → (i : ℕ) (x : X) → slice_get xs i ≡ Some x → test x ≡ false
none_of test [] e i x at = none_some x at
none_of test (y ∷ xs) e zero x at = ap test (sym (same_some y x at)) ∙ any_first (test y) (list_any test xs) e
none_of test (y ∷ xs) e (suc i) x at = none_of test xs (any_second (test y) (list_any test xs) e) i x at

filtered : {X : Type 0} (test keeps : X → Bool) (x : X) (xs : List X) → list_any test (filter keeps (x ∷ xs)) ≡ false → (keeps x ≡ true → test x ≡ false) × (list_any test (filter keeps xs) ≡ false)
filtered test keeps x xs e = by_test (keeps x) e
  where
    by_test : (b : Bool) → list_any test (if b then x ∷ filter keeps xs else filter keeps xs) ≡ false → (b ≡ true → test x ≡ false) × (list_any test (filter keeps xs) ≡ false)
    by_test true e = ((λ h. any_first (test x) (list_any test (filter keeps xs)) e), any_second (test x) (list_any test (filter keeps xs)) e)
    by_test false e = ((λ h. absurd (let bad : false ≡ true = h in cc)), e)

none_in_range : (test keeps : ℕ → Bool) (from n : ℕ) → list_any test (filter keeps (range_with_len from n)) ≡ false → (k : ℕ) → k < n → keeps (from + k) ≡ true → test (from + k) ≡ false
none_in_range test keeps from zero e k lt h = absurd (omega (arith, lt))
none_in_range test keeps from (suc n) e zero lt h =
    let here : from + 0 ≡ from = omega arith in
    ap test here ∙ (filtered test keeps from (range_with_len (from + 1) n) e).0 (ap keeps (sym here) ∙ h)
none_in_range test keeps from (suc n) e (suc k) lt h =
    let next : from + suc k ≡ (from + 1) + k = omega arith in
    ap test next ∙ none_in_range test keeps (from + 1) n (filtered test keeps from (range_with_len (from + 1) n) e).1 k (omega (arith, lt)) (ap keeps (sym next) ∙ h)

-- ---- lookups

module _ (files : List ClassFile) where
  -- a method that is declared with the name and descriptor above a class
  pub record IsLooked (name descriptor : List ℕ) (class : ℕ) (id : MemberId) : Type 0 where
    pub at : ℕ
    pub below : IsSubclass files class at
    pub is : method_in files name descriptor at ≡ Some id

  -- a method of a class, by its name and descriptor
  pub record IsNamed (name descriptor : List ℕ) (id : MemberId) : Type 0 where
    pub declaration : Declaration
    pub there : slice_get (methods_of files id.class) id.member ≡ Some declaration
    pub own : method_in files name descriptor id.class ≡ Some id
    pub name_is : declaration.name ≡ name
    pub descriptor_is : declaration.descriptor ≡ descriptor

  pub named_at : (name descriptor : List ℕ) (at : ℕ) (id : MemberId) → method_in files name descriptor at ≡ Some id → IsNamed name descriptor id × (id.class ≡ at)
  named_at name descriptor at id e =
      let is = method_declared files name descriptor at id e in (
        record {
          declaration = is.declaration;
          there = subst (λ (c : ℕ). slice_get (methods_of files c) id.member ≡ Some is.declaration) (sym is.class_is) is.there;
          own = subst (λ (c : ℕ). method_in files name descriptor c ≡ Some id) (sym is.class_is) e;
          name_is = is.name_is;
          descriptor_is = is.descriptor_is;
        },
        is.class_is,
      )

  module _ (gathers : Gathers files None) (rank : ℕ → ℕ) (ranked : IsRanked files rank) (root : ℕ) (inside : IsClass files root) where
    interface_looked : (name descriptor : List ℕ) (class : ℕ) (id : MemberId) → IsSubclass files root class → find_interface_method files name descriptor class ≡ Some id → IsLooked name descriptor root id
    interface_looked name descriptor class id below e =
        let up = up_found (superinterfaces_of files) (interface_method_in files name descriptor) (class_count files) class id e in
        or_some (method_in files name descriptor up.at) (method_passing is_public_instance files name descriptor object) id up.is
        (λ own. record { at = up.at; below = class_over files root class up.at below (way_leads files (superinterfaces_of files) (interfaces_lie files) class up.at up.way); is = own })
        (λ of_object. record { at = object; below = supers_lead files gathers root object (top files rank ranked gathers root inside); is = (method_passes files is_public_instance name descriptor object id of_object).own })

    method_looked : (name descriptor : List ℕ) (id : MemberId) → find_method files name descriptor root ≡ Some id → IsLooked name descriptor root id
    method_looked name descriptor id e = by_name (bytes_eq name (codes "<init>")) e
      where
        supers : first_in_superclasses files (method_in files name descriptor) root ≡ Some id → IsLooked name descriptor root id
        supers is =
            let up = up_found (superclasses_of files) (method_in files name descriptor) (class_count files) root id is in
            record { at = up.at; below = way_leads files (superclasses_of files) (supers_lie files) root up.at up.way; is = up.is }

        interfaces : first_in_superclasses files (method_of_superinterfaces files name descriptor) root ≡ Some id → IsLooked name descriptor root id
        interfaces is =
            let up = up_found (superclasses_of files) (method_of_superinterfaces files name descriptor) (class_count files) root id is in
            let first = in_list (find_interface_method files name descriptor) (superinterfaces_of files up.at) id up.is in
            let beside : IsSubclass files up.at first.at = way_leads files (superinterfaces_of files) (interfaces_lie files) up.at first.at (one first.at first.there) in
            interface_looked name descriptor first.at id (class_over files root up.at first.at (way_leads files (superclasses_of files) (supers_lie files) root up.at up.way) beside) first.is
          where
            one : {at : ℕ} (by : ℕ) → Contains (superinterfaces_of files at) by → Way (superinterfaces_of files) at by
            one by there = Higher by there Here

        by_name : (b : Bool) → (if b then method_in files name descriptor root else option_or (first_in_superclasses files (method_in files name descriptor) root) (first_in_superclasses files (method_of_superinterfaces files name descriptor) root)) ≡ Some id → IsLooked name descriptor root id
        by_name true is = record { at = root; below = inl refl; is = is }
        by_name false is = or_some (first_in_superclasses files (method_in files name descriptor) root) (first_in_superclasses files (method_of_superinterfaces files name descriptor) root) id is supers interfaces

    -- from a class or an interface
    pub looked : (name descriptor : List ℕ) (id : MemberId) → (if is_interface (flags_of files root) then find_interface_method files name descriptor root else find_method files name descriptor root) ≡ Some id → IsLooked name descriptor root id
    looked name descriptor id e = by_kind (is_interface (flags_of files root)) e
      where
        by_kind : (b : Bool) → (if b then find_interface_method files name descriptor root else find_method files name descriptor root) ≡ Some id → IsLooked name descriptor root id
        by_kind true is = interface_looked name descriptor root id (inl refl) is
        by_kind false is = method_looked name descriptor id is

  -- ---- selection

  selectable : (private static : Bool) → (not private && not static) ≡ true → (private ≡ false) × (static ≡ false)
  selectable false false e = (refl, refl)
  selectable false true e = absurd (let bad : false ≡ true = e in cc)
  selectable true static e = absurd (let bad : false ≡ true = e in cc)

  pub record IsSelected (name descriptor : List ℕ) (class : ℕ) (id : MemberId) : Type 0 where
    pub named : IsNamed name descriptor id
    pub above : Above files class id.class
    pub private : is_private named.declaration.flags ≡ false
    pub static : is_static named.declaration.flags ≡ false

  pub selected : (name descriptor : List ℕ) (class : ℕ) (id : MemberId) → select files name descriptor class ≡ Some id → IsSelected name descriptor class id
  selected name descriptor class id e =
      let up = up_found (superclasses_of files) (method_passing is_selectable files name descriptor) (class_count files) class id e in
      let passes = method_passes files is_selectable name descriptor up.at id up.is in
      let named = named_at name descriptor up.at id passes.own in
      let flags : method_flags files id ≡ named.0.declaration.flags = flags_there files (methods_of files id.class) id.member named.0.declaration named.0.there in
      let both = selectable (is_private (method_flags files id)) (is_static (method_flags files id)) passes.passes in
      record {
        named = named.0;
        above = subst (Above files class) (sym named.1) (way_above files class up.at up.way);
        private = ap is_private (sym flags) ∙ both.0;
        static = ap is_static (sym flags) ∙ both.1;
      }

  -- ---- no body is lacking

  first_none : {X : Type 0} (Has : ℕ → X → Option Refusal → Type 0) (place : ℕ) (xs : List X) → FirstOf Has place xs None → (i : ℕ) (x : X) → slice_get xs i ≡ Some x → Has (place + i) x None
  first_none Has place [] all i x at = none_some x at
  first_none Has place (y ∷ xs) all zero x at =
      let here : place ≡ place + 0 = omega arith in
      subst (λ (n : ℕ). Has n x None) here (subst (λ (z : _). Has place z None) (same_some y x at) all.0)
  first_none Has place (y ∷ xs) all (suc i) x at =
      let next : suc place + i ≡ place + suc i = omega arith in
      subst (λ (n : ℕ). Has n x None) next (first_none Has (suc place) xs all.1 i x at)

  not_refused : (b : Bool) (refusal : Refusal) → refuse_where b refusal ≡ None → b ≡ false
  not_refused true refusal e = absurd (let bad : Some refusal ≡ None = e in cc)
  not_refused false refusal e = refl

  pub lacks_none : Linking files None → (class : ℕ) → HasFile files class → lacks_bodies files class ≡ false
  lacks_none links class has =
      let position = class - 32 in
      let number : 32 + position ≡ class = omega (arith, has.own) in
      let start : 0 + position ≡ position = omega arith in
      let own : ClassLinks files position has.file None = subst (λ (n : ℕ). ClassLinks files n has.file None) start (first_none (ClassLinks files) 0 files links position has.file has.is) in
      let none : declared_refusal files position has.file ≡ None = sym own.0 in
      let second = no_second (first_refusal (override_refusal files position has.file) 0 has.file.methods) _ none in
      let third = no_second (refuse_where (hides_interface files (32 + position)) (refusal_of_insn cause.BadOverride position 0 0 0)) _ second in
      let fourth = no_first (refuse_where (lacks_bodies files (32 + position)) (refusal_of_insn cause.MissingBody position 0 0 0)) _ third in
      ap (lacks_bodies files) (sym number) ∙ not_refused (lacks_bodies files (32 + position)) (refusal_of_insn cause.MissingBody position 0 0 0) fourth

  and_none : (a b : Bool) → (not a && b) ≡ false → a ≡ false → b ≡ false
  and_none true b e a = absurd (let bad : true ≡ false = a in cc)
  and_none false b e a = e

  and_not : (a b : Bool) → (a && not b) ≡ false → a ≡ true → b ≡ true
  and_not true true e a = refl
  and_not true false e a = absurd (let bad : true ≡ false = e in cc)
  and_not false b e a = absurd (let bad : false ≡ true = a in cc)

  coded_some : (o : Option MemberId) → option_map_or (has_code files) o false ≡ true → (id : MemberId) × (o ≡ Some id) × (has_code files id ≡ true)
  coded_some None e = absurd (let bad : false ≡ true = e in cc)
  coded_some (Some id) e = (id, refl, e)

  -- where an abstract method is above a class that is not abstract, the class selects one with code
  pub selects_body : (class : ℕ) → lacks_bodies files class ≡ false → is_abstract (flags_of files class) ≡ false → (upper : ℕ) → upper < class_count files → IsSubclass files class upper → (at : ℕ) (declaration : Declaration)
      → slice_get (methods_of files upper) at ≡ Some declaration → is_abstract declaration.flags ≡ true → (id : MemberId) × (select files declaration.name declaration.descriptor class ≡ Some id) × (has_code files id ≡ true)
  selects_body class none concrete upper within below at declaration there abstract =
      let all = and_none (is_abstract (flags_of files class)) (list_any (λ u. list_any (lacks_body files class) (methods_of files u)) (at_or_above files class)) none concrete in
      let start : 0 + upper ≡ upper = omega arith in
      let here : list_any (lacks_body files class) (methods_of files (0 + upper)) ≡ false =
      none_in_range (λ u. list_any (lacks_body files class) (methods_of files u)) (is_subclass files class) 0 (class_count files) all upper within (ap (is_subclass files class) start ∙ subclass_test files class upper below) in
      let lacks = none_of (lacks_body files class) (methods_of files upper) (ap (λ (u : ℕ). list_any (lacks_body files class) (methods_of files u)) (sym start) ∙ here) at declaration there in
      coded_some (select files declaration.name declaration.descriptor class) (and_not (is_abstract declaration.flags) (option_map_or (has_code files) (select files declaration.name declaration.descriptor class) false) lacks abstract)
