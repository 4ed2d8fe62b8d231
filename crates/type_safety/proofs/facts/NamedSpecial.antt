-- The methods that invokespecial names: constructors of the class that is named, and methods that an object of the
-- current class may receive.
use Rattle.std.proofs.Common.{◌≡◌, ◌⊎◌, inl, inr, ℕ, Bool, true, false, ◌&&◌, ◌||◌, not, nat_eq, List, slice_get, Option, Some, None, option_and_then, Ok, refl, sym, ap, subst, ◌∙◌, eqb-true}
use Rattle.std.specs.Prelude.{if◌then◌else◌}
use Rattle.std.specs.List.{AllByRecursion}
use Rattle.std.specs.Option.{ok_or, option_or}
use Rattle.std.proofs.lemmas.Bool.{and_parts, cases_lt}
use Rattle.class_pool.specs.declared.types.MemberId.{MemberId}
use Rattle.class_pool.specs.Pool.{Slots}
use Rattle.class_file.specs.declared.record.ClassFile.{ClassFile}
use Rattle.class_file.specs.Rules.{is_static, is_private, is_public, is_protected, is_interface}
use Rattle.body_form.specs.declared.op.MethodUse.{MethodUse}
use Rattle.class_tree.specs.Set.{flags_of}
use Rattle.class_tree.specs.Access.{MayUse, Public, Inherited, InPackage, Own, is_package_private}
use Rattle.class_tree.specs.AccessTests.{is_subclass, is_allowed}
use Rattle.class_tree.specs.Tree.{Gathers}
use Rattle.class_tree.specs.DirectSupers.{superclass_of}
use Rattle.class_tree.specs.Members.{Declaration, methods_of, method_flags, method_in}
use Rattle.class_tree.specs.InterfaceLookup.{find_interface_method}
use Rattle.class_tree.specs.MethodLookup.{first_in_superclasses, method_of_superinterfaces, find_method}
use Rattle.class_tree.specs.Selection.{select}
use Rattle.class_tree.proofs.ancestors.Forest.{Over, over}
use Rattle.class_tree.proofs.ancestors.CommonSuper.{Above}
use Rattle.class_tree.proofs.ancestors.Superclasses.{IsRanked}
use Rattle.class_tree.proofs.lookups.TestedAccess.{allowed_says}
use Rattle.jvm_model.specs.declared.refusal.Cause.TheVariants.{WrongKind}
use Rattle.jvm_model.specs.Bodies.{AreBodies}
use Rattle.jvm_model.specs.Linking.{Linking}
use Rattle.jvm_model.specs.MethodUses.{Call, has_code, is_constructor, fits_call, special_target, has_target, fits_special, use_of, call_used, names_method, special_use, special_call}
use Rattle.class_tree.specs.Access.{may_use_class}
use Rattle.jvm_model.proofs.bodies.BodyNames.{then_ok, there_ok}
use Rattle.typed_machine.specs.TypedWorld.{World}
use Rattle.type_safety.specs.Facts.{ClassFits, IsSpecial, is_named_constructor}
use Rattle.type_safety.proofs.fitting.SetLists.{none_some, same_some, false_is_true}
use Rattle.type_safety.proofs.facts.CodeRead.{IsRead}
use Rattle.type_safety.proofs.fitting.FitsOver.{class_fits_above, super_fits}
use Rattle.type_safety.proofs.facts.Declared.{flags_there}
use Rattle.type_safety.proofs.facts.LibraryMethods.{library_method, native_shared}
use Rattle.type_safety.proofs.facts.RunMethods.{method_of_file, method_rules, constructor_void, runs}
use Rattle.type_safety.proofs.facts.FoundMethods.{IsNamed, IsSelected, named_at, selected}
use Rattle.type_safety.proofs.facts.NamedMethods.{call_says, IsFit, fit, is_called}

-- ---- truth values

or_left_is : (a b c : Bool) → (a || (b || c)) ≡ true → a ≡ false → (b ≡ true) ⊎ (c ≡ true)
or_left_is true b c e f = absurd (let bad : true ≡ false = f in cc)
or_left_is false true c e f = inl refl
or_left_is false false c e f = inr e

one_access : (public private protected : Bool) → (not (public && private) && (not (public && protected) && not (private && protected))) ≡ true → private ≡ true → (public ≡ false) × (protected ≡ false)
one_access true true protected e p = absurd (let bad : false ≡ true = e in cc)
one_access false true true e p = absurd (let bad : false ≡ true = e in cc)
one_access false true false e p = (refl, refl)
one_access public false protected e p = absurd (let bad : false ≡ true = p in cc)

no_package : (public private protected : Bool) → private ≡ true → protected ≡ false → (protected || (not public && (not protected && not private))) ≡ false
no_package public private true p q = absurd (let bad : true ≡ false = q in cc)
no_package true private false p q = refl
no_package false true false p q = refl
no_package false false false p q = absurd (let bad : false ≡ true = p in cc)

module _ (world : World) (gathers : Gathers world.files None) (rank : ℕ → ℕ) (ranked : IsRanked world.files rank) (read : AllByRecursion IsRead world.files) (are : AreBodies world.files world.bodies) (links : Linking world.files None) where
  abbrev files : List ClassFile
  files = world.files

  -- a private method is used by its own class alone
  private_own : (from : ℕ) (id : MemberId) (declaration : Declaration) → slice_get (methods_of files id.class) id.member ≡ Some declaration → is_private declaration.flags ≡ true → is_allowed files from false id ≡ true → id.class ≡ from
  private_own from id declaration there private e =
      elim (cases_lt id.class 32) [
        | inl library ↦
            let found = library_method files id.class id.member declaration library there in
            false_is_true (is_private declaration.flags) private (ap (λ (d : Declaration). is_private d.flags) (sym found.is) ∙ native_shared found.native)
        | inr own ↦
            let stands = method_of_file files id.class id.member declaration own there in
            let rules = method_rules files read id.class id.member declaration stands in
            let flags : stands.method.flags ≡ method_flags files id = ap (λ (d : Declaration). d.flags) stands.is ∙ sym (flags_there files (methods_of files id.class) id.member declaration there) in
            let hidden : is_private stands.method.flags ≡ true = ap (λ (d : Declaration). is_private d.flags) stands.is ∙ private in
            let others = one_access (is_public stands.method.flags) (is_private stands.method.flags) (is_protected stands.method.flags) rules.access hidden in
            by_use (method_flags files id) (ap is_public (sym flags) ∙ others.0) (ap is_protected (sym flags) ∙ others.1) (ap is_private (sym flags) ∙ hidden) ((allowed_says files from id false).0 e)
      ]
    where
      by_use : (flags : ℕ) → is_public flags ≡ false → is_protected flags ≡ false → is_private flags ≡ true → MayUse files from id.class flags → id.class ≡ from
      by_use flags public protected private (Public e) = false_is_true (is_public flags) e public
      by_use flags public protected private (Inherited e below) = false_is_true (is_protected flags) e protected
      by_use flags public protected private (InPackage e same) = false_is_true (is_protected flags || is_package_private flags) e (no_package (is_public flags) (is_private flags) (is_protected flags) private protected)
      by_use flags public protected private (Own e same) = sym same

  -- the method that is called
  record IsTarget (from : ℕ) (call : Call) (target : MemberId) : Type 0 where
    named : IsNamed files call.named.member.name call.named.member.descriptor target
    static : is_static named.declaration.flags ≡ false
    constructor : is_constructor call ≡ true → target ≡ call.found
    other : is_constructor call ≡ false → (target.class ≡ from) ⊎ Above files from target.class

  target_is : (from : ℕ) (call : Call) → IsFit world gathers rank ranked read are links call false → is_allowed files from false call.found ≡ true → (target : MemberId) → special_target files from call ≡ Some target → IsTarget from call target
  target_is from call fits allowed target e = by_test (is_constructor call || (is_private (method_flags files call.found) || nat_eq call.found.class from)) refl e
    where
      flags : method_flags files call.found ≡ fits.named.declaration.flags
      flags = flags_there files (methods_of files call.found.class) call.found.member fits.named.declaration fits.named.there

      found_own : is_constructor call ≡ false → (is_constructor call || (is_private (method_flags files call.found) || nat_eq call.found.class from)) ≡ true → call.found.class ≡ from
      found_own plain is =
          elim (or_left_is (is_constructor call) (is_private (method_flags files call.found)) (nat_eq call.found.class from) is plain) [
            | inl private ↦ private_own from call.found fits.named.declaration fits.named.there (ap is_private (sym flags) ∙ private) allowed
            | inr same ↦ eqb-true call.found.class from same
          ]

      above_of : (o : Option ℕ) → superclass_of files from ≡ o → option_and_then (select files call.named.member.name call.named.member.descriptor) o ≡ Some target → IsSelected files call.named.member.name call.named.member.descriptor from target
      above_of None is chosen = none_some target chosen
      above_of (Some upper) is chosen =
          let one = selected files call.named.member.name call.named.member.descriptor upper target chosen in
          record { named = one.named; above = Over upper is one.above; private = one.private; static = one.static }

      first_not : (a b : Bool) → (a || b) ≡ false → a ≡ true → ⊥
      first_not true b e f = let bad : true ≡ false = e in cc
      first_not false b e f = let bad : false ≡ true = f in cc

      by_test : (b : Bool) → (is_constructor call || (is_private (method_flags files call.found) || nat_eq call.found.class from)) ≡ b
          → (if b then Some call.found else option_and_then (select files call.named.member.name call.named.member.descriptor) (superclass_of files from)) ≡ Some target → IsTarget from call target
      by_test true is chosen =
          subst (IsTarget from call) (same_some call.found target chosen) (record {
            named = fits.named;
            static = fits.static_is;
            constructor = λ h. refl;
            other = λ plain. inl (found_own plain is);
          })
      by_test false is chosen =
          let one = above_of (superclass_of files from) refl chosen in
          record { named = one.named; static = one.static; constructor = λ h. absurd (first_not (is_constructor call) _ is h); other = λ plain. inr one.above }

  -- a constructor is found in the class that is named, where that is no interface
  constructor_own : (call : Call) → is_interface (flags_of files call.class) ≡ false → is_constructor call ≡ true
      → (if is_interface (flags_of files call.class) then find_interface_method files call.named.member.name call.named.member.descriptor call.class else find_method files call.named.member.name call.named.member.descriptor call.class) ≡ Some call.found
      → call.found.class ≡ call.class
  constructor_own call never named e =
      let name = call.named.member.name in
      let descriptor = call.named.member.descriptor in
      let by_class : find_method files name descriptor call.class ≡ Some call.found =
      sym (ap (λ b. if b then find_interface_method files name descriptor call.class else find_method files name descriptor call.class) never) ∙ e in
      let own : method_in files name descriptor call.class ≡ Some call.found =
      sym (ap (λ b. if b then method_in files name descriptor call.class else option_or (first_in_superclasses files (method_in files name descriptor) call.class) (first_in_superclasses files (method_of_superinterfaces files name descriptor) call.class)) named) ∙ by_class in
      (named_at files name descriptor call.class call.found own).1

  -- where a constructor is named, the class is no interface; nor is the class in which the call stands
  pub named_special : (from : ℕ) (pool : Slots) (index : ℕ) (used : MethodUse) → is_interface (flags_of files from) ≡ false → (is_named_constructor used ≡ true → is_interface (flags_of files used.class) ≡ false) → special_call files from pool index ≡ Ok used
      → IsSpecial world from used
  named_special from pool index used own_class constructed e =
      let call = then_ok (special_use files from) (call_used files from pool names_method (λ call. fits_call files false call && fits_special files from call) index) used e in
      let target = then_ok (λ target. Ok (use_of files call.0 target)) (ok_or (special_target files from call.0) WrongKind) used call.2 in
      let is : use_of files call.0 target.0 ≡ used = cc in
      let says = call_says files from pool names_method (λ call. fits_call files false call && fits_special files from call) index call.0 call.1 in
      let tests = and_parts (fits_call files false call.0) (fits_special files from call.0) says.tested in
      let fits = fit world gathers rank ranked read are links from names_method (λ call. fits_call files false call && fits_special files from call) call.0 false says tests.0 in
      let code = and_parts (has_code files call.0.found) (has_target files (special_target files from call.0)) (and_parts (is_constructor call.0 || is_subclass files from call.0.class) _ tests.1).1 in
      let there : special_target files from call.0 ≡ Some target.0 = there_ok (special_target files from call.0) WrongKind target.0 target.1 in
      let has : has_code files target.0 ≡ true = ap (has_target files) (sym there) ∙ code.1 in
      let allowed : is_allowed files from false call.0.found ≡ true = (and_parts (may_use_class files from call.0.class) (is_allowed files from false call.0.found) says.allowed).1 in
      let found = target_is from call.0 fits allowed target.0 there in
      let called = is_called world gathers rank ranked read are links call.0 target.0 target.0 true fits.plain fits.type found.named found.static in
      subst (λ (u : MethodUse). (is_named_constructor u ≡ true → is_interface (flags_of files u.class) ≡ false) → IsSpecial world from u) is
      (λ no_interface. record {
        runs = runs world read are target.0 (use_of files call.0 target.0) true called has;
        constructor = λ named. ap (λ (i : MemberId). i.class) (found.constructor named) ∙ constructor_own call.0 (no_interface named) named says.found;
        void = constructor_void world read are target.0 (use_of files call.0 target.0) called;
        other = λ plain class concrete below_named below_own. elim (found.other plain) [
          | inl same ↦ subst (λ (c : ℕ). ClassFits world class c) (sym same) below_own
          | inr above ↦ class_fits_above files gathers class target.0.class (over (superclass_of files) class from target.0.class (super_fits files gathers class from own_class below_own) above)
        ];
      }) constructed
