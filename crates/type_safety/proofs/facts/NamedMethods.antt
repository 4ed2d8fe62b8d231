-- The methods that calls name are there, of the type that they say, and what an object's class selects for them runs.
use Rattle.std.proofs.Common.{◌≡◌, ◌⊎◌, inl, inr, ℕ, zero, suc, ◌-◌, ◌<◌, ◌≤◌, Bool, true, false, ◌&&◌, not, nat_eq, List, [], ◌∷◌, length, slice_get, Option, Some, None, option_and_then, Ok, refl, sym, ap, subst, ◌∙◌, arith}
use Rattle.std.specs.Prelude.{if◌then◌else◌}
use Rattle.std.specs.List.{AllByRecursion}
use Rattle.std.specs.Option.{ok_or, option_map_or}
use Rattle.std.specs.Str.{bytes_eq}
use Rattle.std.proofs.lemmas.Bool.{and_parts, cases_lt, false_from_ne_true}
use Rattle.std.proofs.lemmas.Slice.Eq.{bytes_eq-Decides}
use Rattle.std.proofs.lemmas.Option.{slice_get_within}
use Rattle.class_pool.specs.declared.types.MemberId.{MemberId}
use Rattle.class_pool.specs.Pool.{Slots}
use Rattle.class_pool.specs.DescriptorReading.{method_of}
use Rattle.class_file.specs.declared.record.ClassFile.{ClassFile}
use Rattle.class_file.specs.Rules.{is_static, is_private, is_abstract, is_interface}
use Rattle.body_form.specs.declared.op.MethodUse.{MethodUse}
use Rattle.class_tree.specs.Set.{IsClass, flags_of}
use Rattle.class_tree.specs.Subtypes.{IsSubclass}
use Rattle.class_tree.specs.AccessTests.{is_subclass}
use Rattle.class_tree.specs.Tree.{Gathers}
use Rattle.class_tree.specs.DirectSupers.{class_count}
use Rattle.class_tree.specs.Members.{Declaration, methods_of, method_flags, method_passing}
use Rattle.class_tree.specs.Selection.{is_selectable, select}
use Rattle.class_tree.proofs.ancestors.Superclasses.{IsRanked}
use Rattle.class_tree.proofs.merging.SubtypeFits.{supers_lead}
use Rattle.jvm_model.specs.declared.refusal.Cause.TheVariants.{Unresolved, WrongKind, Denied}
use Rattle.jvm_model.specs.Bodies.{AreBodies}
use Rattle.jvm_model.specs.Linking.{Linking}
use Rattle.jvm_model.specs.Resolution.{and_then, where_passes, is_as_asked, class_named, MethodName, method_name_at}
use Rattle.jvm_model.specs.MethodUses.{Call, constructor_name, initialiser_name, method_from, call_found, has_code, fits_tag, is_constructor, is_initialiser, fits_call, use_of, may_use_method, call_used, names_class_method, names_interface_method, names_method, virtual_call, static_call, argument_places, interface_call}
use Rattle.jvm_model.proofs.bodies.BodyNames.{then_ok, there_ok, class_ok}
use Rattle.typed_machine.specs.TypedWorld.{World, descriptor_of}
use Rattle.type_safety.specs.Facts.{IsConcrete, ClassFits, Runs, Finds, NoArray, is_named_constructor}
use Rattle.type_safety.proofs.fitting.SetLists.{not_true_is, false_is_true, true_or_false}
use Rattle.type_safety.proofs.facts.CodeRead.{IsRead}
use Rattle.type_safety.proofs.facts.NamedFields.{passed}
use Rattle.type_safety.proofs.facts.ClassWays.{no_interface_above, class_over, subclass_is, answered}
use Rattle.type_safety.proofs.fitting.FitsOver.{class_fits_above, super_fits, no_array_fits}
use Rattle.type_safety.proofs.facts.Declared.{HasFile, file_at, flags_there}
use Rattle.type_safety.proofs.facts.LibraryMethods.{library_above, library_method, static_or_constructor, native_concrete}
use Rattle.type_safety.proofs.facts.RunMethods.{IsCalled, method_of_file, own_file, abstract_is, has_code_where, interface_method, other_way, runs}
use Rattle.type_safety.proofs.facts.FoundMethods.{IsNamed, named_at, looked, selected, lacks_none, selects_body}

-- ---- what a call says

record CallParts (files : List ClassFile) (tag : MethodName → Bool) (call : Call) : Type 0 where
  class : IsClass files call.class
  found : method_from files call.named.member call.class ≡ Some call.found
  type : method_of call.named.member.descriptor ≡ Some call.type
  tagged : tag call.named ≡ true

pub record CallSays (files : List ClassFile) (from : ℕ) (tag : MethodName → Bool) (test : Call → Bool) (call : Call) : Type 0 where
  pub class : IsClass files call.class
  pub found : method_from files call.named.member call.class ≡ Some call.found
  pub type : method_of call.named.member.descriptor ≡ Some call.type
  pub tagged : tag call.named ≡ true
  pub tested : test call ≡ true
  pub allowed : may_use_method files from call ≡ true

module _ (files : List ClassFile) where
  parts_of : (tag : MethodName → Bool) (named : MethodName) (class : ℕ) (call : Call) → IsClass files class → tag named ≡ true → call_found files named class ≡ Ok call → CallParts files tag call
  parts_of tag named class call inside tagged e =
      let type = then_ok (λ type. and_then (λ found. Ok (record { named = named; class = class; found = found; type = type })) (ok_or (method_from files named.member class) Unresolved)) (ok_or (method_of named.member.descriptor) Unresolved) call e in
      let found = then_ok {X = MemberId} {Y = Call} (λ found. Ok (record { named = named; class = class; found = found; type = type.0 })) (ok_or (method_from files named.member class) Unresolved) call type.2 in
      let is : record { named = named; class = class; found = found.0; type = type.0 } ≡ call = cc in
      subst (CallParts files tag) is (record {
        class = inside;
        found = there_ok (method_from files named.member class) Unresolved found.0 found.1;
        type = there_ok (method_of named.member.descriptor) Unresolved type.0 type.1;
        tagged = tagged;
      })

  pub call_says : (from : ℕ) (pool : Slots) (tag : MethodName → Bool) (test : Call → Bool) (index : ℕ) (call : Call) → call_used files from pool tag test index ≡ Ok call → CallSays files from tag test call
  call_says from pool tag test index call e =
      let allowed =
      then_ok (λ call. where_passes (may_use_method files from call) Denied call)
      (and_then (λ call. where_passes (test call) WrongKind call)
      (and_then (λ named. and_then (call_found files named) (class_named files named.member.class))
      (and_then (λ named. where_passes (tag named) WrongKind named) (ok_or (method_name_at pool index) WrongKind)))) call e in
      let tested =
      then_ok (λ call. where_passes (test call) WrongKind call)
      (and_then (λ named. and_then (call_found files named) (class_named files named.member.class)) (and_then (λ named. where_passes (tag named) WrongKind named) (ok_or (method_name_at pool index) WrongKind)))
      allowed.0 allowed.1 in
      let named =
      then_ok (λ named. and_then (call_found files named) (class_named files named.member.class)) (and_then (λ named. where_passes (tag named) WrongKind named) (ok_or (method_name_at pool index) WrongKind))
      tested.0 tested.1 in
      let tagged = then_ok (λ named. where_passes (tag named) WrongKind named) (ok_or (method_name_at pool index) WrongKind) named.0 named.1 in
      let class = then_ok (call_found files named.0) (class_named files named.0.member.class) tested.0 named.2 in
      let tag_is = passed (tag tagged.0) WrongKind tagged.0 named.0 tagged.2 in
      let test_is = passed (test tested.0) WrongKind tested.0 allowed.0 tested.2 in
      let may_is = passed (may_use_method files from allowed.0) Denied allowed.0 call allowed.2 in
      let parts = subst (CallParts files tag) (test_is.1 ∙ may_is.1) (parts_of tag named.0 class.0 tested.0 (class_ok files named.0.member.class class.0 class.1) (ap tag (sym tag_is.1) ∙ tag_is.0) class.2) in
      record {
        class = parts.class;
        found = parts.found;
        type = parts.type;
        tagged = parts.tagged;
        tested = ap test (sym (test_is.1 ∙ may_is.1)) ∙ test_is.0;
        allowed = ap (may_use_method files from) (sym may_is.1) ∙ may_is.0;
      }

asked_is : (asked is : Bool) → is_as_asked asked is ≡ true → is ≡ asked
asked_is true is e = e
asked_is false is e = not_true_is is e

-- ---- the facts

module _ (world : World) (gathers : Gathers world.files None) (rank : ℕ → ℕ) (ranked : IsRanked world.files rank) (read : AllByRecursion IsRead world.files) (are : AreBodies world.files world.bodies) (links : Linking world.files None) where
  abbrev files : List ClassFile
  files = world.files

  -- a call that is resolved, of which the kind is tested
  pub record IsFit (call : Call) (static : Bool) : Type 0 where
    pub class : IsClass files call.class
    pub below : IsSubclass files call.class call.found.class
    pub named : IsNamed files call.named.member.name call.named.member.descriptor call.found
    pub type : method_of call.named.member.descriptor ≡ Some call.type
    pub plain : bytes_eq initialiser_name call.named.member.name ≡ false
    pub static_is : is_static named.declaration.flags ≡ static
    pub interface_is : call.named.of_interface ≡ is_interface (flags_of files call.class)

  pub fit : (from : ℕ) (tag : MethodName → Bool) (test : Call → Bool) (call : Call) (static : Bool) → CallSays files from tag test call → fits_call files static call ≡ true → IsFit call static
  fit from tag test call static says e =
      let first = and_parts (fits_tag files call) _ e in
      let second = and_parts (not (is_initialiser call)) _ first.1 in
      let look = looked files gathers rank ranked call.class says.class call.named.member.name call.named.member.descriptor call.found says.found in
      let named = named_at files call.named.member.name call.named.member.descriptor look.at call.found look.is in
      let flags : method_flags files call.found ≡ named.0.declaration.flags = flags_there files (methods_of files call.found.class) call.found.member named.0.declaration named.0.there in
      record {
        class = says.class;
        below = subst (IsSubclass files call.class) (sym named.1) look.below;
        named = named.0;
        type = says.type;
        plain = other_way call.named.member.name initialiser_name (not_true_is (is_initialiser call) second.0);
        static_is = ap is_static (sym flags) ∙ asked_is static (is_static (method_flags files call.found)) second.1;
        interface_is = asked_is (is_interface (flags_of files call.class)) call.named.of_interface first.0;
      }

  -- a method of the name and descriptor of a call is called
  pub is_called : (call : Call) (target id : MemberId) (on_object : Bool) → bytes_eq initialiser_name call.named.member.name ≡ false → method_of call.named.member.descriptor ≡ Some call.type → (named : IsNamed files call.named.member.name call.named.member.descriptor id)
      → is_static named.declaration.flags ≡ not on_object → IsCalled files id (use_of files call target) on_object
  is_called call target id on_object plain type named static =
      record { declaration = named.declaration; there = named.there; name_is = named.name_is; type = ap method_of named.descriptor_is ∙ type; named = plain; static = static }

  -- a method that is static or private is not abstract
  not_abstract : (id : MemberId) (declaration : Declaration) → slice_get (methods_of files id.class) id.member ≡ Some declaration → (is_static declaration.flags ≡ true) ⊎ (is_private declaration.flags ≡ true) → is_abstract declaration.flags ≡ false
  not_abstract id declaration there either =
      elim (cases_lt id.class 32) [
        | inl library ↦
            let found = library_method files id.class id.member declaration library there in
            ap (λ (d : Declaration). is_abstract d.flags) (sym found.is) ∙ native_concrete found.native
        | inr own ↦ false_from_ne_true (is_abstract declaration.flags) (λ abstract.
            let both = abstract_is files read id.class id.member declaration own there abstract in
            elim either [ inl static ↦ false_is_true (is_static declaration.flags) static both.1 | inr private ↦ false_is_true (is_private declaration.flags) private both.0 ])
      ]

  -- an instance method that is no constructor is that of a file
  own_method : (name descriptor : List ℕ) (id : MemberId) (named : IsNamed files name descriptor id) → is_static named.declaration.flags ≡ false → bytes_eq name constructor_name ≡ false → 32 ≤ id.class
  own_method name descriptor id named static plain =
      elim (cases_lt id.class 32) [
        | inl library ↦
            let found = library_method files id.class id.member named.declaration library named.there in
            elim (static_or_constructor found.native) [
              | inl is_static_one ↦ false_is_true (is_static named.declaration.flags) (ap (λ (d : Declaration). is_static d.flags) (sym found.is) ∙ is_static_one) static
              | inr constructs ↦
                  let same : name ≡ constructor_name = sym named.name_is ∙ ap (λ (d : Declaration). d.name) (sym found.is) ∙ constructs in
                  false_is_true (bytes_eq name constructor_name) ((bytes_eq-Decides name constructor_name).1 same) plain
            ]
        | inr own ↦ own
      ]

  -- ---- static calls

  pub named_static_call : (from : ℕ) (pool : Slots) (index : ℕ) (used : MethodUse) → static_call files from pool index ≡ Ok used → Runs world used.method used false
  named_static_call from pool index used e =
      let call = then_ok (λ call. Ok (use_of files call call.found)) (call_used files from pool names_method (λ call. fits_call files true call && not (is_constructor call)) index) used e in
      let is : use_of files call.0 call.0.found ≡ used = cc in
      let says = call_says files from pool names_method (λ call. fits_call files true call && not (is_constructor call)) index call.0 call.1 in
      let tests = and_parts (fits_call files true call.0) _ says.tested in
      let fits = fit from names_method (λ call. fits_call files true call && not (is_constructor call)) call.0 true says tests.0 in
      subst (λ (u : MethodUse). Runs world u.method u false) is
      (runs world read are call.0.found (use_of files call.0 call.0.found) false (is_called call.0 call.0.found call.0.found false fits.plain fits.type fits.named fits.static_is) (has_code_where files read call.0.found fits.named.declaration fits.named.there (not_abstract call.0.found fits.named.declaration fits.named.there (inl fits.static_is))))

  -- ---- what an object's class selects

  there_is : {X : Type 0} (xs : List X) (i : ℕ) → i < length xs → (x : X) × (slice_get xs i ≡ Some x)
  there_is [] i lt = absurd (omega (arith, lt))
  there_is (x ∷ xs) zero lt = (x, refl)
  there_is (x ∷ xs) (suc i) lt = there_is xs i (omega (arith, lt))

  class_file : (class : ℕ) → IsClass files class → 32 ≤ class → HasFile files class
  class_file class (inl library) own = absurd (omega (arith, library, own))
  class_file class (inr inside) own = let file = there_is files (class - 32) inside.1 in file_at files class file.0 (own_file files class own ∙ file.1)

  within : (id : MemberId) (declaration : Declaration) → 32 ≤ id.class → slice_get (methods_of files id.class) id.member ≡ Some declaration → id.class < class_count files
  within id declaration own there =
      let stands = method_of_file files id.class id.member declaration own there in
      let lt = slice_get_within files (id.class - 32) stands.has.file stands.has.is in
      omega (arith, lt, own)

  abbrev Selects : List ℕ → List ℕ → ℕ → Type 0
  Selects name descriptor class = (id : MemberId) × (select files name descriptor class ≡ Some id) × (has_code files id ≡ true)

  module _ (name descriptor : List ℕ) (plain : bytes_eq name constructor_name ≡ false) (no_initialiser : bytes_eq initialiser_name name ≡ false) (class : ℕ) (concrete : IsConcrete world class) where
    -- by an abstract method above the class
    by_abstract : 32 ≤ class → (id : MemberId) (named : IsNamed files name descriptor id) → 32 ≤ id.class → IsSubclass files class id.class → is_abstract named.declaration.flags ≡ true → Selects name descriptor class
    by_abstract own id named upper below abstract =
        let found = selects_body files class (lacks_none files links class (class_file class concrete.0 own)) concrete.2 id.class (within id named.declaration upper named.there) below id.member named.declaration named.there abstract in
        (found.0, ap (λ (n : List ℕ). select files n descriptor class) (sym named.name_is) ∙ ap (λ (d : List ℕ). select files named.declaration.name d class) (sym named.descriptor_is) ∙ found.1, found.2)

    same_id : (a b : MemberId) (o : Option MemberId) → o ≡ Some a → o ≡ Some b → a ≡ b
    same_id a b o e f = cc

    with_code : 32 ≤ class → (id : MemberId) → select files name descriptor class ≡ Some id → has_code files id ≡ true
    with_code own id e =
        let is = selected files name descriptor class id e in
        elim (true_or_false (is_abstract is.named.declaration.flags)) [
          | inl abstract ↦
              let found = by_abstract own id is.named (own_method name descriptor id is.named is.static plain) (supers_lead files gathers class id.class is.above) abstract in
              ap (has_code files) (same_id id found.0 (select files name descriptor class) e found.1) ∙ found.2
          | inr other ↦ has_code_where files read id is.named.declaration is.named.there other
        ]

    no_interface : (id : MemberId) (named : IsNamed files name descriptor id) → 32 ≤ id.class → (is_abstract named.declaration.flags ≡ false) ⊎ (is_private named.declaration.flags ≡ true) → is_interface (flags_of files id.class) ≡ false
    no_interface id named upper either =
        false_from_ne_true (is_interface (flags_of files id.class)) (λ interface.
        let both = interface_method files read id.class id.member named.declaration upper named.there interface (ap (bytes_eq initialiser_name) named.name_is ∙ no_initialiser) in
        elim either [ inl coded ↦ false_is_true (is_abstract named.declaration.flags) both.0 coded | inr private ↦ false_is_true (is_private named.declaration.flags) private both.1 ])

    own_class : (upper : ℕ) → 32 ≤ upper → IsSubclass files class upper → 32 ≤ class
    own_class upper high below =
        elim (cases_lt class 32) [ inl library ↦ absurd (let low = library_above files class upper library below in omega (arith, low, high)) | inr own ↦ own ]

    -- a method that is neither private nor static is above the class
    pub selects : (id : MemberId) (named : IsNamed files name descriptor id) → is_static named.declaration.flags ≡ false → is_private named.declaration.flags ≡ false → IsSubclass files class id.class → Selects name descriptor class
    selects id named static private below =
        let upper = own_method name descriptor id named static plain in
        let own = own_class id.class upper below in
        elim (true_or_false (is_abstract named.declaration.flags)) [
          | inl abstract ↦ by_abstract own id named upper below abstract
          | inr coded ↦
              let above = no_interface_above files gathers rank ranked class id.class concrete.0 below (no_interface id named upper (inl coded)) in
              let flags : method_flags files id ≡ named.declaration.flags = flags_there files (methods_of files id.class) id.member named.declaration named.there in
              let passes : is_selectable (method_flags files id) ≡ true = ap is_selectable flags ∙ ap (λ b. not b && not (is_static named.declaration.flags)) private ∙ ap not static in
              let own_answer : method_passing is_selectable files name descriptor id.class ≡ Some id =
              ap (option_and_then (λ (i : MemberId). if is_selectable (method_flags files i) then Some i else None)) named.own ∙ ap (λ b. if b then Some id else None) passes in
              let found = answered files gathers rank ranked (method_passing is_selectable files name descriptor) class id.class id above own_answer in
              (found.0, found.1, with_code own found.0 found.1)
        ]

  -- ---- virtual and interface calls

  finds : (call : Call) → IsFit call false → bytes_eq call.named.member.name constructor_name ≡ false → (class : ℕ) → IsConcrete world class → IsSubclass files class call.class → Finds world (use_of files call call.found) class
  finds call fits plain class concrete below_named =
      let name = call.named.member.name in
      let descriptor = call.named.member.descriptor in
      let below = class_over files class call.class call.found.class below_named fits.below in
      let flags : method_flags files call.found ≡ fits.named.declaration.flags = flags_there files (methods_of files call.found.class) call.found.member fits.named.declaration fits.named.there in
      let upper = own_method name descriptor call.found fits.named fits.static_is plain in
      elim (true_or_false (is_private fits.named.declaration.flags)) [
        | inl private ↦
            let never = no_interface name descriptor plain fits.plain class concrete call.found fits.named upper (inr private) in
            record {
              id = call.found;
              is = ap (λ b. if b then Some call.found else select files name (descriptor_of files call.found) class) (ap is_private flags ∙ private);
              runs = runs world read are call.found (use_of files call call.found) true (is_called call call.found call.found true fits.plain fits.type fits.named fits.static_is) (has_code_where files read call.found fits.named.declaration fits.named.there (not_abstract call.found fits.named.declaration fits.named.there (inr private)));
              fits = class_fits_above files gathers class call.found.class (no_interface_above files gathers rank ranked class call.found.class concrete.0 below never);
            }
        | inr shared ↦
            let found = selects name descriptor plain fits.plain class concrete call.found fits.named fits.static_is shared below in
            let is = selected files name descriptor class found.0 found.1 in
            let text : descriptor_of files call.found ≡ descriptor = ap (λ (o : Option Declaration). option_map_or (λ (m : Declaration). m.descriptor) o []) fits.named.there ∙ fits.named.descriptor_is in
            record {
              id = found.0;
              is = ap (λ b. if b then Some call.found else select files name (descriptor_of files call.found) class) (ap is_private flags ∙ shared) ∙ ap (λ (d : List ℕ). select files name d class) text ∙ found.1;
              runs = runs world read are found.0 (use_of files call call.found) true (is_called call call.found found.0 true fits.plain fits.type is.named is.static) found.2;
              fits = class_fits_above files gathers class found.0.class is.above;
            }
      ]

  abbrev Virtual : MethodUse → Type 0
  Virtual used = (is_named_constructor used ≡ false) × ((class : ℕ) → IsConcrete world class → ClassFits world class used.class → Finds world used class) × NoArray world used

  pub named_virtual : (from : ℕ) (pool : Slots) (index : ℕ) (used : MethodUse) → virtual_call files from pool index ≡ Ok used → Virtual used
  named_virtual from pool index used e =
      let call = then_ok (λ call. Ok (use_of files call call.found)) (call_used files from pool names_class_method (λ call. fits_call files false call && not (is_constructor call)) index) used e in
      let is : use_of files call.0 call.0.found ≡ used = cc in
      let says = call_says files from pool names_class_method (λ call. fits_call files false call && not (is_constructor call)) index call.0 call.1 in
      let tests = and_parts (fits_call files false call.0) _ says.tested in
      let fits = fit from names_class_method (λ call. fits_call files false call && not (is_constructor call)) call.0 false says tests.0 in
      let plain = not_true_is (is_constructor call.0) tests.1 in
      let never : is_interface (flags_of files call.0.class) ≡ false = sym fits.interface_is ∙ not_true_is call.0.named.of_interface says.tagged in
      let upper = own_method call.0.named.member.name call.0.named.member.descriptor call.0.found fits.named fits.static_is plain in
      subst Virtual is (
        plain,
        λ class concrete below. finds call.0 fits plain class concrete (supers_lead files gathers class call.0.class (super_fits files gathers class call.0.class never below)),
        no_array_fits files gathers call.0.class never (λ zero_is.
            let low = library_above files call.0.class call.0.found.class (omega (arith, zero_is)) fits.below in omega (arith, low, upper)),
      )

  abbrev ByInterface : MethodUse → Type 0
  ByInterface used = (is_named_constructor used ≡ false) × ((class : ℕ) → IsConcrete world class → is_subclass files class used.class ≡ true → Finds world used class)

  pub named_interface : (from : ℕ) (pool : Slots) (count index : ℕ) (used : MethodUse) → interface_call files from pool count index ≡ Ok used → ByInterface used
  named_interface from pool count index used e =
      let call = then_ok (λ call. Ok (use_of files call call.found)) (call_used files from pool names_interface_method (λ call. fits_call files false call && (not (is_constructor call) && nat_eq count (argument_places call.type))) index) used e in
      let is : use_of files call.0 call.0.found ≡ used = cc in
      let says = call_says files from pool names_interface_method (λ call. fits_call files false call && (not (is_constructor call) && nat_eq count (argument_places call.type))) index call.0 call.1 in
      let tests = and_parts (fits_call files false call.0) _ says.tested in
      let fits = fit from names_interface_method (λ call. fits_call files false call && (not (is_constructor call) && nat_eq count (argument_places call.type))) call.0 false says tests.0 in
      let plain = not_true_is (is_constructor call.0) (and_parts (not (is_constructor call.0)) _ tests.1).0 in
      subst ByInterface is (plain, λ class concrete below. finds call.0 fits plain class concrete (subclass_is files class call.0.class below))
