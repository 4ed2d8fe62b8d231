-- The selectors of an accepted set are of the grammar: each is of a method that is called on an object and has few
-- arguments.
use Rattle.std.proofs.Common.{◌≡◌, ◌+◌, ◌-◌, ◌≤◌, ◌||◌, ℕ, Bool, true, false, not, cond, nat_lt, List, [], ◌∷◌, ◌++◌, filter, length, map, Option, Some, None, option_and_then, unwrap_or, refl, sym, ap, subst, ◌∙◌, arith, codes}
use Rattle.std.specs.Prelude.{if◌then◌else◌}
use Rattle.std.specs.List.{AllByRecursion, flat_map, fold, list_any}
use Rattle.std.specs.Option.{option_map_or}
use Rattle.std.proofs.lemmas.Bool.{and_parts}
use Rattle.std.proofs.lemmas.List.{length-map}
use Rattle.std.proofs.lemmas.Slice.Eq.{bytes_eq-Decides}
use Rattle.library.specs.Classes.{first_own}
use Rattle.library.specs.Members.{methods_of as natives_of}
use Rattle.library.specs.declared.natives.Native.{Native}
use Rattle.library.specs.declared.natives.Native.TheVariants as native
use Rattle.class_pool.specs.declared.descriptor.Descriptor.{Descriptor}
use Rattle.class_pool.specs.DescriptorReading.{method_of as method_type, params_at, result_of as read_result, kind_at, base_at, brackets, field_of}
use Rattle.class_pool.specs.Pool.{Slots, utf8_at}
use Rattle.class_file.specs.Rules.{is_initialiser as is_initialiser_head, is_named, is_static, is_static_method}
use Rattle.class_file.specs.ReadingMembers.{head_in}
use Rattle.class_file.specs.declared.record.ClassFile.{ClassFile}
use Rattle.class_file.specs.declared.record.Member.{Member}
use Rattle.class_tree.specs.Members.{Declaration, in_file, in_library, methods_of}
use Rattle.class_tree.specs.Set.{file_of}
use Rattle.image_form.specs.Grammar.{IsSelector}
use Rattle.jvm_model.specs.declared.numbers.Selector.{Selector}
use Rattle.jvm_model.specs.ImageNumbering.{class_order, is_selected, is_selector, selector_order, with_selector}
use Rattle.jvm_model.specs.ImageTables.{selector_signature}
use Rattle.jvm_model.specs.Initialisers.{is_reference_kind}
use Rattle.jvm_model.specs.WidthsFrame.{signature_for}
use Rattle.type_rounds.proofs.tables.Lists.{all_both, all_each, all_given, all_map}
use Rattle.type_safety.proofs.facts.ArgumentSlots.{arguments_few}
use Rattle.type_safety.proofs.facts.CodeRead.{IsRead, files_read}
use Rattle.type_safety.proofs.facts.Declared.{file_at}
use Rattle.type_safety.proofs.facts.ReadRules.{MethodRules}
use Rattle.type_safety.proofs.facts.RunMethods.{own_file}
use Rattle.type_safety.proofs.fitting.SetLists.{all_at, none_some, not_true_is, same_some}
use Rattle.set_compile.proofs.KeyedLists.{all_flat}
use Rattle.set_image.specs.Linked.{Linked, IsOfFiles, numbering_in}
use Rattle.set_image.proofs.CountLimits.{are_within}
use Rattle.set_image.proofs.NoRefusals.{no_refusal}
use Rattle.set_grammar.specs.Parts.{HasSelectors, OfEachImage}
use Rattle.set_grammar.proofs.EachItems.{each_of_all}
use Rattle.set_grammar.proofs.MethodSignatures.{all_few, fewer_pass, result_few}
use Rattle.set_grammar.proofs.ReadInitialisers.{KeepsInitialiser, KeepsInitialisers, file_keeps, records_keep}

-- ---- descriptors

-- the descriptor of a method with at most 254 arguments beside the object that it is called on
pub record IsFew (descriptor : List ℕ) : Type 0 where
  pub type : Descriptor
  pub typed : method_type descriptor ≡ Some type
  pub few : 1 + length type.params ≤ 255

few_signature : (type : Descriptor) → 1 + length type.params ≤ 255 → IsSelector (signature_for true type.params type.result)
few_signature type few =
    record {
      has_receiver = omega arith;
      sig_is = record {
        refs_fit = omega (arith, few, fewer_pass is_reference_kind type.params);
        cells_fit = omega (arith, few, all_few type.params);
        result_is = result_few type.result;
      };
    }

pub few_is : (selector : Selector) → IsFew selector.descriptor → IsSelector (selector_signature selector)
few_is selector few =
    subst IsSelector
    (sym (ap (λ (found : Option Descriptor). option_map_or (λ (type : Descriptor). signature_for true type.params type.result) found (record { refs = 1; cells = 0; result = 0 })) few.typed))
    (few_signature few.type few.few)

nothing_taken : method_type (codes "()V") ≡ Some (record { params = []; result = None })
unfolding method_type params_at read_result kind_at base_at brackets field_of
nothing_taken = refl

-- ---- methods of files

either_way : (initialiser : Bool) (named : Bool) → (not initialiser || named) ≡ true → initialiser ≡ true → named ≡ true
either_way true named e is = e
either_way false named e is = absurd (let bad : false ≡ true = is in cc)

module _ (pool : Slots) (m : Member) (flags : ℕ) (rules : MethodRules flags pool m) (keeps : KeepsInitialiser pool m) where
  -- an initialiser takes nothing
  no_params : (text : Option (List ℕ)) → is_named (codes "()V") text ≡ true → option_and_then method_type text ≡ Some rules.type → length rules.type.params ≡ 0
  no_params None named typed = none_some rules.type typed
  no_params (Some text) named typed =
      let is : text ≡ codes "()V" = (bytes_eq-Decides text (codes "()V")).0 named in
      let nothing : Descriptor = record { params = []; result = None } in
      let same : rules.type ≡ nothing = same_some rules.type nothing (sym typed ∙ ap method_type is ∙ nothing_taken) in
      ap (λ (d : Descriptor). length d.params) same

  few_params : is_static m.flags ≡ false → 1 + length rules.type.params ≤ 255
  few_params dynamic = by (is_initialiser_head pool (head_in m)) refl
    where
      by : (initialiser : Bool) → is_initialiser_head pool (head_in m) ≡ initialiser → 1 + length rules.type.params ≤ 255
      by true is =
          let none = no_params (utf8_at pool m.descriptor) (either_way (is_initialiser_head pool (head_in m)) (is_named (codes "()V") (utf8_at pool m.descriptor)) keeps is) rules.typed in
          omega (arith, none)
      by false is =
          let static : is_static_method pool (head_in m) ≡ false = ap (λ b. b || is_initialiser_head pool (head_in m)) dynamic ∙ is in
          subst (λ b. (if b then 0 else 1) + length rules.type.params ≤ 255) static (arguments_few (is_static_method pool (head_in m)) rules.type rules.slots)

  text_few : (text : Option (List ℕ)) → option_and_then method_type text ≡ Some rules.type → 1 + length rules.type.params ≤ 255 → IsFew (unwrap_or text [])
  text_few None typed few = none_some rules.type typed
  text_few (Some text) typed few = record { type = rules.type; typed = typed; few = few }

  method_few : is_static m.flags ≡ false → IsFew (in_file pool m).descriptor
  method_few dynamic = text_few (utf8_at pool m.descriptor) rules.typed (few_params dynamic)

-- ---- what is selected

-- the declaration, where it is selected, has few arguments
abbrev pub IsFewWhere : Declaration → Type 0
IsFewWhere d = is_selected d ≡ true → IsFew d.descriptor

native_where : (n : Native) → IsFewWhere (in_library n)
native_where native.Construct e = absurd (let bad : false ≡ true = e in cc)
native_where native.Write e = absurd (let bad : false ≡ true = e in cc)
native_where native.Read e = absurd (let bad : false ≡ true = e in cc)
native_where native.Print e = absurd (let bad : false ≡ true = e in cc)

file_where : (file : ClassFile) → IsRead file → KeepsInitialisers file → AllByRecursion IsFewWhere (map (in_file file.pool) file.methods)
file_where file read keeps =
    all_given IsFewWhere (in_file file.pool) file.methods
    (all_both (MethodRules file.flags file.pool) (KeepsInitialiser file.pool) (λ m. IsFewWhere (in_file file.pool m))
    (λ m rules kept selected. method_few file.pool m file.flags rules kept (not_true_is (is_static m.flags) (and_parts _ _ selected).0))
    file.methods read.rules.methods keeps)

module _ (files : List ClassFile) (read : AllByRecursion IsRead files) (keep : AllByRecursion KeepsInitialisers files) where
  found_where : (class : ℕ) (found : Option ClassFile) → file_of files class ≡ found → AllByRecursion IsFewWhere (option_map_or (λ (file : ClassFile). map (in_file file.pool) file.methods) found [])
  found_where class None is = tt
  found_where class (Some file) is =
      let has = file_at files class file is in
      let there = sym (own_file files class has.own) ∙ is in
      file_where file (all_at IsRead files read (class - 32) file there) (all_at KeepsInitialisers files keep (class - 32) file there)

  class_where : (class : ℕ) → AllByRecursion IsFewWhere (methods_of files class)
  class_where class = by (nat_lt class first_own)
    where
      by : (library : Bool) → AllByRecursion IsFewWhere (if library then map in_library (natives_of class) else option_map_or (λ (file : ClassFile). map (in_file file.pool) file.methods) (file_of files class) [])
      by true = all_given IsFewWhere in_library (natives_of class) (all_each (λ n. IsFewWhere (in_library n)) native_where (natives_of class))
      by false = found_where class (file_of files class) refl

-- ---- in their order

module _ (P : Declaration → Type 0) (Q : Selector → Type 0) (each : (d : Declaration) → P d → Q (record { name = d.name; descriptor = d.descriptor })) where
  one_selector : (selectors : List Selector) (d : Declaration) → AllByRecursion Q selectors → P d → AllByRecursion Q (with_selector selectors d)
  one_selector selectors d all is = by (list_any (is_selector d.name d.descriptor) selectors)
    where
      behind : (selectors : List Selector) → AllByRecursion Q selectors → AllByRecursion Q (selectors ++ record { name = d.name; descriptor = d.descriptor } ∷ [])
      behind [] all = (each d is, tt)
      behind (selector ∷ selectors) all = (all.0, behind selectors all.1)

      by : (there : Bool) → AllByRecursion Q (if there then selectors else selectors ++ record { name = d.name; descriptor = d.descriptor } ∷ [])
      by true = all
      by false = behind selectors all

  all_selectors : (selectors : List Selector) (declarations : List Declaration) → AllByRecursion Q selectors → AllByRecursion P declarations → AllByRecursion Q (fold with_selector selectors declarations)
  all_selectors selectors [] all are = all
  all_selectors selectors (d ∷ declarations) all are = all_selectors (with_selector selectors d) declarations (one_selector selectors d all are.0) are.1

-- what of declarations holds where they are selected, holds of those that are
selected_have : (P : Declaration → Type 0) (declarations : List Declaration) → AllByRecursion (λ d. is_selected d ≡ true → P d) declarations → AllByRecursion P (filter is_selected declarations)
selected_have P [] all = tt
selected_have P (d ∷ declarations) all = by (is_selected d) refl (selected_have P declarations all.1)
  where
    by : (selected : Bool) → is_selected d ≡ selected → AllByRecursion P (filter is_selected declarations) → AllByRecursion P (cond selected (d ∷ filter is_selected declarations) (filter is_selected declarations))
    by true is rest = (all.0 is, rest)
    by false is rest = rest

-- each selector is of a method that is selected
pub selectors_have : (files : List ClassFile) (P : Declaration → Type 0) (Q : Selector → Type 0) → ((d : Declaration) → P d → Q (record { name = d.name; descriptor = d.descriptor }))
    → ((class : ℕ) → AllByRecursion (λ d. is_selected d ≡ true → P d) (methods_of files class)) → AllByRecursion Q (selector_order files)
selectors_have files P Q each classes =
    let declarations = flat_map (methods_of files) (class_order files) in
    all_selectors P Q each [] (filter is_selected declarations) tt
    (selected_have P declarations (all_flat (λ d. is_selected d ≡ true → P d) (methods_of files) classes (class_order files)))

-- ---- a set

no_fit : (files : List (List ℕ)) → AllByRecursion (λ bytes. Unit {0}) files
no_fit files = all_each (λ bytes. Unit {0}) (λ bytes. tt) files

-- the selectors of linked files
pub selectors_few : (files : List (List ℕ)) (linked : Linked) → IsOfFiles files linked → AllByRecursion (λ (selector : Selector). IsFew selector.descriptor) (selector_order linked.classes)
selectors_few files linked of =
    let read = files_read 0 files linked.classes of.records of.codes in
    let keep = records_keep KeepsInitialisers (λ bytes. Unit {0}) (λ bytes file fit at. file_keeps bytes file at) files linked.classes (no_fit files) of.records in
    selectors_have linked.classes (λ d. IsFew d.descriptor) (λ selector. IsFew selector.descriptor) (λ d few. few) (class_where linked.classes read keep)

pub selectors_are : OfEachImage HasSelectors
selectors_are files linked is =
    let none = no_refusal linked is.accepted in
    let numbering = numbering_in linked in
    let within = are_within linked.classes numbering none.counts in
    record {
      fit = let few = within.selectors in omega (arith, few, length-map numbering.selectors selector_signature);
      are = each_of_all IsSelector (map selector_signature numbering.selectors)
          (all_given IsSelector selector_signature numbering.selectors
          (all_map (λ (selector : Selector). IsFew selector.descriptor) (λ selector. IsSelector (selector_signature selector)) few_is numbering.selectors (selectors_few files linked is.of_files)));
    }
