-- The rows of the classes of an accepted set have the signatures of their selectors: a row is of a method that is declared
-- with the selector's descriptor, has code, and is called on an object.
use Rattle.std.proofs.Common.{◌≡◌, inl, inr, ℕ, suc, ◌+◌, ◌-◌, ◌≤◌, Bool, true, false, nat_eq, if◌then◌else◌, List, [], ◌∷◌, ◌++◌, slice_get, Option, Some, None, option_map, refl, sym, ap, subst, ◌∙◌, arith}
use Rattle.std.specs.List.{AllByRecursion, cons_option, filter_map, flat_map}
use Rattle.std.specs.Option.{option_map_or}
use Rattle.std.specs.Str.{bytes_eq}
use Rattle.std.proofs.lemmas.Bool.{and_parts, cases_lt, le-ltb}
use Rattle.std.proofs.lemmas.Option.{slice_get-map, slice_get_within}
use Rattle.std.proofs.lemmas.Slice.Eq.{bytes_eq-Decides}
use Rattle.library.specs.Classes.{first_own}
use Rattle.class_pool.specs.declared.descriptor.Descriptor.{Descriptor}
use Rattle.class_pool.specs.declared.descriptor.Kind.{Kind}
use Rattle.class_pool.specs.declared.types.MemberId.{MemberId}
use Rattle.class_pool.specs.DescriptorReading.{method_of as method_type}
use Rattle.class_file.specs.Rules.{is_abstract, is_interface, is_static}
use Rattle.class_file.specs.declared.record.ClassFile.{ClassFile}
use Rattle.class_tree.specs.Members.{Declaration, methods_of}
use Rattle.class_tree.specs.Selection.{select}
use Rattle.class_tree.specs.Set.{file_of, flags_of}
use Rattle.class_tree.proofs.merging.SubtypeFits.{supers_lead}
use Rattle.image_form.specs.Grammar.{Each, HasOneSignature, HasSignatures}
use Rattle.image_form.specs.Library.{library_signatures, signature_in}
use Rattle.image_form.specs.declared.record.DispatchRow.{DispatchRow}
use Rattle.image_form.specs.declared.record.Method.{Method}
use Rattle.image_form.specs.declared.record.TypeEntry.{TypeEntry}
use Rattle.image_form.specs.declared.record.TypeEntry.TheVariants as entry
use Rattle.body_form.specs.declared.op.MethodUse.{MethodUse}
use Rattle.jvm_model.specs.declared.numbers.Selector.{Selector}
use Rattle.jvm_model.specs.ImageEmission.{method_of}
use Rattle.jvm_model.specs.ImageNumbering.{class_order, is_selected, selector_order}
use Rattle.jvm_model.specs.ImageTables.{class_entry_of, entry_flags, entry_of, numbered, row_for, rows_of, selector_signature}
use Rattle.jvm_model.specs.MethodUses.{constructor_name, has_code}
use Rattle.jvm_model.specs.WidthsFrame.{signature_for}
use Rattle.mote_model.specs.SplitState.{method_at}
use Rattle.type_rounds.proofs.tables.Lists.{all_both, all_each}
use Rattle.type_safety.specs.Facts.{RunsBody}
use Rattle.type_safety.proofs.facts.CodeRead.{IsRead, files_read}
use Rattle.type_safety.proofs.facts.Declared.{file_at}
use Rattle.type_safety.proofs.facts.FoundMethods.{IsSelected, lacks_none, selected, selects_body}
use Rattle.type_safety.proofs.facts.LibraryMethods.{library_method, static_or_constructor}
use Rattle.type_safety.proofs.facts.RunMethods.{IsCalled, has_code_where, method_of_file, runs_body}
use Rattle.type_safety.proofs.fitting.SetLists.{all_contained, false_is_true, not_true_is, true_or_false}
use Rattle.match_states.specs.Setting.{IsCompiledBody, Setting, id_for, source_for}
use Rattle.match_code.proofs.MatchedCode.{found_body}
use Rattle.set_image.specs.Linked.{Linked, IsOfFiles, bodies_of, image_in, numbering_in}
use Rattle.set_image.specs.LinkRefusals.{IsAccepted}
use Rattle.set_image.proofs.NoRefusals.{no_refusal}
use Rattle.set_compile.specs.Compiled.{SetsCompile}
use Rattle.set_compile.specs.Settings.{setting_of, world_of}
use Rattle.set_grammar.specs.Parts.{HasRows, OfEachImage}
use Rattle.set_grammar.proofs.ClassUppers.{entries}
use Rattle.set_grammar.proofs.EachItems.{each_of_all}
use Rattle.set_grammar.proofs.PlainSelectors.{IsPlain, all_plain}
use Rattle.set_grammar.proofs.SetMain.{is_placed}
use Rattle.set_grammar.proofs.SetSelectors.{IsFew, selectors_few, selectors_have}
use Rattle.set_grammar.proofs.ShownTypes.{types_are_classes}

-- ---- selectors

record IsGood (selector : Selector) : Type 0 where
  few : IsFew selector.descriptor
  method : bytes_eq selector.name constructor_name ≡ false
  plain : IsPlain selector

-- no constructor is selected
no_constructors : (files : List ClassFile) → AllByRecursion (λ (selector : Selector). bytes_eq selector.name constructor_name ≡ false) (selector_order files)
no_constructors files =
    selectors_have files (λ d. bytes_eq d.name constructor_name ≡ false) (λ selector. bytes_eq selector.name constructor_name ≡ false) (λ d e. e)
    (λ class. all_each (λ d. is_selected d ≡ true → bytes_eq d.name constructor_name ≡ false) (λ d e. not_true_is (bytes_eq d.name constructor_name) (and_parts _ _ (and_parts _ _ (and_parts _ _ e).1).1).0) (methods_of files class))

-- ---- flags

concrete_is : (interface abstract : Bool) → nat_eq ((if interface then 1 else 0) + (if abstract then 2 else 0)) 0 ≡ true → abstract ≡ false
concrete_is true true e = absurd (let bad : false ≡ true = e in cc)
concrete_is true false e = refl
concrete_is false true e = absurd (let bad : false ≡ true = e in cc)
concrete_is false false e = refl

same_id : (a b : MemberId) (o : Option MemberId) → o ≡ Some a → o ≡ Some b → a ≡ b
same_id a b o e f = cc

-- ---- a row

module _ (compile : SetsCompile) (files : List (List ℕ)) (linked : Linked) (is : IsAccepted files linked) where
  abbrev of : IsOfFiles files linked
  of = is.of_files

  abbrev classes : List ClassFile
  classes = linked.classes

  abbrev setting : Setting
  setting = setting_of linked

  read : AllByRecursion IsRead classes
  read = files_read 0 files classes of.records of.codes

  module _ (class : ℕ) (file : ClassFile) (found : file_of classes class ≡ Some file) (concrete : is_abstract file.flags ≡ false) (selector : Selector) (good : IsGood selector)
      (member : MemberId) (selects : select classes selector.name selector.descriptor class ≡ Some member) where
    chosen : IsSelected classes selector.name selector.descriptor class member
    chosen = selected classes selector.name selector.descriptor class member selects

    -- a class of a file declares it
    own : 32 ≤ member.class
    own =
        let named = chosen.named in
        elim (cases_lt member.class 32) [
          | inl low ↦
              let n = library_method classes member.class member.member named.declaration low named.there in
              elim (static_or_constructor n.native) [
                | inl static ↦ false_is_true (is_static named.declaration.flags) (ap (λ (d : Declaration). is_static d.flags) (sym n.is) ∙ static) chosen.static
                | inr name ↦
                    let same : selector.name ≡ constructor_name = sym named.name_is ∙ ap (λ (d : Declaration). d.name) (sym n.is) ∙ name in
                    false_is_true (bytes_eq selector.name constructor_name) ((bytes_eq-Decides selector.name constructor_name).1 same) good.method
              ]
          | inr from ↦ from
        ]

    -- it has code: where an abstract method is above a class with objects, the class selects another one
    coded : has_code classes member ≡ true
    coded =
        let named = chosen.named in
        let set = of.is_linked in
        elim (true_or_false (is_abstract named.declaration.flags)) [
          | inl abstract ↦
              let has = file_at classes class file found in
              let flags : is_abstract (flags_of classes class) ≡ false = ap (λ (o : Option ClassFile). is_abstract (option_map_or (λ (f : ClassFile). f.flags) o 1)) found ∙ concrete in
              let stands = method_of_file classes member.class member.member named.declaration own named.there in
              let lt = slice_get_within classes (member.class - 32) stands.has.file stands.has.is in
              let other = selects_body classes class (lacks_none classes of.links class has) flags member.class (omega (arith, lt, own)) (supers_lead classes set.closed class member.class chosen.above)
              member.member named.declaration named.there abstract in
              let same : select classes selector.name selector.descriptor class ≡ Some other.0 =
              ap (λ (n : List ℕ). select classes n selector.descriptor class) (sym named.name_is) ∙ ap (λ (d : List ℕ). select classes named.declaration.name d class) (sym named.descriptor_is) ∙ other.1 in
              ap (has_code classes) (same_id member other.0 (select classes selector.name selector.descriptor class) selects same) ∙ other.2
          | inr other ↦ has_code_where classes read member named.declaration named.there other
        ]

    abbrev used : MethodUse
    used = let few = good.few in record { method = member; name = selector.name; descriptor = few.type; class = class; private = false }

    runs : RunsBody (world_of linked) member used true
    runs =
        let named = chosen.named in
        let few = good.few in
        let set = of.is_linked in
        let called : IsCalled classes member used true =
        record { declaration = named.declaration; there = named.there; name_is = named.name_is; type = ap method_type named.descriptor_is ∙ few.typed; named = good.plain; static = chosen.static } in
        runs_body (world_of linked) read set.are_bodies member used true called own coded

    same_signature : Some (signature_for runs.body.instance runs.body.params runs.body.result) ≡ Some (selector_signature selector)
    same_signature =
        let body = runs.body in
        let few = good.few in
        let type = few.type in
        ap (λ instance. Some (signature_for instance body.params body.result)) runs.object ∙ ap (λ (params : List Kind). Some (signature_for true params body.result)) runs.params
        ∙ ap (λ (result : Option Kind). Some (signature_for true type.params result)) runs.result
        ∙ sym (ap (λ (o : Option Descriptor). Some (option_map_or (λ (d : Descriptor). signature_for true d.params d.result) o (record { refs = 1; cells = 0; result = 0 }))) few.typed)

    -- its method has the signature of the selector
    has_signature : signature_in (image_in linked).methods (id_for setting member) ≡ Some (selector_signature selector)
    has_signature =
        let body = runs.body in
        let image = image_in linked in
        let id = id_for setting member in
        let compiled = compile files linked of in
        let there = found_body (bodies_of linked) member body runs.found in
        let one = all_contained (IsCompiledBody setting) (bodies_of linked) compiled.bodies body there.of_set in
        let method = method_of (source_for setting body) in
        let placed = is_placed image id method (ap (λ (m : MemberId). method_at image (id_for setting m)) (sym there.method) ∙ one.method) in
        ap (λ (library : Bool). if library then slice_get library_signatures id else option_map (λ (m : Method). m.sig) (slice_get image.methods (id - first_own))) (le-ltb id first_own placed.own)
        ∙ ap (option_map (λ (m : Method). m.sig)) placed.there
        ∙ same_signature

  -- ---- the rows of a class

  abbrev Has : DispatchRow → Type 0
  Has row = HasOneSignature (image_in linked).selectors (image_in linked).methods row

  module _ (class : ℕ) (file : ClassFile) (found : file_of classes class ≡ Some file) (concrete : is_abstract file.flags ≡ false) where
    some_rows : (from : ℕ) (some : List Selector) → ((i : ℕ) (selector : Selector) → slice_get some i ≡ Some selector → slice_get (selector_order classes) (from + i) ≡ Some selector) → AllByRecursion IsGood some
        → AllByRecursion Has (filter_map (row_for classes (numbering_in linked) class) (numbered from some))
    unfolding numbered
    some_rows from [] at good = tt
    some_rows from (selector ∷ some) at good =
        by (select classes selector.name selector.descriptor class) refl
        (some_rows (suc from) some (λ i other e. let next : suc from + i ≡ from + suc i = omega arith in ap (slice_get (selector_order classes)) next ∙ at (suc i) other e) good.1)
      where
        by : (chosen : Option MemberId) → select classes selector.name selector.descriptor class ≡ chosen → AllByRecursion Has (filter_map (row_for classes (numbering_in linked) class) (numbered (suc from) some))
            → AllByRecursion Has (cons_option (option_map (λ member. record { selector = from; method = id_for setting member }) chosen) (filter_map (row_for classes (numbering_in linked) class) (numbered (suc from) some)))
        by None e rest = rest
        by (Some member) e rest =
            let start : from ≡ from + 0 = omega arith in (
              record {
                sig = selector_signature selector;
                selector_is = slice_get-map selector_signature (selector_order classes) from ∙ ap (option_map selector_signature) (ap (slice_get (selector_order classes)) start ∙ at 0 selector refl);
                method_is = has_signature class file found concrete selector good.0 member e;
              },
              rest,
            )

  module _ (good : AllByRecursion IsGood (selector_order classes)) where
    class_rows : (class : ℕ) (file : ClassFile) → file_of classes class ≡ Some file → Each Has (rows_of classes (numbering_in linked) class file.flags)
    class_rows class file found = each_of_all Has (rows_of classes (numbering_in linked) class file.flags) (by (nat_eq (entry_flags file.flags) 0) refl)
      where
        by : (concrete : Bool) → nat_eq (entry_flags file.flags) 0 ≡ concrete
            → AllByRecursion Has (if concrete then filter_map (row_for classes (numbering_in linked) class) (numbered 0 (numbering_in linked).selectors) else [])
        by true e = some_rows class file found (concrete_is (is_interface file.flags) (is_abstract file.flags) e) 0 (selector_order classes) (λ i selector at. let start : 0 + i ≡ i = omega arith in ap (slice_get (selector_order classes)) start ∙ at) good
        by false e = tt

    abbrev HasAll : TypeEntry → Type 0
    HasAll = HasSignatures (image_in linked).selectors (image_in linked).methods

    all_entries : (some : List ℕ) → AllByRecursion HasAll (entries classes (numbering_in linked) some)
    all_entries [] = tt
    all_entries (class ∷ some) = by (file_of classes class) refl (all_entries some)
      where
        by : (o : Option ClassFile) → file_of classes class ≡ o → AllByRecursion HasAll (entries classes (numbering_in linked) some)
            → AllByRecursion HasAll (option_map_or (λ (file : ClassFile). entry.Class (class_entry_of classes (numbering_in linked) class file) ∷ []) o [] ++ entries classes (numbering_in linked) some)
        by None found rest = rest
        by (Some file) found rest = (class_rows class file found, rest)

    some_types : HasRows (image_in linked)
    some_types =
        let numbering = numbering_in linked in
        let same : (image_in linked).types ≡ entries classes numbering (class_order classes) = ap (flat_map (entry_of classes numbering)) (types_are_classes linked (no_refusal linked is.accepted)) in
        each_of_all HasAll (image_in linked).types (subst (AllByRecursion HasAll) (sym same) (all_entries (class_order classes)))

pub rows_are : SetsCompile → OfEachImage HasRows
rows_are compile files linked is =
    let selectors = selector_order linked.classes in
    some_types compile files linked is
    (all_both (λ (s : Selector). IsFew s.descriptor) (λ (s : Selector). (bytes_eq s.name constructor_name ≡ false) × IsPlain s) IsGood (λ s few both. record { few = few; method = both.0; plain = both.1 }) selectors
    (selectors_few files linked is.of_files)
    (all_both (λ (s : Selector). bytes_eq s.name constructor_name ≡ false) IsPlain (λ (s : Selector). (bytes_eq s.name constructor_name ≡ false) × IsPlain s) (λ s method plain. (method, plain)) selectors
    (no_constructors linked.classes) (all_plain linked)))
