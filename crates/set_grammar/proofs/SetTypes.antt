-- The types of the image of an accepted set of files of bytes are of the grammar: each class stands behind those above it.
use Rattle.std.proofs.Common.{◌≡◌, inl, inr, ℕ, ◌-◌, ◌^◌, ◌<◌, ◌≤◌, Bool, true, false, not, nat_lt, if◌then◌else◌, List, [], ◌∷◌, ◌++◌, map, length, slice_get, Option, Some, None, refl, sym, ap, subst, ◌∙◌, arith, append_assoc, length-append}
use Rattle.std.specs.Bool.{IsTrue}
use Rattle.std.specs.List.{AllByRecursion, flat_map}
use Rattle.std.specs.Option.{option_map_or, option_to_list}
use Rattle.std.proofs.lemmas.Bool.{cases_lt, lt-ltb}
use Rattle.std.proofs.lemmas.List.{length-map}
use Rattle.std.proofs.lemmas.Option.{slice_get_within}
use Rattle.library.specs.Classes.{first_own, is_library_class}
use Rattle.class_pool.specs.declared.types.TypeRef.{TypeRef}
use Rattle.class_file.specs.Rules.{is_abstract, is_interface}
use Rattle.class_file.specs.declared.record.ClassFile.{ClassFile}
use Rattle.class_tree.specs.DirectSupers.{superclass_of, superinterfaces_of}
use Rattle.class_tree.specs.Set.{IsClass, file_of, flags_of}
use Rattle.class_tree.specs.Subtypes.{class_type}
use Rattle.class_tree.specs.Tree.{Gathers}
use Rattle.class_tree.proofs.ancestors.Superclasses.{next_class, ranked}
use Rattle.image_form.specs.Grammar.{EachAfter, IsClass as IsClassEntry, IsInterface, IsType}
use Rattle.image_form.specs.Library.{entry_nums, entry_refs, is_interface_entry, is_parent_entry, names_parent, nums_of, refs_of}
use Rattle.image_form.specs.declared.record.TypeEntry.{TypeEntry}
use Rattle.jvm_model.specs.ImageNumbering.{Numbering, class_order, is_among, layout_of}
use Rattle.jvm_model.specs.ImageTables.{class_entry_of, class_id, entry_of}
use Rattle.class_order.proofs.AmongNumbers.{among_here, among_right}
use Rattle.class_order.proofs.ClassOrders.{right_order}
use Rattle.class_order.proofs.SetClasses.{has_file, uppers, uppers_in}
use Rattle.type_rounds.proofs.tables.Lists.{all_both, all_given, all_suffix}
use Rattle.type_safety.proofs.facts.Declared.{file_at}
use Rattle.type_safety.proofs.facts.RunMethods.{own_file}
use Rattle.type_safety.proofs.facts.ConstructorCalls.{super_no_interface}
use Rattle.type_safety.proofs.fitting.SetLists.{all_at}
use Rattle.set_image.specs.Linked.{image_in, numbering_in}
use Rattle.set_image.proofs.CountLimits.{AreWithin, are_within}
use Rattle.set_image.proofs.NoRefusals.{no_refusal}
use Rattle.set_grammar.specs.Parts.{HasTypes, OfEachImageOfBytes}
use Rattle.set_grammar.proofs.ClassRows.{good_rows}
use Rattle.set_grammar.proofs.ClassUppers.{IsBefore, by_place, each_among, entries, entries_few, entries_join, flags_few, flags_tell, library_id_is, one_entry, placed, some_file, superinterfaces_are, superinterfaces_few}
use Rattle.set_grammar.proofs.EachItems.{each_of_all}
use Rattle.set_grammar.proofs.ObjectLayouts.{nums_cover, object_fits, refs_cover}
use Rattle.set_grammar.proofs.ReadCounts.{HasFewCounts, counts_fit}
use Rattle.set_grammar.proofs.ReadInitialisers.{records_keep}
use Rattle.set_grammar.proofs.ShownTypes.{types_are_classes}

module _ (files : List ClassFile) (numbering : Numbering) (closed : Gathers files None) (types : numbering.types ≡ map class_type (class_order files)) (counts : AreWithin files numbering)
    (few : AllByRecursion HasFewCounts files) where
  abbrev types_of : List ℕ → List TypeEntry
  types_of classes = entries files numbering classes

  -- ---- a class at its place in the order

  module _ (before after : List ℕ) (class : ℕ) (is : class_order files ≡ before ++ class ∷ after) (file : ClassFile) (found : file_of files class ≡ Some file) where
    own : first_own ≤ class
    own = (file_at files class file found).own

    there : slice_get files (class - 32) ≡ Some file
    there = sym (own_file files class own) ∙ found

    few_before : length before ≤ 4064
    few_before =
        let all = ap (λ (list : List ℕ). length list) is in
        let numbered = ap (λ (list : List TypeRef). length list) types in
        let limit = counts.types in
        omega (arith, all, numbered, limit, length-map (class_order files) class_type, length-append before (class ∷ after))

    -- what is above it and has a file comes before it
    above_before : (upper : ℕ) → is_among upper (uppers files class) ≡ true → IsClass files upper → first_own ≤ upper → IsBefore files numbering before upper
    above_before upper among inside from =
        let right = right_order files closed in
        placed files numbering closed types before after class is upper (right.above before after class is upper among (has_file files upper inside from))

    -- ---- the superclass

    record IsParent (id refs nums : ℕ) : Type 0 where
      fits : id < 2 ^ 16
      named : IsTrue (names_parent (types_of before) id)
      refs_are : refs_of (types_of before) id ≡ refs
      nums_are : nums_of (types_of before) id ≡ nums

    abbrev IsCovered : ℕ → Type 0
    IsCovered id = (refs : ℕ) × (nums : ℕ) × IsParent id refs nums × (refs ≤ (layout_of files class).refs) × (nums ≤ (layout_of files class).nums)

    low_parent : (upper : ℕ) → upper < 15 → IsCovered upper
    low_parent upper lt =
        let small : nat_lt upper 32 ≡ true = lt-ltb upper 32 (omega (arith, lt)) in
        let list = types_of before in (
          0,
          0,
          record {
            fits = omega (arith, lt);
            named = ap (λ (b : Bool). if b then is_library_class upper else is_parent_entry (slice_get list (upper - first_own))) small ∙ lt-ltb upper 15 lt;
            refs_are = ap (λ (b : Bool). if b then 0 else entry_refs (slice_get list (upper - first_own))) small;
            nums_are = ap (λ (b : Bool). if b then 0 else entry_nums (slice_get list (upper - first_own))) small;
          },
          omega arith,
          omega arith,
        )

    file_parent : (upper : ℕ) → superclass_of files class ≡ Some upper → IsBefore files numbering before upper → IsCovered (class_id numbering upper)
    file_parent upper super at =
        let list = types_of before in
        let id = class_id numbering upper in
        let ranks = ranked files closed in
        let id_is = at.id in
        let within = at.within in
        let flags : flags_of files upper ≡ at.file.flags = ap (λ (o : Option ClassFile). option_map_or (λ (f : ClassFile). f.flags) o 1) at.file_is in
        let plain : is_interface at.file.flags ≡ false = ap is_interface (sym flags) ∙ super_no_interface files closed class upper own file there super in (
          (layout_of files upper).refs,
          (layout_of files upper).nums,
          record {
            fits = omega (arith, id_is, within, few_before);
            named = by_place (is_library_class id) is_parent_entry list id at.place at.id ∙ ap is_parent_entry at.entry ∙ ap not (flags_tell (is_interface at.file.flags) (is_abstract at.file.flags)) ∙ ap not plain;
            refs_are = by_place 0 entry_refs list id at.place at.id ∙ ap entry_refs at.entry;
            nums_are = by_place 0 entry_nums list id at.place at.id ∙ ap entry_nums at.entry;
          },
          refs_cover files ranks.0 ranks.1 class upper super,
          nums_cover files ranks.0 ranks.1 class upper super,
        )

    parent_covered : (upper : ℕ) → superclass_of files class ≡ Some upper → IsClass files upper → IsCovered (class_id numbering upper)
    parent_covered upper super (inl low) = subst IsCovered (sym (library_id_is files numbering upper (omega (arith, low)))) (low_parent upper low)
    parent_covered upper super (inr from) =
        let among : is_among upper (uppers files class) ≡ true =
        ap (λ (o : Option ℕ). is_among upper (option_to_list o ++ superinterfaces_of files class)) super ∙ among_here upper (superinterfaces_of files class) in
        file_parent upper super (above_before upper among (inr from) from.0)

    abbrev parent_id : ℕ
    parent_id = option_map_or (class_id numbering) (superclass_of files class) 0

    covered : IsCovered parent_id
    covered =
        elim (next_class files closed class (inr (own, file_within))) [
          | inl object ↦ absurd (omega (arith, object, own))
          | inr next ↦ subst IsCovered (sym (ap (λ (o : Option ℕ). option_map_or (class_id numbering) o 0) next.1)) (parent_covered next.0 next.1 next.2)
        ]
      where
        file_within : class - 32 < length files
        file_within = slice_get_within files (class - 32) file there

    -- ---- the superinterfaces

    one_interface : (upper : ℕ) → IsClass files upper → is_among upper (superinterfaces_of files class) ≡ true → is_interface (flags_of files upper) ≡ true → IsInterface (types_of before) (class_id numbering upper)
    one_interface upper inside among interface =
        elim (cases_lt upper first_own) [
          | inl low ↦
              let flags : flags_of files upper ≡ 1 = ap (λ (b : Bool). option_map_or (λ (f : ClassFile). f.flags) (if b then None else slice_get files (upper - first_own)) 1) (lt-ltb upper first_own low) in
              absurd (let bad : true ≡ false = sym interface ∙ ap is_interface flags in cc)
          | inr from ↦
              let at = above_before upper (among_right upper (option_to_list (superclass_of files class)) (superinterfaces_of files class) among) inside from in
              let id = class_id numbering upper in
              let id_is = at.id in
              let within = at.within in
              let flags : flags_of files upper ≡ at.file.flags = ap (λ (o : Option ClassFile). option_map_or (λ (f : ClassFile). f.flags) o 1) at.file_is in (
                omega (arith, id_is, within, few_before),
                by_place false is_interface_entry (types_of before) id at.place at.id ∙ ap is_interface_entry at.entry ∙ flags_tell (is_interface at.file.flags) (is_abstract at.file.flags)
                    ∙ ap is_interface (sym flags) ∙ interface,
              )
        ]

    abbrev IsGood : ℕ → Type 0
    IsGood upper = IsInterface (types_of before) (class_id numbering upper)

    all_interfaces : AllByRecursion IsGood (superinterfaces_of files class)
    all_interfaces =
        let supers = superinterfaces_of files class in
        all_both (λ upper. is_interface (flags_of files upper) ≡ true) (λ upper. IsClass files upper × (is_among upper supers ≡ true)) IsGood
        (λ upper interface both. one_interface upper both.0 both.1 interface) supers (superinterfaces_are files closed class file there found)
        (all_both (IsClass files) (λ upper. is_among upper supers ≡ true) (λ upper. IsClass files upper × (is_among upper supers ≡ true)) (λ upper inside among. (inside, among)) supers
        (all_suffix (IsClass files) (option_to_list (superclass_of files class)) supers (uppers_in files class own)) (each_among supers))

    -- ---- its entry

    is_class : IsClassEntry (types_of before) (class_entry_of files numbering class file)
    is_class =
        let parent = covered in
        let good = parent.2 in
        let refs = good.refs_are in
        let nums = good.nums_are in
        let rows = good_rows files numbering counts.methods class file.flags counts.selectors in
        let fits = object_fits files counts.layouts class file found in
        let read = all_at HasFewCounts files few (class - 32) file there in
        let supers = superinterfaces_of files class in
        let read_interfaces = read.interfaces in
        let more_refs = parent.3 in
        let more_nums = parent.4 in
        record {
          parent_fits = good.fits;
          parent_is = good.named;
          flags_are = flags_few (is_interface file.flags) (is_abstract file.flags);
          refs_cover = omega (arith, refs, more_refs);
          nums_cover = omega (arith, nums, more_nums);
          object_fits = omega (arith, fits);
          interfaces_fit = omega (arith, read_interfaces, superinterfaces_few files class file found, length-map supers (class_id numbering));
          interfaces_are = each_of_all (IsInterface (types_of before)) (map (class_id numbering) supers) (all_given (IsInterface (types_of before)) (class_id numbering) supers all_interfaces);
          rows_fit = rows.fit;
          rows_hold = rows.hold;
          rows_are = rows.are;
          name_fits = read.name;
        }

  -- ---- all of them

  each_type : (before after : List ℕ) → class_order files ≡ before ++ after → EachAfter IsType (types_of before) (types_of after)
  each_type before [] is = tt
  each_type before (class ∷ after) is =
      let right = right_order files closed in
      let file = some_file files numbering class (right.only class (ap (is_among class) is ∙ among_right class before (class ∷ after) (among_here class after))) in
      subst (λ (list : List TypeEntry). EachAfter IsType (types_of before) (list ++ types_of after)) (sym (one_entry files numbering class file.0 file.1)) (
        is_class before after class is file.0 file.1,
        subst (λ (list : List TypeEntry). EachAfter IsType list (types_of after)) (entries_join files numbering before class file.0 file.1)
            (each_type (before ++ class ∷ []) after (is ∙ sym (append_assoc before (class ∷ []) after))),
      )

pub types_are : OfEachImageOfBytes HasTypes
types_are files linked bytes is =
    let none = no_refusal linked is.accepted in
    let of = is.of_files in
    let set = of.is_linked in
    let classes = linked.classes in
    let numbering = numbering_in linked in
    let counts = are_within classes numbering none.counts in
    let types = types_are_classes linked none in
    let order = class_order classes in
    let counts_few = records_keep HasFewCounts (λ bytes. AllByRecursion (λ byte. byte < 256) bytes) counts_fit files classes bytes of.records in
    let same : (image_in linked).types ≡ entries classes numbering order = ap (flat_map (entry_of classes numbering)) types in
    let limit = counts.types in
    let long = ap (λ (list : List TypeEntry). length list) same in
    let numbered = ap (λ (list : List TypeRef). length list) types in
    record {
      fit = omega (arith, limit, long, numbered, length-map order class_type, entries_few classes numbering order);
      are = subst (EachAfter IsType []) (sym same) (each_type classes numbering set.closed types counts counts_few [] order refl);
    }
