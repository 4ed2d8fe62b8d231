-- What stands directly above a class of a closed set has an id below that of the class, and is of its kind: the superclass is
-- no interface, and each superinterface is one.
use Rattle.std.proofs.Common.{◌≡◌, ℕ, suc, ◌+◌, ◌-◌, ◌%◌, ◌==◌, ◌<◌, ◌≤◌, Bool, true, false, ◌||◌, not, nat_eq, nat_lt, if◌then◌else◌, List, [], ◌∷◌, ◌++◌, map, length, slice_get, Option, Some, None, is_some, unwrap_or, refl, sym, ap, subst, ◌∙◌, arith, append-nil, append_assoc, length-append}
use Rattle.std.specs.List.{AllByRecursion, cons_option, filter_map, flat_map, list_any}
use Rattle.std.specs.Option.{option_map_or}
use Rattle.std.proofs.lemmas.Bool.{le-ltb, lt-ltb}
use Rattle.std.proofs.lemmas.Grind.{flat_map-append}
use Rattle.std.proofs.lemmas.List.{map-append}
use Rattle.library.specs.Classes.{first_own}
use Rattle.class_pool.specs.declared.types.TypeRef.{TypeRef}
use Rattle.class_file.specs.Rules.{is_interface}
use Rattle.class_file.specs.declared.record.ClassFile.{ClassFile}
use Rattle.class_tree.specs.DirectSupers.{superinterfaces_of}
use Rattle.class_tree.specs.Set.{file_of, flags_of, named_among, own_name}
use Rattle.class_tree.specs.Subtypes.{class_type}
use Rattle.class_tree.specs.Supers.{has_bad_super, is_bad_interface, is_bad_superclass, lacks_super, super_fault, supers_refusal}
use Rattle.class_tree.specs.Tree.{Gathers}
use Rattle.class_tree.specs.declared.refusal.TreeRefusal.{TreeRefusal}
use Rattle.class_tree.specs.declared.refusal.TreeRefusal.TheVariants.{BadSuper, MissingClass}
use Rattle.class_tree.proofs.ancestors.Leading.{or_right}
use Rattle.class_tree.proofs.ancestors.Superclasses.{passed}
use Rattle.image_form.specs.declared.record.TypeEntry.{TypeEntry}
use Rattle.image_form.specs.declared.record.TypeEntry.TheVariants as entry
use Rattle.jvm_model.specs.ImageNumbering.{Numbering, class_order, is_among, is_type, number_from, type_id}
use Rattle.jvm_model.specs.ImageTables.{class_entry_of, class_id, entry_of}
use Rattle.class_order.proofs.AmongNumbers.{among_here, among_left}
use Rattle.class_order.proofs.ClassOrders.{right_order}
use Rattle.class_order.proofs.SetClasses.{is_file, is_own}
use Rattle.type_rounds.proofs.tables.Lists.{all_map}
use Rattle.type_safety.proofs.fitting.SetLists.{none_some}
use Rattle.follow_numbers.proofs.ClassPlaces.{first_place, id_is}

-- ---- entries

-- the flags of an entry tell whether it is an interface
pub flags_tell : (interface abstract : Bool) → (((if interface then 1 else 0) + (if abstract then 2 else 0)) % 2 == 1) ≡ interface
flags_tell true true = refl
flags_tell true false = refl
flags_tell false true = refl
flags_tell false false = refl

pub flags_few : (interface abstract : Bool) → (if interface then 1 else 0) + (if abstract then 2 else 0) ≤ 3
flags_few true true = omega arith
flags_few true false = omega arith
flags_few false true = omega arith
flags_few false false = omega arith

-- what is said of an id behind those of the library is said of its place
pub by_place : {X : Type 0} (low : X) (says : Option TypeEntry → X) (types : List TypeEntry) (id place : ℕ) → id ≡ 32 + place → (if nat_lt id first_own then low else says (slice_get types (id - first_own))) ≡ says (slice_get types place)
by_place low says types id place is =
    let own : first_own ≤ id = omega (arith, is) in
    let back : id - first_own ≡ place = omega (arith, is) in
    ap (λ (library : Bool). if library then low else says (slice_get types (id - first_own))) (le-ltb id first_own own) ∙ ap (λ (n : ℕ). says (slice_get types n)) back

module _ (files : List ClassFile) (numbering : Numbering) where
  -- the entries of these classes
  abbrev pub entries : List ℕ → List TypeEntry
  entries classes = flat_map (entry_of files numbering) (map class_type classes)

  pub one_entry : (class : ℕ) (file : ClassFile) → file_of files class ≡ Some file → entry_of files numbering (class_type class) ≡ entry.Class (class_entry_of files numbering class file) ∷ []
  one_entry class file is = ap (λ (found : Option ClassFile). option_map_or (λ (file : ClassFile). entry.Class (class_entry_of files numbering class file) ∷ []) found []) is

  pub some_file : (class : ℕ) → is_own files class ≡ true → (file : ClassFile) × (file_of files class ≡ Some file)
  some_file class own = by (file_of files class) refl own
    where
      by : (found : Option ClassFile) → file_of files class ≡ found → is_some found ≡ true → (file : ClassFile) × (file_of files class ≡ Some file)
      by None is some = absurd (let bad : false ≡ true = some in cc)
      by (Some file) is some = (file, is)

  pub entries_join : (before : List ℕ) (class : ℕ) (file : ClassFile) → file_of files class ≡ Some file → entries (before ++ class ∷ []) ≡ entries before ++ entry.Class (class_entry_of files numbering class file) ∷ []
  entries_join before class file is =
      ap (flat_map (entry_of files numbering)) (map-append class_type before (class ∷ []))
      ∙ flat_map-append (entry_of files numbering) (map class_type before) (class_type class ∷ [])
      ∙ ap (λ (list : List TypeEntry). entries before ++ (list ++ [])) (one_entry class file is)

  pub entries_few : (classes : List ℕ) → length (entries classes) ≤ length classes
  entries_few [] = omega arith
  entries_few (class ∷ classes) = by (file_of files class) (entries_few classes)
    where
      by : (found : Option ClassFile) → length (entries classes) ≤ length classes
          → length (option_map_or (λ (file : ClassFile). entry.Class (class_entry_of files numbering class file) ∷ []) found [] ++ entries classes) ≤ length (class ∷ classes)
      by None few = omega (arith, few)
      by (Some file) few = omega (arith, few)

  entry_here : (before : List ℕ) (class : ℕ) (file : ClassFile) (rest : List TypeRef) → ((first : ℕ) → is_among first before ≡ true → is_own files first ≡ true) → file_of files class ≡ Some file
      → slice_get (flat_map (entry_of files numbering) (map class_type before ++ class_type class ∷ rest)) (length before) ≡ Some (entry.Class (class_entry_of files numbering class file))
  entry_here [] class file rest own is = ap (λ (found : List TypeEntry). slice_get (found ++ flat_map (entry_of files numbering) rest) 0) (one_entry class file is)
  entry_here (first ∷ before) class file rest own is =
      let there = some_file first (own first (among_here first before)) in
      ap (λ (found : List TypeEntry). slice_get (found ++ flat_map (entry_of files numbering) (map class_type before ++ class_type class ∷ rest)) (suc (length before))) (one_entry first there.0 there.1)
      ∙ entry_here before class file rest (λ other among. own other (or_right (nat_eq other first) (is_among other before) among)) is

  -- ---- ids

  pub library_id_is : (upper : ℕ) → upper < 32 → class_id numbering upper ≡ upper
  library_id_is upper lt = ap (λ (library : Bool). unwrap_or (if library then Some upper else None) (number_from first_own (is_type (class_type upper)) numbering.types)) (lt-ltb upper 32 lt)

  -- a class of a file that comes earlier, at its place
  pub record IsBefore (before : List ℕ) (upper : ℕ) : Type 0 where
    pub place : ℕ
    pub file : ClassFile
    pub file_is : file_of files upper ≡ Some file
    pub id : class_id numbering upper ≡ 32 + place
    pub within : place < length before
    pub entry : slice_get (entries before) place ≡ Some (entry.Class (class_entry_of files numbering upper file))

  module _ (closed : Gathers files None) (types : numbering.types ≡ map class_type (class_order files)) where
    pub placed : (before after : List ℕ) (class : ℕ) → class_order files ≡ before ++ class ∷ after → (upper : ℕ) → is_among upper before ≡ true → IsBefore before upper
    placed before after class is upper among =
        let right = right_order files closed in
        let first = first_place upper before among in
        let later = first.after ++ class ∷ after in
        let whole : class_order files ≡ first.before ++ upper ∷ later =
        is ∙ ap (λ (list : List ℕ). list ++ class ∷ after) first.is ∙ append_assoc first.before (upper ∷ first.after) (class ∷ after) in
        let file = some_file upper (right.only upper (ap (is_among upper) is ∙ among_left upper before (class ∷ after) among)) in
        let from = is_file files upper (ap (λ (found : Option ClassFile). is_some found) file.1) in
        let long = ap (λ (list : List ℕ). length list) first.is in
        record {
          place = length first.before;
          file = file.0;
          file_is = file.1;
          id = ap (λ (list : List TypeRef). type_id list (class_type upper)) (types ∙ ap (map class_type) whole ∙ sym (append-nil (map class_type (first.before ++ upper ∷ later))))
              ∙ id_is upper first.before later [] (le-ltb upper first_own from) first.first;
          within = omega (arith, long, length-append first.before (upper ∷ first.after));
          entry = ap (λ (list : List ℕ). slice_get (entries list) (length first.before)) first.is
              ∙ ap (λ (list : List TypeRef). slice_get (flat_map (entry_of files numbering) list) (length first.before)) (map-append class_type first.before (upper ∷ first.after))
              ∙ entry_here first.before upper file.0 (map class_type first.after)
              (λ other there. right.only other (ap (is_among other) whole ∙ among_left other first.before (upper ∷ later) there)) file.1;
        }

-- ---- superinterfaces

module _ (files : List ClassFile) (closed : Gathers files None) where
  abbrev names : List (List ℕ)
  names = map own_name files

  then_none : (b : Bool) (why : TreeRefusal) (other : Option TreeRefusal) → (if b then Some why else other) ≡ None → other ≡ None
  then_none false why other e = e
  then_none true why other e = none_some why (sym e)

  no_fault : (b : Bool) (why : TreeRefusal) → (if b then Some why else None) ≡ None → b ≡ false
  no_fault false why e = refl
  no_fault true why e = none_some why (sym e)

  first_false : (a b : Bool) → (a || b) ≡ false → a ≡ false
  first_false true b e = e
  first_false false b e = refl

  second_false : (a b : Bool) → (a || b) ≡ false → b ≡ false
  second_false true b e = absurd (let bad : true ≡ false = e in cc)
  second_false false b e = e

  not_false : (b : Bool) → not b ≡ false → b ≡ true
  not_false true e = refl
  not_false false e = absurd (let bad : true ≡ false = e in cc)

  abbrev IsOne : ℕ → Type 0
  IsOne upper = is_interface (flags_of files upper) ≡ true

  named_ones : (file : ClassFile) (indexes : List ℕ) → list_any (λ index. is_bad_interface files (named_among names file index)) indexes ≡ false → AllByRecursion IsOne (filter_map (named_among names file) indexes)
  named_ones file [] good = tt
  named_ones file (index ∷ indexes) good =
      by (named_among names file index) (first_false (is_bad_interface files (named_among names file index)) (list_any (λ i. is_bad_interface files (named_among names file i)) indexes) good)
      (named_ones file indexes (second_false (is_bad_interface files (named_among names file index)) (list_any (λ i. is_bad_interface files (named_among names file i)) indexes) good))
    where
      by : (found : Option ℕ) → is_bad_interface files found ≡ false → AllByRecursion IsOne (filter_map (named_among names file) indexes) → AllByRecursion IsOne (cons_option found (filter_map (named_among names file) indexes))
      by None good rest = rest
      by (Some upper) good rest = (not_false (is_interface (flags_of files upper)) good, rest)

  -- the superinterfaces of the class of a file are interfaces
  pub superinterfaces_are : (class : ℕ) (file : ClassFile) → slice_get files (class - 32) ≡ Some file → file_of files class ≡ Some file → AllByRecursion IsOne (superinterfaces_of files class)
  superinterfaces_are class file is found =
      let position = class - 32 in
      let start : 0 + position ≡ position = omega arith in
      let none : supers_refusal names files ≡ None = sym closed.1.1.0 in
      let accepted : super_fault names files position file ≡ None = ap (λ n. super_fault names files n file) (sym start) ∙ passed (super_fault names files) 0 files none position file is in
      let good : has_bad_super names files file ≡ false = no_fault (has_bad_super names files file) (BadSuper position) (then_none (lacks_super names file) (MissingClass position 0 0) _ accepted) in
      let ones = named_ones file file.interfaces (second_false (is_bad_superclass files file (named_among names file file.super_class)) _ good) in
      subst (AllByRecursion IsOne) (sym (ap (λ (o : Option ClassFile). option_map_or (λ (f : ClassFile). filter_map (named_among names f) f.interfaces) o []) found)) ones

-- there are no more than are named
fewer_kept : {X Y : Type 0} (f : X → Option Y) (items : List X) → length (filter_map f items) ≤ length items
fewer_kept f [] = omega arith
fewer_kept {Y = Y} f (x ∷ items) = by (f x) (fewer_kept f items)
  where
    by : (found : Option Y) → length (filter_map f items) ≤ length items → length (cons_option found (filter_map f items)) ≤ length (x ∷ items)
    by None few = omega (arith, few)
    by (Some y) few = omega (arith, few)

pub superinterfaces_few : (files : List ClassFile) (class : ℕ) (file : ClassFile) → file_of files class ≡ Some file → length (superinterfaces_of files class) ≤ length file.interfaces
superinterfaces_few files class file found =
    let same = ap (λ (o : Option ClassFile). length (option_map_or (λ (f : ClassFile). filter_map (named_among (map own_name files) f) f.interfaces) o [])) found in
    omega (arith, same, fewer_kept (named_among (map own_name files) file) file.interfaces)

-- each of some numbers is among them
pub each_among : (numbers : List ℕ) → AllByRecursion (λ number. is_among number numbers ≡ true) numbers
each_among [] = tt
each_among (number ∷ numbers) =
    (among_here number numbers, all_map (λ other. is_among other numbers ≡ true) (λ other. is_among other (number ∷ numbers) ≡ true) (λ other e. or_right (nat_eq other number) (is_among other numbers) e) numbers (each_among numbers))
