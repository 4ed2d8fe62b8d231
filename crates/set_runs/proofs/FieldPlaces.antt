-- The places of fields are below 65,536, where no count of the set is above its limit.
use Rattle.std.proofs.Common.{◌≡◌, ℕ, zero, suc, ◌+◌, ◌-◌, ◌<◌, ◌≤◌, Bool, true, false, cond, if◌then◌else◌, List, [], ◌∷◌, map, filter, length, Option, Some, None, refl, sym, subst, ◌∙◌, arith}
use Rattle.std.specs.List.{AllByRecursion, range_with_len, sum_by}
use Rattle.std.specs.Option.{option_map_or}
use Rattle.std.proofs.lemmas.List.Sums.{sum_by-cons}
use Rattle.std.proofs.lemmas.Option.{slice_get_within}
use Rattle.library.specs.Classes.{first_own}
use Rattle.class_pool.specs.declared.types.MemberId.{MemberId}
use Rattle.class_file.specs.Rules.{is_static}
use Rattle.class_file.specs.declared.record.ClassFile.{ClassFile}
use Rattle.class_file.specs.declared.record.Member.{Member}
use Rattle.class_tree.specs.Members.{member_at}
use Rattle.class_tree.specs.Set.{file_of}
use Rattle.jvm_model.specs.declared.numbers.FieldPlace.{FieldPlace}
use Rattle.jvm_model.specs.declared.numbers.Layout.{Layout}
use Rattle.jvm_model.specs.ImageLimits.{excess, file_layouts, first_large, object_cells}
use Rattle.jvm_model.specs.ImageNumbering.{Field, all_fields, class_fields, class_order, field_cells, fields_from, fields_of_object, is_member, is_number_field, is_reference_field, layout_of, place_among, place_in, place_of, static_fields}
use Rattle.jvm_model.specs.InitialStatics.{kind_of}
use Rattle.type_safety.proofs.facts.Declared.{file_at}
use Rattle.type_safety.proofs.facts.RunMethods.{own_file}
use Rattle.type_safety.proofs.fitting.SetLists.{no_first, no_second}
use Rattle.set_compile.proofs.KeyedLists.{all_flat}
use Rattle.set_image.proofs.CountLimits.{within}

-- ---- among fields

among_cells : (size : Field → ℕ) (fields : List Field) (member : MemberId) → place_among size fields member ≤ sum_by size fields
unfolding place_among
among_cells size [] member = omega arith
among_cells size (field ∷ fields) member = by (is_member member field.member) (among_cells size fields member) (sum_by-cons size field fields)
  where
    by : (b : Bool) → place_among size fields member ≤ sum_by size fields → sum_by size (field ∷ fields) ≡ size field + sum_by size fields
        → cond b 0 (size field + place_among size fields member) ≤ sum_by size (field ∷ fields)
    by true rest sum = omega arith
    by false rest sum = omega (arith, rest, sum)

among_items : (fields : List Field) (member : MemberId) → place_among (λ other. 1) fields member ≤ length fields
unfolding place_among
among_items [] member = omega arith
among_items (field ∷ fields) member = by (is_member member field.member) (among_items fields member)
  where
    by : (b : Bool) → place_among (λ other. 1) fields member ≤ length fields → cond b 0 (1 + place_among (λ other. 1) fields member) ≤ length (field ∷ fields)
    by true rest = omega arith
    by false rest = omega (arith, rest)

-- references, and cells of the other fields, are at most so many
pub record AreFew (fields : List Field) (most : ℕ) : Type 0 where
  pub refs : length (filter is_reference_field fields) ≤ most
  pub cells : sum_by field_cells (filter is_number_field fields) ≤ most

few_places : (fields : List Field) (most : ℕ) → AreFew fields most → (field : Field) → place_in fields field ≤ most
few_places fields most few field = by (is_reference_field field)
  where
    by : (b : Bool) → (if b then place_among (λ other. 1) (filter is_reference_field fields) field.member else place_among field_cells (filter is_number_field fields) field.member) ≤ most
    by true = let among = among_items (filter is_reference_field fields) field.member in let count = few.refs in omega (arith, among, count)
    by false = let among = among_cells field_cells (filter is_number_field fields) field.member in let count = few.cells in omega (arith, among, count)

-- ---- objects

small_layouts : (layouts : List Layout) → first_large layouts ≡ None → AllByRecursion (λ layout. object_cells layout ≤ 32767) layouts
unfolding first_large
small_layouts [] none = tt
small_layouts (layout ∷ layouts) none =
    let first = excess 7 (object_cells layout) 32767 in (
      within 7 (object_cells layout) 32767 (no_first first (first_large layouts) none),
      small_layouts layouts (no_second first (first_large layouts) none),
    )

-- what all of a range have
in_range : (P : Layout → Type 0) (of : ℕ → Layout) (from count : ℕ) → AllByRecursion P (map of (range_with_len from count)) → (n : ℕ) → n < count → P (of (from + n))
in_range P of from zero all n lt = absurd (omega (arith, lt))
in_range P of from (suc count) all zero lt = let same : from ≡ from + 0 = omega arith in subst (λ k. P (of k)) same all.0
in_range P of from (suc count) all (suc n) lt =
    let same : (from + 1) + n ≡ from + suc n = omega arith in
    subst (λ k. P (of k)) same (in_range P of (from + 1) count all.1 n (omega (arith, lt)))

module _ (files : List ClassFile) (statics : AreFew (static_fields files) 16384) (large : first_large (file_layouts files) ≡ None) where
  object_few : (class : ℕ) (file : ClassFile) → file_of files class ≡ Some file → AreFew (fields_of_object files class) 32767
  object_few class file found =
      let has = file_at files class file found in
      let own = has.own in
      let lt = slice_get_within files (class - 32) file (sym (own_file files class own) ∙ found) in
      let cells = in_range (λ layout. object_cells layout ≤ 32767) (layout_of files) first_own (length files) (small_layouts (file_layouts files) large) (class - 32) lt in
      let same : first_own + (class - 32) ≡ class = omega (arith, own) in
      let all : object_cells (layout_of files class) ≤ 32767 = subst (λ k. object_cells (layout_of files k) ≤ 32767) same cells in
      record { refs = omega (arith, all); cells = omega (arith, all) }

  abbrev Fits : Field → Type 0
  Fits field = place_of files field < 65536

  field_fits : (field : Field) → AreFew (fields_of_object files field.member.class) 32767 → Fits field
  field_fits field few = by field.static
    where
      by : (b : Bool) → place_in (if b then static_fields files else fields_of_object files field.member.class) field < 65536
      by true = let place = few_places (static_fields files) 16384 statics field in omega (arith, place)
      by false = let place = few_places (fields_of_object files field.member.class) 32767 few field in omega (arith, place)

  from_fit : (class : ℕ) (file : ClassFile) → AreFew (fields_of_object files class) 32767 → (at : ℕ) (members : List Member) → AllByRecursion Fits (fields_from class file at members)
  unfolding fields_from
  from_fit class file few at [] = tt
  from_fit class file few at (member ∷ members) =
      (field_fits (record { member = member_at class at; kind = kind_of file.pool member; static = is_static member.flags }) few, from_fit class file few (suc at) members)

  class_in : (class : ℕ) (found : Option ClassFile) → file_of files class ≡ found → AllByRecursion Fits (option_map_or (λ (file : ClassFile). fields_from class file 0 file.fields) found [])
  class_in class None is = tt
  class_in class (Some file) is = from_fit class file (object_few class file is) 0 file.fields

  class_fits : (class : ℕ) → AllByRecursion Fits (class_fields files class)
  class_fits class = class_in class (file_of files class) refl

  placed : (fields : List Field) → AllByRecursion Fits fields → AllByRecursion (λ (field : FieldPlace). field.place < 65536) (map (λ field. record { member = field.member; place = place_of files field }) fields)
  placed [] fit = tt
  placed (field ∷ fields) fit = (fit.0, placed fields fit.1)

  pub places_fit : AllByRecursion (λ (field : FieldPlace). field.place < 65536) (map (λ field. record { member = field.member; place = place_of files field }) (all_fields files))
  places_fit = placed (all_fields files) (all_flat Fits (class_fields files) class_fits (class_order files))
