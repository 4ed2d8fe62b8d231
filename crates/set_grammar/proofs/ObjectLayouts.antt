-- An object of a class has the fields of its superclass, and its cells are within their limit.
use Rattle.std.proofs.Common.{◌≡◌, ℕ, zero, suc, ◌+◌, ◌-◌, ◌<◌, ◌≤◌, not, List, [], ◌∷◌, ◌++◌, map, filter, length, Option, Some, None, refl, sym, ap, subst, ◌∙◌, arith, length-append}
use Rattle.std.specs.List.{AllByRecursion, range_with_len, sum_by}
use Rattle.std.specs.Option.{option_map_or}
use Rattle.std.proofs.lemmas.List.Elements.{filter-append}
use Rattle.std.proofs.lemmas.List.Sums.{sum_by-append}
use Rattle.std.proofs.lemmas.Option.{slice_get_within}
use Rattle.library.specs.Classes.{first_own}
use Rattle.class_file.specs.declared.record.ClassFile.{ClassFile}
use Rattle.class_tree.specs.DirectSupers.{class_count, superclass_of}
use Rattle.class_tree.specs.Set.{file_of}
use Rattle.class_tree.proofs.ancestors.Superclasses.{IsRanked, falls_to}
use Rattle.jvm_model.specs.declared.numbers.Layout.{Layout}
use Rattle.jvm_model.specs.ImageLimits.{excess, file_layouts, first_large, object_cells}
use Rattle.jvm_model.specs.ImageNumbering.{Field, class_fields, field_cells, fields_of_object, is_number_field, is_reference_field, layout_of, object_fields}
use Rattle.type_safety.proofs.facts.Declared.{file_at}
use Rattle.type_safety.proofs.facts.RunMethods.{own_file}
use Rattle.type_safety.proofs.fitting.SetLists.{no_first, no_second}
use Rattle.set_image.proofs.CountLimits.{within}

-- ---- the fields of the superclass

module _ (files : List ClassFile) (rank : ℕ → ℕ) (ranked : IsRanked files rank) where
  abbrev own_fields : ℕ → List Field
  own_fields class = filter (λ field. not field.static) (class_fields files class)

  -- so many levels more change nothing
  same_fields : (levels others class : ℕ) → rank class < levels → rank class < others → object_fields files levels class ≡ object_fields files others class
  unfolding object_fields
  same_fields zero others class low high = absurd (omega (arith, low))
  same_fields (suc levels) zero class low high = absurd (omega (arith, high))
  same_fields (suc levels) (suc others) class low high = ap (λ (fields : List Field). fields ++ own_fields class) (by (superclass_of files class) (λ upper. same_fields levels others upper) refl)
    where
      by : (found : Option ℕ) → ((upper : ℕ) → rank upper < levels → rank upper < others → object_fields files levels upper ≡ object_fields files others upper) → superclass_of files class ≡ found → option_map_or (object_fields files levels) found [] ≡ option_map_or (object_fields files others) found []
      by None rest is = refl
      by (Some upper) rest is =
          let falls = falls_to files rank ranked class upper is in
          rest upper (omega (arith, low, falls)) (omega (arith, high, falls))

  level_more : (levels class upper : ℕ) → superclass_of files class ≡ Some upper → object_fields files (suc levels) class ≡ object_fields files levels upper ++ own_fields class
  unfolding object_fields
  level_more levels class upper is = ap (λ (found : Option ℕ). option_map_or (object_fields files levels) found [] ++ own_fields class) is

  fields_above : (class upper : ℕ) → superclass_of files class ≡ Some upper → fields_of_object files class ≡ fields_of_object files upper ++ own_fields class
  fields_above class upper is =
      let levels = 31 + length files in
      let count : class_count files ≡ suc levels = omega arith in
      let falls = falls_to files rank ranked class upper is in
      let bound = ranked.bound class in
      ap (λ (n : ℕ). object_fields files n class) count ∙ level_more levels class upper is
      ∙ ap (λ (fields : List Field). fields ++ own_fields class) (same_fields levels (class_count files) upper (omega (arith, falls, bound, count)) (omega (arith, falls, bound)))

  -- those of the superclass are covered
  pub refs_cover : (class upper : ℕ) → superclass_of files class ≡ Some upper → (layout_of files upper).refs ≤ (layout_of files class).refs
  refs_cover class upper is =
      let above = fields_of_object files upper in
      let own = own_fields class in
      let all = ap (λ (fields : List Field). length (filter is_reference_field fields)) (fields_above class upper is) in
      let parts = ap (λ (fields : List Field). length fields) (filter-append is_reference_field above own) in
      omega (arith, all, parts, length-append (filter is_reference_field above) (filter is_reference_field own))

  pub nums_cover : (class upper : ℕ) → superclass_of files class ≡ Some upper → (layout_of files upper).nums ≤ (layout_of files class).nums
  nums_cover class upper is =
      let above = fields_of_object files upper in
      let own = own_fields class in
      let all = ap (λ (fields : List Field). sum_by field_cells (filter is_number_field fields)) (fields_above class upper is) in
      let parts = ap (λ (fields : List Field). sum_by field_cells fields) (filter-append is_number_field above own) in
      omega (arith, all, parts, sum_by-append field_cells (filter is_number_field above) (filter is_number_field own))

-- ---- the limit

small_layouts : (layouts : List Layout) → first_large layouts ≡ None → AllByRecursion (λ layout. object_cells layout ≤ 32767) layouts
unfolding first_large
small_layouts [] none = tt
small_layouts (layout ∷ layouts) none =
    let first = excess 7 (object_cells layout) 32767 in (
      within 7 (object_cells layout) 32767 (no_first first (first_large layouts) none),
      small_layouts layouts (no_second first (first_large layouts) none),
    )

-- what all of a range have
in_range : (P : Layout → Type 0) (of : ℕ → Layout) (from count : ℕ) → AllByRecursion P (map of (range_with_len from count)) → (n : ℕ) → n < count → P (of (from + n))
in_range P of from zero all n lt = absurd (omega (arith, lt))
in_range P of from (suc count) all zero lt = let same : from ≡ from + 0 = omega arith in subst (λ k. P (of k)) same all.0
in_range P of from (suc count) all (suc n) lt =
    let same : (from + 1) + n ≡ from + suc n = omega arith in
    subst (λ k. P (of k)) same (in_range P of (from + 1) count all.1 n (omega (arith, lt)))

pub object_fits : (files : List ClassFile) → first_large (file_layouts files) ≡ None → (class : ℕ) (file : ClassFile) → file_of files class ≡ Some file → object_cells (layout_of files class) ≤ 32767
object_fits files large class file found =
    let has = file_at files class file found in
    let own = has.own in
    let lt = slice_get_within files (class - 32) file (sym (own_file files class own) ∙ found) in
    let cells = in_range (λ layout. object_cells layout ≤ 32767) (layout_of files) first_own (length files) (small_layouts (file_layouts files) large) (class - 32) lt in
    let same : first_own + (class - 32) ≡ class = omega (arith, own) in
    subst (λ k. object_cells (layout_of files k) ≤ 32767) same cells
