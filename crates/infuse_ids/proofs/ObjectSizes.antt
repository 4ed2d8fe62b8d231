-- The sizes of objects: those of the superclass, and then the fields of the class one by one.
use Rattle.std.proofs.Common.{◌≡◌, ℕ, zero, suc, ◌+◌, ◌<◌, Bool, true, false, not, nat_eq, cond, List, [], ◌∷◌, ◌++◌, map, filter, length, take, get_or, slice_get, position, Option, Some, None, option_map, unwrap_or, refl, sym, ap, ◌∙◌, add-zero, zero-add}
use Rattle.std.specs.List.{fold, sum_by}
use Rattle.std.specs.Option.{option_map_or}
use Rattle.std.proofs.lemmas.Bool.{eqb-true}
use Rattle.std.proofs.lemmas.List.{append-nil, append_assoc, length-append}
use Rattle.std.proofs.lemmas.List.Elements.{filter-append}
use Rattle.std.proofs.lemmas.List.Quantifiers.{position-Some}
use Rattle.std.proofs.lemmas.List.Sums.{sum_by-append}
use Rattle.std.proofs.lemmas.Option.{slice_get-map}
use Rattle.library.specs.Classes.{first_own}
use Rattle.class_pool.specs.declared.descriptor.Kind.{Kind}
use Rattle.class_pool.specs.declared.descriptor.Kind.TheVariants as declared
use Rattle.class_file.specs.Rules.{is_static}
use Rattle.class_file.specs.declared.record.ClassFile.{ClassFile}
use Rattle.class_file.specs.declared.record.Member.{Member}
use Rattle.class_tree.specs.DirectSupers.{superclass_of}
use Rattle.class_tree.specs.Members.{member_at}
use Rattle.class_tree.specs.Set.{file_of}
use Rattle.class_tree.specs.Tree.{Gathers}
use Rattle.jvm_model.specs.declared.numbers.Layout.{Layout}
use Rattle.jvm_model.specs.Initialisers.{is_reference_kind, is_whole_kind}
use Rattle.jvm_model.specs.InitialStatics.{kind_of}
use Rattle.jvm_model.specs.ImageNumbering.{Field, fields_from, fields_of_object, layout_of, is_reference_field, is_number_field, field_cells}
use Rattle.jvm_model.specs.WidthsSlots.{passed_cells}
use Rattle.infuse_ids.specs.declared.sizes.Sizes.{Sizes}
use Rattle.infuse_ids.specs.Places.{layout_in, of_objects, with_kind}
use Rattle.infuse_ids.specs.Sizes.{with_member, sized}
use Rattle.infuse_ids.proofs.ClassFields.{library_has_none}
use Rattle.infuse_ids.proofs.ObjectFields.{fields_by_superclass}

-- ---- one more field

same_layout : (refs nums other_refs other_nums : ℕ) → refs ≡ other_refs → nums ≡ other_nums → (let first : Layout = record { refs = refs; nums = nums } in let second : Layout = record { refs = other_refs; nums = other_nums } in first ≡ second)
same_layout refs nums other_refs other_nums first second =
    let by_refs : ℕ → Layout = λ n. record { refs = n; nums = nums } in
    let by_nums : ℕ → Layout = λ n. record { refs = other_refs; nums = n } in
    ap by_refs first ∙ ap by_nums second

-- what a field of a kind adds
abbrev adds_refs : Field → Bool → ℕ
adds_refs field is = length (cond is (field ∷ []) [])

abbrev adds_cells : Field → Bool → ℕ
adds_cells field is = sum_by field_cells (cond is (field ∷ []) [])

with_adds : (field : Field) (kind : Kind) → field_cells field ≡ passed_cells kind → (refs nums : ℕ)
    → (let counts : Layout = record { refs = refs + adds_refs field (is_reference_kind kind); nums = nums + adds_cells field (is_whole_kind kind) } in
    let start : Layout = record { refs = refs; nums = nums } in counts ≡ with_kind kind start)
with_adds field declared.Byte cells refs nums = same_layout (refs + 0) (nums + (0 + field_cells field)) refs (nums + 1) (add-zero refs) (let one : 0 + field_cells field ≡ 1 = zero-add (field_cells field) ∙ cells in ap (λ n. nums + n) one)
with_adds field declared.Char cells refs nums = same_layout (refs + 0) (nums + (0 + field_cells field)) refs (nums + 1) (add-zero refs) (let one : 0 + field_cells field ≡ 1 = zero-add (field_cells field) ∙ cells in ap (λ n. nums + n) one)
with_adds field declared.Short cells refs nums = same_layout (refs + 0) (nums + (0 + field_cells field)) refs (nums + 1) (add-zero refs) (let one : 0 + field_cells field ≡ 1 = zero-add (field_cells field) ∙ cells in ap (λ n. nums + n) one)
with_adds field declared.Boolean cells refs nums = same_layout (refs + 0) (nums + (0 + field_cells field)) refs (nums + 1) (add-zero refs) (let one : 0 + field_cells field ≡ 1 = zero-add (field_cells field) ∙ cells in ap (λ n. nums + n) one)
with_adds field declared.Int cells refs nums = same_layout (refs + 0) (nums + (0 + field_cells field)) refs (nums + 2) (add-zero refs) (let two : 0 + field_cells field ≡ 2 = zero-add (field_cells field) ∙ cells in ap (λ n. nums + n) two)
with_adds field declared.Double cells refs nums = same_layout (refs + 0) (nums + 0) refs (nums + 0) (add-zero refs) refl
with_adds field declared.Float cells refs nums = same_layout (refs + 0) (nums + 0) refs (nums + 0) (add-zero refs) refl
with_adds field declared.Long cells refs nums = same_layout (refs + 0) (nums + 0) refs (nums + 0) (add-zero refs) refl
with_adds field (declared.Class name) cells refs nums = same_layout (refs + 1) (nums + 0) (refs + 1) nums refl (add-zero nums)
with_adds field (declared.Array dims of) cells refs nums = same_layout (refs + 1) (nums + 0) (refs + 1) nums refl (add-zero nums)

one_field_more : (before : List Field) (field : Field) → layout_in (before ++ field ∷ []) ≡ with_kind field.kind (layout_in before)
one_field_more before field =
    let refs = filter is_reference_field before in
    let nums = filter is_number_field before in
    same_layout (length (filter is_reference_field (before ++ field ∷ []))) (sum_by field_cells (filter is_number_field (before ++ field ∷ [])))
    (length refs + adds_refs field (is_reference_kind field.kind)) (sum_by field_cells nums + adds_cells field (is_whole_kind field.kind))
    (ap (λ (fields : List Field). length fields) (filter-append is_reference_field before (field ∷ [])) ∙ length-append refs (cond (is_reference_kind field.kind) (field ∷ []) []))
    (ap (sum_by field_cells) (filter-append is_number_field before (field ∷ [])) ∙ sum_by-append field_cells nums (cond (is_whole_kind field.kind) (field ∷ []) []))
    ∙ with_adds field field.kind refl (length refs) (sum_by field_cells nums)

-- the fields of a class, one by one
module _ (class : ℕ) (file : ClassFile) where
  one_counted : (field : Field) (members : List Member) (before rest : List Field) (is : Bool)
      → ((list : List Field) → fold (with_member file.pool) (layout_in list) members ≡ layout_in (list ++ rest))
      → fold (with_member file.pool) (cond is (layout_in before) (with_kind field.kind (layout_in before))) members ≡ layout_in (before ++ cond (not is) (field ∷ rest) rest)
  one_counted field members before rest true counted = counted before
  one_counted field members before rest false counted =
      ap (λ (counts : Layout). fold (with_member file.pool) counts members) (sym (one_field_more before field))
      ∙ counted (before ++ field ∷ []) ∙ ap layout_in (append_assoc before (field ∷ []) rest)

  pub all_counted : (at : ℕ) (members : List Member) (before : List Field) → fold (with_member file.pool) (layout_in before) members ≡ layout_in (before ++ of_objects (fields_from class file at members))
  unfolding fields_from
  all_counted at [] before = ap layout_in (sym (append-nil before))
  all_counted at (member ∷ members) before =
      one_counted (record { member = member_at class at; kind = kind_of file.pool member; static = is_static member.flags }) members before (of_objects (fields_from class file (suc at) members)) (is_static member.flags)
      (all_counted (suc at) members)

-- ---- sizes by position

module _ (files : List ClassFile) where
  pub library_layout : (class : ℕ) → class < first_own → (let none : Layout = record { refs = 0; nums = 0 } in none ≡ layout_of files class)
  library_layout class lt = ap layout_in (sym (library_has_none files class lt))

  -- an item at a position of a list of layouts
  item_at : (layout : Layout) (keys : List ℕ) (many at : ℕ) → option_map (layout_of files) (slice_get (take many keys) at) ≡ Some layout → layout ≡ layout_of files (get_or keys at 0)
  item_at layout [] zero at e = cc
  item_at layout [] (suc many) at e = cc
  item_at layout (key ∷ keys) zero at e = cc
  item_at layout (key ∷ keys) (suc many) zero e = ap (λ o. unwrap_or o layout) (sym e)
  item_at layout (key ∷ keys) (suc many) (suc at) e = item_at layout keys many at e

  at_position : (layouts : List Layout) (keys : List ℕ) (many at class : ℕ) (layout : Layout) → layouts ≡ map (layout_of files) (take many keys) → position (nat_eq class) keys ≡ Some at → slice_get layouts at ≡ Some layout → layout ≡ layout_of files class
  at_position layouts keys many at class layout are found is =
      let there = position-Some (nat_eq class) keys at 0 found in
      item_at layout keys many at (sym (slice_get-map (layout_of files) (take many keys) at) ∙ ap (λ (ls : List Layout). slice_get ls at) (sym are) ∙ is)
      ∙ ap (layout_of files) (sym (eqb-true class (get_or keys at 0) there.1))

  pub size_found : (sizes : List Sizes) (keys : List ℕ) (many at class : ℕ) (size : Sizes) → map sized sizes ≡ map (layout_of files) (take many keys) → position (nat_eq class) keys ≡ Some at → slice_get sizes at ≡ Some size → sized size ≡ layout_of files class
  size_found sizes keys many at class size are found is =
      at_position (map sized sizes) keys many at class (sized size) are found (slice_get-map sized sizes at ∙ ap (option_map sized) is)

  -- ---- the sizes of a class, from those of its superclass

  abbrev above : ℕ → List Field
  above class = option_map_or (fields_of_object files) (superclass_of files class) []

  pub with_file : Gathers files None → (class : ℕ) (file : ClassFile) → Some file ≡ file_of files class → fold (with_member file.pool) (layout_in (above class)) file.fields ≡ layout_of files class
  with_file gathers class file is =
      all_counted class file 0 file.fields (above class)
      ∙ ap (λ (o : Option ClassFile). layout_in (above class ++ of_objects (option_map_or (λ (f : ClassFile). fields_from class f 0 f.fields) o []))) is
      ∙ ap layout_in (sym (fields_by_superclass files gathers class))

  pub without_file : Gathers files None → (class : ℕ) → None ≡ file_of files class → layout_in (above class) ≡ layout_of files class
  without_file gathers class is =
      ap layout_in (sym (append-nil (above class)))
      ∙ ap (λ (o : Option ClassFile). layout_in (above class ++ of_objects (option_map_or (λ (f : ClassFile). fields_from class f 0 f.fields) o []))) is
      ∙ ap layout_in (sym (fields_by_superclass files gathers class))
