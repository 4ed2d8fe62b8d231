-- The static fields of classes, field by field and class by class.
use Rattle.std.proofs.Common.{◌≡◌, ℕ, suc, ◌+◌, ◌<◌, Bool, true, false, ◌&&◌, cond, List, [], ◌∷◌, ◌++◌, length, take, get_or, filter, Option, Some, slice_get, refl, sym, ap, ◌∙◌, add-one}
use Rattle.std.specs.List.{flat_map, sum_by}
use Rattle.std.specs.Option.{option_map_or}
use Rattle.std.proofs.lemmas.List.{append-nil, append_assoc, length-append, length_push}
use Rattle.std.proofs.lemmas.List.Elements.{filter-append}
use Rattle.std.proofs.lemmas.List.Sums.{sum_by-cons}
use Rattle.std.proofs.lemmas.Grind.{flat_map-append}
use Rattle.class_file.specs.declared.record.ClassFile.{ClassFile}
use Rattle.class_file.specs.declared.record.Member.{Member}
use Rattle.class_tree.specs.Members.{member_at}
use Rattle.class_tree.specs.Set.{file_of}
use Rattle.jvm_model.specs.Initialisers.{is_whole_kind, is_reference_kind}
use Rattle.jvm_model.specs.InitialStatics.{kind_of, initial_value}
use Rattle.jvm_model.specs.ImageNumbering.{Field, cells_of_value, class_fields, fields_from, initial_cells, is_number_field, is_reference_field}
use Rattle.infuse_ids.specs.Places.{field_at, statics_among}
use Rattle.infuse_ids.specs.Statics.{reference_of, cells_of, references_among, cells_among}
use Rattle.infuse_ids.proofs.ClassFields.{fields_in, fields_more}

-- ---- one after others

pub references_append : (first second : List Field) → references_among (first ++ second) ≡ references_among first + references_among second
references_append first second =
    ap (λ (fields : List Field). length (filter is_reference_field fields)) (filter-append (λ (field : Field). field.static) first second)
    ∙ ap (λ (fields : List Field). length fields) (filter-append is_reference_field (statics_among first) (statics_among second))
    ∙ length-append (filter is_reference_field (statics_among first)) (filter is_reference_field (statics_among second))

pub cells_append : (files : List ClassFile) (first second : List Field) → cells_among files (first ++ second) ≡ cells_among files first ++ cells_among files second
cells_append files first second =
    ap (λ (fields : List Field). flat_map (initial_cells files) (filter is_number_field fields)) (filter-append (λ (field : Field). field.static) first second)
    ∙ ap (flat_map (initial_cells files)) (filter-append is_number_field (statics_among first) (statics_among second))
    ∙ flat_map-append (initial_cells files) (filter is_number_field (statics_among first)) (filter is_number_field (statics_among second))

module _ {X : Type 0} (x : X) where
  counted_one : (static is : Bool) → length (cond static (cond is (x ∷ []) []) []) ≡ cond (static && is) 1 0
  counted_one true true = refl
  counted_one true false = refl
  counted_one false is = refl

  given_one : {Y : Type 0} (give : X → List Y) (static is : Bool) → flat_map give (cond static (cond is (x ∷ []) []) []) ≡ cond (static && is) (give x) []
  given_one give true true = append-nil (give x)
  given_one give true false = refl
  given_one give false is = refl

  filtered_one : (test : X → Bool) (static : Bool) → filter test (cond static (x ∷ []) []) ≡ cond static (cond (test x) (x ∷ []) []) []
  filtered_one test true = refl
  filtered_one test false = refl

module _ (files : List ClassFile) (class : ℕ) (file : ClassFile) (is : file_of files class ≡ Some file) where
  cells_at : (position : ℕ) (member : Member) → slice_get file.fields position ≡ Some member
      → initial_cells files (field_at (member_at class position) file.pool member) ≡ cells_of_value (kind_of file.pool member) (initial_value file member)
  cells_at position member at =
      let kind = kind_of file.pool member in
      ap (λ (o : Option ClassFile). option_map_or (λ (f : ClassFile). option_map_or (λ (m : Member). cells_of_value kind (initial_value f m)) (slice_get f.fields position) []) o []) is
      ∙ ap (λ (o : Option Member). option_map_or (λ (m : Member). cells_of_value kind (initial_value file m)) o []) at

  one_reference : (position : ℕ) (member : Member) → references_among (field_at (member_at class position) file.pool member ∷ []) ≡ reference_of file member
  one_reference position member =
      let field = field_at (member_at class position) file.pool member in
      ap (λ (fields : List Field). length fields) (filtered_one field is_reference_field field.static)
      ∙ counted_one field field.static (is_reference_kind (kind_of file.pool member))

  one_static : (position : ℕ) (member : Member) → slice_get file.fields position ≡ Some member → cells_among files (field_at (member_at class position) file.pool member ∷ []) ≡ cells_of file member
  one_static position member at =
      let field = field_at (member_at class position) file.pool member in
      ap (flat_map (initial_cells files)) (filtered_one field is_number_field field.static)
      ∙ given_one field (initial_cells files) field.static (is_whole_kind (kind_of file.pool member))
      ∙ ap (λ (cells : List ℕ). cond (field.static && is_whole_kind (kind_of file.pool member)) cells []) (cells_at position member at)

  slice_at : (before members : List Member) (member : Member) → slice_get (before ++ member ∷ members) (length before) ≡ Some member
  slice_at [] members member = refl
  slice_at (first ∷ before) members member = slice_at before members member

  references_from : (at : ℕ) (members : List Member) → references_among (fields_from class file at members) ≡ sum_by (reference_of file) members
  unfolding fields_from
  references_from at [] = refl
  references_from at (member ∷ members) =
      references_append (field_at (member_at class at) file.pool member ∷ []) (fields_from class file (suc at) members)
      ∙ ap (λ (n : ℕ). n + references_among (fields_from class file (suc at) members)) (one_reference at member)
      ∙ ap (λ (n : ℕ). reference_of file member + n) (references_from (suc at) members)
      ∙ sym (sum_by-cons (reference_of file) member members)

  cells_from : (before members : List Member) → file.fields ≡ before ++ members → cells_among files (fields_from class file (length before) members) ≡ flat_map (cells_of file) members
  unfolding fields_from
  cells_from before [] e = refl
  cells_from before (member ∷ members) e =
      let field = field_at (member_at class (length before)) file.pool member in
      let next = length_push before member ∙ add-one (length before) in
      cells_append files (field ∷ []) (fields_from class file (suc (length before)) members)
      ∙ ap (λ (cells : List ℕ). cells ++ cells_among files (fields_from class file (suc (length before)) members))
      (one_static (length before) member (ap (λ (members : List Member). slice_get members (length before)) e ∙ slice_at before members member))
      ∙ ap (λ (n : ℕ). cells_of file member ++ cells_among files (fields_from class file n members)) (sym next)
      ∙ ap (λ (cells : List ℕ). cells_of file member ++ cells) (cells_from (before ++ member ∷ []) members (e ∙ sym (append_assoc before (member ∷ []) members)))

  -- those of a class
  pub references_in_class : references_among (class_fields files class) ≡ sum_by (reference_of file) file.fields
  references_in_class = ap references_among (fields_in files class file is) ∙ references_from 0 file.fields

  pub cells_in_class : cells_among files (class_fields files class) ≡ flat_map (cells_of file) file.fields
  cells_in_class = ap (cells_among files) (fields_in files class file is) ∙ cells_from [] file.fields refl

-- ---- the next class

module _ (files : List ClassFile) (order : List ℕ) (position class : ℕ) (lt : position < length order) (here : class ≡ get_or order position class) where
  pub references_more : references_among (flat_map (class_fields files) (take position order)) + references_among (class_fields files class) ≡ references_among (flat_map (class_fields files) (take (position + 1) order))
  references_more =
      sym (references_append (flat_map (class_fields files) (take position order)) (class_fields files class)) ∙ ap references_among (sym (fields_more files order position class lt here))

  pub cells_more : cells_among files (flat_map (class_fields files) (take position order)) ++ cells_among files (class_fields files class) ≡ cells_among files (flat_map (class_fields files) (take (position + 1) order))
  cells_more =
      sym (cells_append files (flat_map (class_fields files) (take position order)) (class_fields files class)) ∙ ap (cells_among files) (sym (fields_more files order position class lt here))
