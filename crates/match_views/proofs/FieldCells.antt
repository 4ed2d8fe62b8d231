-- The cells of an object's fields: a reference has one, and a whole number those of its kind. Counted by classes and counted
-- over the list of fields they are the same, and so many stand in an object whose fields are there.
use Rattle.std.proofs.Common.{◌≡◌, ◌⊎◌, ℕ, ℤ, zero, suc, ◌+◌, Bool, true, false, cond, not, inl, inr, List, [], ◌∷◌, map, filter, length, Option, Some, None, if◌then◌else◌, refl, sym, ap, ◌∙◌, arith}
use Rattle.std.specs.List.{AllByRecursion, flat_map, sum_by}
use Rattle.std.specs.Option.{option_map_or}
use Rattle.std.proofs.lemmas.List.{length-append}
use Rattle.std.proofs.lemmas.List.Sums.{sum_by-cons, sum_by-append, sum-map}
use Rattle.class_pool.specs.declared.descriptor.Kind.{Kind}
use Rattle.class_pool.specs.declared.descriptor.Kind.TheVariants as declared
use Rattle.class_pool.specs.Pool.{utf8_at}
use Rattle.class_file.specs.Rules.{is_static}
use Rattle.class_file.specs.declared.record.ClassFile.{ClassFile}
use Rattle.class_file.specs.declared.record.Member.{Member}
use Rattle.class_tree.specs.DirectSupers.{superclass_of}
use Rattle.class_tree.specs.Members.{in_file, fields_of}
use Rattle.class_tree.specs.Set.{file_of}
use Rattle.jvm_model.specs.ImageExpansion.{kind_in}
use Rattle.jvm_model.specs.ImageNumbering.{Field, fields_from, class_fields, object_fields, is_reference_field, is_number_field}
use Rattle.jvm_model.specs.Initialisers.{is_whole_kind, is_reference_kind}
use Rattle.jvm_model.specs.State.{Whole}
use Rattle.typed_machine.specs.TypedState.{Fields}
use Rattle.typed_machine.specs.TypedWorld as typed
use Rattle.typed_machine.specs.TypedWorld.{cells_of_kind, cells_of_field}
use Rattle.match_states.specs.MatchedFrames.{cells_of_shape}
use Rattle.match_states.specs.MatchedObjects.{field_reference, field_cells, references_in, cells_in}
use Rattle.match_views.proofs.ObjectFields.{same_kind}

abbrev pub size_of : Field → ℕ
size_of field = cells_of_kind field.kind

-- ---- counted by classes, and over the list

abbrev is_instance : Field → Bool
is_instance field = not field.static

kept_size : (field : Field) (fields : List Field) (static : Bool) → sum_by size_of (cond (not static) (field ∷ fields) fields) ≡ (if static then 0 else size_of field) + sum_by size_of fields
kept_size field fields true = omega arith
kept_size field fields false = sum_by-cons size_of field fields

file_size : (class : ℕ) (file : ClassFile) (at : ℕ) (members : List Member)
    → sum_by size_of (filter is_instance (fields_from class file at members)) ≡ sum_by cells_of_field (map (in_file file.pool) members)
unfolding fields_from
file_size class file at [] = refl
file_size class file at (member ∷ members) =
    kept_size _ (filter is_instance (fields_from class file (suc at) members)) (is_static member.flags)
    ∙ ap (λ kind. (if is_static member.flags then 0 else cells_of_kind kind) + sum_by size_of (filter is_instance (fields_from class file (suc at) members))) (sym (same_kind (utf8_at file.pool member.descriptor)))
    ∙ ap (λ rest. cells_of_field (in_file file.pool member) + rest) (file_size class file (suc at) members)
    ∙ sym (sum_by-cons cells_of_field (in_file file.pool member) (map (in_file file.pool) members))

class_size : (class : ℕ) (found : Option ClassFile)
    → sum_by size_of (filter is_instance (option_map_or (λ (file : ClassFile). fields_from class file 0 file.fields) found []))
    ≡ sum_by cells_of_field (option_map_or (λ (file : ClassFile). map (in_file file.pool) file.fields) found [])
class_size class None = refl
class_size class (Some file) = file_size class file 0 file.fields

module _ (files : List ClassFile) where
  size_above : (levels : ℕ) → ((class : ℕ) → sum_by size_of (object_fields files levels class) ≡ typed.field_cells files levels class) → (found : Option ℕ)
      → sum_by size_of (option_map_or (object_fields files levels) found []) ≡ option_map_or (typed.field_cells files levels) found 0
  size_above levels before None = refl
  size_above levels before (Some upper) = before upper

  pub size-by_levels : (levels class : ℕ) → sum_by size_of (object_fields files levels class) ≡ typed.field_cells files levels class
  unfolding object_fields typed.field_cells
  size-by_levels zero class = refl
  size-by_levels (suc levels) class =
      let above = size_above levels (size-by_levels levels) (superclass_of files class) in
      let own = class_size class (file_of files class) ∙ sym (sum-map cells_of_field (fields_of files class)) in
      let both = sum_by-append size_of (option_map_or (object_fields files levels) (superclass_of files class) []) (filter is_instance (class_fields files class)) in
      omega (arith, above, own, both)

-- ---- what stands in an object

-- the field is a reference, or a whole number that is there
abbrev pub IsHeld : Fields → Field → Type 0
IsHeld fields field = (is_reference_kind field.kind ≡ true) ⊎ ((is_whole_kind field.kind ≡ true) × ((number : ℤ) × (fields field.member ≡ Some (Whole number))))

reference_sizes : (kind : Kind) → is_reference_kind kind ≡ true → (is_whole_kind kind ≡ false) × (cells_of_kind kind ≡ 1)
reference_sizes (declared.Class name) e = (refl, refl)
reference_sizes (declared.Array dims of) e = (refl, refl)
reference_sizes declared.Byte e = absurd cc
reference_sizes declared.Char e = absurd cc
reference_sizes declared.Double e = absurd cc
reference_sizes declared.Float e = absurd cc
reference_sizes declared.Int e = absurd cc
reference_sizes declared.Long e = absurd cc
reference_sizes declared.Short e = absurd cc
reference_sizes declared.Boolean e = absurd cc

whole_sizes : (kind : Kind) → is_whole_kind kind ≡ true → (number : ℤ) → (is_reference_kind kind ≡ false) × (length (cells_of_shape (kind_in kind) (Whole number)) ≡ cells_of_kind kind)
whole_sizes declared.Byte e number = (refl, refl)
whole_sizes declared.Char e number = (refl, refl)
whole_sizes declared.Short e number = (refl, refl)
whole_sizes declared.Int e number = (refl, refl)
whole_sizes declared.Boolean e number = (refl, refl)
whole_sizes (declared.Class name) e number = absurd cc
whole_sizes (declared.Array dims of) e number = absurd cc
whole_sizes declared.Double e number = absurd cc
whole_sizes declared.Float e number = absurd cc
whole_sizes declared.Long e number = absurd cc

module _ (fields : Fields) where
  reference_first : (field : Field) (rest : List Field) (is : Bool) → is ≡ true → length (map (field_reference fields) (cond is (field ∷ rest) rest)) ≡ suc (length (map (field_reference fields) rest))
  reference_first field rest true e = refl
  reference_first field rest false e = absurd cc

  no_reference_first : (field : Field) (rest : List Field) (is : Bool) → is ≡ false → length (map (field_reference fields) (cond is (field ∷ rest) rest)) ≡ length (map (field_reference fields) rest)
  no_reference_first field rest false e = refl
  no_reference_first field rest true e = absurd cc

  number_first : (field : Field) (rest : List Field) (is : Bool) → is ≡ true → length (flat_map (field_cells fields) (cond is (field ∷ rest) rest)) ≡ length (field_cells fields field) + length (flat_map (field_cells fields) rest)
  number_first field rest true e = length-append (field_cells fields field) (flat_map (field_cells fields) rest)
  number_first field rest false e = absurd cc

  no_number_first : (field : Field) (rest : List Field) (is : Bool) → is ≡ false → length (flat_map (field_cells fields) (cond is (field ∷ rest) rest)) ≡ length (flat_map (field_cells fields) rest)
  no_number_first field rest false e = refl
  no_number_first field rest true e = absurd cc

  pub held_cells : (all : List Field) → AllByRecursion (IsHeld fields) all → length (references_in fields all) + length (cells_in fields all) ≡ sum_by size_of all
  held_cells [] held = refl
  held_cells (field ∷ all) held =
      let before = held_cells all held.1 in
      let size = sum_by-cons size_of field all in
      let refs = filter is_reference_field all in
      let numbers = filter is_number_field all in
      elim held.0 [
        | inl reference ↦
            let sizes = reference_sizes field.kind reference in
            let first = reference_first field refs (is_reference_field field) reference in
            let second = no_number_first field numbers (is_number_field field) sizes.0 in
            let one = sizes.1 in
            omega (arith, before, size, first, second, one)
        | inr whole ↦
            let sizes = whole_sizes field.kind whole.0 whole.1.0 in
            let first = no_reference_first field refs (is_reference_field field) sizes.0 in
            let second = number_first field numbers (is_number_field field) whole.0 in
            let there : length (field_cells fields field) ≡ cells_of_kind field.kind = ap (λ value. length (option_map_or (cells_of_shape (kind_in field.kind)) value [])) whole.1.1 ∙ sizes.1 in
            omega (arith, before, size, first, second, there)
      ]
