-- Matching objects refer to the same objects and have as many cells, where the one fits the types of its set.
use Rattle.std.proofs.Common.{◌≡◌, ◌⊎◌, ℕ, ◌+◌, true, inl, inr, List, length, Option, Some, None, is_some, if◌then◌else◌, refl, sym, ap, subst, ◌∙◌}
use Rattle.std.specs.List.{AllByRecursion}
use Rattle.std.proofs.lemmas.Option.{same_Some}
use Rattle.class_pool.specs.declared.descriptor.Kind.{Kind}
use Rattle.class_pool.specs.declared.descriptor.Kind.TheVariants as declared
use Rattle.class_tree.specs.DirectSupers.{class_count}
use Rattle.body_form.specs.declared.body.Body.{Body}
use Rattle.body_form.specs.declared.types.VType.{VType}
use Rattle.body_form.specs.declared.types.VType.TheVariants as known
use Rattle.jvm_model.specs.ImageNumbering.{Field, fields_of_object}
use Rattle.jvm_model.specs.Initialisers.{is_whole_kind, is_reference_kind}
use Rattle.jvm_model.specs.State.{Value}
use Rattle.jvm_model.specs.TypesFrames.{value_of_kind}
use Rattle.jvm_model.specs.TypesRules.{component_of}
use Rattle.mote_model.specs.State.{Reference, Object as SplitObject}
use Rattle.mote_model.specs.SplitState as split
use Rattle.mote_model.specs.SplitState.{names_of}
use Rattle.typed_machine.specs.TypedState.{Fields, Object, Instance, Elements}
use Rattle.typed_machine.specs.TypedWorld.{kind_of}
use Rattle.type_safety.specs.Fitting.{IsWhole, ValueFits, KindFits, ObjectFits}
use Rattle.match_states.specs.Setting.{Setting}
use Rattle.match_states.specs.MatchedObjects.{references_in, cells_in, element_references, element_cells, ObjectHas, ObjectMatches}
use Rattle.typed_machine.specs.TypedView.{names_in, cells_of_object}
use Rattle.match_views.proofs.ObjectFields.{DeclaresField, all_instance_fields, all_mapped}
use Rattle.match_views.proofs.FieldCells.{size-by_levels, IsHeld, held_cells}
use Rattle.match_views.proofs.ElementCells.{array_parts, elements_whole}

-- ---- references

pub object_names : (setting : Setting) (object : Object) (other : SplitObject) → ObjectMatches setting object other → names_in setting.world object ≡ names_of other.refs
object_names setting (Instance class fields) other match = ap names_of (sym match.refs_are)
object_names setting (Elements array elements) other match = ap names_of (sym match.refs_are)

-- ---- cells

cells_by_parts : (other : SplitObject) (type : ℕ) (count : Option ℕ) (refs : List Reference) (cells : List ℕ) → ObjectHas other type count refs cells
    → split.object_cells other ≡ (if is_some count then 3 else 2) + (length refs + length cells)
cells_by_parts other type count refs cells has =
    ap (λ (length_is : Option ℕ). (if is_some length_is then 3 else 2) + (length other.refs + length other.cells)) has.length_is
    ∙ ap (λ (is : List Reference). (if is_some count then 3 else 2) + (length is + length other.cells)) has.refs_are
    ∙ ap (λ (is : List ℕ). (if is_some count then 3 else 2) + (length refs + length is)) has.cells_are

module _ (setting : Setting) (objects : List Object) (body : Body) where
  abbrev Fits : Value → VType → Type 0
  Fits value type = ValueFits setting.world objects body value type

  whole_by : (value : Value) (type : VType) → Some known.Int ≡ Some type → Fits value type → IsWhole value
  whole_by value type is fits = subst (λ of. Fits value of) (sym (same_Some known.Int type is)) fits

  -- a value that fits a declared type is a reference or a whole number
  kind_held : (kind : Kind) (value : Value) (type : VType) → value_of_kind setting.world.files kind ≡ Some type → Fits value type → (is_reference_kind kind ≡ true) ⊎ ((is_whole_kind kind ≡ true) × IsWhole value)
  kind_held (declared.Class name) value type is fits = inl refl
  kind_held (declared.Array dims of) value type is fits = inl refl
  kind_held declared.Byte value type is fits = inr (refl, whole_by value type is fits)
  kind_held declared.Char value type is fits = inr (refl, whole_by value type is fits)
  kind_held declared.Short value type is fits = inr (refl, whole_by value type is fits)
  kind_held declared.Int value type is fits = inr (refl, whole_by value type is fits)
  kind_held declared.Boolean value type is fits = inr (refl, whole_by value type is fits)
  kind_held declared.Double value type is fits = absurd cc
  kind_held declared.Float value type is fits = absurd cc
  kind_held declared.Long value type is fits = absurd cc

  held_as : (fields : Fields) (field : Field) (value : Value) → fields field.member ≡ Some value → (kind : Kind) → kind ≡ field.kind → KindFits setting.world objects kind value → IsHeld fields field
  held_as fields field value is kind same fits =
      elim (kind_held kind value fits.type fits.is (fits.has body)) [
        | inl reference ↦ inl (ap is_reference_kind (sym same) ∙ reference)
        | inr whole ↦ inr (ap is_whole_kind (sym same) ∙ whole.0, (whole.1.0, is ∙ ap (λ (v : Value). Some v) whole.1.1))
      ]

  all_held : (class : ℕ) (fields : Fields) → ObjectFits setting.world objects (Instance class fields) → AllByRecursion (IsHeld fields) (fields_of_object setting.world.files class)
  all_held class fields fits =
      all_mapped (DeclaresField setting.world.files class) (IsHeld fields)
      (λ field of. let there = fits.3 field.member of.declaration of.is in held_as fields field there.value there.is (kind_of of.declaration) of.kind there.has)
      (fields_of_object setting.world.files class) (all_instance_fields setting.world.files class)

  pub object_cells-same : (object : Object) (other : SplitObject) → ObjectFits setting.world objects object → ObjectMatches setting object other → cells_of_object setting.world object ≡ split.object_cells other
  object_cells-same (Instance class fields) other fits match =
      let all = fields_of_object setting.world.files class in
      let parts = cells_by_parts other _ None (references_in fields all) (cells_in fields all) match in
      let held = held_cells fields all (all_held class fields fits) in
      let levels = size-by_levels setting.world.files (class_count setting.world.files) class in
      ap (λ count. 2 + count) (sym levels) ∙ ap (λ count. 2 + count) (sym held) ∙ sym parts
  object_cells-same (Elements array elements) other fits match =
      let component = component_of array in
      let parts = cells_by_parts other _ (Some (length elements)) (element_references component elements) (element_cells component elements) match in
      let counted = array_parts component elements (elements_whole setting.world objects body component elements fits.2) in
      ap (λ count. 3 + count) (sym counted) ∙ sym parts
