-- The statics that instructions name are among those of the image.
use Rattle.std.proofs.Common.{◌≡◌, inl, inr, ℕ, ℤ, pos, suc, ◌+◌, ◌<◌, ◌≤◌, Bool, true, if◌then◌else◌, List, [], ◌∷◌, ◌++◌, map, filter, length, slice_get, Option, Some, None, refl, sym, ap, subst, ◌∙◌, arith, length-append}
use Rattle.std.specs.List.{AllByRecursion, flat_map}
use Rattle.std.specs.Option.{option_map_or}
use Rattle.std.proofs.lemmas.List.{length-map}
use Rattle.class_pool.specs.declared.descriptor.Kind.{Kind as DeclaredKind}
use Rattle.class_pool.specs.declared.descriptor.Kind.TheVariants as declared
use Rattle.class_file.specs.declared.record.ClassFile.{ClassFile}
use Rattle.class_file.specs.declared.record.Member.{Member}
use Rattle.class_tree.specs.Set.{file_of}
use Rattle.image_instr.specs.declared.insn.Kind.{Kind}
use Rattle.image_form.specs.declared.record.Image.{Image}
use Rattle.image_check.specs.Ids.{HasStatic}
use Rattle.body_form.specs.declared.op.FieldUse.{FieldUse}
use Rattle.jvm_model.specs.ImageExpansion.{kind_in}
use Rattle.jvm_model.specs.ImageNumbering.{Numbering, Field, is_reference_field, is_number_field, field_cells, fields_from, class_fields, class_order, all_fields, static_fields, fields_of_object, place_among, place_in, place_of, place_listed, cells_of_value, initial_cells, ids_of}
use Rattle.jvm_model.specs.Initialisers.{Pushed, Number, Null as PushedNull, is_whole_kind, is_reference_kind}
use Rattle.jvm_model.specs.InitialStatics.{kept, narrowed, kind_of, set_last}
use Rattle.jvm_model.specs.State.{Value, Whole, Null}
use Rattle.jvm_model.specs.WidthsSlots.{passed_cells}
use Rattle.mote_model.specs.State.{Reference}
use Rattle.typed_machine.specs.TypedState.{Fields}
use Rattle.type_safety.proofs.fitting.NewObject.{IsOfNames}
use Rattle.type_safety.specs.Facts.{IsStaticField}
use Rattle.match_states.specs.MatchedObjects.{field_reference, references_in}
use Rattle.match_states.specs.Setting.{Setting, IsCompiled}
use Rattle.set_compile.proofs.KeyedLists.{all_flat}
use Rattle.follow_calls.proofs.DeclaredStatics.{IsListed, static_listed, static_named, whole_or_reference}
use Rattle.follow_calls.proofs.FieldsOnce.{StandsOnce, field_at, kept_all, kept_where, once_kept}
use Rattle.follow_calls.proofs.PlacesOnce.{at_place, listed_once, place_once, held_once}
use Rattle.follow_calls.proofs.StaticParts.{reference_stands}
use Rattle.follow_calls.proofs.WholeKinds.{no_reference, reference_kind}

-- ---- the cells that a static has before main starts

kept_whole : (k : DeclaredKind) (pushed : Option Pushed) → is_whole_kind k ≡ true → (number : ℤ) × (kept k pushed ≡ Whole number)
kept_whole k (Some (Number number)) whole = (narrowed k number, ap (λ (b : Bool). if b then Whole (narrowed k number) else Null) whole)
kept_whole k (Some PushedNull) whole = (pos 0, ap (λ (b : Bool). if b then Whole (pos 0) else Null) whole)
kept_whole k None whole = (pos 0, ap (λ (b : Bool). if b then Whole (pos 0) else Null) whole)

whole_count : (k : DeclaredKind) (number : ℤ) → is_whole_kind k ≡ true → length (cells_of_value k (Whole number)) ≡ passed_cells k
whole_count declared.Byte number whole = refl
whole_count declared.Char number whole = refl
whole_count declared.Short number whole = refl
whole_count declared.Int number whole = refl
whole_count declared.Boolean number whole = refl
whole_count k number whole = absurd cc

kept_count : (k : DeclaredKind) (pushed : Option Pushed) → is_whole_kind k ≡ true → length (cells_of_value k (kept k pushed)) ≡ passed_cells k
kept_count k pushed whole =
    let held = kept_whole k pushed whole in
    ap (λ (value : Value). length (cells_of_value k value)) held.1 ∙ whole_count k held.0 whole

module _ (files : List ClassFile) where
  abbrev HasCells : Field → Type 0
  HasCells field = length (initial_cells files field) ≡ field_cells field

  abbrev CountsWhereNumber : Field → Type 0
  CountsWhereNumber field = is_number_field field ≡ true → HasCells field

  module _ (class : ℕ) (file : ClassFile) (found : file_of files class ≡ Some file) where
    one_counts : (at : ℕ) (member : Member) → slice_get file.fields at ≡ Some member → CountsWhereNumber (field_at class file at member)
    one_counts at member there whole =
        let cells : ClassFile → Member → List ℕ = λ f m. cells_of_value (kind_of file.pool member) (kept (kind_of f.pool m) (set_last f m)) in
        ap (λ (o : Option ClassFile). length (option_map_or (λ (f : ClassFile). option_map_or (cells f) (slice_get f.fields at) []) o [])) found
        ∙ ap (λ (o : Option Member). length (option_map_or (cells file) o [])) there
        ∙ kept_count (kind_of file.pool member) (set_last file member) whole

    from_count : (at : ℕ) (members : List Member) → ((i : ℕ) → slice_get members i ≡ slice_get file.fields (at + i)) → AllByRecursion CountsWhereNumber (fields_from class file at members)
    unfolding fields_from
    from_count at [] part = tt
    from_count at (member ∷ members) part =
        let here : at + 0 ≡ at = omega arith in (
          one_counts at member (ap (slice_get file.fields) (sym here) ∙ sym (part 0)),
          from_count (suc at) members (λ i. let next : at + suc i ≡ suc at + i = omega arith in part (suc i) ∙ ap (slice_get file.fields) next),
        )

  class_in : (class : ℕ) (found : Option ClassFile) → file_of files class ≡ found → AllByRecursion CountsWhereNumber (option_map_or (λ (file : ClassFile). fields_from class file 0 file.fields) found [])
  class_in class None is = tt
  class_in class (Some file) is = from_count class file is 0 file.fields (λ i. ap (slice_get file.fields) (omega arith))

  all_count : AllByRecursion HasCells (filter is_number_field (static_fields files))
  all_count =
      kept_where HasCells is_number_field (static_fields files)
      (kept_all CountsWhereNumber (λ (field : Field). field.static) (all_fields files) (all_flat CountsWhereNumber (class_fields files) (λ class. class_in class (file_of files class) refl) (class_order files)))

-- ---- where a static stands

middle : (P : Field → Type 0) (before : List Field) (field : Field) (after : List Field) → AllByRecursion P (before ++ field ∷ after) → P field
middle P [] field after all = all.0
middle P (first ∷ before) field after all = middle P before field after all.1

has_number : (image : Image) (place : ℕ) (of : DeclaredKind) → is_whole_kind of ≡ true → place + passed_cells of ≤ length image.static_cells → HasStatic image (kind_in of) place
has_number image place declared.Byte whole within = omega (arith, within)
has_number image place declared.Char whole within = omega (arith, within)
has_number image place declared.Short whole within = omega (arith, within)
has_number image place declared.Int whole within = omega (arith, within)
has_number image place declared.Boolean whole within = omega (arith, within)
has_number image place of whole within = absurd cc

module _ (setting : Setting) (compiled : IsCompiled setting) (used : FieldUse) (named : IsStaticField setting.world used) where
  abbrev files : List ClassFile
  files = setting.world.files

  abbrev all : List Field
  all = static_fields files

  abbrev place : ℕ
  place = (ids_of setting.numbering).static used.field

  listed : IsListed files used.field named.field
  listed = static_listed files compiled.typed.closed used.field named.field named.is

  abbrev own : Field
  own = listed.field

  kind_is : own.kind ≡ used.kind
  kind_is = listed.kind ∙ named.kind

  once : StandsOnce own all
  once = once_kept (λ (field : Field). field.static) own (all_fields files) listed.once listed.static

  place_is : place ≡ place_in all own
  place_is =
      ap (λ (n : Numbering). place_listed n.fields used.field) compiled.numbering
      ∙ ap (place_listed (map (at_place (place_of files)) (all_fields files))) (sym listed.member)
      ∙ listed_once own (all_fields files) listed.once (place_of files)
      ∙ ap (λ (static : Bool). place_in (if static then all else fields_of_object files own.member.class) own) listed.static

  -- ---- a whole number

  cells_is : setting.image.static_cells ≡ flat_map (initial_cells files) (filter is_number_field all)
  cells_is = ap (λ (image : Image). image.static_cells) compiled.image ∙ ap (λ (n : Numbering). n.static_cells) compiled.numbering

  number_within : is_whole_kind used.kind ≡ true → place + passed_cells used.kind ≤ length setting.image.static_cells
  number_within whole =
      let numbers = filter is_number_field all in
      let stands = once_kept is_number_field own all once (ap is_whole_kind kind_is ∙ whole) in
      let items = initial_cells files in
      let refers = ap is_reference_kind kind_is ∙ no_reference used.kind whole in
      let counts = all_count files in
      let at : place ≡ length (flat_map items stands.before) =
      place_is
      ∙ ap (λ (b : Bool). if b then place_among (λ other. 1) (filter is_reference_field all) own.member else place_among field_cells numbers own.member) refers
      ∙ place_once own numbers stands field_cells items counts in
      let holds : length setting.image.static_cells ≡ length (flat_map items stands.before ++ (items own ++ flat_map items stands.after)) =
      ap (λ (cells : List ℕ). length cells) (cells_is ∙ held_once own numbers stands items) in
      let size : length (items own) ≡ passed_cells used.kind = middle (HasCells files) stands.before own stands.after (subst (AllByRecursion (HasCells files)) stands.is counts) ∙ ap passed_cells kind_is in
      omega (arith, at, holds, size, length-append (flat_map items stands.before) (items own ++ flat_map items stands.after), length-append (items own) (flat_map items stands.after))

  -- ---- a reference

  abbrev nulls : Fields
  nulls member = Some Null

  refs_is : setting.image.static_refs ≡ length (filter is_reference_field all)
  refs_is = ap (λ (image : Image). image.static_refs) compiled.image ∙ ap (λ (n : Numbering). n.static_refs) compiled.numbering

  reference_within : is_reference_kind used.kind ≡ true → place < setting.image.static_refs
  reference_within refers =
      let stands = reference_stands setting compiled used named refers nulls in
      let holds : length (references_in nulls all) ≡ length (stands.before ++ None ∷ stands.after) = ap (λ (refs : List Reference). length refs) (stands.held Null refl) in
      let at = stands.place in
      let count = refs_is in
      omega (arith, at, holds, count, length-map (filter is_reference_field all) (field_reference nulls), length-append stands.before (None ∷ stands.after))

  -- what is declared of it
  of_names : IsOfNames files used.kind
  of_names = subst (IsOfNames files) named.kind (static_named files compiled.typed.closed used.field named.field named.is)

  pub static_there : HasStatic setting.image (kind_in used.kind) place
  static_there =
      elim (whole_or_reference files used.kind of_names) [
        | inl whole ↦ has_number setting.image place used.kind whole (number_within whole)
        | inr refers ↦ subst (λ (k : Kind). HasStatic setting.image k place) (sym (reference_kind used.kind refers)) (reference_within refers)
      ]
