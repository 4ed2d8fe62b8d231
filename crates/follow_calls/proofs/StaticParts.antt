-- Where the image places a static, and what a write of it changes: its own cells, or its own reference.
use Rattle.std.proofs.Common.{◌≡◌, ℕ, ℤ, Bool, true, false, List, [], ◌∷◌, ◌++◌, map, filter, length, Option, Some, None, if◌then◌else◌, refl, sym, ap, ap₂, ◌∙◌}
use Rattle.std.specs.List.{AllByRecursion, flat_map}
use Rattle.std.specs.Option.{option_map_or}
use Rattle.std.proofs.lemmas.List.Concat.{flat_map_single}
use Rattle.class_pool.specs.declared.descriptor.Kind.{Kind as DeclaredKind}
use Rattle.class_pool.specs.declared.descriptor.Kind.TheVariants as declared
use Rattle.class_file.specs.declared.record.ClassFile.{ClassFile}
use Rattle.class_tree.proofs.lookups.Climbing.{all_map}
use Rattle.body_form.specs.declared.body.Body.{Body}
use Rattle.body_form.specs.declared.op.FieldUse.{FieldUse}
use Rattle.jvm_model.specs.ImageExpansion.{kind_in}
use Rattle.jvm_model.specs.ImageNumbering.{Numbering, Field, is_member, is_reference_field, is_number_field, all_fields, static_fields, fields_of_object, place_among, place_in, place_of, place_listed, ids_of}
use Rattle.jvm_model.specs.ImageNumbering as numbering
use Rattle.jvm_model.specs.Initialisers.{is_whole_kind, is_reference_kind}
use Rattle.jvm_model.specs.State.{Value}
use Rattle.jvm_model.specs.WidthsSlots.{passed_cells}
use Rattle.mote_model.specs.State.{Reference}
use Rattle.typed_machine.specs.TypedState.{Object, Fields, with_field}
use Rattle.type_safety.specs.Facts.{IsStaticField}
use Rattle.type_safety.specs.Fitting.{IsWhole, StaticsFit}
use Rattle.match_states.specs.MatchedFrames.{cells_of_shape, reference_of}
use Rattle.match_states.specs.MatchedObjects.{field_cells, field_reference, references_in, cells_in}
use Rattle.match_states.specs.Setting.{Setting, IsCompiled}
use Rattle.follow_calls.proofs.DeclaredStatics.{IsDeclared, IsListed, statics_declared, static_listed, whole_value}
use Rattle.follow_calls.proofs.FieldsOnce.{StandsOnce, kept_where, once_kept, once_left}
use Rattle.follow_calls.proofs.KeptNumbers.{kept_cells}
use Rattle.follow_calls.proofs.PlacesOnce.{at_place, own_member, listed_once, place_once, held_once, mapped_once, others_held, others_mapped}
use Rattle.follow_calls.proofs.WholeKinds.{no_reference, no_number}

-- ---- counts of cells

pub cells_counted : (of : DeclaredKind) → is_whole_kind of ≡ true → (number : ℤ) → length (kept_cells of number) ≡ passed_cells of
cells_counted declared.Byte whole number = refl
cells_counted declared.Char whole number = refl
cells_counted declared.Short whole number = refl
cells_counted declared.Int whole number = refl
cells_counted declared.Boolean whole number = refl
cells_counted of whole number = absurd cc

pub kept_count : (of : DeclaredKind) → is_whole_kind of ≡ true → (value : Value) → IsWhole value → length (cells_of_shape (kind_in of) value) ≡ passed_cells of
kept_count of whole value is = ap (λ (v : Value). length (cells_of_shape (kind_in of) v)) is.1 ∙ cells_counted of whole is.0

module _ (setting : Setting) (objects : List Object) (statics : Fields) (fits : StaticsFit setting.world objects statics) (body : Body) where
  abbrev HasCells : Field → Type 0
  HasCells field = length (field_cells statics field) ≡ numbering.field_cells field

  counted : (field : Field) → IsDeclared setting.world.files field → is_number_field field ≡ true → HasCells field
  counted field is number =
      let held = fits field.member is.declaration is.is in
      let whole = ap is_whole_kind is.kind ∙ number in
      ap (λ (found : Option Value). length (option_map_or (cells_of_shape (kind_in field.kind)) found [])) held.is
      ∙ kept_count field.kind number held.value (whole_value setting.world objects body held.value _ whole held.has)

  pub all_counted : AllByRecursion HasCells (filter is_number_field (static_fields setting.world.files))
  all_counted =
      let files = setting.world.files in
      kept_where HasCells is_number_field (static_fields files) (all_map (IsDeclared files) (λ (field : Field). is_number_field field ≡ true → HasCells field) counted (static_fields files) (statics_declared files))

-- ---- one static

module _ (setting : Setting) (compiled : IsCompiled setting) (used : FieldUse) (named : IsStaticField setting.world used) where
  abbrev files : List ClassFile
  files = setting.world.files

  abbrev all : List Field
  all = static_fields files

  pub listed : IsListed files used.field named.field
  listed = static_listed files compiled.typed.closed used.field named.field named.is

  abbrev own : Field
  own = listed.field

  kind_is : own.kind ≡ used.kind
  kind_is = listed.kind ∙ named.kind

  once : StandsOnce own all
  once = once_kept (λ (field : Field). field.static) own (all_fields files) listed.once listed.static

  place_is : (ids_of setting.numbering).static used.field ≡ place_in all own
  place_is =
      ap (λ (n : Numbering). place_listed n.fields used.field) compiled.numbering
      ∙ ap (place_listed (map (at_place (place_of files)) (all_fields files))) (sym listed.member)
      ∙ listed_once own (all_fields files) listed.once (place_of files)
      ∙ ap (λ (static : Bool). place_in (if static then all else fields_of_object files own.member.class) own) listed.static

  place_by : (refers : Bool) → is_reference_kind used.kind ≡ refers
      → (ids_of setting.numbering).static used.field ≡ (if refers then place_among (λ field. 1) (filter is_reference_field all) own.member else place_among numbering.field_cells (filter is_number_field all) own.member)
  place_by refers is =
      place_is
      ∙ ap (λ (b : Bool). if b then place_among (λ field. 1) (filter is_reference_field all) own.member else place_among numbering.field_cells (filter is_number_field all) own.member) (ap is_reference_kind kind_is ∙ is)

  module _ (statics : Fields) (value : Value) where
    abbrev set : Fields
    set = with_field statics used.field value

    -- it holds what is written, and other fields hold what they held
    own_set : set own.member ≡ Some value
    own_set = ap (λ (b : Bool). if b then Some value else statics own.member) (ap (λ id. is_member id own.member) (sym listed.member) ∙ own_member own.member)

    other_set : (field : Field) → is_member own.member field.member ≡ false → set field.member ≡ statics field.member
    other_set field other = ap (λ (b : Bool). if b then Some value else statics field.member) (ap (λ id. is_member id field.member) (sym listed.member) ∙ other)

    other_cells : (field : Field) → is_member own.member field.member ≡ false → field_cells set field ≡ field_cells statics field
    other_cells field other = ap (λ (found : Option Value). option_map_or (cells_of_shape (kind_in field.kind)) found []) (other_set field other)

    other_reference : (field : Field) → is_member own.member field.member ≡ false → field_reference set field ≡ field_reference statics field
    other_reference field other = ap (λ (found : Option Value). option_map_or reference_of found None) (other_set field other)

  own_cells : (statics : Fields) (value : Value) → statics own.member ≡ Some value → field_cells statics own ≡ cells_of_shape (kind_in used.kind) value
  own_cells statics value held =
      ap (λ (found : Option Value). option_map_or (cells_of_shape (kind_in own.kind)) found []) held ∙ ap (λ (of : DeclaredKind). cells_of_shape (kind_in of) value) kind_is

  own_reference : (statics : Fields) (value : Value) → statics own.member ≡ Some value → field_reference statics own ≡ reference_of value
  own_reference statics value held = ap (λ (found : Option Value). option_map_or reference_of found None) held

  held_there : (statics : Fields) (value : Value) → statics used.field ≡ Some value → statics own.member ≡ Some value
  held_there statics value held = ap statics listed.member ∙ held

  -- a static that is a whole number: where its cells stand
  pub record NumberStands (statics : Fields) : Type 0 where
    pub before : List ℕ
    pub after : List ℕ
    pub place : (ids_of setting.numbering).static used.field ≡ length before
    pub held : (value : Value) → statics used.field ≡ Some value → cells_in statics (static_fields setting.world.files) ≡ before ++ (cells_of_shape (kind_in used.kind) value ++ after)
    pub set_cells : (value : Value) → cells_in (with_field statics used.field value) (static_fields setting.world.files) ≡ before ++ (cells_of_shape (kind_in used.kind) value ++ after)
    pub same_refs : (value : Value) → references_in (with_field statics used.field value) (static_fields setting.world.files) ≡ references_in statics (static_fields setting.world.files)

  pub number_stands : is_whole_kind used.kind ≡ true → (objects : List Object) (statics : Fields) → StaticsFit setting.world objects statics → Body → NumberStands statics
  number_stands whole objects statics fits body =
      let numbers = filter is_number_field all in
      let stands = once_kept is_number_field own all once (ap is_whole_kind kind_is ∙ whole) in
      let no_refers = no_reference used.kind whole in
      let before = flat_map (field_cells statics) stands.before in
      let after = flat_map (field_cells statics) stands.after in
      record {
        before = before;
        after = after;
        place = place_by false no_refers ∙ place_once own numbers stands numbering.field_cells (field_cells statics) (all_counted setting objects statics fits body);
        held =
            λ value held. held_once own numbers stands (field_cells statics)
            ∙ ap (λ (cells : List ℕ). before ++ (cells ++ after)) (own_cells statics value (held_there statics value held));
        set_cells =
            λ value. held_once own numbers stands (field_cells (set statics value))
            ∙ ap₂ (λ (first last : List ℕ). first ++ (field_cells (set statics value) own ++ last))
            (others_held own.member (field_cells statics) (field_cells (set statics value)) (other_cells statics value) stands.before stands.others_before)
            (others_held own.member (field_cells statics) (field_cells (set statics value)) (other_cells statics value) stands.after stands.others_after)
            ∙ ap (λ (cells : List ℕ). before ++ (cells ++ after)) (own_cells (set statics value) value (own_set statics value));
        same_refs =
            λ value. others_mapped own.member (field_reference statics) (field_reference (set statics value)) (other_reference statics value) (filter is_reference_field all)
            (once_left is_reference_field own all once (ap is_reference_kind kind_is ∙ no_refers));
      }

  -- a static that is a reference: where it stands
  pub record ReferenceStands (statics : Fields) : Type 0 where
    pub before : List Reference
    pub after : List Reference
    pub place : (ids_of setting.numbering).static used.field ≡ length before
    pub held : (value : Value) → statics used.field ≡ Some value → references_in statics (static_fields setting.world.files) ≡ before ++ reference_of value ∷ after
    pub set_refs : (value : Value) → references_in (with_field statics used.field value) (static_fields setting.world.files) ≡ before ++ reference_of value ∷ after
    pub same_cells : (value : Value) → cells_in (with_field statics used.field value) (static_fields setting.world.files) ≡ cells_in statics (static_fields setting.world.files)

  ones : (statics : Fields) (fields : List Field) → AllByRecursion (λ (field : Field). length (field_reference statics field ∷ []) ≡ 1) fields
  ones statics [] = tt
  ones statics (field ∷ fields) = (refl, ones statics fields)

  pub reference_stands : is_reference_kind used.kind ≡ true → (statics : Fields) → ReferenceStands statics
  reference_stands refers statics =
      let references = filter is_reference_field all in
      let stands = once_kept is_reference_field own all once (ap is_reference_kind kind_is ∙ refers) in
      let no_whole = no_number used.kind refers in
      let before = map (field_reference statics) stands.before in
      let after = map (field_reference statics) stands.after in
      let one : Field → List Reference = λ field. field_reference statics field ∷ [] in
      record {
        before = before;
        after = after;
        place =
            place_by true refers ∙ place_once own references stands (λ (field : Field). 1) one (ones statics references)
            ∙ ap (λ (l : List Reference). length l) (flat_map_single (field_reference statics) stands.before);
        held =
            λ value held. mapped_once own references stands (field_reference statics)
            ∙ ap (λ (reference : Reference). before ++ reference ∷ after) (own_reference statics value (held_there statics value held));
        set_refs =
            λ value. mapped_once own references stands (field_reference (set statics value))
            ∙ ap₂ (λ (first last : List Reference). first ++ field_reference (set statics value) own ∷ last)
            (others_mapped own.member (field_reference statics) (field_reference (set statics value)) (other_reference statics value) stands.before stands.others_before)
            (others_mapped own.member (field_reference statics) (field_reference (set statics value)) (other_reference statics value) stands.after stands.others_after)
            ∙ ap (λ (reference : Reference). before ++ reference ∷ after) (own_reference (set statics value) value (own_set statics value));
        same_cells =
            λ value. others_held own.member (field_cells statics) (field_cells (set statics value)) (other_cells statics value) (filter is_number_field all)
            (once_left is_number_field own all once (ap is_whole_kind kind_is ∙ no_whole));
      }
