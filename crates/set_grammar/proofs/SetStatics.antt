-- The statics of the image of an accepted set: they are few enough, and each cell has 16 bits, since what a static holds
-- before main starts has 32.
use Rattle.std.proofs.Common.{◌≡◌, inl, inr, ℕ, ℤ, ◌^◌, ◌<◌, Bool, true, false, List, [], ◌∷◌, filter, map, Option, Some, None, Ok, Err, option_map, option_and_then, slice_get, if◌then◌else◌, nat_eq, refl, sym, ap, subst, ◌∙◌, FitsSigned, w32}
use Rattle.std.specs.List.{AllByRecursion, flat_map}
use Rattle.std.specs.Option.{option_map_or}
use Rattle.std.proofs.lemmas.Option.{slice_get-map}
use Rattle.cell_num.specs.Cells.{low_cell, high_cell}
use Rattle.cell_num.proofs.CellLaws.{low_cell-below, high_cell-below}
use Rattle.class_pool.specs.declared.descriptor.Kind.{Kind}
use Rattle.class_pool.specs.declared.types.TypeRef.{TypeRef}
use Rattle.class_file.specs.Rules.{is_static}
use Rattle.class_file.specs.declared.record.ClassFile.{ClassFile}
use Rattle.class_file.specs.declared.record.Member.{Member}
use Rattle.class_tree.specs.Members.{Declaration, in_file}
use Rattle.class_tree.specs.Merge.{is_reference}
use Rattle.body_form.specs.declared.body.Body.{Body}
use Rattle.body_form.specs.declared.types.VType.TheVariants as known
use Rattle.jvm_model.specs.ImageNumbering.{Field, cells_of_value, initial_cells, is_number_field, static_fields}
use Rattle.jvm_model.specs.InitialStatics.{initial_value}
use Rattle.jvm_model.specs.Resolution.{Resolved, kind_named}
use Rattle.jvm_model.specs.State.{Value, Whole, Null, Name}
use Rattle.jvm_model.specs.TypesFrames.{value_in, value_of}
use Rattle.jvm_model.specs.WidthsSlots.{passed_cells}
use Rattle.typed_machine.specs.TypedRun.{statics_of}
use Rattle.typed_machine.specs.TypedWorld.{World, kind_of}
use Rattle.type_rounds.proofs.tables.Lists.{all_append, all_filter, all_map}
use Rattle.type_safety.specs.Fitting.{KindFits, StaticsFit, ValueFits, static_field}
use Rattle.type_safety.specs.Starts.{StartsFit}
use Rattle.type_safety.proofs.fitting.SetLists.{none_some, same_some}
use Rattle.match_starts.proofs.StartStatics.{Holds, all_hold}
use Rattle.set_image.specs.Linked.{numbering_in}
use Rattle.set_compile.specs.Compiled.{SetsCompile}
use Rattle.set_compile.specs.Settings.{world_of}
use Rattle.set_grammar.specs.Parts.{HasStatics, OfEachImage}
use Rattle.set_image.proofs.CountLimits.{are_within}
use Rattle.set_grammar.proofs.EachItems.{each_of_all}
use Rattle.set_image.proofs.NoRefusals.{no_refusal}
use Rattle.set_grammar.proofs.TypedSets.{has_start}

-- ---- what a static holds

same_number : (number other : ℤ) → Whole number ≡ Whole other → number ≡ other
same_number number other e = cc

-- a number that fits a declared type has 32 bits
module _ (world : World) (body : Body) (number : ℤ) where
  by_type : (type : TypeRef) (reference : Bool) → ValueFits world [] body (Whole number) (if reference then known.Ref type else known.Int) → FitsSigned w32 number
  by_type type true (inl null) = absurd (let bad : Whole number ≡ Null = null in cc)
  by_type type true (inr named) = absurd (let bad : Whole number ≡ Name named.name = named.is in cc)
  by_type type false (other, is, fits) = subst (FitsSigned w32) (sym (same_number number other is)) fits

  whole_fits : (kind : Kind) → KindFits world [] kind (Whole number) → FitsSigned w32 number
  whole_fits kind fits = by_named (kind_named world.files kind) fits.is (fits.has body)
    where
      by_named : (named : Resolved TypeRef) → value_in named ≡ Some fits.type → ValueFits world [] body (Whole number) fits.type → FitsSigned w32 number
      by_named (Ok type) is has = by_type type (is_reference type.dims type.base) (subst (ValueFits world [] body (Whole number)) (sym (same_some (value_of type) fits.type is)) has)
      by_named (Err why) is has = none_some fits.type is

module _ (world : World) (body : Body) (statics : StaticsFit world [] (statics_of world.files)) (field : Field) (is : Holds world.files field) where
  declared : static_field world.files field.member ≡ Some (in_file is.file.pool is.member)
  declared =
      ap (λ (found : Option ClassFile). option_and_then (λ (d : Declaration). if is_static d.flags then Some d else None) (slice_get (option_map_or (λ (file : ClassFile). map (in_file file.pool) file.fields) found []) field.member.member)) is.file_is
      ∙ ap (option_and_then (λ (d : Declaration). if is_static d.flags then Some d else None)) (slice_get-map (in_file is.file.pool) is.file.fields field.member.member)
      ∙ ap (λ (found : Option Member). option_and_then (λ (d : Declaration). if is_static d.flags then Some d else None) (option_map (in_file is.file.pool) found)) is.member_is
      ∙ ap (λ b. if b then Some (in_file is.file.pool is.member) else None) is.static

  number_fits : (number : ℤ) → initial_value is.file is.member ≡ Whole number → FitsSigned w32 number
  number_fits number value =
      let fits = statics field.member (in_file is.file.pool is.member) declared in
      let same : fits.value ≡ Whole number = same_some fits.value (initial_value is.file is.member) (sym fits.is ∙ is.holds) ∙ value in
      whole_fits world body number (kind_of (in_file is.file.pool is.member)) (subst (KindFits world [] (kind_of (in_file is.file.pool is.member))) same fits.has)

-- ---- its cells

abbrev IsCell : ℕ → Type 0
IsCell cell = cell < 2 ^ 16

value_cells : (kind : Kind) (value : Value) → ((number : ℤ) → value ≡ Whole number → FitsSigned w32 number) → AllByRecursion IsCell (cells_of_value kind value)
value_cells kind (Whole number) fits = by (nat_eq (passed_cells kind) 2)
  where
    by : (two : Bool) → AllByRecursion IsCell (if two then low_cell number ∷ high_cell number ∷ [] else low_cell number ∷ [])
    by true = (low_cell-below number, (high_cell-below number (fits number refl), tt))
    by false = (low_cell-below number, tt)
value_cells kind Null fits = tt
value_cells kind (Name name) fits = tt

module _ (world : World) (body : Body) (statics : StaticsFit world [] (statics_of world.files)) where
  first_cells : (field : Field) → Holds world.files field → AllByRecursion IsCell (initial_cells world.files field)
  first_cells field is =
      subst (AllByRecursion IsCell)
      (sym (ap (λ (found : Option ClassFile). option_map_or (λ (file : ClassFile). option_map_or (λ (member : Member). cells_of_value field.kind (initial_value file member)) (slice_get file.fields field.member.member) []) found []) is.file_is
      ∙ ap (λ (found : Option Member). option_map_or (λ (member : Member). cells_of_value field.kind (initial_value is.file member)) found []) is.member_is))
      (value_cells field.kind (initial_value is.file is.member) (number_fits world body statics field is))

all_gathered : {X Y : Type 0} (P : Y → Type 0) (f : X → List Y) (xs : List X) → AllByRecursion (λ x. AllByRecursion P (f x)) xs → AllByRecursion P (flat_map f xs)
all_gathered P f [] all = tt
all_gathered P f (x ∷ xs) all = all_append P (f x) (flat_map f xs) all.0 (all_gathered P f xs all.1)

pub statics_are : SetsCompile → StartsFit → OfEachImage HasStatics
statics_are compile starts files linked is =
    let within = are_within linked.classes (numbering_in linked) (no_refusal linked is.accepted).counts in
    let start = has_start compile files linked is.of_files starts in
    let fields = filter is_number_field (static_fields linked.classes) in
    let hold = all_filter (Holds linked.classes) is_number_field (static_fields linked.classes) (all_hold linked.classes) in
    let cells = all_map (Holds linked.classes) (λ field. AllByRecursion IsCell (initial_cells linked.classes field)) (first_cells (world_of linked) start.main (start.fits []).statics) fields hold in
    record {
      refs = within.static_refs;
      cells = within.static_cells;
      are = each_of_all IsCell (flat_map (initial_cells linked.classes) fields) (all_gathered IsCell (initial_cells linked.classes) fields cells);
    }
