-- The statics before main starts match: those that are references are null, and the others have the cells that the image
-- gives them.
use Rattle.std.proofs.Common.{◌≡◌, ℕ, ℤ, pos, suc, ◌+◌, ◌-◌, Bool, true, false, cond, List, [], ◌∷◌, ◌++◌, map, filter, length, replicate, slice_get, Option, Some, None, if◌then◌else◌, refl, sym, ap, ◌∙◌, arith}
use Rattle.std.specs.List.{AllByRecursion, flat_map}
use Rattle.std.specs.Option.{option_map_or}
use Rattle.class_pool.specs.declared.descriptor.Kind.{Kind}
use Rattle.class_pool.specs.declared.descriptor.Kind.TheVariants as kind
use Rattle.class_file.specs.Rules.{is_static}
use Rattle.class_file.specs.declared.record.ClassFile.{ClassFile}
use Rattle.class_file.specs.declared.record.Member.{Member}
use Rattle.class_tree.specs.Members.{member_at}
use Rattle.class_tree.specs.Set.{file_of}
use Rattle.image_form.specs.declared.record.Image.{Image}
use Rattle.jvm_model.specs.ImageExpansion.{kind_in}
use Rattle.jvm_model.specs.ImageNumbering.{Numbering, Field, fields_from, class_fields, class_order, all_fields, static_fields, is_reference_field, is_number_field, cells_of_value, initial_cells}
use Rattle.jvm_model.specs.Initialisers.{Pushed, Number, Null as PushedNull, is_whole_kind}
use Rattle.jvm_model.specs.InitialStatics.{narrowed, kept, initial_value, kind_of, set_last}
use Rattle.jvm_model.specs.State.{Value, Whole, Null, Name}
use Rattle.mote_model.specs.State.{Reference}
use Rattle.typed_machine.specs.TypedRun.{statics_of}
use Rattle.type_safety.proofs.fitting.SetLists.{all_joined}
use Rattle.type_safety.proofs.facts.Declared.{file_at}
use Rattle.type_safety.proofs.facts.RunMethods.{own_file}
use Rattle.type_safety.proofs.starts.InitialValues.{initial_there}
use Rattle.match_states.specs.MatchedFrames.{reference_of, cells_of_shape}
use Rattle.match_states.specs.MatchedObjects.{field_reference, field_cells, references_in, cells_in, StaticsMatch}
use Rattle.match_states.specs.Setting.{Setting, IsCompiled}

-- ---- lists

module _ {X : Type 0} (P : X → Type 0) where
  of_each : {Y : Type 0} (items : Y → List X) (all : List Y) → ((y : Y) → AllByRecursion P (items y)) → AllByRecursion P (flat_map items all)
  of_each items [] each = tt
  of_each items (y ∷ all) each = all_joined P (items y) (flat_map items all) (each y) (of_each items all each)

  first_kept : (x : X) (xs : List X) (passes : Bool) → (passes ≡ true → P x) → AllByRecursion P xs → AllByRecursion P (cond passes (x ∷ xs) xs)
  first_kept x xs true here rest = (here refl, rest)
  first_kept x xs false here rest = rest

  of_kept : (test : X → Bool) (xs : List X) → AllByRecursion (λ x. test x ≡ true → P x) xs → AllByRecursion P (filter test xs)
  of_kept test [] all = tt
  of_kept test (x ∷ xs) all = first_kept x (filter test xs) (test x) all.0 (of_kept test xs all.1)

-- ---- what a static holds

-- a static field of a file, which holds its initial value
pub record Holds (files : List ClassFile) (field : Field) : Type 0 where
  pub file : ClassFile
  pub member : Member
  pub file_is : file_of files field.member.class ≡ Some file
  pub member_is : slice_get file.fields field.member.member ≡ Some member
  pub static : is_static member.flags ≡ true
  pub holds : statics_of files field.member ≡ Some (initial_value file member)

abbrev HoldsWhereStatic : List ClassFile → Field → Type 0
HoldsWhereStatic files field = field.static ≡ true → Holds files field

module _ (files : List ClassFile) (class : ℕ) (file : ClassFile) (found : file_of files class ≡ Some file) where
  one_holds : (at : ℕ) (member : Member) → slice_get file.fields at ≡ Some member → is_static member.flags ≡ true → Holds files (record { member = member_at class at; kind = kind_of file.pool member; static = is_static member.flags })
  one_holds at member there static =
      let has = file_at files class file found in
      let stands : slice_get files (class - 32) ≡ Some file = sym (own_file files class has.own) ∙ found in
      record { file = file; member = member; file_is = found; member_is = there; static = static; holds = initial_there files (member_at class at) file member has.own stands there static }

  from_hold : (at : ℕ) (members : List Member) → ((i : ℕ) → slice_get members i ≡ slice_get file.fields (at + i)) → AllByRecursion (HoldsWhereStatic files) (fields_from class file at members)
  unfolding fields_from
  from_hold at [] part = tt
  from_hold at (member ∷ members) part =
      let here : at + 0 ≡ at = omega arith in (
        one_holds at member (ap (slice_get file.fields) (sym here) ∙ sym (part 0)),
        from_hold (suc at) members (λ i. let next : at + suc i ≡ suc at + i = omega arith in part (suc i) ∙ ap (slice_get file.fields) next),
      )

class_holds : (files : List ClassFile) (class : ℕ) (found : Option ClassFile) → file_of files class ≡ found → AllByRecursion (HoldsWhereStatic files) (option_map_or (λ (file : ClassFile). fields_from class file 0 file.fields) found [])
class_holds files class None is = tt
class_holds files class (Some file) is = from_hold files class file is 0 file.fields (λ i. ap (slice_get file.fields) (omega arith))

pub all_hold : (files : List ClassFile) → AllByRecursion (Holds files) (static_fields files)
all_hold files =
    of_kept (Holds files) (λ field. field.static) (all_fields files)
    (of_each (HoldsWhereStatic files) (class_fields files) (class_order files) (λ class. class_holds files class (file_of files class) refl))

-- ---- references

no_reference : (whole : Bool) (number : ℤ) → reference_of (if whole then Whole number else Null) ≡ None
no_reference true number = refl
no_reference false number = refl

kept_null : (k : Kind) (pushed : Option Pushed) → reference_of (kept k pushed) ≡ None
kept_null k (Some (Number number)) = no_reference (is_whole_kind k) (narrowed k number)
kept_null k (Some PushedNull) = no_reference (is_whole_kind k) (pos 0)
kept_null k None = no_reference (is_whole_kind k) (pos 0)

module _ (files : List ClassFile) where
  null_where : (field : Field) → Holds files field → field_reference (statics_of files) field ≡ None
  null_where field is =
      ap (λ (value : Option Value). option_map_or reference_of value None) is.holds ∙ kept_null (kind_of is.file.pool is.member) (set_last is.file is.member)

  null_first : (field : Field) (fields : List Field) (test : Bool) → field_reference (statics_of files) field ≡ None → replicate (length fields) None ≡ map (field_reference (statics_of files)) fields
      → replicate (length (cond test (field ∷ fields) fields)) None ≡ map (field_reference (statics_of files)) (cond test (field ∷ fields) fields)
  null_first field fields true null rest =
      ap (λ (first : Reference). first ∷ replicate (length fields) None) (sym null) ∙ ap (λ (others : List Reference). field_reference (statics_of files) field ∷ others) rest
  null_first field fields false null rest = rest

  nulls_are : (fields : List Field) → AllByRecursion (Holds files) fields → replicate (length (filter is_reference_field fields)) None ≡ references_in (statics_of files) fields
  nulls_are [] hold = refl
  nulls_are (field ∷ fields) hold = null_first field (filter is_reference_field fields) (is_reference_field field) (null_where field hold.0) (nulls_are fields hold.1)

-- ---- cells

cells_by_kind : (k : Kind) (value : Value) → is_whole_kind k ≡ true → cells_of_value k value ≡ cells_of_shape (kind_in k) value
cells_by_kind kind.Byte (Whole number) e = refl
cells_by_kind kind.Char (Whole number) e = refl
cells_by_kind kind.Short (Whole number) e = refl
cells_by_kind kind.Int (Whole number) e = refl
cells_by_kind kind.Boolean (Whole number) e = refl
cells_by_kind kind.Byte Null e = refl
cells_by_kind kind.Char Null e = refl
cells_by_kind kind.Short Null e = refl
cells_by_kind kind.Int Null e = refl
cells_by_kind kind.Boolean Null e = refl
cells_by_kind kind.Byte (Name name) e = refl
cells_by_kind kind.Char (Name name) e = refl
cells_by_kind kind.Short (Name name) e = refl
cells_by_kind kind.Int (Name name) e = refl
cells_by_kind kind.Boolean (Name name) e = refl
cells_by_kind kind.Long value e = absurd cc
cells_by_kind kind.Float value e = absurd cc
cells_by_kind kind.Double value e = absurd cc
cells_by_kind (kind.Class name) value e = absurd cc
cells_by_kind (kind.Array dims of) value e = absurd cc

module _ (files : List ClassFile) where
  cells_where : (field : Field) → Holds files field → is_number_field field ≡ true → initial_cells files field ≡ field_cells (statics_of files) field
  cells_where field is number =
      ap (λ (found : Option ClassFile). option_map_or (λ (file : ClassFile). option_map_or (λ (member : Member). cells_of_value field.kind (initial_value file member)) (slice_get file.fields field.member.member) []) found []) is.file_is
      ∙ ap (λ (found : Option Member). option_map_or (λ (member : Member). cells_of_value field.kind (initial_value is.file member)) found []) is.member_is
      ∙ cells_by_kind field.kind (initial_value is.file is.member) number
      ∙ ap (λ (value : Option Value). option_map_or (cells_of_shape (kind_in field.kind)) value []) (sym is.holds)

  cells_first : (field : Field) (fields : List Field) (test : Bool) → (test ≡ true → initial_cells files field ≡ field_cells (statics_of files) field) → flat_map (initial_cells files) fields ≡ flat_map (field_cells (statics_of files)) fields
      → flat_map (initial_cells files) (cond test (field ∷ fields) fields) ≡ flat_map (field_cells (statics_of files)) (cond test (field ∷ fields) fields)
  cells_first field fields true same rest =
      ap (λ (cells : List ℕ). cells ++ flat_map (initial_cells files) fields) (same refl) ∙ ap (λ (cells : List ℕ). field_cells (statics_of files) field ++ cells) rest
  cells_first field fields false same rest = rest

  cells_are_same : (fields : List Field) → AllByRecursion (Holds files) fields → flat_map (initial_cells files) (filter is_number_field fields) ≡ cells_in (statics_of files) fields
  cells_are_same [] hold = refl
  cells_are_same (field ∷ fields) hold = cells_first field (filter is_number_field fields) (is_number_field field) (cells_where field hold.0) (cells_are_same fields hold.1)

-- ---- both halves

pub statics_start : (setting : Setting) → IsCompiled setting → StaticsMatch setting (statics_of setting.world.files) (replicate setting.image.static_refs None) setting.image.static_cells
statics_start setting compiled =
    let files = setting.world.files in
    let hold = all_hold files in
    record {
      refs_are =
          ap (λ (image : Image). replicate image.static_refs None) compiled.image ∙ ap (λ (numbering : Numbering). replicate numbering.static_refs None) compiled.numbering
          ∙ nulls_are files (static_fields files) hold;
      cells_are =
          ap (λ (image : Image). image.static_cells) compiled.image ∙ ap (λ (numbering : Numbering). numbering.static_cells) compiled.numbering ∙ cells_are_same files (static_fields files) hold;
    }
