-- The places of fields, field by field.
use Rattle.std.specs.Prelude.{◌≡◌, ℕ, ◌+◌, Bool, true, false, ◌||◌, not, nat_eq, if◌then◌else◌, List, [], ◌∷◌, ◌++◌, map, filter, length}
use Rattle.std.specs.List.{AllByRecursion, sum_by}
use Rattle.std.specs.Option.{option_map_or}
use Rattle.class_pool.specs.declared.descriptor.Kind.{Kind}
use Rattle.class_pool.specs.declared.types.MemberId.{MemberId}
use Rattle.class_pool.specs.Pool.{Slots}
use Rattle.class_file.specs.Rules.{is_static}
use Rattle.class_file.specs.declared.record.ClassFile.{ClassFile}
use Rattle.class_file.specs.declared.record.Member.{Member}
use Rattle.class_tree.specs.DirectSupers.{superclass_of}
use Rattle.jvm_model.specs.declared.numbers.FieldPlace.{FieldPlace}
use Rattle.jvm_model.specs.declared.numbers.Layout.{Layout}
use Rattle.jvm_model.specs.Initialisers.{is_whole_kind, is_reference_kind}
use Rattle.jvm_model.specs.InitialStatics.{kind_of}
use Rattle.jvm_model.specs.WidthsSlots.{passed_cells}
use Rattle.jvm_model.specs.ImageNumbering.{Field, all_fields, class_fields, fields_of_object, is_reference_field, is_number_field, field_cells, place_of}
use Rattle.infuse_ids.specs.declared.places.Counts.{Counts}
use Rattle.infuse_ids.specs.Layouts.{own_fields}

-- ---- counts

-- the references among fields, and the cells of those that are whole numbers
abbrev pub layout_in : List Field → Layout
layout_in fields = record { refs = length (filter is_reference_field fields); nums = sum_by field_cells (filter is_number_field fields) }

-- the static ones among fields
abbrev pub statics_among : List Field → List Field
statics_among fields = filter (λ (field : Field). field.static) fields

-- those of objects
abbrev pub of_objects : List Field → List Field
of_objects fields = filter (λ (field : Field). not field.static) fields

-- a field of the type is counted with the others
abbrev pub with_kind : Kind → Layout → Layout
with_kind kind counts =
    if is_reference_kind kind then record { refs = counts.refs + 1; nums = counts.nums } else record { refs = counts.refs; nums = counts.nums + passed_cells kind }

-- the place of a field of the type behind those that are counted
abbrev pub place_behind : Kind → Layout → ℕ
place_behind kind counts = if is_reference_kind kind then counts.refs else counts.nums

-- the counts that a field is one of: of statics, or of the fields of an object
abbrev pub counts_for : Bool → Counts → Layout
counts_for among_statics counts = if among_statics then counts.statics else counts.object

-- the counts with a field of the type
abbrev pub count_field : Kind → Bool → Counts → Counts
count_field kind among_statics counts =
    if among_statics then record { statics = with_kind kind counts.statics; object = counts.object } else record { statics = counts.statics; object = with_kind kind counts.object }

-- ---- one field

-- a field of a class
abbrev pub field_at : MemberId → Slots → Member → Field
field_at member pool field = record { member = member; kind = kind_of pool field; static = is_static field.flags }

-- a field with its place in a set
abbrev pub placed : List ClassFile → Field → FieldPlace
placed files field = record { member = field.member; place = place_of files field }

-- the field is counted, and is listed with its place behind those that were counted
pub record AddsField (field : Field) (old_counts new_counts : Counts) (old_places new_places : List FieldPlace) : Type 0 where
  pub known : (is_reference_kind field.kind || is_whole_kind field.kind) ≡ true
  pub counted : new_counts ≡ count_field field.kind field.static old_counts
  pub listed : new_places ≡ old_places ++ record { member = field.member; place = place_behind field.kind (counts_for field.static old_counts) } ∷ []

-- ---- many fields

-- the fields of an object of the superclass
abbrev pub fields_above : List ClassFile → ℕ → List Field
fields_above files class = option_map_or (fields_of_object files) (superclass_of files class) []

-- none of these fields is one of the class
abbrev pub AreOthers : ℕ → List Field → Type 0
AreOthers class fields = AllByRecursion (λ (field : Field). nat_eq class field.member.class ≡ false) fields

-- the fields of a class stand between those of other classes, and those of its objects behind those of its superclass's
pub record StandsAmong (files : List ClassFile) (class : ℕ) (before after : List Field) : Type 0 where
  pub all : all_fields files ≡ before ++ (class_fields files class ++ after)
  pub object : fields_of_object files class ≡ fields_above files class ++ own_fields files class
  pub earlier : AreOthers class before
  pub upper : AreOthers class (fields_above files class)

-- the static ones of these fields are counted, and each is listed with its place
pub record ArePlaced (files : List ClassFile) (fields : List Field) (statics : Layout) (places : List FieldPlace) : Type 0 where
  pub counted : statics ≡ layout_in (statics_among fields)
  pub listed : places ≡ map (placed files) fields
