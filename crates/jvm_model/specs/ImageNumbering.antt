-- The numbers of what an image names: types, selectors, methods, and the places of fields. Ids of types and methods begin
-- behind those of the library.
use Rattle.std.specs.Prelude.{◌≡◌, ℕ, zero, suc, ◌+◌, Bool, true, false, ◌&&◌, ◌||◌, not, nat_eq, nat_lt, if◌then◌else◌, List, [], ◌∷◌, ◌++◌, map, filter, length, position, Option, Some, None, option_and_then, slice_get, unwrap_or, is_some}
use Rattle.std.specs.Int.{w32, cast_unsigned}
use Rattle.std.specs.Option.{option_map_or, option_to_list}
use Rattle.std.specs.List.{list_any, flat_map, fold, range_with_len, sum_by, filter_map}
use Rattle.std.specs.Str.{bytes_eq}
use Rattle.cell_num.specs.Cells.{low_cell, high_cell}
use Rattle.library.specs.Classes.{first_own}
use Rattle.library.specs.declared.natives.Native.{Native}
use Rattle.library.specs.Members.{methods_of as natives_of}
use Rattle.library.specs.Natives.{number_of}
use Rattle.class_pool.specs.declared.descriptor.Kind.{Kind}
use Rattle.class_pool.specs.declared.types.MemberId.{MemberId}
use Rattle.class_pool.specs.declared.types.TypeBase.{TypeBase}
use Rattle.class_pool.specs.declared.types.TypeBase.TheVariants as base
use Rattle.class_pool.specs.declared.types.TypeRef.{TypeRef}
use Rattle.class_pool.specs.Descriptors.{descriptor_text}
use Rattle.class_pool.specs.DescriptorReading.{field_of}
use Rattle.class_file.specs.Rules.{is_static, is_private}
use Rattle.class_file.specs.declared.record.ClassFile.{ClassFile}
use Rattle.class_file.specs.declared.record.Member.{Member}
use Rattle.class_tree.specs.DirectSupers.{class_count, superclass_of, superinterfaces_of}
use Rattle.class_tree.specs.Members.{Declaration, fields_of, methods_of, in_file, member_at}
use Rattle.class_tree.specs.Merge.{is_same_primitive}
use Rattle.class_tree.specs.Set.{file_of}
use Rattle.class_tree.specs.Subtypes.{class_type}
use Rattle.body_form.specs.declared.body.Body.{Body}
use Rattle.body_form.specs.declared.op.MethodUse.{MethodUse}
use Rattle.body_form.specs.declared.op.Op.{Op}
use Rattle.body_form.specs.declared.op.Op.TheVariants as op
use Rattle.jvm_model.specs.declared.numbers.FieldPlace.{FieldPlace}
use Rattle.jvm_model.specs.declared.numbers.Layout.{Layout}
use Rattle.jvm_model.specs.declared.numbers.Selector.{Selector}
use Rattle.jvm_model.specs.Bodies.{Coded, coded_from}
use Rattle.jvm_model.specs.Initialisers.{is_whole_kind, is_reference_kind}
use Rattle.jvm_model.specs.InitialStatics.{initial_value, kind_of}
use Rattle.jvm_model.specs.MethodUses.{constructor_name, initialiser_name}
use Rattle.jvm_model.specs.State.{Value, Whole, Null, Name}
use Rattle.jvm_model.specs.WidthsSlots.{passed_cells}
use Rattle.jvm_model.specs.ImageExpansion.{Ids}

-- ---- classes

abbrev pub is_among : ℕ → List ℕ → Bool
is_among number numbers = list_any (nat_eq number) numbers

-- A class of a file gets a number where it has none yet: behind those of its superclass and of its superinterfaces in
-- order, which get theirs first by the same rule, so many levels up.
unfoldable pub number_class : List ClassFile → ℕ → List ℕ → ℕ → List ℕ
number_class files zero numbered class = numbered
number_class files (suc levels) numbered class =
    if nat_lt class first_own || is_among class numbered then numbered
    else fold (number_class files levels) numbered (option_to_list (superclass_of files class) ++ superinterfaces_of files class) ++ class ∷ []

-- the classes of the files in the order of their ids; the files come in their order
abbrev pub class_order : List ClassFile → List ℕ
class_order files = fold (number_class files (class_count files)) [] (range_with_len first_own (length files))

-- ---- types

abbrev pub is_same_base : TypeBase → TypeBase → Bool
is_same_base (base.Class class) (base.Class other) = nat_eq class other
is_same_base of other = is_same_primitive of other

abbrev pub is_type : TypeRef → TypeRef → Bool
is_type type other = nat_eq type.dims other.dims && is_same_base type.base other.base

abbrev pub with_type : List TypeRef → TypeRef → List TypeRef
with_type types type = if list_any (is_type type) types then types else types ++ type ∷ []

-- an array type comes behind the type of its elements, where that is an array
unfoldable pub with_arrays : TypeBase → ℕ → List TypeRef → List TypeRef
with_arrays of zero types = types
with_arrays of (suc dims) types = with_type (with_arrays of dims types) (record { dims = suc dims; base = of })

-- the types that an instruction shows: the array that it makes, or the type that it tests for
abbrev pub shown_by : Op → Option TypeRef
shown_by (op.NewArray type) = Some type
shown_by (op.MultiArray array dims) = Some array
shown_by (op.CheckCast type) = Some type
shown_by (op.InstanceOf type) = Some type
shown_by instruction = None

abbrev pub with_shown : List TypeRef → ℕ × Op → List TypeRef
with_shown types x = option_map_or (λ (type : TypeRef). with_arrays type.base type.dims types) (shown_by x.1) types

abbrev pub with_body : List TypeRef → Body → List TypeRef
with_body types body = fold with_shown types body.ops

-- ---- methods

-- the methods of a file that have code and are no initialisers
abbrev pub coded_in_class : List ClassFile → ℕ → List Coded
coded_in_class files class = option_map_or (λ (file : ClassFile). coded_from class file 0 file.methods) (file_of files class) []

-- in the order of their ids
abbrev pub method_order : List ClassFile → List MemberId
method_order files = flat_map (λ class. map (λ (coded : Coded). member_at class coded.position) (coded_in_class files class)) (class_order files)

abbrev pub is_member : MemberId → MemberId → Bool
is_member member other = nat_eq member.class other.class && nat_eq member.member other.member

abbrev pub is_body_of : MemberId → Body → Bool
is_body_of member body = nat_eq member.class body.class && nat_eq member.member body.method

-- the bodies of a set in the order of the ids of their methods
abbrev pub bodies_in_order : List ClassFile → List Body → List Body
bodies_in_order files bodies = flat_map (λ member. filter (is_body_of member) bodies) (method_order files)

-- the types in the order of their ids: the classes, and then the arrays that instructions show, each at first sight
abbrev pub type_order : List ClassFile → List Body → List TypeRef
type_order files bodies = fold with_body (map class_type (class_order files)) (bodies_in_order files bodies)

-- ---- selectors

-- a method that calls select: neither static nor private, no constructor and no initialiser
abbrev pub is_selected : Declaration → Bool
is_selected method =
    not (is_static method.flags) && (not (is_private method.flags) && (not (bytes_eq method.name constructor_name) && not (bytes_eq method.name initialiser_name)))

abbrev pub is_selector : List ℕ → List ℕ → Selector → Bool
is_selector name descriptor selector = bytes_eq name selector.name && bytes_eq descriptor selector.descriptor

abbrev pub with_selector : List Selector → Declaration → List Selector
with_selector selectors method =
    if list_any (is_selector method.name method.descriptor) selectors then selectors else selectors ++ record { name = method.name; descriptor = method.descriptor } ∷ []

-- the selectors in the order of their numbers: by name and descriptor at first sight, over classes by id
abbrev pub selector_order : List ClassFile → List Selector
selector_order files = fold with_selector [] (filter is_selected (flat_map (methods_of files) (class_order files)))

-- ---- fields

-- a field with its class and position there
pub record Field : Type 0 where
  pub member : MemberId
  pub kind : Kind
  pub static : Bool

unfoldable pub fields_from : ℕ → ClassFile → ℕ → List Member → List Field
fields_from class file at [] = []
fields_from class file at (field ∷ fields) =
    record { member = member_at class at; kind = kind_of file.pool field; static = is_static field.flags } ∷ fields_from class file (suc at) fields

abbrev pub class_fields : List ClassFile → ℕ → List Field
class_fields files class = option_map_or (λ (file : ClassFile). fields_from class file 0 file.fields) (file_of files class) []

-- the fields in the order of the ids of their classes
abbrev pub all_fields : List ClassFile → List Field
all_fields files = flat_map (class_fields files) (class_order files)

abbrev pub is_reference_field : Field → Bool
is_reference_field field = is_reference_kind field.kind

abbrev pub is_number_field : Field → Bool
is_number_field field = is_whole_kind field.kind

abbrev pub field_cells : Field → ℕ
field_cells field = passed_cells field.kind

-- the fields of an object: those of its superclass first, so many levels up, then those of its class
unfoldable pub object_fields : List ClassFile → ℕ → ℕ → List Field
object_fields files zero class = []
object_fields files (suc levels) class =
    option_map_or (object_fields files levels) (superclass_of files class) [] ++ filter (λ field. not field.static) (class_fields files class)

abbrev pub fields_of_object : List ClassFile → ℕ → List Field
fields_of_object files class = object_fields files (class_count files) class

abbrev pub static_fields : List ClassFile → List Field
static_fields files = filter (λ field. field.static) (all_fields files)

-- how many items, or cells, stand before a member among these fields
unfoldable pub place_among : (Field → ℕ) → List Field → MemberId → ℕ
place_among size [] member = 0
place_among size (field ∷ fields) member = if is_member member field.member then 0 else size field + place_among size fields member

-- the place of a field among these: among the references, or among the cells
abbrev pub place_in : List Field → Field → ℕ
place_in fields field =
    if is_reference_field field then place_among (λ other. 1) (filter is_reference_field fields) field.member
    else place_among field_cells (filter is_number_field fields) field.member

abbrev pub place_of : List ClassFile → Field → ℕ
place_of files field = place_in (if field.static then static_fields files else fields_of_object files field.member.class) field

abbrev pub layout_of : List ClassFile → ℕ → Layout
layout_of files class =
    record {
      refs = length (filter is_reference_field (fields_of_object files class));
      nums = sum_by field_cells (filter is_number_field (fields_of_object files class));
    }

-- ---- statics

-- the cells of a value: of an int the low one and the high one, of a small type one
abbrev pub cells_of_value : Kind → Value → List ℕ
cells_of_value kind (Whole number) = if nat_eq (passed_cells kind) 2 then low_cell number ∷ high_cell number ∷ [] else low_cell number ∷ []
cells_of_value kind value = []

-- what a static holds before main starts
abbrev pub initial_cells : List ClassFile → Field → List ℕ
initial_cells files field =
    option_map_or (λ (file : ClassFile). option_map_or (λ (member : Member). cells_of_value field.kind (initial_value file member)) (slice_get file.fields field.member.member) []) (file_of files field.member.class) []

-- ---- the numbering

-- The types, methods and layouts are those from id 32 on, the selectors from 0 on; the fields are in the order of the ids
-- of their classes, and the cells are those of the statics that are whole numbers.
pub record Numbering : Type 0 where
  pub types : List TypeRef
  pub selectors : List Selector
  pub methods : List MemberId
  pub layouts : List Layout
  pub fields : List FieldPlace
  pub static_refs : ℕ
  pub static_cells : List ℕ
  pub main : ℕ

-- the number of an item among these, from a number on
abbrev pub number_from : {X : Type 0} → ℕ → (X → Bool) → List X → ℕ
number_from first is items = first + unwrap_or (position is items) 0

-- the id of a native, and of a method with code
abbrev pub method_id : List MemberId → MemberId → ℕ
method_id methods member =
    option_map_or number_of (slice_get (natives_of member.class) member.member) (number_from first_own (is_member member) methods)

abbrev pub numbering_of : List ClassFile → List Body → MemberId → Numbering
numbering_of files bodies main =
    record {
      types = type_order files bodies;
      selectors = selector_order files;
      methods = method_order files;
      layouts = map (layout_of files) (class_order files);
      fields = map (λ field. record { member = field.member; place = place_of files field }) (all_fields files);
      static_refs = length (filter is_reference_field (static_fields files));
      static_cells = flat_map (initial_cells files) (filter is_number_field (static_fields files));
      main = method_id (method_order files) main;
    }

-- ---- what instructions ask for

unfoldable pub place_listed : List FieldPlace → MemberId → ℕ
place_listed [] member = 0
place_listed (field ∷ fields) member = if is_member member field.member then field.place else place_listed fields member

abbrev pub library_class : TypeBase → Option ℕ
library_class (base.Class class) = if nat_lt class first_own then Some class else None
library_class of = None

-- a class of the library has its own number as its id
abbrev pub library_id : TypeRef → Option ℕ
library_id type = if nat_eq type.dims 0 then library_class type.base else None

abbrev pub type_id : List TypeRef → TypeRef → ℕ
type_id types type = unwrap_or (library_id type) (number_from first_own (is_type type) types)

abbrev pub ids_of : Numbering → Ids
ids_of numbering =
    record {
      static = place_listed numbering.fields;
      field = place_listed numbering.fields;
      type = type_id numbering.types;
      method = method_id numbering.methods;
      selector = λ used. number_from 0 (is_selector used.name (descriptor_text used.descriptor)) numbering.selectors;
    }

-- ---- laws

-- each class of the files has one id, behind those of the classes of the files that are directly above it
pub record IsClassOrder (files : List ClassFile) (order : List ℕ) : Type 0 where
  pub each : (class : ℕ) → is_some (file_of files class) ≡ true → is_among class order ≡ true
  pub only : (class : ℕ) → is_among class order ≡ true → is_some (file_of files class) ≡ true
  pub once : (before after : List ℕ) (class : ℕ) → order ≡ before ++ class ∷ after → is_among class (before ++ after) ≡ false
  pub above : (before after : List ℕ) (class : ℕ) → order ≡ before ++ class ∷ after → (upper : ℕ) → is_among upper (option_to_list (superclass_of files class) ++ superinterfaces_of files class) ≡ true → is_some (file_of files upper) ≡ true → is_among upper before ≡ true
