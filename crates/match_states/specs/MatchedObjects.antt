-- Which objects and statics of the split machine match those of the typed one: fields by their places, elements in order,
-- of bytes and booleans two a cell.
use Rattle.std.specs.Prelude.{◌≡◌, ℕ, ◌+◌, ◌*◌, ◌%◌, List, [], ◌∷◌, map, filter, length, Option, Some, None, if◌then◌else◌}
use Rattle.std.specs.Option.{option_map_or}
use Rattle.std.specs.List.{flat_map}
use Rattle.cell_num.specs.Cells.{low_cell}
use Rattle.class_pool.specs.declared.descriptor.Kind.{Kind as DeclaredKind}
use Rattle.class_pool.specs.declared.types.TypeBase.{TypeBase}
use Rattle.class_pool.specs.declared.types.TypeBase.TheVariants as base
use Rattle.class_pool.specs.declared.types.TypeRef.{TypeRef}
use Rattle.class_tree.specs.Merge.{is_reference}
use Rattle.class_tree.specs.Subtypes.{class_type}
use Rattle.image_instr.specs.declared.insn.Kind.TheVariants as kind
use Rattle.jvm_model.specs.Bodies.{AreEach}
use Rattle.jvm_model.specs.State.{Value, Whole, Null, Name}
use Rattle.jvm_model.specs.TypesRules.{component_of}
use Rattle.jvm_model.specs.ImageExpansion.{kind_in}
use Rattle.jvm_model.specs.ImageNumbering.{Field, fields_of_object, static_fields, is_reference_field, is_number_field, type_id}
use Rattle.mote_model.specs.State.{Reference, Object as SplitObject}
use Rattle.typed_machine.specs.TypedState.{Fields, Object, Instance, Elements}
pub use Rattle.typed_machine.specs.TypedView.{field_reference, references_in, element_references}
use Rattle.match_states.specs.Setting.{Setting}
use Rattle.match_states.specs.MatchedFrames.{reference_of, cells_of_shape}

-- ---- fields

-- the cells of a field that is a whole number: one of a small type, two of an int
abbrev pub field_cells : Fields → Field → List ℕ
field_cells fields field = option_map_or (cells_of_shape (kind_in field.kind)) (fields field.member) []

abbrev pub cells_in : Fields → List Field → List ℕ
cells_in fields all = flat_map (field_cells fields) (filter is_number_field all)

-- ---- elements

abbrev pub low_byte : Value → ℕ
low_byte (Whole number) = low_cell number % 256
low_byte value = 0

-- bytes in cells, that of an even index low
unfoldable pub packed : List ℕ → List ℕ
packed [] = []
packed (byte ∷ []) = byte ∷ []
packed (byte ∷ other ∷ bytes) = (other * 256 + byte) ∷ packed bytes

abbrev pub number_elements : TypeBase → List Value → List ℕ
number_elements base.Int elements = flat_map (cells_of_shape kind.Two) elements
number_elements base.Byte elements = packed (map low_byte elements)
number_elements base.Boolean elements = packed (map low_byte elements)
number_elements of elements = flat_map (cells_of_shape kind.One) elements

abbrev pub element_cells : TypeRef → List Value → List ℕ
element_cells component elements = if is_reference component.dims component.base then [] else number_elements component.base elements

-- ---- objects

pub record ObjectHas (object : SplitObject) (type : ℕ) (count : Option ℕ) (refs : List Reference) (cells : List ℕ) : Type 0 where
  pub type_is : object.type ≡ type
  pub length_is : object.length ≡ count
  pub refs_are : object.refs ≡ refs
  pub cells_are : object.cells ≡ cells

abbrev pub ObjectMatches : Setting → Object → SplitObject → Type 0
ObjectMatches setting (Instance class fields) other =
    ObjectHas other (type_id setting.numbering.types (class_type class)) None
    (references_in fields (fields_of_object setting.world.files class)) (cells_in fields (fields_of_object setting.world.files class))
ObjectMatches setting (Elements array elements) other =
    ObjectHas other (type_id setting.numbering.types array) (Some (length elements))
    (element_references (component_of array) elements) (element_cells (component_of array) elements)

abbrev pub ObjectsMatch : Setting → List Object → List SplitObject → Type 0
ObjectsMatch setting objects others = AreEach (ObjectMatches setting) objects others

-- ---- statics

pub record StaticsMatch (setting : Setting) (statics : Fields) (refs : List Reference) (cells : List ℕ) : Type 0 where
  pub refs_are : refs ≡ references_in statics (static_fields setting.world.files)
  pub cells_are : cells ≡ cells_in statics (static_fields setting.world.files)
