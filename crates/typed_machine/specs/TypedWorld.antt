-- What the typed machine knows of a set: its classes, the bodies of its methods, and how many cells things take.
use Rattle.std.specs.Prelude.{ℕ, zero, suc, ◌+◌, ◌*◌, ◌-◌, ◌/◌, Bool, false, ◌&&◌, ◌||◌, nat_eq, nat_lt, if◌then◌else◌, List, [], ◌∷◌, map, filter, Option, Some, None, option_map, option_and_then, slice_get, unwrap_or, pos}
use Rattle.std.specs.Option.{option_map_or}
use Rattle.std.specs.List.{sum}
use Rattle.library.specs.declared.natives.Native.{Native}
use Rattle.library.specs.Members.{methods_of as natives_of}
use Rattle.class_pool.specs.declared.descriptor.Kind.{Kind}
use Rattle.class_pool.specs.declared.descriptor.Kind.TheVariants as kind
use Rattle.class_pool.specs.declared.types.MemberId.{MemberId}
use Rattle.class_pool.specs.declared.types.TypeBase.{TypeBase}
use Rattle.class_pool.specs.declared.types.TypeBase.TheVariants as base
use Rattle.class_pool.specs.declared.types.TypeRef.{TypeRef}
use Rattle.class_pool.specs.DescriptorReading.{field_of}
use Rattle.class_file.specs.Rules.{is_static}
use Rattle.class_file.specs.declared.record.ClassFile.{ClassFile}
use Rattle.class_tree.specs.AccessTests.{is_subclass}
use Rattle.class_tree.specs.DirectSupers.{class_count, superclass_of}
use Rattle.class_tree.specs.Members.{Declaration, fields_of, methods_of}
use Rattle.class_tree.specs.Merge.{is_class_or_super, is_reference, is_same_primitive}
use Rattle.class_tree.specs.Selection.{select}
use Rattle.body_form.specs.declared.body.Body.{Body}
use Rattle.body_form.specs.declared.body.Guard.{Guard}
use Rattle.body_form.specs.declared.op.MethodUse.{MethodUse}
use Rattle.body_form.specs.declared.op.Op.{Op}
use Rattle.body_form.specs.Flow.{Ops, covers}
use Rattle.jvm_model.specs.Initialisers.{is_whole_kind}
use Rattle.jvm_model.specs.State.{Value, Whole, Null}
use Rattle.jvm_model.specs.TypesRules.{op_at}
use Rattle.typed_machine.specs.TypedState.{Object, Instance, Elements}

-- the classes of a set, the bodies of its methods, the method that is its main, and the cells of a method's frame
pub record World : Type 0 where
  pub files : List ClassFile
  pub bodies : List Body
  pub main : MemberId
  pub frame_cells : MemberId → ℕ

-- ---- methods

abbrev pub is_of : MemberId → Body → Bool
is_of id body = nat_eq id.class body.class && nat_eq id.member body.method

-- the body of a method, where it has code
unfoldable pub body_among : List Body → MemberId → Option Body
body_among [] id = None
body_among (body ∷ bodies) id = if is_of id body then Some body else body_among bodies id

-- the native that a method of the library is
abbrev pub native_of : MemberId → Option Native
native_of id = slice_get (natives_of id.class) id.member

-- the pc after an instruction
unfoldable pub pc_after : Ops → ℕ → Option ℕ
pc_after [] at = None
pc_after ((pc, op) ∷ []) at = None
pc_after ((pc, op) ∷ next ∷ ops) at = if nat_eq pc at then Some next.0 else pc_after (next ∷ ops) at

-- an instruction with the pc after it
pub record Placed : Type 0 where
  pub op : Op
  pub next : Option ℕ

abbrev pub placed_at : Body → ℕ → Option Placed
placed_at body pc = option_map (λ op. record { op = op; next = pc_after body.ops pc }) (op_at body.ops pc)

-- the rows of a body's exception table that cover a pc, in order
abbrev pub guards_at : Body → ℕ → List Guard
guards_at body pc = filter (covers pc) body.handlers

-- the descriptor that a method declares
abbrev pub descriptor_of : List ClassFile → MemberId → List ℕ
descriptor_of files id = option_map_or (λ method. method.descriptor) (slice_get (methods_of files id.class) id.member) []

-- what a call of a class's object runs: a private method itself, another one by selection
abbrev pub called : List ClassFile → MethodUse → ℕ → Option MemberId
called files used class = if used.private then Some used.method else select files used.name (descriptor_of files used.method) class

-- ---- types of objects

abbrev pub class_base : ℕ → TypeBase
class_base class = base.Class class

-- the type of an object, and the class by which its methods are selected: of an array java/lang/Object
abbrev pub type_of : Object → TypeRef
type_of (Instance class fields) = record { dims = 0; base = class_base class }
type_of (Elements array elements) = array

abbrev pub class_of : Object → ℕ
class_of (Instance class fields) = class
class_of (Elements array elements) = 0

abbrev pub is_base_below : List ClassFile → TypeBase → TypeBase → Bool
is_base_below files (base.Class lower) (base.Class upper) = is_subclass files lower upper
is_base_below files lower upper = is_same_primitive lower upper

abbrev pub is_object : TypeBase → Bool
is_object (base.Class class) = nat_eq class 0
is_object of = false

-- one type is another one or below it (JVMS 4.10.1.2): types of as many dimensions by their bases, one of more below
-- arrays of java/lang/Object of fewer, and below java/lang/Object
abbrev pub is_below : List ClassFile → TypeRef → TypeRef → Bool
is_below files lower upper =
    (nat_eq lower.dims upper.dims && is_base_below files lower.base upper.base) || (nat_lt upper.dims lower.dims && is_object upper.base)

-- ---- fields

-- what a field or an element of a type holds at first
abbrev pub default_of_kind : Kind → Value
default_of_kind k = if is_whole_kind k then Whole (pos 0) else Null

abbrev pub default_of_type : TypeRef → Value
default_of_type type = if is_reference type.dims type.base then Null else Whole (pos 0)

abbrev pub kind_of : Declaration → Kind
kind_of field = unwrap_or (field_of field.descriptor) kind.Int

-- the instance field of an object of a class: one that the class or a superclass of it declares
abbrev pub instance_field : List ClassFile → ℕ → MemberId → Option Declaration
instance_field files class id =
    if is_class_or_super files class id.class
    then option_and_then (λ field. if is_static field.flags then None else Some field) (slice_get (fields_of files id.class) id.member)
    else None

-- an object of a class, whose fields are 0 or null
abbrev pub new_object : List ClassFile → ℕ → Object
new_object files class = Instance class (λ id. option_map (λ field. default_of_kind (kind_of field)) (instance_field files class id))

-- ---- cells

abbrev pub cells_of_kind : Kind → ℕ
cells_of_kind kind.Int = 2
cells_of_kind _ = 1

abbrev pub cells_of_field : Declaration → ℕ
cells_of_field field = if is_static field.flags then 0 else cells_of_kind (kind_of field)

-- the cells of the fields that a class and those above it, so many levels up, declare
unfoldable pub field_cells : List ClassFile → ℕ → ℕ → ℕ
field_cells files zero class = 0
field_cells files (suc levels) class = sum (map cells_of_field (fields_of files class)) + option_map_or (field_cells files levels) (superclass_of files class) 0

-- an object has two cells of a header, and its fields
abbrev pub object_cells : List ClassFile → ℕ → ℕ
object_cells files class = 2 + field_cells files (class_count files) class

-- the cells of so many elements: of bytes and booleans two a cell, of ints two each
abbrev pub primitive_cells : TypeBase → ℕ → ℕ
primitive_cells base.Int count = 2 * count
primitive_cells base.Byte count = (count + 1) / 2
primitive_cells base.Boolean count = (count + 1) / 2
primitive_cells of count = count

abbrev pub element_cells : TypeRef → ℕ → ℕ
element_cells element count = if is_reference element.dims element.base then count else primitive_cells element.base count

-- an array has three cells of a header with its length
abbrev pub array_cells : TypeRef → ℕ → ℕ
array_cells array count = 3 + element_cells (record { dims = array.dims - 1; base = array.base }) count
