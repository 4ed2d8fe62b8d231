-- States of the typed machine that fit the types of their methods (JVMS 4.10.2): values, frames, objects and statics.
use Rattle.std.specs.Prelude.{◌≡◌, ◌⊎◌, ℕ, ℤ, pos, ◌≤◌, true, false, List, [], ◌∷◌, length, Option, Some, None, option_and_then, slice_get, if◌then◌else◌, FitsSigned}
use Rattle.std.specs.Int.{w32}
use Rattle.std.specs.List.{AllByRecursion}
use Rattle.class_pool.specs.declared.descriptor.Kind.{Kind}
use Rattle.class_pool.specs.declared.types.MemberId.{MemberId}
use Rattle.class_pool.specs.declared.types.TypeBase.{TypeBase}
use Rattle.class_pool.specs.declared.types.TypeRef.{TypeRef}
use Rattle.class_file.specs.Rules.{is_abstract, is_interface, is_static}
use Rattle.class_file.specs.declared.record.ClassFile.{ClassFile}
use Rattle.class_tree.specs.Fits.{fits}
use Rattle.class_tree.specs.Members.{Declaration, fields_of}
use Rattle.class_tree.specs.Set.{IsClass, flags_of}
use Rattle.class_tree.specs.Subtypes.{IsType, class_type}
use Rattle.body_form.specs.declared.body.Body.{Body}
use Rattle.body_form.specs.declared.op.MethodUse.{MethodUse}
use Rattle.body_form.specs.declared.op.Op.{Op}
use Rattle.body_form.specs.declared.op.Op.TheVariants as op
use Rattle.body_form.specs.declared.types.VFrame.{VFrame}
use Rattle.body_form.specs.declared.types.VType.{VType}
use Rattle.body_form.specs.declared.types.VType.TheVariants as known
use Rattle.jvm_model.specs.Bodies.{AreEach}
use Rattle.jvm_model.specs.InitialStatics.{narrowed}
use Rattle.jvm_model.specs.State.{Value, Whole, Null, Name}
use Rattle.jvm_model.specs.TypesFrames.{value_of, value_of_kind}
use Rattle.jvm_model.specs.TypesRight.{Table}
use Rattle.jvm_model.specs.TypesRules.{Change, makes_class, op_at, change_of, changed, component_of}
use Rattle.typed_machine.specs.TypedArrays.{kept_by_base}
use Rattle.typed_machine.specs.TypedState.{Fields, Object, Instance, Elements, Frame, State}
use Rattle.typed_machine.specs.TypedWorld.{World, body_among, type_of, kind_of, instance_field}

-- the types of each method
abbrev pub Tables : Type 0
Tables = MemberId → Table

-- ---- values

-- a whole number of 32 bits
abbrev pub IsWhole : Value → Type 0
IsWhole value = (number : ℤ) × (value ≡ Whole number) × FitsSigned w32 number

-- the value is the name of an object of which this holds
pub record NamesObject (objects : List Object) (value : Value) (Has : Object → Type 0) : Type 0 where
  pub name : ℕ
  pub object : Object
  pub is : value ≡ Name name
  pub there : slice_get objects name ≡ Some object
  pub has : Has object

-- the object is an instance of a class that passes a test
pub record IsInstance (object : Object) (Has : ℕ → Type 0) : Type 0 where
  pub class : ℕ
  pub fields : Fields
  pub is : object ≡ Instance class fields
  pub has : Has class

-- Anything fits Top. An object fits a type where its own type fits it, New where its class is the one that is made
-- there, and This where its class fits that of the body.
abbrev pub ValueFits : World → List Object → Body → Value → VType → Type 0
ValueFits world objects body value known.Top = Unit {0}
ValueFits world objects body value known.Int = IsWhole value
ValueFits world objects body value known.Null = value ≡ Null
ValueFits world objects body value (known.Ref type) = (value ≡ Null) ⊎ NamesObject objects value (λ object. fits world.files (known.Ref (type_of object)) type ≡ true)
ValueFits world objects body value (known.New pc) = NamesObject objects value (λ object. IsInstance object (λ class. makes_class class (op_at body.ops pc) ≡ true))
ValueFits world objects body value known.This = NamesObject objects value (λ object. IsInstance object (λ class. fits world.files (known.Ref (class_type class)) (class_type body.class) ≡ true))

-- a local that is not set fits Top alone
abbrev pub LocalFits : World → List Object → Body → Option Value → VType → Type 0
LocalFits world objects body None type = type ≡ known.Top
LocalFits world objects body (Some value) type = ValueFits world objects body value type

-- a frame fits a frame of types
pub record FrameFits (world : World) (objects : List Object) (body : Body) (frame : Frame) (types : VFrame) : Type 0 where
  pub locals : AreEach (LocalFits world objects body) frame.locals types.locals
  pub operands : AreEach (ValueFits world objects body) frame.operands types.stack

-- ---- declared types

-- a value fits a declared type; no body is asked for by what is declared
abbrev pub TypeFits : World → List Object → TypeRef → Value → Type 0
TypeFits world objects type value = (body : Body) → ValueFits world objects body value (value_of type)

pub record KindFits (world : World) (objects : List Object) (kind : Kind) (value : Value) : Type 0 where
  pub type : VType
  pub is : value_of_kind world.files kind ≡ Some type
  pub has : (body : Body) → ValueFits world objects body value type

-- a number is one that fields of a type keep: a write of it leaves it as it is
abbrev pub IsKept : Kind → Value → Type 0
IsKept kind value = (number : ℤ) → value ≡ Whole number → narrowed kind number ≡ number

-- a number is one that elements of arrays with a base keep
abbrev pub IsKeptElement : TypeBase → Value → Type 0
IsKeptElement base value = (number : ℤ) → value ≡ Whole number → kept_by_base base number ≡ number

-- a field is there, with a value that fits its declared type and that the type keeps
pub record FieldFits (world : World) (objects : List Object) (fields : Fields) (id : MemberId) (field : Declaration) : Type 0 where
  pub value : Value
  pub is : fields id ≡ Some value
  pub has : KindFits world objects (kind_of field) value
  pub kept : IsKept (kind_of field) value

-- ---- objects and statics

-- An object's class is neither abstract nor an interface, and it has the fields of its class and superclasses. Each
-- element of an array fits its component, its length has 32 bits, and its base keeps each number in it.
abbrev pub ObjectFits : World → List Object → Object → Type 0
ObjectFits world objects (Instance class fields) =
    IsClass world.files class × (is_interface (flags_of world.files class) ≡ false) × (is_abstract (flags_of world.files class) ≡ false)
    × ((id : MemberId) (field : Declaration) → instance_field world.files class id ≡ Some field → FieldFits world objects fields id field)
ObjectFits world objects (Elements array elements) =
    IsType world.files array × (1 ≤ array.dims) × AllByRecursion (TypeFits world objects (component_of array)) elements × FitsSigned w32 (pos (length elements))
    × AllByRecursion (IsKeptElement array.base) elements

-- the static field of a member
abbrev pub static_field : List ClassFile → MemberId → Option Declaration
static_field files id = option_and_then (λ field. if is_static field.flags then Some field else None) (slice_get (fields_of files id.class) id.member)

abbrev pub StaticsFit : World → List Object → Fields → Type 0
StaticsFit world objects statics = (id : MemberId) (field : Declaration) → static_field world.files id ≡ Some field → FieldFits world objects statics id field

-- ---- frames

-- the youngest frame fits its method's types at its pc
pub record YoungestFits (world : World) (tables : Tables) (objects : List Object) (frame : Frame) : Type 0 where
  pub body : Body
  pub found : body_among world.bodies frame.method ≡ Some body
  pub types : VFrame
  pub known : tables frame.method frame.pc ≡ Some types
  pub has : FrameFits world objects body frame types

-- what a call names
abbrev pub call_of : Op → Option MethodUse
call_of (op.CallVirtual used) = Some used
call_of (op.CallSpecial used) = Some used
call_of (op.CallStatic used) = Some used
call_of (op.CallInterface used) = Some used
call_of instruction = None

-- a change without what it pushes
abbrev pub unpushed : Change → Change
unpushed change = record { pops = change.pops; renames = change.renames; stores = change.stores; pushes = []; pending = change.pending }

-- A frame waits at a call: it fits what the call's rule leaves before the result is pushed, and the method above it has
-- the result of the method that is called.
pub record Waits (world : World) (tables : Tables) (objects : List Object) (frame above : Frame) : Type 0 where
  pub body : Body
  pub found : body_among world.bodies frame.method ≡ Some body
  pub instruction : Op
  pub used : MethodUse
  pub at : op_at body.ops frame.pc ≡ Some instruction
  pub calls : call_of instruction ≡ Some used
  pub types : VFrame
  pub known : tables frame.method frame.pc ≡ Some types
  pub change : Change
  pub rule : change_of world.files body frame.pc instruction types ≡ Some change
  pub has : FrameFits world objects body frame (changed (unpushed change) types)
  pub callee : Body
  pub callee_found : body_among world.bodies above.method ≡ Some callee
  pub result : callee.result ≡ used.descriptor.result

-- the frames below one wait, each for the one above it, and the oldest is main's
abbrev pub OthersWait : World → Tables → List Object → Frame → List Frame → Type 0
OthersWait world tables objects above [] = above.method ≡ world.main
OthersWait world tables objects above (frame ∷ others) = Waits world tables objects frame above × OthersWait world tables objects frame others

abbrev pub FramesFit : World → Tables → List Object → List Frame → Type 0
FramesFit world tables objects [] = ⊥
FramesFit world tables objects (frame ∷ others) = YoungestFits world tables objects frame × OthersWait world tables objects frame others

-- ---- states

pub record StateFits (world : World) (tables : Tables) (state : State) : Type 0 where
  pub frames : FramesFit world tables state.objects state.frames
  pub objects : AllByRecursion (ObjectFits world state.objects) state.objects
  pub statics : StaticsFit world state.objects state.statics
