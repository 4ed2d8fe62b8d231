-- What typed code stands on in a set, beside its types: where control goes there are instructions, their numbers are of
-- their types, and what they name is there, of the type that they say.
use Rattle.std.specs.Prelude.{◌≡◌, ◌⊎◌, ℕ, ℤ, pos, ◌+ℤ◌, ◌<ℤ◌, ◌≤ℤ◌, ◌^◌, ◌≤◌, Bool, true, false, List, [], ◌∷◌, length, Option, Some, None, FitsSigned}
use Rattle.std.specs.Int.{w16, w32}
use Rattle.std.specs.List.{AllByRecursion, Contains}
use Rattle.std.specs.Str.{bytes_eq}
use Rattle.library.specs.declared.natives.Native.{Native}
use Rattle.library.specs.declared.natives.Native.TheVariants as native
use Rattle.class_pool.specs.declared.descriptor.Kind.{Kind}
use Rattle.class_pool.specs.declared.descriptor.Kind.TheVariants as kind
use Rattle.class_pool.specs.declared.types.MemberId.{MemberId}
use Rattle.class_pool.specs.declared.types.TypeRef.{TypeRef}
use Rattle.class_file.specs.Rules.{is_abstract, is_interface}
use Rattle.class_tree.specs.AccessTests.{is_subclass}
use Rattle.class_tree.specs.Fits.{fits}
use Rattle.class_tree.specs.Members.{Declaration}
use Rattle.class_tree.specs.Set.{IsClass, flags_of}
use Rattle.class_tree.specs.Subtypes.{class_type}
use Rattle.insn_form.specs.declared.SwitchForm.{SwitchForm}
use Rattle.insn_form.specs.declared.SwitchForm.TheVariants as switch
use Rattle.insn_form.specs.declared.SwitchRow.{SwitchRow}
use Rattle.body_form.specs.declared.body.Body.{Body}
use Rattle.body_form.specs.declared.body.Guard.{Guard}
use Rattle.body_form.specs.declared.op.FieldUse.{FieldUse}
use Rattle.body_form.specs.declared.op.Literal.{Literal}
use Rattle.body_form.specs.declared.op.Literal.TheVariants as literal
use Rattle.body_form.specs.declared.op.MethodUse.{MethodUse}
use Rattle.body_form.specs.declared.op.Op.{Op}
use Rattle.body_form.specs.declared.op.Op.TheVariants as op
use Rattle.body_form.specs.declared.types.VType.TheVariants as known
use Rattle.body_form.specs.Flow.{IsStart, goes_on, successors}
use Rattle.jvm_model.specs.MethodUses.{constructor_name}
use Rattle.jvm_model.specs.TypesFrames.{is_constructor}
use Rattle.jvm_model.specs.TypesNames.{IsOfSet}
use Rattle.jvm_model.specs.TypesRules.{op_at, is_last}
use Rattle.typed_machine.specs.TypedWorld.{World, body_among, native_of, pc_after, called, kind_of, instance_field}
use Rattle.type_safety.specs.Fitting.{static_field}

-- ---- control

-- where an instruction of a body leads there are instructions
pub record Leads (body : Body) (pc : ℕ) (instruction : Op) : Type 0 where
  pub starts : (to : ℕ) → Contains (successors body.ops pc) to → IsStart body.ops to
  -- one that goes on and is not the last leads to the next
  pub next : goes_on instruction ≡ true → is_last body.ops pc ≡ false → (to : ℕ) × (pc_after body.ops pc ≡ Some to) × Contains (successors body.ops pc) to

-- ---- numbers

-- a constant that is a number has 32 bits
abbrev pub ConstantFits : Literal → Type 0
ConstantFits (literal.Int number) = FitsSigned w32 number
ConstantFits literal.Null = Unit {0}

-- a key is above the one before it, where there is one
abbrev pub IsAbove : Option ℤ → ℤ → Type 0
IsAbove None key = Unit {0}
IsAbove (Some before) key = before <ℤ key

abbrev pub KeysRise : Option ℤ → List SwitchRow → Type 0
KeysRise before [] = Unit {0}
KeysRise before (row ∷ rows) = IsAbove before row.key × KeysRise (Some row.key) rows

-- the keys are this one and those after it, one by one
abbrev pub KeysFollow : ℤ → List SwitchRow → Type 0
KeysFollow key [] = Unit {0}
KeysFollow key (row ∷ rows) = (row.key ≡ key) × KeysFollow (key +ℤ pos 1) rows

-- the keys of a switch rise; a table has one at least, and its keys follow one another
abbrev pub KeysInOrder : SwitchForm → List SwitchRow → Type 0
KeysInOrder switch.Lookup rows = KeysRise None rows
KeysInOrder switch.Table [] = ⊥
KeysInOrder switch.Table (row ∷ rows) = KeysFollow row.key (row ∷ rows) × ((row.key +ℤ pos (length (row ∷ rows))) ≤ℤ pos (2 ^ 31))

abbrev pub SwitchFits : SwitchForm → List SwitchRow → Type 0
SwitchFits form rows = AllByRecursion (λ row. FitsSigned w32 row.key) rows × KeysInOrder form rows

-- ---- members

-- the class of an object
abbrev pub IsConcrete : World → ℕ → Type 0
IsConcrete world class = IsClass world.files class × (is_interface (flags_of world.files class) ≡ false) × (is_abstract (flags_of world.files class) ≡ false)

-- one class fits another
abbrev pub ClassFits : World → ℕ → ℕ → Type 0
ClassFits world lower upper = fits world.files (known.Ref (class_type lower)) (class_type upper) ≡ true

pub record IsStaticField (world : World) (used : FieldUse) : Type 0 where
  pub field : Declaration
  pub is : static_field world.files used.field ≡ Some field
  pub kind : kind_of field ≡ used.kind

-- an object of a class has the field
pub record HasField (world : World) (class : ℕ) (used : FieldUse) : Type 0 where
  pub field : Declaration
  pub is : instance_field world.files class used.field ≡ Some field
  pub kind : kind_of field ≡ used.kind

-- an instance field: each object that fits the class that is named has it, and so does one whose class fits the class
-- that declares it; no array fits the class that is named
pub record IsInstanceField (world : World) (used : FieldUse) : Type 0 where
  pub named : (class : ℕ) → IsConcrete world class → ClassFits world class used.class → HasField world class used
  pub declared : (class : ℕ) → IsConcrete world class → ClassFits world class used.field.class → HasField world class used
  pub no_array : (array : TypeRef) → fits world.files (known.Ref array) (class_type used.class) ≡ true → array.dims ≡ 0

-- ---- methods

-- what a native takes and gives
abbrev pub params_of : Native → List Kind
params_of native.Write = kind.Int ∷ []
params_of native.Print = kind.Int ∷ []
params_of native.Construct = []
params_of native.Read = []

abbrev pub result_of : Native → Option Kind
result_of native.Read = Some kind.Int
result_of _ = None

-- a constructor's native is called on an object, and those of the console on none
abbrev pub is_construct : Native → Bool
is_construct native.Construct = true
is_construct _ = false

-- a method that a call runs: a native, or one with a body, of the type that the call names; an instance method or not
pub record RunsNative (world : World) (id : MemberId) (used : MethodUse) (on_object : Bool) : Type 0 where
  pub found : Native
  pub is : native_of id ≡ Some found
  pub params : used.descriptor.params ≡ params_of found
  pub result : used.descriptor.result ≡ result_of found
  pub object : on_object ≡ is_construct found

-- the call names a constructor
abbrev pub is_named_constructor : MethodUse → Bool
is_named_constructor used = bytes_eq used.name constructor_name

pub record RunsBody (world : World) (id : MemberId) (used : MethodUse) (on_object : Bool) : Type 0 where
  pub none : native_of id ≡ None
  pub body : Body
  pub found : body_among world.bodies id ≡ Some body
  pub of_set : IsOfSet world.files body
  pub class : body.class ≡ id.class
  pub method : body.method ≡ id.member
  pub params : body.params ≡ used.descriptor.params
  pub result : body.result ≡ used.descriptor.result
  pub object : body.instance ≡ on_object
  pub constructor : is_constructor world.files body ≡ is_named_constructor used

abbrev pub Runs : World → MemberId → MethodUse → Bool → Type 0
Runs world id used on_object = RunsNative world id used on_object ⊎ RunsBody world id used on_object

-- the method that is found for an object of a class
pub record Finds (world : World) (used : MethodUse) (class : ℕ) : Type 0 where
  pub id : MemberId
  pub is : called world.files used class ≡ Some id
  pub runs : Runs world id used true
  -- the object may be the receiver of the method
  pub fits : ClassFits world class id.class

-- A constructor is one of the class that is named, and has no result (JVMS 4.3.3), so that its call pushes nothing.
-- Another method that invokespecial calls may have each object as receiver that fits both the class that is named and the
-- one in which the call stands.
pub record IsSpecial (world : World) (own : ℕ) (used : MethodUse) : Type 0 where
  pub runs : Runs world used.method used true
  pub constructor : is_named_constructor used ≡ true → used.method.class ≡ used.class
  pub void : is_named_constructor used ≡ true → used.descriptor.result ≡ None
  pub other : is_named_constructor used ≡ false → (class : ℕ) → IsConcrete world class → ClassFits world class used.class → ClassFits world class own → ClassFits world class used.method.class

-- an array that fits the class that is named would be a receiver
abbrev pub NoArray : World → MethodUse → Type 0
NoArray world used = (array : TypeRef) → fits world.files (known.Ref array) (class_type used.class) ≡ true → array.dims ≡ 0

-- what an instruction of a body of a class names is there, and its numbers are of their types
abbrev pub Named : World → ℕ → Op → Type 0
Named world own (op.Const constant) = ConstantFits constant
Named world own (op.Inc local amount) = FitsSigned w16 amount
Named world own (op.Switch form default rows) = SwitchFits form rows
Named world own (op.GetStatic used) = IsStaticField world used
Named world own (op.PutStatic used) = IsStaticField world used
Named world own (op.GetField used) = IsInstanceField world used
Named world own (op.PutField used) = IsInstanceField world used
Named world own (op.New type) = (class : ℕ) × (type ≡ class_type class) × IsConcrete world class
Named world own (op.NewArray array) = 1 ≤ array.dims
Named world own (op.MultiArray array dims) = (1 ≤ dims) × (dims ≤ array.dims)
Named world own (op.CallStatic used) = Runs world used.method used false
Named world own (op.CallSpecial used) = IsSpecial world own used
Named world own (op.CallVirtual used) =
    (is_named_constructor used ≡ false) × ((class : ℕ) → IsConcrete world class → ClassFits world class used.class → Finds world used class) × NoArray world used
Named world own (op.CallInterface used) =
    (is_named_constructor used ≡ false) × ((class : ℕ) → IsConcrete world class → is_subclass world.files class used.class ≡ true → Finds world used class)
Named world own instruction = Unit {0}

-- ---- bodies

pub record BodyFacts (world : World) (body : Body) : Type 0 where
  pub of_set : IsOfSet world.files body
  pub first : IsStart body.ops 0
  pub leads : (pc : ℕ) (instruction : Op) → op_at body.ops pc ≡ Some instruction → Leads body pc instruction
  pub handlers : (guard : Guard) → Contains body.handlers guard → IsStart body.ops guard.target
  pub named : (pc : ℕ) (instruction : Op) → op_at body.ops pc ≡ Some instruction → Named world body.class instruction

abbrev pub SetFacts : World → Type 0
SetFacts world = (body : Body) → Contains world.bodies body → BodyFacts world body
