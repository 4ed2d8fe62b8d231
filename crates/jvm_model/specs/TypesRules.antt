-- The typing rule of each family of instructions (JVMS 4.10.1.9, by the rules of the profile): in which frames it
-- holds, and what is known after it.
use Rattle.std.specs.Prelude.{ℕ, suc, ◌-◌, Bool, true, false, ◌&&◌, ◌||◌, not, nat_eq, nat_le, nat_lt, if◌then◌else◌, List, [], ◌∷◌, ◌++◌, map, reverse, length, replicate, drop, Option, Some, None, option_map, option_and_then, slice_get, slice_set}
use Rattle.std.specs.Option.{option_map_or}
use Rattle.std.specs.List.{list_any}
use Rattle.std.specs.Str.{bytes_eq}
use Rattle.class_pool.specs.declared.descriptor.Kind.{Kind}
use Rattle.class_pool.specs.declared.types.TypeRef.{TypeRef}
use Rattle.class_pool.specs.declared.types.TypeBase.{TypeBase}
use Rattle.class_pool.specs.declared.types.TypeBase.TheVariants as base
use Rattle.class_file.specs.declared.record.ClassFile.{ClassFile}
use Rattle.class_tree.specs.Subtypes.{class_type}
use Rattle.class_tree.specs.DirectSupers.{superclass_of}
use Rattle.class_tree.specs.Merge.{is_reference, is_same_primitive}
use Rattle.class_tree.specs.Fits.{fits}
use Rattle.insn_form.specs.declared.ElementKind.{ElementKind}
use Rattle.insn_form.specs.declared.ElementKind.TheVariants as element
use Rattle.insn_form.specs.declared.RefCond.{RefCond}
use Rattle.insn_form.specs.declared.RefCond.TheVariants as ref_cond
use Rattle.insn_form.specs.declared.StackForm.{StackForm}
use Rattle.insn_form.specs.declared.StackForm.TheVariants.{Pop, Pop2, Dup, DupX1, DupX2, Dup2, Dup2X1, Dup2X2, Swap}
use Rattle.insn_form.specs.declared.ValueKind.{ValueKind}
use Rattle.insn_form.specs.declared.ValueKind.TheVariants as value_kind
use Rattle.body_form.specs.declared.body.Body.{Body}
use Rattle.body_form.specs.declared.op.FieldUse.{FieldUse}
use Rattle.body_form.specs.declared.op.Literal.{Literal}
use Rattle.body_form.specs.declared.op.Literal.TheVariants as literal
use Rattle.body_form.specs.declared.op.MethodUse.{MethodUse}
use Rattle.body_form.specs.declared.op.Op.{Op}
use Rattle.body_form.specs.declared.op.Op.TheVariants as op
use Rattle.body_form.specs.declared.types.VFrame.{VFrame}
use Rattle.body_form.specs.declared.types.VType.{VType}
use Rattle.body_form.specs.declared.types.VType.TheVariants as known
use Rattle.body_form.specs.Flow.{Ops, goes_on}
use Rattle.jvm_model.specs.Instructions.{throwable}
use Rattle.jvm_model.specs.MethodUses.{constructor_name}
use Rattle.jvm_model.specs.TypesFrames.{is_int, value_of_kind, fits_kind}

-- ---- what an instruction does to a frame

-- So many operands are taken. Then each entry of one type gets another one, a local is set, operands are pushed,
-- the top first, and it may be that the constructor has called another one.
pub record Change : Type 0 where
  pub pops : ℕ
  pub renames : Option (VType × VType)
  pub stores : Option (ℕ × VType)
  pub pushes : List VType
  pub pending : Bool

-- two objects that are not yet constructed are the same
abbrev pub is_same_object : VType → VType → Bool
is_same_object (known.New p) (known.New q) = nat_eq p q
is_same_object known.This known.This = true
is_same_object a b = false

abbrev pub renamed_one : VType → VType → VType → VType
renamed_one from to type = if is_same_object from type then to else type

abbrev pub renamed : Option (VType × VType) → List VType → List VType
renamed None types = types
renamed (Some (from, to)) types = map (renamed_one from to) types

abbrev pub stored : Option (ℕ × VType) → List VType → List VType
stored None locals = locals
stored (Some (local, type)) locals = slice_set locals local type

abbrev pub changed : Change → VFrame → VFrame
changed change frame =
    record {
      locals = stored change.stores (renamed change.renames frame.locals);
      stack = change.pushes ++ renamed change.renames (drop change.pops frame.stack);
      pending = change.pending;
    }

-- ---- operands

-- the operands are there, the top first, and each passes its test
unfoldable pub takes : List (VType → Bool) → List VType → Bool
takes [] stack = true
takes (test ∷ tests) [] = false
takes (test ∷ tests) (type ∷ stack) = test type && takes tests stack

-- operands that pass tests are taken, and others are pushed
abbrev pub plain : VFrame → List (VType → Bool) → List VType → Option Change
plain frame tests pushes =
    if takes tests frame.stack then Some (record { pops = length tests; renames = None; stores = None; pushes = pushes; pending = frame.pending }) else None

-- the same, where it is known what is pushed
abbrev pub plain_of : VFrame → List (VType → Bool) → Option (List VType) → Option Change
plain_of frame tests pushes = option_and_then (plain frame tests) pushes

abbrev pub any_type : VType → Bool
any_type type = true

-- a reference
abbrev pub is_any_reference : VType → Bool
is_any_reference known.Null = true
is_any_reference (known.Ref type) = true
is_any_reference (known.New pc) = true
is_any_reference known.This = true
is_any_reference type = false

-- a reference, but not to an object that is not yet constructed
abbrev pub is_constructed : VType → Bool
is_constructed known.Null = true
is_constructed (known.Ref type) = true
is_constructed type = false

-- what a load, a store or a return of a kind is of
abbrev pub has_kind : ValueKind → VType → Bool
has_kind value_kind.Int type = is_int type
has_kind value_kind.Ref type = is_any_reference type

-- a reference that fits a class
abbrev pub fits_class : List ClassFile → ℕ → VType → Bool
fits_class files class type = fits files type (class_type class)

-- ---- locals and the stack

abbrev pub load : VFrame → ValueKind → Option VType → Option Change
load frame kind None = None
load frame kind (Some type) = if has_kind kind type then plain frame [] (type ∷ []) else None

abbrev pub store : VFrame → ValueKind → ℕ → List VType → Option Change
store frame kind local [] = None
store frame kind local (type ∷ stack) =
    if has_kind kind type && nat_lt local (length frame.locals) then Some (record { pops = 1; renames = None; stores = Some (local, type); pushes = []; pending = frame.pending }) else None

abbrev pub increment : VFrame → Option VType → Option Change
increment frame None = None
increment frame (Some type) = if is_int type then plain frame [] [] else None

-- so many operands of any type are taken, and these are pushed
abbrev pub moves : VFrame → ℕ → List VType → Option Change
moves frame pops pushes = Some (record { pops = pops; renames = None; stores = None; pushes = pushes; pending = frame.pending })

-- the operands move as they are (JVMS 6.5, each value in one place)
abbrev pub restack : VFrame → StackForm → List VType → Option Change
restack frame Pop (a ∷ rest) = moves frame 1 []
restack frame Pop2 (a ∷ b ∷ rest) = moves frame 2 []
restack frame Dup (a ∷ rest) = moves frame 1 (a ∷ a ∷ [])
restack frame DupX1 (a ∷ b ∷ rest) = moves frame 2 (a ∷ b ∷ a ∷ [])
restack frame DupX2 (a ∷ b ∷ c ∷ rest) = moves frame 3 (a ∷ b ∷ c ∷ a ∷ [])
restack frame Dup2 (a ∷ b ∷ rest) = moves frame 2 (a ∷ b ∷ a ∷ b ∷ [])
restack frame Dup2X1 (a ∷ b ∷ c ∷ rest) = moves frame 3 (a ∷ b ∷ c ∷ a ∷ b ∷ [])
restack frame Dup2X2 (a ∷ b ∷ c ∷ d ∷ rest) = moves frame 4 (a ∷ b ∷ c ∷ d ∷ a ∷ b ∷ [])
restack frame Swap (a ∷ b ∷ rest) = moves frame 2 (b ∷ a ∷ [])
restack frame form stack = None

-- ---- constants, conditions, returns

abbrev pub constant_of : Literal → VType
constant_of (literal.Int number) = known.Int
constant_of literal.Null = known.Null

-- two references are compared, or one with null
abbrev pub compared : RefCond → List (VType → Bool)
compared ref_cond.Eq = is_constructed ∷ is_constructed ∷ []
compared ref_cond.Ne = is_constructed ∷ is_constructed ∷ []
compared ref_cond.Null = is_constructed ∷ []
compared ref_cond.NonNull = is_constructed ∷ []

-- what is returned, where it is of the kind of the instruction and fits the method's result
abbrev pub returned : List ClassFile → Option Kind → Option ValueKind → Option (List (VType → Bool))
returned files None None = Some []
returned files (Some result) (Some kind) = Some ((λ type. has_kind kind type && fits_kind files result type) ∷ [])
returned files _ _ = None

-- a constructor returns when it has called another one
abbrev pub return_of : List ClassFile → Body → Option ValueKind → VFrame → Option Change
return_of files body kind frame = if frame.pending then None else option_and_then (λ tests. plain frame tests []) (returned files body.result kind)

-- ---- fields

abbrev pub one : VType → List VType
one type = type ∷ []

-- what is known of a field's value
abbrev pub field_value : List ClassFile → FieldUse → Option (List VType)
field_value files used = option_map one (value_of_kind files used.kind)

abbrev pub is_this : VType → Bool
is_this known.This = true
is_this type = false

-- an object whose field may be written: one that fits the class that is named, or, in a constructor that has yet to
-- call another one, its own object, where its class declares the field
abbrev pub is_written : List ClassFile → Body → VFrame → FieldUse → VType → Bool
is_written files body frame used type = fits_class files used.class type || (is_this type && (frame.pending && nat_eq used.field.class body.class))

-- ---- calls

-- the arguments fit the parameters, the last one on top
abbrev pub argument_tests : List ClassFile → MethodUse → List (VType → Bool)
argument_tests files used = reverse (map (fits_kind files) used.descriptor.params)

-- what a call pushes
abbrev pub result_of : List ClassFile → Option Kind → Option (List VType)
result_of files None = Some []
result_of files (Some kind) = option_map one (value_of_kind files kind)

-- a call whose receiver, if it has one, passes a test
abbrev pub call : List ClassFile → VFrame → MethodUse → List (VType → Bool) → Option Change
call files frame used receiver = plain_of frame (argument_tests files used ++ receiver) (result_of files used.descriptor.result)

-- ---- constructors

-- the base is this class
abbrev pub is_base_class : ℕ → TypeBase → Bool
is_base_class class (base.Class other) = nat_eq class other
is_base_class class _ = false

-- the instruction makes an object of the class
abbrev pub makes_class : ℕ → Option Op → Bool
makes_class class (Some (op.New type)) = nat_eq type.dims 0 && is_base_class class type.base
makes_class class _ = false

-- the instruction at a pc
unfoldable pub op_at : Ops → ℕ → Option Op
op_at [] at = None
op_at ((pc, instruction) ∷ ops) at = if nat_eq pc at then Some instruction else op_at ops at

-- the class is the body's own, or its superclass
abbrev pub is_own_or_super : List ClassFile → ℕ → ℕ → Bool
is_own_or_super files own class = nat_eq class own || option_map_or (nat_eq class) (superclass_of files own) false

-- so many operands are taken, the object among them, and it is an object of a class from now on
abbrev pub constructs : ℕ → VType → ℕ → Bool → Option Change
constructs pops object class pending = Some (record { pops = pops; renames = Some (object, known.Ref (class_type class)); stores = None; pushes = []; pending = pending })

-- A constructor is called on an object that is not yet constructed: one that an instruction made of the class that
-- is named, or the constructor's own, by the name of its class or its superclass.
abbrev pub construct_on : List ClassFile → Body → VFrame → MethodUse → List VType → Option Change
construct_on files body frame used (known.New pc ∷ stack) =
    if makes_class used.class (op_at body.ops pc) then constructs (suc (length used.descriptor.params)) (known.New pc) used.class frame.pending else None
construct_on files body frame used (known.This ∷ stack) =
    if is_own_or_super files body.class used.class then constructs (suc (length used.descriptor.params)) known.This body.class false else None
construct_on files body frame used stack = None

abbrev pub construct : List ClassFile → Body → VFrame → MethodUse → Option Change
construct files body frame used =
    if takes (argument_tests files used) frame.stack then construct_on files body frame used (drop (length used.descriptor.params) frame.stack) else None

-- a constructor, or a method on an object that fits both the class that is named and the current one
abbrev pub call_special : List ClassFile → Body → VFrame → MethodUse → Option Change
call_special files body frame used =
    if bytes_eq used.name constructor_name then construct files body frame used
    else call files frame used ((λ type. fits_class files used.class type && fits_class files body.class type) ∷ [])

-- a new object; one that the same instruction made before is no operand, and no local has it from now on
abbrev pub make : ℕ → VFrame → Option Change
make pc frame =
    if list_any (is_same_object (known.New pc)) frame.stack then None
    else Some (record { pops = 0; renames = Some (known.New pc, known.Top); stores = None; pushes = known.New pc ∷ []; pending = frame.pending })

-- ---- arrays

-- the type of an array's components
abbrev pub component_of : TypeRef → TypeRef
component_of type = record { dims = type.dims - 1; base = type.base }

abbrev pub is_array : VType → Bool
is_array known.Null = true
is_array (known.Ref type) = nat_le 1 type.dims
is_array type = false

-- the elements of arrays of a primitive type that instructions of a kind read and write; those of bytes also booleans
abbrev pub is_element : ElementKind → TypeBase → Bool
is_element element.Int t = is_same_primitive base.Int t
is_element element.Byte t = is_same_primitive base.Byte t || is_same_primitive base.Boolean t
is_element element.Char t = is_same_primitive base.Char t
is_element element.Short t = is_same_primitive base.Short t
is_element element.Ref t = false

-- an array of such elements, or of references
abbrev pub has_elements : ElementKind → TypeRef → Bool
has_elements element.Ref type = nat_le 1 type.dims && is_reference (type.dims - 1) type.base
has_elements kind type = nat_eq type.dims 1 && is_element kind type.base

-- null, or such an array
abbrev pub is_array_of : ElementKind → VType → Bool
is_array_of kind known.Null = true
is_array_of kind (known.Ref type) = has_elements kind type
is_array_of kind type = false

-- what is read of an array of references: null of null
abbrev pub element_of : VType → VType
element_of (known.Ref type) = known.Ref (component_of type)
element_of type = known.Null

abbrev pub array_load : VFrame → ElementKind → List VType → Option Change
array_load frame element.Ref (index ∷ array ∷ stack) = plain frame (is_int ∷ is_array_of element.Ref ∷ []) (element_of array ∷ [])
array_load frame element.Ref stack = None
array_load frame kind stack = plain frame (is_int ∷ is_array_of kind ∷ []) (known.Int ∷ [])

-- what is written: an int, or a reference to an object that is constructed
abbrev pub is_elements_value : ElementKind → VType → Bool
is_elements_value element.Ref type = is_constructed type
is_elements_value kind type = is_int type

-- ---- the rules

-- what an instruction at a pc changes, where its operands and locals are there and of the types that it needs
abbrev pub change_of : List ClassFile → Body → ℕ → Op → VFrame → Option Change
change_of files body pc op.Nop frame = plain frame [] []
change_of files body pc (op.Const constant) frame = plain frame [] (constant_of constant ∷ [])
change_of files body pc (op.Load kind local) frame = load frame kind (slice_get frame.locals local)
change_of files body pc (op.Store kind local) frame = store frame kind local frame.stack
change_of files body pc (op.Inc local amount) frame = increment frame (slice_get frame.locals local)
change_of files body pc (op.Stack form) frame = restack frame form frame.stack
change_of files body pc (op.Bin operation) frame = plain frame (is_int ∷ is_int ∷ []) (known.Int ∷ [])
change_of files body pc (op.Unary operation) frame = plain frame (is_int ∷ []) (known.Int ∷ [])
change_of files body pc (op.If cond target) frame = plain frame (is_int ∷ []) []
change_of files body pc (op.IfCmp cond target) frame = plain frame (is_int ∷ is_int ∷ []) []
change_of files body pc (op.IfRef cond target) frame = plain frame (compared cond) []
change_of files body pc (op.Goto target) frame = plain frame [] []
change_of files body pc (op.Switch form default rows) frame = plain frame (is_int ∷ []) []
change_of files body pc (op.Return kind) frame = return_of files body kind frame
change_of files body pc (op.GetStatic used) frame = plain_of frame [] (field_value files used)
change_of files body pc (op.PutStatic used) frame = plain frame (fits_kind files used.kind ∷ []) []
change_of files body pc (op.GetField used) frame = plain_of frame (fits_class files used.class ∷ []) (field_value files used)
change_of files body pc (op.PutField used) frame = plain frame (fits_kind files used.kind ∷ is_written files body frame used ∷ []) []
change_of files body pc (op.CallVirtual used) frame = call files frame used (fits_class files used.class ∷ [])
change_of files body pc (op.CallSpecial used) frame = call_special files body frame used
change_of files body pc (op.CallStatic used) frame = call files frame used []
change_of files body pc (op.CallInterface used) frame = call files frame used (is_constructed ∷ [])
change_of files body pc (op.New type) frame = make pc frame
change_of files body pc (op.NewArray type) frame = plain frame (is_int ∷ []) (known.Ref type ∷ [])
change_of files body pc op.ArrayLength frame = plain frame (is_array ∷ []) (known.Int ∷ [])
change_of files body pc (op.ArrayLoad kind) frame = array_load frame kind frame.stack
change_of files body pc (op.ArrayStore kind) frame = plain frame (is_elements_value kind ∷ is_int ∷ is_array_of kind ∷ []) []
change_of files body pc op.Throw frame = plain frame (fits_class files throwable ∷ []) []
change_of files body pc (op.CheckCast type) frame = plain frame (is_constructed ∷ []) (known.Ref type ∷ [])
change_of files body pc (op.InstanceOf type) frame = plain frame (is_constructed ∷ []) (known.Int ∷ [])
change_of files body pc (op.MultiArray array dims) frame = plain frame (replicate dims is_int) (known.Ref array ∷ [])

-- ---- limits and the end of the code

-- the operands and the locals, the arguments among them, are within the numbers that the method declares
abbrev pub is_within : Body → VFrame → Bool
is_within body frame = nat_le (length frame.stack) body.max_stack && nat_le (length frame.locals) body.max_locals

-- no instruction comes after the one at the pc
unfoldable pub is_last : Ops → ℕ → Bool
is_last [] at = true
is_last ((pc, instruction) ∷ []) at = true
is_last ((pc, instruction) ∷ next ∷ ops) at = if nat_eq pc at then false else is_last (next ∷ ops) at

abbrev pub where_within : Body → VFrame → Option VFrame
where_within body frame = if is_within body frame then Some frame else None

-- The frame after the instruction at a pc, from the one before it, where its rule holds.
abbrev pub frame_after : List ClassFile → Body → ℕ → Op → VFrame → Option VFrame
frame_after files body pc instruction frame =
    if is_within body frame && not (goes_on instruction && is_last body.ops pc)
    then option_and_then (λ change. where_within body (changed change frame)) (change_of files body pc instruction frame)
    else None
