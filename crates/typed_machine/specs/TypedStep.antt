-- The typed machine's step (JVMS 2.11, 6.5): what each family of instructions does, as a move. The tests that throw stand
-- before what is placed, a tick before a frame, and both before the effect.
use Rattle.std.specs.Prelude.{ℕ, ℤ, pos, ◌+ℤ◌, neg_ℤ, nat_eq, nat_lt, not, Bool, true, false, if◌then◌else◌, List, [], ◌∷◌, length, Option, Some, None, option_and_then, unwrap_or, slice_get, slice_set}
use Rattle.std.specs.Int.{w32, int_wrap}
use Rattle.std.specs.Option.{option_map_or}
use Rattle.account.specs.Account.{Stuck}
use Rattle.cell_num.specs.declared.arithmetic.BinOp.{BinOp}
use Rattle.cell_num.specs.Arithmetic.{applied}
use Rattle.cell_num.specs.Conditions.{is_met}
use Rattle.cell_num.specs.Conversions.{converted}
use Rattle.class_pool.specs.declared.descriptor.Kind.{Kind}
use Rattle.class_pool.specs.declared.types.TypeBase.{TypeBase}
use Rattle.class_pool.specs.declared.types.TypeBase.TheVariants as base
use Rattle.class_pool.specs.declared.types.TypeRef.{TypeRef}
use Rattle.insn_form.specs.declared.RefCond.{RefCond}
use Rattle.insn_form.specs.declared.RefCond.TheVariants as ref_cond
use Rattle.insn_form.specs.declared.ValueKind.{ValueKind}
use Rattle.body_form.specs.declared.body.Body.{Body}
use Rattle.body_form.specs.declared.op.FieldUse.{FieldUse}
use Rattle.body_form.specs.declared.op.Literal.{Literal}
use Rattle.body_form.specs.declared.op.Literal.TheVariants as literal
use Rattle.body_form.specs.declared.op.Op.{Op}
use Rattle.body_form.specs.declared.op.Op.TheVariants as op
use Rattle.body_form.specs.declared.op.UnaryOp.{UnaryOp}
use Rattle.body_form.specs.declared.op.UnaryOp.TheVariants as unary
use Rattle.jvm_model.specs.Operands.{restacked, row_target}
use Rattle.jvm_model.specs.State.{Value, Whole, Null, Name}
use Rattle.typed_machine.specs.TypedArrays.{make_array, make_arrays, numbers_in, array_length, array_load, array_store}
use Rattle.typed_machine.specs.TypedCalls.{kept_as, call_static, call_special, call_virtual, call_interface, returns, return_value}
use Rattle.typed_machine.specs.TypedMoves.{TypedMove, goes_on, jumps, branches, makes, object_at, throws, throws_object, with_object_of, arithmetic_exception, class_cast_exception}
use Rattle.typed_machine.specs.TypedState.{Object, Instance, Elements, Frame, State, with_field, with_object, with_static}
use Rattle.typed_machine.specs.TypedWorld.{World, body_among, placed_at, type_of, is_below, new_object, object_cells}

-- ---- constants, locals and operands

abbrev pub constant_of : Literal → Value
constant_of (literal.Int number) = Whole number
constant_of literal.Null = Null

-- a local that is set
abbrev pub local_at : Frame → ℕ → Option Value
local_at frame local = option_and_then (λ value. value) (slice_get frame.locals local)

abbrev pub with_local : Frame → ℕ → Value → Frame
with_local frame local value = record { method = frame.method; pc = frame.pc; locals = slice_set frame.locals local (Some value); operands = frame.operands }

abbrev pub load : State → Frame → List Frame → Option ℕ → Option Value → TypedMove
load state frame others next None = Stuck
load state frame others next (Some value) = goes_on state frame others next (value ∷ frame.operands)

abbrev pub store : State → Frame → List Frame → Option ℕ → ℕ → List Value → TypedMove
store state frame others next local [] = Stuck
store state frame others next local (value ∷ operands) =
    if nat_lt local (length frame.locals) then goes_on state (with_local frame local value) others next operands else Stuck

abbrev pub increment : State → Frame → List Frame → Option ℕ → ℕ → ℤ → Option Value → TypedMove
increment state frame others next local amount (Some (Whole number)) =
    goes_on state (with_local frame local (Whole (int_wrap w32 (number +ℤ amount)))) others next frame.operands
increment state frame others next local amount value = Stuck

abbrev pub restack : State → Frame → List Frame → Option ℕ → Option (List Value) → TypedMove
restack state frame others next None = Stuck
restack state frame others next (Some operands) = goes_on state frame others next operands

-- ---- whole numbers

-- a zero divisor throws ArithmeticException
abbrev pub result : World → State → Frame → List Frame → Option ℕ → List Value → Option ℤ → TypedMove
result world state frame others next operands None = throws world state (frame ∷ others) arithmetic_exception
result world state frame others next operands (Some number) = goes_on state frame others next (Whole number ∷ operands)

abbrev pub compute : World → State → Frame → List Frame → Option ℕ → BinOp → List Value → TypedMove
compute world state frame others next operation (Whole b ∷ Whole a ∷ operands) = result world state frame others next operands (applied operation a b)
compute world state frame others next operation operands = Stuck

abbrev pub unary_of : UnaryOp → ℤ → ℤ
unary_of unary.Neg number = int_wrap w32 (neg_ℤ number)
unary_of (unary.Convert conv) number = converted conv number

abbrev pub convert : State → Frame → List Frame → Option ℕ → UnaryOp → List Value → TypedMove
convert state frame others next operation (Whole number ∷ operands) = goes_on state frame others next (Whole (unary_of operation number) ∷ operands)
convert state frame others next operation operands = Stuck

-- ---- jumps

abbrev pub if_number : State → Frame → List Frame → Option ℕ → (ℤ → Bool) → ℕ → List Value → TypedMove
if_number state frame others next test target (Whole number ∷ operands) = branches (test number) state frame others target next operands
if_number state frame others next test target operands = Stuck

abbrev pub if_numbers : State → Frame → List Frame → Option ℕ → (ℤ → ℤ → Bool) → ℕ → List Value → TypedMove
if_numbers state frame others next test target (Whole b ∷ Whole a ∷ operands) = branches (test a b) state frame others target next operands
if_numbers state frame others next test target operands = Stuck

abbrev pub is_null : Value → Bool
is_null Null = true
is_null value = false

-- two references are of one object, or both null
abbrev pub are_same : Value → Value → Bool
are_same Null Null = true
are_same (Name a) (Name b) = nat_eq a b
are_same a b = false

abbrev pub if_reference : State → Frame → List Frame → Option ℕ → RefCond → ℕ → List Value → TypedMove
if_reference state frame others next ref_cond.Null target (a ∷ operands) = branches (is_null a) state frame others target next operands
if_reference state frame others next ref_cond.NonNull target (a ∷ operands) = branches (not (is_null a)) state frame others target next operands
if_reference state frame others next ref_cond.Eq target (b ∷ a ∷ operands) = branches (are_same a b) state frame others target next operands
if_reference state frame others next ref_cond.Ne target (b ∷ a ∷ operands) = branches (not (are_same a b)) state frame others target next operands
if_reference state frame others next cond target operands = Stuck

abbrev pub choose : State → Frame → List Frame → (ℤ → ℕ) → List Value → TypedMove
choose state frame others target (Whole key ∷ operands) = jumps state frame others (target key) operands
choose state frame others target operands = Stuck

-- ---- statics and fields; one that is not there is neither read nor written

abbrev pub read_static : State → Frame → List Frame → Option ℕ → Option Value → TypedMove
read_static state frame others next None = Stuck
read_static state frame others next (Some value) = goes_on state frame others next (value ∷ frame.operands)

abbrev pub write_static : State → Frame → List Frame → Option ℕ → FieldUse → List Value → TypedMove
write_static state frame others next used [] = Stuck
write_static state frame others next used (value ∷ operands) =
    option_map_or (λ old. goes_on (with_static state used.field (kept_as used.kind value)) frame others next operands) (state.statics used.field) Stuck

abbrev pub read_of : State → Frame → List Frame → Option ℕ → FieldUse → List Value → Object → TypedMove
read_of state frame others next used operands (Instance class fields) = option_map_or (λ value. goes_on state frame others next (value ∷ operands)) (fields used.field) Stuck
read_of state frame others next used operands (Elements array elements) = Stuck

abbrev pub read_field : World → State → Frame → List Frame → Option ℕ → FieldUse → List Value → TypedMove
read_field world state frame others next used [] = Stuck
read_field world state frame others next used (reference ∷ operands) =
    with_object_of world state (frame ∷ others) reference (λ name object. read_of state frame others next used operands object)

abbrev pub write_to : State → Frame → List Frame → Option ℕ → FieldUse → Value → List Value → ℕ → Object → TypedMove
write_to state frame others next used value operands name (Instance class fields) =
    option_map_or (λ old. goes_on (with_object state name (Instance class (with_field fields used.field (kept_as used.kind value)))) frame others next operands) (fields used.field) Stuck
write_to state frame others next used value operands name (Elements array elements) = Stuck

abbrev pub write_field : World → State → Frame → List Frame → Option ℕ → FieldUse → List Value → TypedMove
write_field world state frame others next used (value ∷ reference ∷ operands) =
    with_object_of world state (frame ∷ others) reference (λ name object. write_to state frame others next used value operands name object)
write_field world state frame others next used operands = Stuck

-- ---- objects

abbrev pub make : World → State → Frame → List Frame → Option ℕ → TypeBase → TypedMove
make world state frame others next (base.Class class) = makes state frame others next frame.operands (object_cells world.files class) (new_object world.files class)
make world state frame others next of = Stuck

abbrev pub throw_class : World → State → List Frame → ℕ → Object → TypedMove
throw_class world state frames name (Instance class fields) = throws_object world state frames class name
throw_class world state frames name (Elements array elements) = Stuck

abbrev pub throw : World → State → Frame → List Frame → List Value → TypedMove
throw world state frame others [] = Stuck
throw world state frame others (reference ∷ operands) = with_object_of world state (frame ∷ others) reference (λ name object. throw_class world state (frame ∷ others) name object)

-- the object of a reference is of a type; null is of none
abbrev pub is_of_type : World → State → TypeRef → Value → Bool
is_of_type world state type (Name name) = option_map_or (λ object. is_below world.files (type_of object) type) (object_at state name) false
is_of_type world state type value = false

-- null passes
abbrev pub cast : World → State → Frame → List Frame → Option ℕ → TypeRef → List Value → TypedMove
cast world state frame others next type [] = Stuck
cast world state frame others next type (Whole number ∷ operands) = Stuck
cast world state frame others next type (Null ∷ operands) = goes_on state frame others next (Null ∷ operands)
cast world state frame others next type (Name name ∷ operands) =
    if is_of_type world state type (Name name) then goes_on state frame others next (Name name ∷ operands) else throws world state (frame ∷ others) class_cast_exception

abbrev pub one_where : Bool → Value
one_where is = if is then Whole (pos 1) else Whole (pos 0)

abbrev pub test : World → State → Frame → List Frame → Option ℕ → TypeRef → List Value → TypedMove
test world state frame others next type [] = Stuck
test world state frame others next type (Whole number ∷ operands) = Stuck
test world state frame others next type (reference ∷ operands) = goes_on state frame others next (one_where (is_of_type world state type reference) ∷ operands)

-- ---- returns

abbrev pub return_of : World → State → Frame → List Frame → Option Kind → Option ValueKind → TypedMove
return_of world state frame others result None = returns world state others []
return_of world state frame others result (Some kind) = return_value world state others result frame.operands

-- ---- the step

-- the move of an instruction of a body in the youngest frame
abbrev pub move_of : World → State → Frame → List Frame → Body → Option ℕ → Op → TypedMove
move_of world state frame others body next op.Nop = goes_on state frame others next frame.operands
move_of world state frame others body next (op.Const constant) = goes_on state frame others next (constant_of constant ∷ frame.operands)
move_of world state frame others body next (op.Load kind local) = load state frame others next (local_at frame local)
move_of world state frame others body next (op.Store kind local) = store state frame others next local frame.operands
move_of world state frame others body next (op.Inc local amount) = increment state frame others next local amount (local_at frame local)
move_of world state frame others body next (op.Stack form) = restack state frame others next (restacked form frame.operands)
move_of world state frame others body next (op.Bin operation) = compute world state frame others next operation frame.operands
move_of world state frame others body next (op.Unary operation) = convert state frame others next operation frame.operands
move_of world state frame others body next (op.If cond target) = if_number state frame others next (λ number. is_met cond number (pos 0)) target frame.operands
move_of world state frame others body next (op.IfCmp cond target) = if_numbers state frame others next (is_met cond) target frame.operands
move_of world state frame others body next (op.IfRef cond target) = if_reference state frame others next cond target frame.operands
move_of world state frame others body next (op.Goto target) = jumps state frame others target frame.operands
move_of world state frame others body next (op.Switch form default rows) = choose state frame others (λ key. unwrap_or (row_target key rows) default) frame.operands
move_of world state frame others body next (op.Return kind) = return_of world state frame others body.result kind
move_of world state frame others body next (op.GetStatic used) = read_static state frame others next (state.statics used.field)
move_of world state frame others body next (op.PutStatic used) = write_static state frame others next used frame.operands
move_of world state frame others body next (op.GetField used) = read_field world state frame others next used frame.operands
move_of world state frame others body next (op.PutField used) = write_field world state frame others next used frame.operands
move_of world state frame others body next (op.CallVirtual used) = call_virtual world state frame others next used
move_of world state frame others body next (op.CallSpecial used) = call_special world state frame others next used
move_of world state frame others body next (op.CallStatic used) = call_static world state frame others next used
move_of world state frame others body next (op.CallInterface used) = call_interface world state frame others next used
move_of world state frame others body next (op.New type) = make world state frame others next type.base
move_of world state frame others body next (op.NewArray type) = make_array world state frame others next type frame.operands
move_of world state frame others body next op.ArrayLength = array_length world state frame others next frame.operands
move_of world state frame others body next (op.ArrayLoad kind) = array_load world state frame others next frame.operands
move_of world state frame others body next (op.ArrayStore kind) = array_store world state frame others next frame.operands
move_of world state frame others body next op.Throw = throw world state frame others frame.operands
move_of world state frame others body next (op.CheckCast type) = cast world state frame others next type frame.operands
move_of world state frame others body next (op.InstanceOf type) = test world state frame others next type frame.operands
move_of world state frame others body next (op.MultiArray array dims) = make_arrays world state frame others next array (numbers_in dims frame.operands)

abbrev pub move_in : World → State → Frame → List Frame → Option Body → TypedMove
move_in world state frame others None = Stuck
move_in world state frame others (Some body) = option_map_or (λ placed. move_of world state frame others body placed.next placed.op) (placed_at body frame.pc) Stuck

abbrev pub move_among : World → State → List Frame → TypedMove
move_among world state [] = Stuck
move_among world state (frame ∷ others) = move_in world state frame others (body_among world.bodies frame.method)

-- the move from a state
abbrev pub move : World → State → TypedMove
move world state = move_among world state state.frames
