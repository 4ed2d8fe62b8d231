-- Each instruction's move keeps objects.
use Rattle.std.proofs.Common.{◌≡◌, ℕ, ℤ, pos, Bool, not, nat_lt, List, [], ◌∷◌, length, Option, Some, None, refl, subst}
use Rattle.std.specs.Prelude.{unwrap_or}
use Rattle.account.specs.Account.{Event, Need, Does, Stuck}
use Rattle.cell_num.specs.declared.arithmetic.BinOp.{BinOp}
use Rattle.cell_num.specs.Arithmetic.{applied}
use Rattle.cell_num.specs.Conditions.{is_met}
use Rattle.class_pool.specs.declared.descriptor.Kind.{Kind}
use Rattle.class_pool.specs.declared.types.TypeBase.{TypeBase}
use Rattle.class_pool.specs.declared.types.TypeBase.TheVariants as base
use Rattle.class_pool.specs.declared.types.TypeRef.{TypeRef}
use Rattle.insn_form.specs.declared.RefCond.{RefCond}
use Rattle.insn_form.specs.declared.RefCond.TheVariants as ref_cond
use Rattle.insn_form.specs.declared.ValueKind.{ValueKind}
use Rattle.body_form.specs.declared.body.Body.{Body}
use Rattle.body_form.specs.declared.op.FieldUse.{FieldUse}
use Rattle.body_form.specs.declared.op.Op.{Op}
use Rattle.body_form.specs.declared.op.Op.TheVariants as op
use Rattle.body_form.specs.declared.op.UnaryOp.{UnaryOp}
use Rattle.jvm_model.specs.Operands.{restacked, row_target}
use Rattle.jvm_model.specs.State.{Value, Whole, Null, Name}
use Rattle.typed_machine.specs.TypedArrays.{numbers_in}
use Rattle.typed_machine.specs.TypedCalls.{kept_as}
use Rattle.typed_machine.specs.TypedLaws.{KeepsType}
use Rattle.typed_machine.specs.TypedMoves.{goes_on, object_at, throws, no_need, arithmetic_exception, class_cast_exception}
use Rattle.typed_machine.specs.TypedState.{Object, Instance, Elements, Frame, State, with_field, with_object, with_static}
use Rattle.typed_machine.specs.TypedStep.{constant_of, local_at, with_local, load, store, increment, restack, result, compute, unary_of, convert, if_number, if_numbers, is_null, are_same, if_reference, choose, read_static, write_static, read_of, read_field, write_to, write_field, make, throw_class, throw, is_of_type, cast, test, return_of, move_of, move_in, move_among, move}
use Rattle.typed_machine.specs.TypedWorld.{World, body_among, placed_at, new_object, object_cells}
use Rattle.typed_machine.proofs.KeptObjects.{AreKept, Keeps, kept_itself, kept_set}
use Rattle.typed_machine.proofs.MovesKeep.{next_keeps, either_keeps, option_keeps, going_on_keeps, jump_keeps, branch_keeps, placing_keeps, object_throw_keeps, throw_keeps, object_keeps}
use Rattle.typed_machine.proofs.ArraysKeep.{make_array_keeps, make_arrays_keeps, length_keeps, load_keeps, store_keeps}
use Rattle.typed_machine.proofs.CallsKeep.{static_keeps, special_keeps, virtual_keeps, interface_keeps, returns_keeps, value_keeps}

module _ (world : World) (state : State) (frame : Frame) (others : List Frame) (next : Option ℕ) where
  -- ---- locals, operands and whole numbers

  local_keeps : (value : Option Value) → Keeps state.objects (load state frame others next value)
  local_keeps None = tt
  local_keeps (Some value) = going_on_keeps world state frame others next (value ∷ frame.operands)

  set_keeps : (local : ℕ) (operands : List Value) → Keeps state.objects (store state frame others next local operands)
  set_keeps local [] = tt
  set_keeps local (value ∷ operands) =
      either_keeps state.objects (nat_lt local (length frame.locals)) (goes_on state (with_local frame local value) others next operands) Stuck
      (going_on_keeps world state (with_local frame local value) others next operands) tt

  increment_keeps : (local : ℕ) (amount : ℤ) (value : Option Value) → Keeps state.objects (increment state frame others next local amount value)
  increment_keeps local amount (Some (Whole number)) = going_on_keeps world state (with_local frame local _) others next frame.operands
  increment_keeps local amount value = tt

  restack_keeps : (operands : Option (List Value)) → Keeps state.objects (restack state frame others next operands)
  restack_keeps None = tt
  restack_keeps (Some operands) = going_on_keeps world state frame others next operands

  result_keeps : (operands : List Value) (number : Option ℤ) → Keeps state.objects (result world state frame others next operands number)
  result_keeps operands None = throw_keeps world state (frame ∷ others) arithmetic_exception
  result_keeps operands (Some number) = going_on_keeps world state frame others next (Whole number ∷ operands)

  compute_keeps : (operation : BinOp) (operands : List Value) → Keeps state.objects (compute world state frame others next operation operands)
  compute_keeps operation (Whole b ∷ Whole a ∷ operands) = result_keeps operands (applied operation a b)
  compute_keeps operation operands = tt

  convert_keeps : (operation : UnaryOp) (operands : List Value) → Keeps state.objects (convert state frame others next operation operands)
  convert_keeps operation (Whole number ∷ operands) = going_on_keeps world state frame others next (Whole (unary_of operation number) ∷ operands)
  convert_keeps operation operands = tt

  -- ---- jumps

  if_keeps : (is : ℤ → Bool) (target : ℕ) (operands : List Value) → Keeps state.objects (if_number state frame others next is target operands)
  if_keeps is target (Whole number ∷ operands) = branch_keeps world state (is number) frame others target next operands
  if_keeps is target operands = tt

  compared_keeps : (are : ℤ → ℤ → Bool) (target : ℕ) (operands : List Value) → Keeps state.objects (if_numbers state frame others next are target operands)
  compared_keeps are target (Whole b ∷ Whole a ∷ operands) = branch_keeps world state (are a b) frame others target next operands
  compared_keeps are target operands = tt

  reference_keeps : (cond : RefCond) (target : ℕ) (operands : List Value) → Keeps state.objects (if_reference state frame others next cond target operands)
  reference_keeps ref_cond.Null target (a ∷ operands) = branch_keeps world state (is_null a) frame others target next operands
  reference_keeps ref_cond.NonNull target (a ∷ operands) = branch_keeps world state (not (is_null a)) frame others target next operands
  reference_keeps ref_cond.Eq target (b ∷ a ∷ operands) = branch_keeps world state (are_same a b) frame others target next operands
  reference_keeps ref_cond.Ne target (b ∷ a ∷ operands) = branch_keeps world state (not (are_same a b)) frame others target next operands
  reference_keeps cond target operands = tt

  choice_keeps : (target : ℤ → ℕ) (operands : List Value) → Keeps state.objects (choose state frame others target operands)
  choice_keeps target (Whole key ∷ operands) = jump_keeps world state frame others (target key) operands
  choice_keeps target operands = tt

  -- ---- statics and fields

  static_read_keeps : (value : Option Value) → Keeps state.objects (read_static state frame others next value)
  static_read_keeps None = tt
  static_read_keeps (Some value) = going_on_keeps world state frame others next (value ∷ frame.operands)

  static_write_keeps : (used : FieldUse) (operands : List Value) → Keeps state.objects (write_static state frame others next used operands)
  static_write_keeps used [] = tt
  static_write_keeps used (value ∷ operands) =
      let after = with_static state used.field (kept_as used.kind value) in
      option_keeps state.objects (state.statics used.field) (λ old. goes_on after frame others next operands)
      (λ old is. next_keeps state.objects no_need [] after frame others next operands (kept_itself state.objects))

  read_of_keeps : (used : FieldUse) (operands : List Value) (object : Object) → Keeps state.objects (read_of state frame others next used operands object)
  read_of_keeps used operands (Instance class fields) =
      option_keeps state.objects (fields used.field) (λ value. goes_on state frame others next (value ∷ operands)) (λ value is. going_on_keeps world state frame others next (value ∷ operands))
  read_of_keeps used operands (Elements array elements) = tt

  field_read_keeps : (used : FieldUse) (operands : List Value) → Keeps state.objects (read_field world state frame others next used operands)
  field_read_keeps used [] = tt
  field_read_keeps used (reference ∷ operands) =
      object_keeps world state (frame ∷ others) reference (λ name object. read_of state frame others next used operands object) (λ name object is. read_of_keeps used operands object)

  write_to_keeps : (used : FieldUse) (value : Value) (operands : List Value) (name : ℕ) (object : Object) → object_at state name ≡ Some object
      → Keeps state.objects (write_to state frame others next used value operands name object)
  write_to_keeps used value operands name (Instance class fields) is =
      let new = Instance class (with_field fields used.field (kept_as used.kind value)) in
      let after = with_object state name new in
      option_keeps state.objects (fields used.field) (λ old. goes_on after frame others next operands)
      (λ old there. next_keeps state.objects no_need [] after frame others next operands (kept_set state.objects name (Instance class fields) new is refl))
  write_to_keeps used value operands name (Elements array elements) is = tt

  field_write_keeps : (used : FieldUse) (operands : List Value) → Keeps state.objects (write_field world state frame others next used operands)
  field_write_keeps used (value ∷ reference ∷ operands) =
      object_keeps world state (frame ∷ others) reference (λ name object. write_to state frame others next used value operands name object) (write_to_keeps used value operands)
  field_write_keeps used operands = tt

  -- ---- objects

  make_keeps : (type : TypeBase) → Keeps state.objects (make world state frame others next type)
  make_keeps (base.Class class) = placing_keeps world state frame others next _ (object_cells world.files class) (new_object world.files class ∷ [])
  make_keeps type = tt

  throw_class_keeps : (name : ℕ) (object : Object) → Keeps state.objects (throw_class world state (frame ∷ others) name object)
  throw_class_keeps name (Instance class fields) = object_throw_keeps world state (frame ∷ others) class name
  throw_class_keeps name (Elements array elements) = tt

  thrown_keeps : (operands : List Value) → Keeps state.objects (throw world state frame others operands)
  thrown_keeps [] = tt
  thrown_keeps (reference ∷ operands) =
      object_keeps world state (frame ∷ others) reference (λ name object. throw_class world state (frame ∷ others) name object) (λ name object is. throw_class_keeps name object)

  cast_keeps : (type : TypeRef) (operands : List Value) → Keeps state.objects (cast world state frame others next type operands)
  cast_keeps type [] = tt
  cast_keeps type (Whole number ∷ operands) = tt
  cast_keeps type (Null ∷ operands) = going_on_keeps world state frame others next (Null ∷ operands)
  cast_keeps type (Name name ∷ operands) =
      either_keeps state.objects (is_of_type world state type (Name name)) (goes_on state frame others next (Name name ∷ operands)) (throws world state (frame ∷ others) class_cast_exception)
      (going_on_keeps world state frame others next (Name name ∷ operands)) (throw_keeps world state (frame ∷ others) class_cast_exception)

  test_keeps : (type : TypeRef) (operands : List Value) → Keeps state.objects (test world state frame others next type operands)
  test_keeps type [] = tt
  test_keeps type (Whole number ∷ operands) = tt
  test_keeps type (Null ∷ operands) = going_on_keeps world state frame others next _
  test_keeps type (Name name ∷ operands) = going_on_keeps world state frame others next _

  return_keeps : (kept : Option Kind) (kind : Option ValueKind) → Keeps state.objects (return_of world state frame others kept kind)
  return_keeps kept None = returns_keeps world state others []
  return_keeps kept (Some kind) = value_keeps world state others kept frame.operands

  -- ---- each instruction

  instruction_keeps : (body : Body) (instruction : Op) → Keeps state.objects (move_of world state frame others body next instruction)
  instruction_keeps body op.Nop = going_on_keeps world state frame others next frame.operands
  instruction_keeps body (op.Const constant) = going_on_keeps world state frame others next (constant_of constant ∷ frame.operands)
  instruction_keeps body (op.Load kind local) = local_keeps (local_at frame local)
  instruction_keeps body (op.Store kind local) = set_keeps local frame.operands
  instruction_keeps body (op.Inc local amount) = increment_keeps local amount (local_at frame local)
  instruction_keeps body (op.Stack form) = restack_keeps (restacked form frame.operands)
  instruction_keeps body (op.Bin operation) = compute_keeps operation frame.operands
  instruction_keeps body (op.Unary operation) = convert_keeps operation frame.operands
  instruction_keeps body (op.If cond target) = if_keeps (λ number. is_met cond number (pos 0)) target frame.operands
  instruction_keeps body (op.IfCmp cond target) = compared_keeps (is_met cond) target frame.operands
  instruction_keeps body (op.IfRef cond target) = reference_keeps cond target frame.operands
  instruction_keeps body (op.Goto target) = jump_keeps world state frame others target frame.operands
  instruction_keeps body (op.Switch form default rows) = choice_keeps (λ key. unwrap_or (row_target key rows) default) frame.operands
  instruction_keeps body (op.Return kind) = return_keeps body.result kind
  instruction_keeps body (op.GetStatic used) = static_read_keeps (state.statics used.field)
  instruction_keeps body (op.PutStatic used) = static_write_keeps used frame.operands
  instruction_keeps body (op.GetField used) = field_read_keeps used frame.operands
  instruction_keeps body (op.PutField used) = field_write_keeps used frame.operands
  instruction_keeps body (op.CallVirtual used) = virtual_keeps world state frame others next used
  instruction_keeps body (op.CallSpecial used) = special_keeps world state frame others next used
  instruction_keeps body (op.CallStatic used) = static_keeps world state frame others next used
  instruction_keeps body (op.CallInterface used) = interface_keeps world state frame others next used
  instruction_keeps body (op.New type) = make_keeps type.base
  instruction_keeps body (op.NewArray type) = make_array_keeps world state frame others next type frame.operands
  instruction_keeps body op.ArrayLength = length_keeps world state frame others next frame.operands
  instruction_keeps body (op.ArrayLoad kind) = load_keeps world state frame others next frame.operands
  instruction_keeps body (op.ArrayStore kind) = store_keeps world state frame others next frame.operands
  instruction_keeps body op.Throw = thrown_keeps frame.operands
  instruction_keeps body (op.CheckCast type) = cast_keeps type frame.operands
  instruction_keeps body (op.InstanceOf type) = test_keeps type frame.operands
  instruction_keeps body (op.MultiArray array dims) = make_arrays_keeps world state frame others next array (numbers_in dims frame.operands)

-- ---- the step

module _ (world : World) (state : State) where
  body_keeps : (frame : Frame) (others : List Frame) (body : Option Body) → Keeps state.objects (move_in world state frame others body)
  body_keeps frame others None = tt
  body_keeps frame others (Some body) =
      option_keeps state.objects (placed_at body frame.pc) (λ placed. move_of world state frame others body placed.next placed.op)
      (λ placed is. instruction_keeps world state frame others placed.next body placed.op)

  frames_keep : (frames : List Frame) → Keeps state.objects (move_among world state frames)
  frames_keep [] = tt
  frames_keep (frame ∷ others) = body_keeps frame others (body_among world.bodies frame.method)

  pub objects_kept : (after : State) (need : Need) (events : List Event) → move world state ≡ Does need events after → (name : ℕ) (object : Object) → object_at state name ≡ Some object → KeepsType after name object
  objects_kept after need events goes name object is =
      let kept : AreKept state.objects after.objects = subst (Keeps state.objects) goes (frames_keep state.frames) in
      let has = kept.each name object is in
      record { other = has.other; is = has.is; type = has.type }
