-- The split machine's step: what each machine instruction does, as a move. The tests that throw stand before what is
-- placed, a tick before a frame, and both before the effect.
use Rattle.std.specs.Prelude.{ℕ, ℤ, pos, ◌+◌, ◌+ℤ◌, ◌-◌, ◌%◌, neg_ℤ, Bool, true, false, not, nat_eq, nat_lt, nat_le, if◌then◌else◌, List, [], ◌∷◌, ◌++◌, length, map, reverse, take, drop, replicate, slice_get, Option, Some, None, option_map, option_and_then, is_some}
use Rattle.std.specs.Int.{w32, int_wrap}
use Rattle.std.specs.Option.{option_map_or}
use Rattle.std.specs.Fmt.{signed_decimal}
use Rattle.cell_num.specs.declared.conversions.Conv.TheVariants as conv
use Rattle.cell_num.specs.Arithmetic.{applied}
use Rattle.cell_num.specs.Cells.{sign_extended, low_cell}
use Rattle.cell_num.specs.Conditions.{is_met}
use Rattle.cell_num.specs.Conversions.{converted}
use Rattle.dialogue.specs.Natives.{low_byte, next_byte, after_byte}
use Rattle.library.specs.declared.natives.Native.{Native}
use Rattle.library.specs.declared.natives.Native.TheVariants as native
use Rattle.library.specs.Natives.{native_of}
use Rattle.image_instr.specs.declared.insn.Condition.{Condition}
use Rattle.image_instr.specs.declared.insn.Kind.{Kind}
use Rattle.image_instr.specs.declared.insn.Kind.TheVariants as kind
use Rattle.image_instr.specs.declared.insn.MInsn.{MInsn}
use Rattle.image_instr.specs.declared.insn.MInsn.TheVariants as insns
use Rattle.image_instr.specs.declared.insn.Operation.{Operation}
use Rattle.image_instr.specs.declared.insn.RefTest.{RefTest}
use Rattle.image_instr.specs.declared.insn.RefTest.TheVariants as ref_test
use Rattle.image_instr.specs.declared.insn.SwitchRow.{SwitchRow}
use Rattle.image_instr.specs.declared.insn.Width.{Width}
use Rattle.image_instr.specs.declared.insn.Width.TheVariants as width
use Rattle.image_instr.specs.declared.signature.Sig.{Sig}
use Rattle.image_instr.specs.Reading.{insn_at, rows_at}
use Rattle.image_instr.specs.Switch.{target_in}
use Rattle.image_form.specs.declared.record.Image.{Image}
use Rattle.image_form.specs.declared.record.Method.{Method}
use Rattle.account.specs.Account.{Get, Put, Does, Stops, Stuck, no_need, tick_need, call_need}
use Rattle.account.specs.Run.{Machine}
use Rattle.mote_model.specs.State.{Reference, Half, Frame, Object}
use Rattle.mote_model.specs.Numbers.{op_of, cond_of}
use Rattle.mote_model.specs.SplitState.{State, with_frames, object_at, method_at, frame_cells, view_of}
use Rattle.mote_model.specs.SplitTypes.{is_below, new_object, selected}
use Rattle.mote_model.specs.SplitMoves.{Ending, Done, SplitMove, half, at_pc, with_refs, with_cells, with_ref_locals, with_cell_locals, number_of, cells_of, count_of, cells_at, with_cells_at, with_ref_at, goes_on, jumps, branches, using, take_cells, take_number, take_ref, push_cells, push_number, push_ref, dupx, swapped, without, without_at, places, throws_object, throws, with_object_of, misfits, arithmetic_exception, incompatible_class_change_error}
use Rattle.mote_model.specs.SplitObjects.{size_of, get_field, put_field, make_array, make_arrays, array_length, array_load, array_store, cast, test_type}

-- ---- locals and statics, by their kinds

abbrev pub load : State → Frame → List Frame → ℕ → Kind → ℕ → SplitMove
load state frame others next kind.Ref at = using (slice_get frame.refs.locals at) (λ reference. goes_on state (push_ref reference frame) others next)
load state frame others next k at = using (cells_at frame.cells.locals at (size_of k)) (λ cells. goes_on state (push_cells cells frame) others next)

abbrev pub store : State → Frame → List Frame → ℕ → Kind → ℕ → SplitMove
store state frame others next kind.Ref at =
    take_ref frame (λ reference rest. using (with_ref_at rest.refs.locals at reference) (λ locals. goes_on state (with_ref_locals rest locals) others next))
store state frame others next k at =
    take_cells (size_of k) frame (λ cells rest. using (with_cells_at rest.cells.locals at cells) (λ locals. goes_on state (with_cell_locals rest locals) others next))

-- a reference local becomes null
abbrev pub clear : State → Frame → List Frame → ℕ → ℕ → SplitMove
clear state frame others next at = using (with_ref_at frame.refs.locals at None) (λ locals. goes_on state (with_ref_locals frame locals) others next)

-- an amount is added to a local, wrapped to 32 bits
abbrev pub increment : State → Frame → List Frame → ℕ → Width → ℕ → ℤ → SplitMove
increment state frame others next w at amount =
    using (option_and_then (λ cells. with_cells_at frame.cells.locals at (cells_of w (int_wrap w32 (number_of cells +ℤ amount)))) (cells_at frame.cells.locals at (count_of w)))
    (λ locals. goes_on state (with_cell_locals frame locals) others next)

abbrev pub get_static : State → Frame → List Frame → ℕ → Kind → ℕ → SplitMove
get_static state frame others next kind.Ref at = using (slice_get state.ref_statics at) (λ reference. goes_on state (push_ref reference frame) others next)
get_static state frame others next k at = using (cells_at state.cell_statics at (size_of k)) (λ cells. goes_on state (push_cells cells frame) others next)

abbrev pub put_static : State → Frame → List Frame → ℕ → Kind → ℕ → SplitMove
put_static state frame others next kind.Ref at =
    take_ref frame (λ reference rest. using (with_ref_at state.ref_statics at reference) (λ (statics : List Reference). goes_on (record state { ref_statics = statics }) rest others next))
put_static state frame others next k at =
    take_cells (size_of k) frame (λ cells rest. using (with_cells_at state.cell_statics at cells) (λ (statics : List ℕ). goes_on (record state { cell_statics = statics }) rest others next))

-- ---- operands

abbrev pub move_refs : State → Frame → List Frame → ℕ → Option (List Reference) → SplitMove
move_refs state frame others next moved = using moved (λ operands. goes_on state (with_refs frame operands) others next)

abbrev pub move_cells : State → Frame → List Frame → ℕ → Option (List ℕ) → SplitMove
move_cells state frame others next moved = using moved (λ operands. goes_on state (with_cells frame operands) others next)

-- one cell becomes others, the low one first
abbrev pub change_cell : State → Frame → List Frame → ℕ → (ℕ → List ℕ) → SplitMove
change_cell state frame others next changed =
    take_cells 1 frame (λ cells rest. using (slice_get cells 0) (λ cell. goes_on state (push_cells (changed cell) rest) others next))

-- ---- numbers; a zero divisor throws

abbrev pub result : Image → State → List Frame → Frame → List Frame → ℕ → Width → Option ℤ → SplitMove
result image state frames frame others next w None = throws image state frames arithmetic_exception
result image state frames frame others next w (Some number) = goes_on state (push_number w number frame) others next

abbrev pub compute : Image → State → Frame → List Frame → ℕ → Width → Operation → SplitMove
compute image state frame others next w operation =
    take_number w frame (λ b below. take_number w below (λ a rest. result image state (frame ∷ others) rest others next w (applied (op_of operation) a b)))

abbrev pub negate : State → Frame → List Frame → ℕ → Width → SplitMove
negate state frame others next w = take_number w frame (λ number rest. goes_on state (push_number w (int_wrap w32 (neg_ℤ number)) rest) others next)

-- ---- jumps

abbrev pub jump_if_zero : State → Frame → List Frame → ℕ → Width → Condition → ℕ → SplitMove
jump_if_zero state frame others next w condition target =
    take_number w frame (λ number rest. branches (is_met (cond_of condition) number (pos 0)) state rest others target next)

abbrev pub jump_if_compared : State → Frame → List Frame → ℕ → Width → Condition → ℕ → SplitMove
jump_if_compared state frame others next w condition target =
    take_number w frame (λ b below. take_number w below (λ a rest. branches (is_met (cond_of condition) a b) state rest others target next))

-- two references are of one object, or both null
abbrev pub are_same : Reference → Reference → Bool
are_same None None = true
are_same (Some a) (Some b) = nat_eq a b
are_same a b = false

abbrev pub jump_if_reference : State → Frame → List Frame → ℕ → RefTest → ℕ → SplitMove
jump_if_reference state frame others next ref_test.Null target = take_ref frame (λ a rest. branches (not (is_some a)) state rest others target next)
jump_if_reference state frame others next ref_test.NonNull target = take_ref frame (λ a rest. branches (is_some a) state rest others target next)
jump_if_reference state frame others next ref_test.Equal target = take_ref frame (λ b below. take_ref below (λ a rest. branches (are_same a b) state rest others target next))
jump_if_reference state frame others next ref_test.NotEqual target = take_ref frame (λ b below. take_ref below (λ a rest. branches (not (are_same a b)) state rest others target next))

-- the default is a jump too
abbrev pub choose : State → Frame → List Frame → Width → List SwitchRow → ℕ → SplitMove
choose state frame others w rows default = take_number w frame (λ key rest. jumps state rest others (target_in default rows key))

-- ---- natives

abbrev pub shows : State → Frame → List Frame → ℕ → (ℤ → List ℕ) → SplitMove
shows state frame others next bytes =
    take_number width.Two frame (λ number rest. Does tick_need (map Put (bytes number)) (with_frames state (at_pc rest next ∷ others)))

-- a native has no frame, and is a tick as any call
abbrev pub runs_native : State → Frame → List Frame → ℕ → Native → SplitMove
runs_native state frame others next native.Construct = take_ref frame (λ reference rest. Does tick_need [] (with_frames state (at_pc rest next ∷ others)))
runs_native state frame others next native.Write = shows state frame others next (λ number. low_byte number ∷ [])
runs_native state frame others next native.Print = shows state frame others next signed_decimal
runs_native state frame others next native.Read =
    Does tick_need (Get ∷ []) (record state { frames = at_pc (push_number width.Two (next_byte state.answers) frame) next ∷ others; answers = after_byte state.answers })

-- ---- calls

-- the new frame takes the arguments off the caller's operands, in their order, as its first locals; the others are null
-- and 0
abbrev pub first_locals : {X : Type 0} → ℕ → ℕ → X → List X → List X
first_locals count locals empty operands = reverse (take count operands) ++ replicate (locals - count) empty

abbrev pub frame_for : ℕ → Method → Frame → Frame
frame_for id method caller =
    record {
      method = id;
      pc = 0;
      refs = half (first_locals method.sig.refs method.ref_locals None caller.refs.operands) [];
      cells = half (first_locals method.sig.cells method.cell_locals 0 caller.cells.operands) [];
    }

abbrev pub without_arguments : Sig → Frame → Frame
without_arguments sig frame = with_cells (with_refs frame (drop sig.refs frame.refs.operands)) (drop sig.cells frame.cells.operands)

abbrev pub has_arguments : Sig → Frame → Bool
has_arguments sig frame = if nat_le sig.refs (length frame.refs.operands) then nat_le sig.cells (length frame.cells.operands) else false

-- the caller waits at its call, without the arguments
abbrev pub runs_method : State → Frame → List Frame → ℕ → Method → SplitMove
runs_method state frame others id method =
    if has_arguments method.sig frame
    then Does (call_need (frame_cells method)) [] (with_frames state (frame_for id method frame ∷ without_arguments method.sig frame ∷ others))
    else Stuck

abbrev pub runs_code : Image → State → Frame → List Frame → ℕ → SplitMove
runs_code image state frame others id = using (method_at image id) (λ method. runs_method state frame others id method)

-- the method of an id: a native of the library, or one with code
abbrev pub calls : Image → State → Frame → List Frame → ℕ → ℕ → SplitMove
calls image state frame others next id = option_map_or (runs_native state frame others next) (native_of id) (runs_code image state frame others id)

-- the references that a method takes, the object that it is called on among them
abbrev pub refs_taken : Image → ℕ → ℕ
refs_taken image id = option_map_or (λ (n : Native). 1) (native_of id) (option_map_or (λ (method : Method). method.sig.refs) (method_at image id) 0)

-- a call on the object below so many other references
abbrev pub call_on : Image → State → Frame → List Frame → ℕ → (Object → SplitMove) → SplitMove
call_on image state frame others refs found =
    using (slice_get frame.refs.operands (refs - 1)) (λ reference. with_object_of image state (frame ∷ others) reference (λ name object. found object))

-- CALLX
abbrev pub call_exactly : Image → State → Frame → List Frame → ℕ → ℕ → SplitMove
call_exactly image state frame others next id = call_on image state frame others (refs_taken image id) (λ object. calls image state frame others next id)

-- an object whose class has no method for the selector ends the run
abbrev pub calls_selected : Image → State → Frame → List Frame → ℕ → ℕ → Object → Option ℕ → SplitMove
calls_selected image state frame others next selector object None = misfits object selector
calls_selected image state frame others next selector object (Some id) = calls image state frame others next id

-- CALLV
abbrev pub call_virtual : Image → State → Frame → List Frame → ℕ → ℕ → SplitMove
call_virtual image state frame others next selector =
    using (slice_get image.selectors selector) (λ (sig : Sig). call_on image state frame others sig.refs (λ object. calls_selected image state frame others next selector object (selected image selector object.type)))

-- CALLI: the object's class has the interface above it
abbrev pub call_interface : Image → State → Frame → List Frame → ℕ → ℕ → ℕ → SplitMove
call_interface image state frame others next selector interface =
    using (slice_get image.selectors selector) (λ (sig : Sig). call_on image state frame others sig.refs (λ object.
    if is_below image object.type interface then calls_selected image state frame others next selector object (selected image selector object.type)
    else throws image state (frame ∷ others) incompatible_class_change_error))

-- ---- returns

-- the code of a frame from its pc on
abbrev pub code_from : Image → Frame → List ℕ
code_from image frame = drop frame.pc (option_map_or (λ (method : Method). method.code) (method_at image frame.method) [])

-- the caller goes on behind its call
abbrev pub resumes : Image → State → Frame → List Frame → SplitMove
resumes image state caller others = using (insn_at (code_from image caller)) (λ found. goes_on state caller others (caller.pc + found.1))

-- the return of the oldest frame ends the run
abbrev pub returns : Image → State → List Frame → (Frame → Frame) → SplitMove
returns image state [] with_result = Stops no_need [] Done
returns image state (caller ∷ others) with_result = resumes image state (with_result caller) others

abbrev pub return_of : Image → State → Frame → List Frame → Option Kind → SplitMove
return_of image state frame others None = returns image state others (λ caller. caller)
return_of image state frame others (Some kind.Ref) = take_ref frame (λ reference rest. returns image state others (push_ref reference))
return_of image state frame others (Some k) = take_cells (size_of k) frame (λ cells rest. returns image state others (push_cells cells))

-- ---- throws

abbrev pub throw : Image → State → Frame → List Frame → SplitMove
throw image state frame others =
    take_ref frame (λ reference rest. with_object_of image state (frame ∷ others) reference (λ name object. throws_object image state (frame ∷ others) object.type name))

-- ---- the step

-- the move of an instruction with these rows, after which the code goes on at next
abbrev pub move_of : Image → State → Frame → List Frame → ℕ → MInsn → List SwitchRow → SplitMove
move_of image state frame others next (insns.Const1 value) rows = goes_on state (push_number width.One value frame) others next
move_of image state frame others next (insns.Const2 value) rows = goes_on state (push_number width.Two value frame) others next
move_of image state frame others next (insns.Small1 value) rows = goes_on state (push_number width.One value frame) others next
move_of image state frame others next (insns.Small2 value) rows = goes_on state (push_number width.Two value frame) others next
move_of image state frame others next (insns.Mid2 value) rows = goes_on state (push_number width.Two value frame) others next
move_of image state frame others next insns.Null rows = goes_on state (push_ref None frame) others next
move_of image state frame others next (insns.Load k at) rows = load state frame others next k at
move_of image state frame others next (insns.Store k at) rows = store state frame others next k at
move_of image state frame others next (insns.RClear at) rows = clear state frame others next at
move_of image state frame others next (insns.Inc w at amount) rows = increment state frame others next w at amount
move_of image state frame others next (insns.RDupX m n) rows = move_refs state frame others next (dupx m n frame.refs.operands)
move_of image state frame others next (insns.DupX m n) rows = move_cells state frame others next (dupx m n frame.cells.operands)
move_of image state frame others next (insns.RPop count) rows = move_refs state frame others next (without count frame.refs.operands)
move_of image state frame others next (insns.Pop count) rows = move_cells state frame others next (without count frame.cells.operands)
move_of image state frame others next insns.RSwap rows = move_refs state frame others next (swapped 1 1 frame.refs.operands)
move_of image state frame others next (insns.Swap m n) rows = move_cells state frame others next (swapped m n frame.cells.operands)
move_of image state frame others next (insns.Drop above) rows = move_cells state frame others next (without_at above frame.cells.operands)
move_of image state frame others next (insns.Bin w operation) rows = compute image state frame others next w operation
move_of image state frame others next (insns.Neg w) rows = negate state frame others next w
move_of image state frame others next insns.Sx rows = change_cell state frame others next (λ cell. cells_of width.Two (sign_extended cell))
move_of image state frame others next insns.Zx rows = change_cell state frame others next (λ cell. cells_of width.Two (pos cell))
move_of image state frame others next insns.Sb rows = change_cell state frame others next (λ cell. low_cell (converted conv.Byte (sign_extended cell)) ∷ [])
move_of image state frame others next insns.Bit rows = change_cell state frame others next (λ cell. cell % 2 ∷ [])
move_of image state frame others next (insns.Jz w condition target) rows = jump_if_zero state frame others next w condition target
move_of image state frame others next (insns.JCmp w condition target) rows = jump_if_compared state frame others next w condition target
move_of image state frame others next (insns.RJ test target) rows = jump_if_reference state frame others next test target
move_of image state frame others next (insns.Goto target) rows = jumps state frame others target
move_of image state frame others next (insns.Switch w default count) rows = choose state frame others w rows default
move_of image state frame others next (insns.Table w default low count) rows = choose state frame others w rows default
move_of image state frame others next (insns.Ret kept) rows = return_of image state frame others kept
move_of image state frame others next (insns.GetS k at) rows = get_static state frame others next k at
move_of image state frame others next (insns.PutS k at) rows = put_static state frame others next k at
move_of image state frame others next (insns.GetF k at) rows = get_field image state frame others next k at
move_of image state frame others next (insns.PutF k at) rows = put_field image state frame others next k at
move_of image state frame others next (insns.NewArr w id) rows = make_array image state frame others next w id
move_of image state frame others next (insns.Multi id dims) rows = make_arrays image state frame others next id dims
move_of image state frame others next insns.ALen rows = array_length image state frame others next
move_of image state frame others next (insns.ALoad e w) rows = array_load image state frame others next e w
move_of image state frame others next (insns.AStore e w) rows = array_store image state frame others next e w
move_of image state frame others next (insns.New id) rows = places state frame others next (new_object image id ∷ [])
move_of image state frame others next (insns.Cast id) rows = cast image state frame others next id
move_of image state frame others next (insns.Inst id) rows = test_type image state frame others next id
move_of image state frame others next insns.Throw rows = throw image state frame others
move_of image state frame others next (insns.CallS id) rows = calls image state frame others next id
move_of image state frame others next (insns.CallX id) rows = call_exactly image state frame others next id
move_of image state frame others next (insns.CallV selector) rows = call_virtual image state frame others next selector
move_of image state frame others next (insns.CallI selector id) rows = call_interface image state frame others next selector id

-- the move of the instruction with which the code goes on
abbrev pub move_at : Image → State → Frame → List Frame → List ℕ → SplitMove
move_at image state frame others bytes = using (insn_at bytes) (λ found. move_of image state frame others (frame.pc + found.1) found.0 (rows_at found.0 bytes))

abbrev pub move_among : Image → State → List Frame → SplitMove
move_among image state [] = Stuck
move_among image state (frame ∷ others) = move_at image state frame others (code_from image frame)

abbrev pub move : Image → State → SplitMove
move image state = move_among image state state.frames

-- the machine of an image
abbrev pub machine : Image → Machine State Ending
machine image = record { move = move image; view = view_of image }
