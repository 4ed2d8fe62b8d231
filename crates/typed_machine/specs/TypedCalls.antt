-- Calls and returns of the typed machine (JVMS 2.6, 2.11.8, 6.5).
use Rattle.std.specs.Prelude.{ℕ, ℤ, ◌-◌, Bool, false, nat_lt, if◌then◌else◌, List, [], ◌∷◌, ◌++◌, map, reverse, length, replicate, take, drop, Option, Some, None}
use Rattle.std.specs.Option.{option_map_or}
use Rattle.std.specs.Fmt.{signed_decimal}
use Rattle.account.specs.Account.{Get, Put, Does, Stops, Stuck}
use Rattle.dialogue.specs.Natives.{low_byte, next_byte, after_byte}
use Rattle.library.specs.declared.natives.Native.{Native}
use Rattle.library.specs.declared.natives.Native.TheVariants as native
use Rattle.cell_num.specs.declared.conversions.Conv.TheVariants as conv
use Rattle.cell_num.specs.Conversions.{converted}
use Rattle.class_pool.specs.declared.descriptor.Kind.{Kind}
use Rattle.class_pool.specs.declared.descriptor.Kind.TheVariants as kind
use Rattle.class_pool.specs.declared.types.MemberId.{MemberId}
use Rattle.class_tree.specs.AccessTests.{is_subclass}
use Rattle.body_form.specs.declared.body.Body.{Body}
use Rattle.body_form.specs.declared.op.MethodUse.{MethodUse}
use Rattle.jvm_model.specs.InitialStatics.{narrowed}
use Rattle.jvm_model.specs.State.{Value, Whole}
use Rattle.typed_machine.specs.TypedMoves.{TypedMove, Done, at_pc, does_next, no_need, tick_need, call_need, throws, with_object_of, incompatible_class_change_error}
use Rattle.typed_machine.specs.TypedState.{Object, Instance, Elements, Frame, State, with_frames, with_answers}
use Rattle.typed_machine.specs.TypedWorld.{World, body_among, native_of, placed_at, called, class_of}

-- ---- what is handed on

-- an argument for a boolean, byte or short parameter is taken as i2s, and one for a char parameter as i2c
abbrev pub argument_for : Kind → Value → Value
argument_for kind.Boolean (Whole number) = Whole (converted conv.Short number)
argument_for kind.Byte (Whole number) = Whole (converted conv.Short number)
argument_for kind.Short (Whole number) = Whole (converted conv.Short number)
argument_for kind.Char (Whole number) = Whole (converted conv.Char number)
argument_for k value = value

unfoldable pub arguments_for : List Kind → List Value → List Value
arguments_for (k ∷ kinds) (value ∷ values) = argument_for k value ∷ arguments_for kinds values
arguments_for kinds values = []

-- what a field or a result of a type keeps of a value
abbrev pub kept_as : Kind → Value → Value
kept_as k (Whole number) = Whole (narrowed k number)
kept_as k value = value

-- ---- natives

abbrev pub shows : State → Frame → List Frame → Option ℕ → (ℤ → List ℕ) → List Value → TypedMove
shows state frame others next bytes (Whole number ∷ operands) = does_next tick_need (map Put (bytes number)) state frame others next operands
shows state frame others next bytes operands = Stuck

-- a native has no frame, and is a tick as any call
abbrev pub runs_native : State → Frame → List Frame → Option ℕ → Native → List Value → TypedMove
runs_native state frame others next native.Construct [] = Stuck
runs_native state frame others next native.Construct (reference ∷ operands) = does_next tick_need [] state frame others next operands
runs_native state frame others next native.Write operands = shows state frame others next (λ number. low_byte number ∷ []) operands
runs_native state frame others next native.Print operands = shows state frame others next signed_decimal operands
runs_native state frame others next native.Read operands =
    does_next tick_need (Get ∷ []) (with_answers state (after_byte state.answers)) frame others next (Whole (next_byte state.answers) ∷ operands)

-- ---- calls

-- a new frame with these values in its first locals, and no other set
abbrev pub frame_for : MemberId → Body → List Value → Frame
frame_for method body values =
    record { method = method; pc = 0; locals = map (λ (value : Value). Some value) values ++ replicate (body.max_locals - length values) None; operands = [] }

-- the caller waits at its call, without what it hands on
abbrev pub runs_body : World → State → Frame → List Frame → MemberId → Body → List Value → List Value → TypedMove
runs_body world state frame others method body values operands =
    Does (call_need (world.frame_cells method)) [] (with_frames state (frame_for method body values ∷ at_pc frame frame.pc operands ∷ others))

abbrev pub runs_code : World → State → Frame → List Frame → MemberId → Option Body → List Value → List Value → TypedMove
runs_code world state frame others method None values operands = Stuck
runs_code world state frame others method (Some body) values operands = runs_body world state frame others method body values operands

-- a method of the library is a native, and another one has a body; `values` are what is handed on, in order
abbrev pub runs : World → State → Frame → List Frame → Option ℕ → MemberId → List Value → List Value → TypedMove
runs world state frame others next method values operands =
    option_map_or (λ found. runs_native state frame others next found frame.operands) (native_of method)
    (runs_code world state frame others method (body_among world.bodies method) values operands)

-- the arguments of a call, in order, as its parameters take them
abbrev pub arguments_of : MethodUse → List Value → List Value
arguments_of used operands = arguments_for used.descriptor.params (reverse (take (length used.descriptor.params) operands))

-- how many operands a call hands on, without the object that it is on
abbrev pub argument_count : MethodUse → ℕ
argument_count used = length used.descriptor.params

abbrev pub call_static : World → State → Frame → List Frame → Option ℕ → MethodUse → TypedMove
call_static world state frame others next used =
    if nat_lt (length frame.operands) (argument_count used) then Stuck
    else runs world state frame others next used.method (arguments_of used frame.operands) (drop (argument_count used) frame.operands)

-- a call on an object, which stands below the arguments, of the method that is found for it
abbrev pub call_on : World → State → Frame → List Frame → Option ℕ → MethodUse → (Object → TypedMove) → List Value → TypedMove
call_on world state frame others next used found [] = Stuck
call_on world state frame others next used found (receiver ∷ operands) = with_object_of world state (frame ∷ others) receiver (λ name object. found object)

abbrev pub receiver_first : MethodUse → List Value → List Value
receiver_first used operands = take 1 (drop (argument_count used) operands) ++ arguments_of used operands

abbrev pub runs_found : World → State → Frame → List Frame → Option ℕ → MethodUse → Option MemberId → TypedMove
runs_found world state frame others next used None = Stuck
runs_found world state frame others next used (Some method) =
    runs world state frame others next method (receiver_first used frame.operands) (drop 1 (drop (argument_count used) frame.operands))

abbrev pub call_special : World → State → Frame → List Frame → Option ℕ → MethodUse → TypedMove
call_special world state frame others next used =
    call_on world state frame others next used (λ object. runs_found world state frame others next used (Some used.method)) (drop (argument_count used) frame.operands)

abbrev pub call_virtual : World → State → Frame → List Frame → Option ℕ → MethodUse → TypedMove
call_virtual world state frame others next used =
    call_on world state frame others next used (λ object. runs_found world state frame others next used (called world.files used (class_of object))) (drop (argument_count used) frame.operands)

-- the object's class has the interface above it; an array's has none
abbrev pub implements : World → ℕ → Object → Bool
implements world interface (Instance class fields) = is_subclass world.files class interface
implements world interface (Elements array elements) = false

abbrev pub call_interface : World → State → Frame → List Frame → Option ℕ → MethodUse → TypedMove
call_interface world state frame others next used =
    call_on world state frame others next used
    (λ object. if implements world used.class object then runs_found world state frame others next used (called world.files used (class_of object)) else throws world state (frame ∷ others) incompatible_class_change_error)
    (drop (argument_count used) frame.operands)

-- ---- returns

-- the caller goes on behind its call with these operands
abbrev pub resumes : World → State → Frame → List Frame → List Value → Option Body → TypedMove
resumes world state caller others operands None = Stuck
resumes world state caller others operands (Some body) =
    option_map_or (λ placed. does_next no_need [] state caller others placed.next operands) (placed_at body caller.pc) Stuck

-- the return of the oldest frame ends the run
abbrev pub returns : World → State → List Frame → List Value → TypedMove
returns world state [] values = Stops no_need [] Done
returns world state (caller ∷ others) values = resumes world state caller others (values ++ caller.operands) (body_among world.bodies caller.method)

-- a value is returned as the method's result keeps it
abbrev pub return_value : World → State → List Frame → Option Kind → List Value → TypedMove
return_value world state others (Some result) (value ∷ operands) = returns world state others (kept_as result value ∷ [])
return_value world state others result operands = Stuck
