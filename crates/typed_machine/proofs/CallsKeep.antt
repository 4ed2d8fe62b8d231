-- Calls and returns keep objects: they change frames alone, but for what they throw.
use Rattle.std.proofs.Common.{ℕ, ℤ, nat_lt, List, [], ◌∷◌, ◌++◌, length, map, drop, Option, Some, None}
use Rattle.std.specs.Prelude.{if◌then◌else◌}
use Rattle.std.specs.Option.{option_map_or}
use Rattle.std.specs.Fmt.{signed_decimal}
use Rattle.account.specs.Account.{Get, Put, Stuck}
use Rattle.dialogue.specs.Natives.{low_byte, next_byte, after_byte}
use Rattle.library.specs.declared.natives.Native.{Native}
use Rattle.library.specs.declared.natives.Native.TheVariants as native
use Rattle.class_pool.specs.declared.descriptor.Kind.{Kind}
use Rattle.class_pool.specs.declared.types.MemberId.{MemberId}
use Rattle.body_form.specs.declared.body.Body.{Body}
use Rattle.body_form.specs.declared.op.MethodUse.{MethodUse}
use Rattle.jvm_model.specs.State.{Value, Whole}
use Rattle.typed_machine.specs.TypedCalls.{kept_as, shows, runs_native, runs_code, runs, arguments_of, argument_count, call_static, call_on, receiver_first, runs_found, call_special, call_virtual, implements, call_interface, resumes, returns, return_value}
use Rattle.typed_machine.specs.TypedMoves.{TypedMove, throws, does_next, no_need, tick_need, incompatible_class_change_error}
use Rattle.typed_machine.specs.TypedState.{Object, Frame, State, with_answers}
use Rattle.typed_machine.specs.TypedWorld.{World, body_among, native_of, placed_at, called, class_of}
use Rattle.typed_machine.proofs.KeptObjects.{Keeps, kept_itself}
use Rattle.typed_machine.proofs.MovesKeep.{next_keeps, either_keeps, option_keeps, throw_keeps, object_keeps}

module _ (world : World) (state : State) where
  module _ (frame : Frame) (others : List Frame) (next : Option ℕ) where
    -- ---- natives

    shows_keeps : (bytes : ℤ → List ℕ) (operands : List Value) → Keeps state.objects (shows state frame others next bytes operands)
    shows_keeps bytes (Whole number ∷ operands) = next_keeps state.objects tick_need (map Put (bytes number)) state frame others next operands (kept_itself state.objects)
    shows_keeps bytes operands = tt

    native_keeps : (found : Native) (operands : List Value) → Keeps state.objects (runs_native state frame others next found operands)
    native_keeps native.Construct [] = tt
    native_keeps native.Construct (reference ∷ operands) = next_keeps state.objects tick_need [] state frame others next operands (kept_itself state.objects)
    native_keeps native.Write operands = shows_keeps (λ number. low_byte number ∷ []) operands
    native_keeps native.Print operands = shows_keeps signed_decimal operands
    native_keeps native.Read operands =
        next_keeps state.objects tick_need (Get ∷ []) (with_answers state (after_byte state.answers)) frame others next (Whole (next_byte state.answers) ∷ operands) (kept_itself state.objects)

    -- ---- calls

    code_keeps : (method : MemberId) (body : Option Body) (values operands : List Value) → Keeps state.objects (runs_code world state frame others method body values operands)
    code_keeps method None values operands = tt
    code_keeps method (Some body) values operands = kept_itself state.objects

    runs_keeps : (method : MemberId) (values operands : List Value) → Keeps state.objects (runs world state frame others next method values operands)
    runs_keeps method values operands = chosen (native_of method)
      where
        chosen : (found : Option Native)
            → Keeps state.objects
            (option_map_or (λ native. runs_native state frame others next native frame.operands) found
            (runs_code world state frame others method (body_among world.bodies method) values operands))
        chosen None = code_keeps method (body_among world.bodies method) values operands
        chosen (Some native) = native_keeps native frame.operands

    pub static_keeps : (used : MethodUse) → Keeps state.objects (call_static world state frame others next used)
    static_keeps used =
        let values = arguments_of used frame.operands in
        let operands = drop (argument_count used) frame.operands in
        either_keeps state.objects (nat_lt (length frame.operands) (argument_count used)) Stuck (runs world state frame others next used.method values operands) tt
        (runs_keeps used.method values operands)

    call_keeps : (used : MethodUse) (found : Object → TypedMove) → ((object : Object) → Keeps state.objects (found object)) → (operands : List Value)
        → Keeps state.objects (call_on world state frame others next used found operands)
    call_keeps used found keeps [] = tt
    call_keeps used found keeps (receiver ∷ operands) = object_keeps world state (frame ∷ others) receiver (λ name object. found object) (λ name object is. keeps object)

    found_keeps : (used : MethodUse) (method : Option MemberId) → Keeps state.objects (runs_found world state frame others next used method)
    found_keeps used None = tt
    found_keeps used (Some method) = runs_keeps method (receiver_first used frame.operands) (drop 1 (drop (argument_count used) frame.operands))

    pub special_keeps : (used : MethodUse) → Keeps state.objects (call_special world state frame others next used)
    special_keeps used =
        call_keeps used (λ object. runs_found world state frame others next used (Some used.method)) (λ object. found_keeps used (Some used.method)) (drop (argument_count used) frame.operands)

    pub virtual_keeps : (used : MethodUse) → Keeps state.objects (call_virtual world state frame others next used)
    virtual_keeps used =
        call_keeps used (λ object. runs_found world state frame others next used (called world.files used (class_of object)))
        (λ object. found_keeps used (called world.files used (class_of object))) (drop (argument_count used) frame.operands)

    pub interface_keeps : (used : MethodUse) → Keeps state.objects (call_interface world state frame others next used)
    interface_keeps used = call_keeps used on keeps (drop (argument_count used) frame.operands)
      where
        run : Object → TypedMove
        run object = runs_found world state frame others next used (called world.files used (class_of object))

        error : TypedMove
        error = throws world state (frame ∷ others) incompatible_class_change_error

        on : Object → TypedMove
        on object = if implements world used.class object then run object else error

        keeps : (object : Object) → Keeps state.objects (on object)
        keeps object =
            either_keeps state.objects (implements world used.class object) (run object) error (found_keeps used (called world.files used (class_of object)))
            (throw_keeps world state (frame ∷ others) incompatible_class_change_error)

  -- ---- returns

  resumes_keeps : (caller : Frame) (others : List Frame) (operands : List Value) (body : Option Body) → Keeps state.objects (resumes world state caller others operands body)
  resumes_keeps caller others operands None = tt
  resumes_keeps caller others operands (Some body) =
      option_keeps state.objects (placed_at body caller.pc) (λ placed. does_next no_need [] state caller others placed.next operands)
      (λ placed is. next_keeps state.objects no_need [] state caller others placed.next operands (kept_itself state.objects))

  pub returns_keeps : (frames : List Frame) (values : List Value) → Keeps state.objects (returns world state frames values)
  returns_keeps [] values = tt
  returns_keeps (caller ∷ others) values = resumes_keeps caller others (values ++ caller.operands) (body_among world.bodies caller.method)

  pub value_keeps : (others : List Frame) (result : Option Kind) (operands : List Value) → Keeps state.objects (return_value world state others result operands)
  value_keeps others (Some result) (value ∷ operands) = returns_keeps others (kept_as result value ∷ [])
  value_keeps others result operands = tt
