-- Calls of the typed machine are ticks, and returns lower the rank.
use Rattle.std.proofs.Common.{◌≡◌, ℕ, ℤ, ◌++◌, nat_lt, if◌then◌else◌, List, [], ◌∷◌, map, length, drop, Option, Some, None, option_map, refl}
use Rattle.std.specs.Fmt.{signed_decimal}
use Rattle.std.specs.Option.{option_map_or}
use Rattle.account.specs.Account.{Get, Put, Stuck}
use Rattle.dialogue.specs.Natives.{low_byte, next_byte, after_byte}
use Rattle.library.specs.declared.natives.Native.{Native}
use Rattle.library.specs.declared.natives.Native.TheVariants as native
use Rattle.class_pool.specs.declared.descriptor.Kind.{Kind}
use Rattle.class_pool.specs.declared.types.MemberId.{MemberId}
use Rattle.code_reach.specs.Reached.{RisesFrom}
use Rattle.insn_form.specs.declared.ValueKind.{ValueKind}
use Rattle.body_form.specs.declared.body.Body.{Body}
use Rattle.body_form.specs.declared.op.MethodUse.{MethodUse}
use Rattle.body_form.specs.declared.op.Op.{Op}
use Rattle.jvm_model.specs.State.{Value, Whole}
use Rattle.jvm_model.specs.TypesRules.{op_at}
use Rattle.typed_machine.specs.TypedCalls.{kept_as, shows, runs_native, frame_for, runs_code, runs, arguments_of, argument_count, call_static, call_on, receiver_first, runs_found, call_special, call_virtual, implements, call_interface, resumes, returns, return_value}
use Rattle.typed_machine.specs.TypedMoves.{TypedMove, Done, no_need, tick_need, call_need, at_pc, does_next, throws, incompatible_class_change_error}
use Rattle.typed_machine.specs.TypedState.{Object, Frame, State, with_frames, with_answers}
use Rattle.typed_machine.specs.TypedStep.{result, return_of}
use Rattle.typed_machine.specs.TypedWorld.{World, Placed, body_among, native_of, pc_after, called, class_of}
use Rattle.run_measures.proofs.Lowering.{Lowers, stuck, stops, ticks, to_state, either, mapped_or}
use Rattle.run_measures.proofs.TypedRank.{rank_of, IsAhead, after_later, return_lowers}
use Rattle.run_measures.proofs.TypedForms.{rank_in, thrown, of_object, goes}

-- ---- returns

-- the pcs of each body rise
abbrev pub BodiesRise : World → Type 0
BodiesRise world = (id : MemberId) (body : Body) → body_among world.bodies id ≡ Some body → RisesFrom 0 body.ops

module _ (world : World) (rise : BodiesRise world) (frame : Frame) (state : State) where
  abbrev LowerOver : List Frame → TypedMove → Type 0
  LowerOver others move = Lowers (rank_in world) (rank_of world (frame ∷ others)) move

  module _ (caller : Frame) (others : List Frame) (operands : List Value) where
    next_lowers : (body : Body) → body_among world.bodies caller.method ≡ Some body → (next : Option ℕ) → pc_after body.ops caller.pc ≡ next
        → LowerOver (caller ∷ others) (does_next no_need [] state caller others next operands)
    next_lowers body found None is = stuck
    next_lowers body found (Some to) is =
        to_state no_need [] (with_frames state (at_pc caller to operands ∷ others))
        (λ quiet. return_lowers world frame caller (at_pc caller to operands) others refl (after_later 0 body.ops (rise caller.method body found) caller.pc to is))

    placed_lowers : (body : Body) → body_among world.bodies caller.method ≡ Some body → (found : Option Op)
        → LowerOver (caller ∷ others) (option_map_or (λ (placed : Placed). does_next no_need [] state caller others placed.next operands) (option_map (λ (op : Op). record { op = op; next = pc_after body.ops caller.pc }) found) Stuck)
    placed_lowers body found None = stuck
    placed_lowers body found (Some instruction) = next_lowers body found (pc_after body.ops caller.pc) refl

    resumed : (found : Option Body) → body_among world.bodies caller.method ≡ found → LowerOver (caller ∷ others) (resumes world state caller others operands found)
    resumed None is = stuck
    resumed (Some body) is = placed_lowers body is (op_at body.ops caller.pc)

  returned : (others : List Frame) (values : List Value) → LowerOver others (returns world state others values)
  returned [] values = stops no_need [] Done
  returned (caller ∷ others) values = resumed caller others (values ++ caller.operands) (body_among world.bodies caller.method) refl

  value_lowers : (others : List Frame) (result : Option Kind) (operands : List Value) → LowerOver others (return_value world state others result operands)
  value_lowers others (Some result) (value ∷ operands) = returned others (kept_as result value ∷ [])
  value_lowers others (Some result) [] = stuck
  value_lowers others None operands = stuck

  pub leaving_lowers : (others : List Frame) (result : Option Kind) (kind : Option ValueKind) → LowerOver others (return_of world state frame others result kind)
  leaving_lowers others result None = returned others []
  leaving_lowers others result (Some kind) = value_lowers others result frame.operands

module _ {world : World} {frame : Frame} {next : Option ℕ} (ahead : IsAhead world frame next) (others : List Frame) (state : State) where
  abbrev Lower : TypedMove → Type 0
  Lower move = Lowers (rank_in world) (rank_of world (frame ∷ others)) move

  -- ---- calls, which are ticks

  pub shows_lowers : (bytes : ℤ → List ℕ) (operands : List Value) → Lower (shows state frame others next bytes operands)
  shows_lowers bytes (Whole number ∷ operands) = goes ahead others tick_need (map Put (bytes number)) state frame operands refl
  shows_lowers bytes operands = stuck

  pub native_lowers : (found : Native) (operands : List Value) → Lower (runs_native state frame others next found operands)
  native_lowers native.Construct [] = stuck
  native_lowers native.Construct (reference ∷ operands) = goes ahead others tick_need [] state frame operands refl
  native_lowers native.Write operands = shows_lowers (λ number. low_byte number ∷ []) operands
  native_lowers native.Print operands = shows_lowers signed_decimal operands
  native_lowers native.Read operands = goes ahead others tick_need (Get ∷ []) (with_answers state (after_byte state.answers)) frame (Whole (next_byte state.answers) ∷ operands) refl

  pub code_lowers : (method : MemberId) (found : Option Body) (values operands : List Value) → Lower (runs_code world state frame others method found values operands)
  code_lowers method None values operands = stuck
  code_lowers method (Some body) values operands = ticks (call_need (world.frame_cells method)) [] (with_frames state (frame_for method body values ∷ at_pc frame frame.pc operands ∷ others)) refl

  pub runs_lowers : (method : MemberId) (values operands : List Value) → Lower (runs world state frame others next method values operands)
  runs_lowers method values operands =
      mapped_or (native_of method) (λ found. runs_native state frame others next found frame.operands) (runs_code world state frame others method (body_among world.bodies method) values operands)
      (λ found. native_lowers found frame.operands) (code_lowers method (body_among world.bodies method) values operands)

  pub call_static_lowers : (used : MethodUse) → Lower (call_static world state frame others next used)
  call_static_lowers used =
      either (nat_lt (length frame.operands) (argument_count used)) Stuck (runs world state frame others next used.method (arguments_of used frame.operands) (drop (argument_count used) frame.operands)) stuck
      (runs_lowers used.method (arguments_of used frame.operands) (drop (argument_count used) frame.operands))

  pub call_on_lowers : (used : MethodUse) (found : Object → TypedMove) → ((object : Object) → Lower (found object)) → (operands : List Value) → Lower (call_on world state frame others next used found operands)
  call_on_lowers used found each [] = stuck
  call_on_lowers used found each (receiver ∷ operands) = of_object world state (frame ∷ others) receiver (λ name object. found object) (λ name object. each object)

  pub found_lowers : (used : MethodUse) (found : Option MemberId) → Lower (runs_found world state frame others next used found)
  found_lowers used None = stuck
  found_lowers used (Some method) = runs_lowers method (receiver_first used frame.operands) (drop 1 (drop (argument_count used) frame.operands))

  pub call_special_lowers : (used : MethodUse) → Lower (call_special world state frame others next used)
  call_special_lowers used =
      call_on_lowers used (λ object. runs_found world state frame others next used (Some used.method)) (λ object. found_lowers used (Some used.method)) (drop (argument_count used) frame.operands)

  pub call_virtual_lowers : (used : MethodUse) → Lower (call_virtual world state frame others next used)
  call_virtual_lowers used =
      call_on_lowers used (λ object. runs_found world state frame others next used (called world.files used (class_of object))) (λ object. found_lowers used (called world.files used (class_of object)))
      (drop (argument_count used) frame.operands)

  pub call_interface_lowers : (used : MethodUse) → Lower (call_interface world state frame others next used)
  call_interface_lowers used =
      call_on_lowers used
      (λ object. if implements world used.class object then runs_found world state frame others next used (called world.files used (class_of object)) else throws world state (frame ∷ others) incompatible_class_change_error)
      (λ object.
      either (implements world used.class object) (runs_found world state frame others next used (called world.files used (class_of object))) (throws world state (frame ∷ others) incompatible_class_change_error)
      (found_lowers used (called world.files used (class_of object))) (thrown world state (frame ∷ others) incompatible_class_change_error))
      (drop (argument_count used) frame.operands)
