-- Calls on objects: the receiver stands below the arguments, and the method that is found for it runs.
use Rattle.std.proofs.Common.{◌≡◌, ℕ, Bool, true, inl, inr, List, [], ◌∷◌, ◌++◌, take, drop, Option, Some, None, refl, sym, subst, ◌⊎◌}
use Rattle.std.specs.Option.{option_map_or}
use Rattle.std.proofs.lemmas.Bool.{and_parts}
use Rattle.class_pool.specs.declared.types.MemberId.{MemberId}
use Rattle.body_form.specs.declared.body.Body.{Body}
use Rattle.body_form.specs.declared.op.MethodUse.{MethodUse}
use Rattle.body_form.specs.declared.op.Op.{Op}
use Rattle.body_form.specs.declared.types.VFrame.{VFrame}
use Rattle.body_form.specs.declared.types.VType.{VType}
use Rattle.body_form.specs.Flow.{goes_on}
use Rattle.class_tree.specs.MergeLaws.{IsKnown}
use Rattle.jvm_model.specs.Bodies.{AreEach}
use Rattle.jvm_model.specs.State.{Value, Null}
use Rattle.account.specs.Account.{Stuck}
use Rattle.jvm_model.specs.TypesFrames.{arguments_of as taken_by}
use Rattle.jvm_model.specs.TypesRules.{takes, argument_tests}
use Rattle.typed_machine.specs.TypedCalls.{arguments_of, argument_count, call_on, receiver_first, runs_found}
use Rattle.typed_machine.specs.TypedMoves.{TypedMove, throws, with_object_of, null_pointer_exception, incompatible_class_change_error}
use Rattle.typed_machine.specs.TypedState.{Object, Frame, State}
use Rattle.typed_machine.specs.TypedWorld.{World, pc_after}
use Rattle.type_safety.specs.Facts.{Runs, is_named_constructor}
use Rattle.type_safety.specs.Fitting.{Tables, NamesObject, ValueFits, FrameFits, KindFits, ObjectFits, StateFits, call_of}
use Rattle.type_safety.specs.Parts.{AreParts, StandsAt}
use Rattle.type_safety.specs.Safety.{IsSet, MoveFits}
use Rattle.type_safety.proofs.moves.Arguments.{Fitting, arguments_taken}
use Rattle.type_safety.proofs.moves.CallParts.{CallsFrom, body_starts, receiver_type, object_arguments}
use Rattle.type_safety.proofs.fitting.EachLists.{each_drop, each_with, of_place}
use Rattle.type_safety.proofs.moves.GoingOn.{null_throws, change_throws}
use Rattle.type_safety.proofs.moves.Lemmas.{StartingFits}
use Rattle.type_safety.proofs.moves.NativeMoves.{object_native_runs}

-- a receiver as the method that is called takes it: a constructor an object that is not yet constructed
abbrev pub IsReceiver : World → List Object → Value → Bool → ℕ → Type 0
IsReceiver world objects receiver constructor class = (callee : Body) → callee.class ≡ class → ValueFits world objects callee receiver (receiver_type constructor callee.class)

module _ (starting : StartingFits) (parts : AreParts) (world : World) (tables : Tables) (set : IsSet world tables) (state : State) (frame : Frame) (others : List Frame) (same : state.frames ≡ frame ∷ others)
    (fits : StateFits world tables state) (body : Body) (types after : VFrame) (instruction : Op) (stands : StandsAt world tables frame body instruction types after)
    (typed : FrameFits world state.objects body frame types) where
  -- ---- throws

  pub null_thrown : MoveFits world tables (throws world state (frame ∷ others) null_pointer_exception)
  null_thrown = subst (λ frames. MoveFits world tables (throws world state frames null_pointer_exception)) same (null_throws world tables parts set state fits)

  pub change_thrown : MoveFits world tables (throws world state (frame ∷ others) incompatible_class_change_error)
  change_thrown = subst (λ frames. MoveFits world tables (throws world state frames incompatible_class_change_error)) same (change_throws world tables parts set state fits)

  -- ---- operands

  abbrev Fits : Value → VType → Type 0
  Fits = Fitting world state.objects set.closed fits.objects body

  operands_fit : AreEach Fits frame.operands types.stack
  operands_fit = each_with (ValueFits world state.objects body) (IsKnown world.files) frame.operands types.stack typed.operands stands.of_set.stack

  pub arguments_fit : (used : MethodUse) → takes (argument_tests world.files used) types.stack ≡ true → AreEach (KindFits world state.objects) used.descriptor.params (arguments_of used frame.operands)
  arguments_fit used tests = arguments_taken world state.objects set.closed fits.objects body used.descriptor.params frame.operands types.stack operands_fit tests

  -- ---- the receiver

  -- what there is below the arguments
  pub record Receives (used : MethodUse) (test : VType → Bool) (value : Value) (rest : List Value) (type : VType) (more : List VType) : Type 0 where
    pub operands : drop (argument_count used) frame.operands ≡ value ∷ rest
    pub stack : drop (argument_count used) types.stack ≡ type ∷ more
    pub fits_type : ValueFits world state.objects body value type
    pub known_type : IsKnown world.files type
    pub passes : test type ≡ true

  receiver_there : (used : MethodUse) (test : VType → Bool) (found : Object → TypedMove) (next : Option ℕ) (operands : List Value) (stack : List VType) → drop (argument_count used) frame.operands ≡ operands
      → drop (argument_count used) types.stack ≡ stack → AreEach Fits operands stack → takes (test ∷ []) stack ≡ true
      → ((value : Value) (rest : List Value) (type : VType) (more : List VType) → Receives used test value rest type more → MoveFits world tables (with_object_of world state (frame ∷ others) value (λ name object. found object)))
      → MoveFits world tables (call_on world state frame others next used found operands)
  unfolding takes
  receiver_there used test found next operands [] e f each tests goes = cc
  receiver_there used test found next [] (type ∷ more) e f each tests goes = absurd each
  receiver_there used test found next (value ∷ rest) (type ∷ more) e f each tests goes =
      goes value rest type more (record { operands = e; stack = f; fits_type = each.0.0; known_type = each.0.1; passes = (and_parts (test type) true tests).0 })

  pub on_receiver : (used : MethodUse) (test : VType → Bool) (found : Object → TypedMove) (next : Option ℕ) → takes (test ∷ []) (drop (argument_count used) types.stack) ≡ true
      → ((value : Value) (rest : List Value) (type : VType) (more : List VType) → Receives used test value rest type more → MoveFits world tables (with_object_of world state (frame ∷ others) value (λ name object. found object)))
      → MoveFits world tables (call_on world state frame others next used found (drop (argument_count used) frame.operands))
  on_receiver used test found next tests goes =
      receiver_there used test found next (drop (argument_count used) frame.operands) (drop (argument_count used) types.stack) refl refl
      (each_drop Fits (argument_count used) frame.operands types.stack operands_fit) tests goes

  -- null throws, and an object is found by its name
  pub on_object : (value : Value) (found : Object → TypedMove) (Has : Object → Type 0) → (value ≡ Null) ⊎ NamesObject state.objects value Has
      → ((names : NamesObject state.objects value Has) → ObjectFits world state.objects names.object → MoveFits world tables (found names.object))
      → MoveFits world tables (with_object_of world state (frame ∷ others) value (λ name object. found object))
  on_object value found Has (inl null) goes = subst (λ v. MoveFits world tables (with_object_of world state (frame ∷ others) v (λ name object. found object))) (sym null) null_thrown
  on_object value found Has (inr names) goes =
      subst (λ v. MoveFits world tables (with_object_of world state (frame ∷ others) v (λ name object. found object))) (sym names.is)
      (subst (λ o. MoveFits world tables (option_map_or found o Stuck)) (sym names.there)
      (goes names (of_place (ObjectFits world state.objects) state.objects names.name names.object fits.objects names.there)))

  -- ---- the method

  pub runs_on : (used : MethodUse) → call_of instruction ≡ Some used → goes_on instruction ≡ true → (id : MemberId) → Runs world id used true → (receiver : Value) (rest : List Value)
      → drop (argument_count used) frame.operands ≡ receiver ∷ rest → AreEach (KindFits world state.objects) used.descriptor.params (arguments_of used frame.operands)
      → (calls : CallsFrom starting parts world tables set state frame others same fits body types after instruction stands typed (drop 1 (drop (argument_count used) frame.operands)))
      → (used.descriptor.result ≡ None → calls.change.pushes ≡ []) → IsReceiver world state.objects receiver (is_named_constructor used) id.class
      → MoveFits world tables (runs_found world state frame others (pc_after body.ops frame.pc) used (Some id))
  runs_on used names goes id (inl native) receiver rest e arguments calls none is =
      object_native_runs starting parts world tables set state frame others same fits body types after instruction stands typed goes used id native receiver rest e calls none
      (receiver_first used frame.operands) (drop 1 (drop (argument_count used) frame.operands))
  runs_on used names goes id (inr with_body) receiver rest e arguments calls none is =
      body_starts starting parts world tables set state frame others same fits body types after instruction stands typed used names id true with_body
      (receiver_first used frame.operands) (drop 1 (drop (argument_count used) frame.operands)) calls
      (subst (λ below. AreEach (ValueFits world state.objects with_body.body) (take 1 below ++ arguments_of used frame.operands) (taken_by world.files with_body.body)) (sym e)
      (object_arguments world state.objects id used with_body receiver (arguments_of used frame.operands) (is with_body.body with_body.class) arguments))
