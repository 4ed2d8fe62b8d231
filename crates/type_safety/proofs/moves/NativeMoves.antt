-- A call that runs a native goes on at once: its operands and its result fit what the call's rule leaves.
use Rattle.std.proofs.Common.{◌≡◌, ℕ, ℤ, true, false, List, [], ◌∷◌, map, reverse, length, take, drop, Some, None, refl, sym, ap, subst, ◌∙◌}
use Rattle.std.specs.Option.{option_map_or}
use Rattle.std.specs.Fmt.{signed_decimal}
use Rattle.std.proofs.lemmas.Option.{same_Some}
use Rattle.account.specs.Account.{Get, Put}
use Rattle.dialogue.specs.Natives.{low_byte, next_byte, after_byte}
use Rattle.library.specs.declared.natives.Native.{Native}
use Rattle.library.specs.declared.natives.Native.TheVariants as natives
use Rattle.class_pool.specs.declared.descriptor.Kind.{Kind}
use Rattle.class_pool.specs.declared.descriptor.Kind.TheVariants as kinds
use Rattle.class_pool.specs.declared.types.MemberId.{MemberId}
use Rattle.body_form.specs.declared.body.Body.{Body}
use Rattle.body_form.specs.declared.op.MethodUse.{MethodUse}
use Rattle.body_form.specs.declared.op.Op.{Op}
use Rattle.body_form.specs.declared.types.VFrame.{VFrame}
use Rattle.body_form.specs.declared.types.VType.{VType}
use Rattle.body_form.specs.declared.types.VType.TheVariants as known
use Rattle.body_form.specs.Flow.{goes_on}
use Rattle.jvm_model.specs.Bodies.{AreEach}
use Rattle.jvm_model.specs.State.{Value, Whole}
use Rattle.jvm_model.specs.TypesRules.{result_of}
use Rattle.typed_machine.specs.TypedCalls.{arguments_for, arguments_of, argument_count, shows, runs_native, runs_code, runs}
use Rattle.typed_machine.specs.TypedMoves.{tick_need}
use Rattle.typed_machine.specs.TypedState.{Object, Frame, State}
use Rattle.typed_machine.specs.TypedWorld.{World, body_among, pc_after}
use Rattle.type_safety.specs.Facts.{RunsNative, params_of, result_of as gives, is_construct}
use Rattle.type_safety.specs.Fitting.{Tables, IsWhole, ValueFits, FrameFits, KindFits, StateFits}
use Rattle.type_safety.specs.Parts.{AreParts, StandsAt}
use Rattle.type_safety.specs.Safety.{IsSet, MoveFits}
use Rattle.type_safety.proofs.fitting.Numbers.{byte_fits}
use Rattle.type_safety.proofs.moves.CallParts.{CallsFrom, native_goes_on}
use Rattle.type_safety.proofs.moves.Lemmas.{StartingFits}

-- a value of an int is a whole number
whole_value : (world : World) (objects : List Object) (body : Body) (value : Value) → KindFits world objects kinds.Int value → IsWhole value
whole_value world objects body value fits =
    let type : known.Int ≡ fits.type = same_Some known.Int fits.type fits.is in
    subst (ValueFits world objects body value) (sym type) (fits.has body)

module _ (starting : StartingFits) (parts : AreParts) (world : World) (tables : Tables) (set : IsSet world tables) (state : State) (frame : Frame) (others : List Frame) (same : state.frames ≡ frame ∷ others)
    (fits : StateFits world tables state) (body : Body) (types after : VFrame) (instruction : Op) (stands : StandsAt world tables frame body instruction types after)
    (typed : FrameFits world state.objects body frame types) (goes : goes_on instruction ≡ true) where
  abbrev Calls : List Value → Type 0
  Calls rest = CallsFrom starting parts world tables set state frame others same fits body types after instruction stands typed rest

  -- ---- natives of the console

  shown_one : (bytes : ℤ → List ℕ) (operands : List Value) → AreEach (KindFits world state.objects) (kinds.Int ∷ []) (arguments_for (kinds.Int ∷ []) (reverse (take 1 operands)))
      → (calls : Calls (drop 1 operands)) → calls.change.pushes ≡ [] → MoveFits world tables (shows state frame others (pc_after body.ops frame.pc) bytes operands)
  unfolding arguments_for
  shown_one bytes [] each calls none = absurd each
  shown_one bytes (Whole number ∷ operands) each calls none =
      native_goes_on starting parts world tables set state frame others same fits body types after instruction stands typed operands calls goes []
      (subst (AreEach (ValueFits world state.objects body) []) (sym none) tt) tick_need (map Put (bytes number)) state.answers
  shown_one bytes (value ∷ operands) each calls none = let is = whole_value world state.objects body value each.0 in let e = is.1 in cc

  shown : (bytes : ℤ → List ℕ) (params : List Kind) → params ≡ kinds.Int ∷ [] → (operands : List Value) → AreEach (KindFits world state.objects) params (arguments_for params (reverse (take (length params) operands)))
      → (calls : Calls (drop (length params) operands)) → calls.change.pushes ≡ [] → MoveFits world tables (shows state frame others (pc_after body.ops frame.pc) bytes operands)
  shown bytes params is =
      subst (λ (ps : List Kind). (operands : List Value) → AreEach (KindFits world state.objects) ps (arguments_for ps (reverse (take (length ps) operands)))
      → (calls : Calls (drop (length ps) operands)) → calls.change.pushes ≡ [] → MoveFits world tables (shows state frame others (pc_after body.ops frame.pc) bytes operands)) (sym is) (shown_one bytes)

  is_read : (params : List Kind) → params ≡ [] → (operands : List Value) → (calls : Calls (drop (length params) operands)) → calls.change.pushes ≡ known.Int ∷ []
      → MoveFits world tables (runs_native state frame others (pc_after body.ops frame.pc) natives.Read operands)
  is_read params is =
      subst (λ (ps : List Kind). (operands : List Value) → (calls : Calls (drop (length ps) operands)) → calls.change.pushes ≡ known.Int ∷ []
      → MoveFits world tables (runs_native state frame others (pc_after body.ops frame.pc) natives.Read operands)) (sym is)
      (λ operands calls one.
      native_goes_on starting parts world tables set state frame others same fits body types after instruction stands typed operands calls goes (Whole (next_byte state.answers) ∷ [])
      (subst (AreEach (ValueFits world state.objects body) (Whole (next_byte state.answers) ∷ [])) (sym one) ((next_byte state.answers, refl, byte_fits state.answers), tt)) tick_need (Get ∷ []) (after_byte state.answers))

  pushes_none : (used : MethodUse) (pushes : List VType) → result_of world.files used.descriptor.result ≡ Some pushes → used.descriptor.result ≡ None → pushes ≡ []
  pushes_none used pushes e none = sym (same_Some [] pushes (sym (ap (result_of world.files) none) ∙ e))

  pushes_int : (used : MethodUse) (pushes : List VType) → result_of world.files used.descriptor.result ≡ Some pushes → used.descriptor.result ≡ Some kinds.Int → pushes ≡ known.Int ∷ []
  pushes_int used pushes e some = sym (same_Some (known.Int ∷ []) pushes (sym (ap (result_of world.files) some) ∙ e))

  static_native : (used : MethodUse) (found : Native) → used.descriptor.params ≡ params_of found → used.descriptor.result ≡ gives found → false ≡ is_construct found
      → AreEach (KindFits world state.objects) used.descriptor.params (arguments_of used frame.operands) → (calls : Calls (drop (argument_count used) frame.operands))
      → result_of world.files used.descriptor.result ≡ Some calls.change.pushes → MoveFits world tables (runs_native state frame others (pc_after body.ops frame.pc) found frame.operands)
  static_native used natives.Construct params result object each calls e = cc
  static_native used natives.Write params result object each calls e =
      shown (λ number. low_byte number ∷ []) used.descriptor.params params frame.operands each calls (pushes_none used calls.change.pushes e result)
  static_native used natives.Print params result object each calls e = shown signed_decimal used.descriptor.params params frame.operands each calls (pushes_none used calls.change.pushes e result)
  static_native used natives.Read params result object each calls e = is_read used.descriptor.params params frame.operands calls (pushes_int used calls.change.pushes e result)

  pub static_native_runs : (used : MethodUse) (id : MemberId) → RunsNative world id used false → AreEach (KindFits world state.objects) used.descriptor.params (arguments_of used frame.operands)
      → (calls : Calls (drop (argument_count used) frame.operands)) → result_of world.files used.descriptor.result ≡ Some calls.change.pushes
      → (values operands : List Value) → MoveFits world tables (runs world state frame others (pc_after body.ops frame.pc) id values operands)
  static_native_runs used id run each calls e values operands =
      subst (λ found. MoveFits world tables (option_map_or (λ n. runs_native state frame others (pc_after body.ops frame.pc) n frame.operands) found (runs_code world state frame others id (body_among world.bodies id) values operands)))
      (sym run.is) (static_native used run.found run.params run.result run.object each calls e)

  -- ---- natives of objects

  constructed : (params : List Kind) → params ≡ [] → (operands : List Value) (receiver : Value) (rest : List Value) → drop (length params) operands ≡ receiver ∷ rest
      → (calls : Calls (drop 1 (drop (length params) operands))) → calls.change.pushes ≡ [] → MoveFits world tables (runs_native state frame others (pc_after body.ops frame.pc) natives.Construct operands)
  constructed params is =
      subst (λ (ps : List Kind). (operands : List Value) (receiver : Value) (rest : List Value) → drop (length ps) operands ≡ receiver ∷ rest
      → (calls : Calls (drop 1 (drop (length ps) operands))) → calls.change.pushes ≡ [] → MoveFits world tables (runs_native state frame others (pc_after body.ops frame.pc) natives.Construct operands)) (sym is) on
    where
      on : (operands : List Value) (receiver : Value) (rest : List Value) → operands ≡ receiver ∷ rest
          → (calls : Calls (drop 1 operands)) → calls.change.pushes ≡ [] → MoveFits world tables (runs_native state frame others (pc_after body.ops frame.pc) natives.Construct operands)
      on [] receiver rest e calls none = cc
      on (value ∷ operands) receiver rest e calls none =
          native_goes_on starting parts world tables set state frame others same fits body types after instruction stands typed operands calls goes []
          (subst (AreEach (ValueFits world state.objects body) []) (sym none) tt) tick_need [] state.answers

  object_native : (used : MethodUse) (found : Native) → used.descriptor.params ≡ params_of found → used.descriptor.result ≡ gives found → true ≡ is_construct found
      → (receiver : Value) (rest : List Value) → drop (argument_count used) frame.operands ≡ receiver ∷ rest → (calls : Calls (drop 1 (drop (argument_count used) frame.operands)))
      → (used.descriptor.result ≡ None → calls.change.pushes ≡ []) → MoveFits world tables (runs_native state frame others (pc_after body.ops frame.pc) found frame.operands)
  object_native used natives.Construct params result object receiver rest e calls none = constructed used.descriptor.params params frame.operands receiver rest e calls (none result)
  object_native used found params result object receiver rest e calls none = cc

  pub object_native_runs : (used : MethodUse) (id : MemberId) → RunsNative world id used true → (receiver : Value) (rest : List Value) → drop (argument_count used) frame.operands ≡ receiver ∷ rest
      → (calls : Calls (drop 1 (drop (argument_count used) frame.operands))) → (used.descriptor.result ≡ None → calls.change.pushes ≡ [])
      → (values operands : List Value) → MoveFits world tables (runs world state frame others (pc_after body.ops frame.pc) id values operands)
  object_native_runs used id run receiver rest e calls none values operands =
      subst (λ found. MoveFits world tables (option_map_or (λ n. runs_native state frame others (pc_after body.ops frame.pc) n frame.operands) found (runs_code world state frame others id (body_among world.bodies id) values operands)))
      (sym run.is) (object_native used run.found run.params run.result run.object receiver rest e calls none)
