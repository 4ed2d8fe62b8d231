-- Returns fit: the value fits the method's result, and the caller goes on with what its call's rule leaves.
use Rattle.std.proofs.Common.{◌≡◌, ℕ, suc, Bool, true, false, ◌&&◌, List, [], ◌∷◌, ◌++◌, length, drop, Option, Some, None, option_and_then, option_map, if◌then◌else◌, refl, sym, ap, subst, ◌∙◌}
use Rattle.std.specs.List.{AllByRecursion}
use Rattle.std.specs.Option.{option_map_or, option_to_list}
use Rattle.std.proofs.lemmas.Bool.{and_parts, false≢true}
use Rattle.std.proofs.lemmas.Option.{same_Some, cond_some, none-some}
use Rattle.account.specs.Account.{Stuck}
use Rattle.class_pool.specs.declared.descriptor.Kind.{Kind}
use Rattle.class_tree.specs.MergeLaws.{IsKnown}
use Rattle.insn_form.specs.declared.ValueKind.{ValueKind}
use Rattle.body_form.specs.declared.body.Body.{Body}
use Rattle.body_form.specs.declared.op.MethodUse.{MethodUse}
use Rattle.body_form.specs.declared.op.Op.{Op}
use Rattle.body_form.specs.declared.op.Op.TheVariants as op
use Rattle.body_form.specs.declared.types.VFrame.{VFrame}
use Rattle.body_form.specs.declared.types.VType.{VType}
use Rattle.body_form.specs.declared.types.VType.TheVariants as known
use Rattle.body_form.specs.Flow.{goes_on}
use Rattle.class_file.specs.declared.record.ClassFile.{ClassFile}
use Rattle.jvm_model.specs.Bodies.{AreEach}
use Rattle.jvm_model.specs.State.{Value}
use Rattle.jvm_model.specs.TypesFrames.{fits_kind}
use Rattle.jvm_model.specs.TypesRight.{IsRight, HoldsAt}
use Rattle.jvm_model.specs.TypesRules.{Change, takes, plain, returned, has_kind, argument_tests, result_of, one, call, construct, construct_on, makes_class, op_at, is_own_or_super, fits_class, is_constructed, change_of, changed}
use Rattle.type_safety.proofs.moves.ConstructorMoves.{built}
use Rattle.typed_machine.specs.TypedCalls.{kept_as, resumes, returns, return_value}
use Rattle.typed_machine.specs.TypedMoves.{TypedMove, at_pc, does_next, no_need}
use Rattle.typed_machine.specs.TypedState.{Object, Frame, State}
use Rattle.typed_machine.specs.TypedStep.{return_of}
use Rattle.typed_machine.specs.TypedWorld.{World, body_among, pc_after, Placed}
use Rattle.type_safety.specs.Facts.{is_named_constructor}
use Rattle.type_safety.specs.Fitting.{Tables, ValueFits, FrameFits, KindFits, OthersWait, FramesFit, StateFits, call_of, unpushed}
use Rattle.type_safety.specs.Parts.{AreParts, StandsAt}
use Rattle.type_safety.specs.Safety.{IsSet, MoveFits, method_of}
use Rattle.type_safety.proofs.moves.Arguments.{kept_narrows, kind_narrows, as_kind}
use Rattle.type_safety.proofs.moves.CallParts.{call_rule}
use Rattle.type_safety.proofs.fitting.EachLists.{each_append, of_each}
use Rattle.type_safety.proofs.moves.GoingOn.{IsFound, found_body, RuleParts, rule_parts, going_on}
use Rattle.type_safety.proofs.moves.Lemmas.{MoveLemma}

where_true : {X : Type 0} (b : Bool) (found : Option X) (x : X) → (if b then found else None) ≡ Some x → (b ≡ true) × (found ≡ Some x)
where_true true found x e = (refl, e)
where_true false found x e = cc

where_false : {X : Type 0} (b : Bool) (found : Option X) (x : X) → (if b then None else found) ≡ Some x → (b ≡ false) × (found ≡ Some x)
where_false false found x e = (refl, e)
where_false true found x e = cc

-- ---- what a call pushes

module _ (files : List ClassFile) (body : Body) (pc : ℕ) (types : VFrame) where
  by_call : (used : MethodUse) (receiver : List (VType → Bool)) (change : Change) → call files types used receiver ≡ Some change → result_of files used.descriptor.result ≡ Some change.pushes
  by_call used receiver change e = let rule = call_rule files types used receiver change e in subst (λ c. result_of files used.descriptor.result ≡ Some c.pushes) rule.is rule.result

  by_construct : (used : MethodUse) (stack : List VType) (change : Change) → construct_on files body types used stack ≡ Some change → change.pushes ≡ []
  by_construct used (known.New other ∷ stack) change e =
      ap (λ (c : Change). c.pushes) (sym (cond_some (makes_class used.class (op_at body.ops other)) (built (suc (length used.descriptor.params)) (known.New other) used.class types.pending) change e).1)
  by_construct used (known.This ∷ stack) change e =
      ap (λ (c : Change). c.pushes) (sym (cond_some (is_own_or_super files body.class used.class) (built (suc (length used.descriptor.params)) known.This body.class false) change e).1)
  by_construct used stack change e = absurd (none-some change e)

  by_special : (used : MethodUse) (change : Change) (constructor : Bool) → is_named_constructor used ≡ constructor → (is_named_constructor used ≡ true → used.descriptor.result ≡ None)
      → (if constructor then construct files body types used else call files types used ((λ type. fits_class files used.class type && fits_class files body.class type) ∷ [])) ≡ Some change
      → result_of files used.descriptor.result ≡ Some change.pushes
  by_special used change true named void e =
      let tested = where_true (takes (argument_tests files used) types.stack) (construct_on files body types used (drop (length used.descriptor.params) types.stack)) change e in
      ap (result_of files) (void named) ∙ ap Some (sym (by_construct used (drop (length used.descriptor.params) types.stack) change tested.1))
  by_special used change false named void e = by_call used ((λ type. fits_class files used.class type && fits_class files body.class type) ∷ []) change e

  -- a call pushes its result, where constructors have none
  pushes_result : (instruction : Op) (used : MethodUse) (change : Change) → call_of instruction ≡ Some used → (instruction ≡ op.CallSpecial used → is_named_constructor used ≡ true → used.descriptor.result ≡ None)
      → change_of files body pc instruction types ≡ Some change → result_of files used.descriptor.result ≡ Some change.pushes
  pushes_result (op.CallVirtual named) used change e void is =
      let same : named ≡ used = same_Some named used e in
      subst (λ (u : MethodUse). result_of files u.descriptor.result ≡ Some change.pushes) same (by_call named (fits_class files named.class ∷ []) change is)
  pushes_result (op.CallSpecial named) used change e void is =
      let same : named ≡ used = same_Some named used e in
      subst (λ (u : MethodUse). result_of files u.descriptor.result ≡ Some change.pushes) same
      (by_special named change (is_named_constructor named) refl
      (subst (λ (u : MethodUse). is_named_constructor u ≡ true → u.descriptor.result ≡ None) (sym same) (void (ap (λ u. op.CallSpecial u) same))) is)
  pushes_result (op.CallStatic named) used change e void is =
      let same : named ≡ used = same_Some named used e in
      subst (λ (u : MethodUse). result_of files u.descriptor.result ≡ Some change.pushes) same (by_call named [] change is)
  pushes_result (op.CallInterface named) used change e void is =
      let same : named ≡ used = same_Some named used e in
      subst (λ (u : MethodUse). result_of files u.descriptor.result ≡ Some change.pushes) same (by_call named (is_constructed ∷ []) change is)
  pushes_result instruction used change e void is = absurd (none-some used e)

call_goes_on : (instruction : Op) (used : MethodUse) → call_of instruction ≡ Some used → goes_on instruction ≡ true
call_goes_on (op.CallVirtual named) used e = refl
call_goes_on (op.CallSpecial named) used e = refl
call_goes_on (op.CallStatic named) used e = refl
call_goes_on (op.CallInterface named) used e = refl
call_goes_on instruction used e = absurd (none-some used e)

-- what is returned fits what a call pushes
returned_fit : (world : World) (objects : List Object) (body : Body) (result : Option Kind) (values : List Value) (pushes : List VType) → AreEach (KindFits world objects) (option_to_list result) values
    → result_of world.files result ≡ Some pushes → AreEach (ValueFits world objects body) values pushes
returned_fit world objects body None [] pushes each e = subst (AreEach (ValueFits world objects body) []) (same_Some [] pushes e) tt
returned_fit world objects body None (value ∷ values) pushes each e = absurd each
returned_fit world objects body (Some kind) [] pushes each e = absurd each
returned_fit world objects body (Some kind) (value ∷ []) pushes each e =
    let type = each.0.type in
    let same : type ∷ [] ≡ pushes = same_Some (type ∷ []) pushes (sym (ap (option_map one) each.0.is) ∙ e) in
    subst (AreEach (ValueFits world objects body) (value ∷ [])) same (each.0.has body, tt)
returned_fit world objects body (Some kind) (value ∷ other ∷ values) pushes each e = absurd each.1

module _ (parts : AreParts) (world : World) (tables : Tables) (set : IsSet world tables) (state : State) (fits : StateFits world tables state) where
  -- the caller goes on
  caller_goes_on : (caller : Frame) (others : List Frame) (result : Option Kind) (values : List Value) (body : Body) (types : VFrame) (instruction : Op) (used : MethodUse) (change : Change)
      → body_among world.bodies caller.method ≡ Some body → op_at body.ops caller.pc ≡ Some instruction → call_of instruction ≡ Some used → tables caller.method caller.pc ≡ Some types
      → change_of world.files body caller.pc instruction types ≡ Some change → FrameFits world state.objects body caller (changed (unpushed change) types) → used.descriptor.result ≡ result
      → OthersWait world tables state.objects caller others → AreEach (KindFits world state.objects) (option_to_list result) values
      → MoveFits world tables (does_next no_need [] state caller others (pc_after body.ops caller.pc) (values ++ caller.operands))
  caller_goes_on caller others result values body types instruction used change found at calls known_types rule has same wait each =
      going_on world tables set parts state caller others body types holds.after instruction stands wait fits.objects fits.statics (call_goes_on instruction used calls) no_need [] (values ++ caller.operands)
      (subst (FrameFits world state.objects body (at_pc caller caller.pc (values ++ caller.operands))) (ap (λ c. changed c types) same_change ∙ parted.leaves) whole)
    where
      there : IsFound world.bodies caller.method body
      there = found_body world.bodies caller.method body found

      right : IsRight world.files body (tables caller.method)
      right = subst (λ id. IsRight world.files body (tables id)) there.method (of_each (λ (b : Body). IsRight world.files b (tables (method_of b))) world.bodies body set.types there.among)

      holds : HoldsAt world.files body (tables caller.method) caller.pc instruction types
      holds = right.rules caller.pc instruction types at known_types

      stands : StandsAt world tables caller body instruction types holds.after
      stands = record { found = found; at = at; known = known_types; of_set = right.known caller.pc types known_types; rule = holds.rule }

      parted : RuleParts world.files body caller.pc instruction types holds.after
      parted = rule_parts world.files body caller.pc instruction types holds.after holds.rule

      same_change : change ≡ parted.change
      same_change = same_Some change parted.change (sym rule ∙ parted.is)

      pushes : result_of world.files result ≡ Some change.pushes
      pushes =
          subst (λ r. result_of world.files r ≡ Some change.pushes) same
          (pushes_result world.files body caller.pc types instruction used change calls
          (λ special. ((set.facts body there.among).named caller.pc (op.CallSpecial used) (at ∙ ap Some special)).void) rule)

      whole : FrameFits world state.objects body (at_pc caller caller.pc (values ++ caller.operands)) (changed change types)
      whole =
          record {
            locals = has.locals;
            operands = each_append (ValueFits world state.objects body) values change.pushes caller.operands (changed (unpushed change) types).stack
                (returned_fit world state.objects body result values change.pushes each pushes) has.operands;
          }

  -- the oldest frame's return stops, and another one's goes on with the caller
  returns_fit : (frame : Frame) (others : List Frame) (body : Body) → body_among world.bodies frame.method ≡ Some body → OthersWait world tables state.objects frame others
      → (values : List Value) → AreEach (KindFits world state.objects) (option_to_list body.result) values → MoveFits world tables (returns world state others values)
  returns_fit frame [] body found wait values each = tt
  returns_fit frame (caller ∷ others) body found wait values each =
      let w = wait.0 in
      let callee : w.callee ≡ body = same_Some w.callee body (sym w.callee_found ∙ found) in
      let result : w.used.descriptor.result ≡ body.result = sym w.result ∙ ap (λ (b : Body). b.result) callee in
      let next : Option Placed → TypedMove = λ placed. option_map_or (λ (p : Placed). does_next no_need [] state caller others p.next (values ++ caller.operands)) placed Stuck in
      subst (λ b. MoveFits world tables (resumes world state caller others (values ++ caller.operands) b)) (sym w.found)
      (subst (λ o. MoveFits world tables (next (option_map (λ op. record { op = op; next = pc_after w.body.ops caller.pc }) o))) (sym w.at)
      (caller_goes_on caller others body.result values w.body w.types w.instruction w.used w.change w.found w.at w.calls w.known w.rule w.has result wait.1 each))

  -- ---- the value that is returned

  module _ (frame : Frame) (others : List Frame) (body : Body) (types : VFrame) (found : body_among world.bodies frame.method ≡ Some body) (wait : OthersWait world tables state.objects frame others)
      (known_types : AllByRecursion (IsKnown world.files) types.stack) where
    value_returns : (result : Kind) (kind : ValueKind) → body.result ≡ Some result → (operands : List Value) (stack : List VType) → AreEach (ValueFits world state.objects body) operands stack
        → AllByRecursion (IsKnown world.files) stack → takes ((λ type. has_kind kind type && fits_kind world.files result type) ∷ []) stack ≡ true
        → MoveFits world tables (return_value world state others (Some result) operands)
    unfolding takes
    value_returns result kind is operands [] each all e = absurd (false≢true e)
    value_returns result kind is [] (type ∷ stack) each all e = absurd each
    value_returns result kind is (value ∷ operands) (type ∷ stack) each all e =
        let tested = and_parts (has_kind kind type && fits_kind world.files result type) true e in
        let passes = and_parts (has_kind kind type) (fits_kind world.files result type) tested.0 in
        let fitting = as_kind world state.objects set.closed fits.objects result body value type each.0 all.0 passes.1 in
        returns_fit frame others body found wait (kept_as result value ∷ [])
        (subst (λ r. AreEach (KindFits world state.objects) (option_to_list r) (kept_as result value ∷ [])) (sym is)
        (kind_narrows world state.objects (kept_as result) (kept_narrows result) result value fitting, tt))

    by_result : (result : Option Kind) (kind : Option ValueKind) → body.result ≡ result → AreEach (ValueFits world state.objects body) frame.operands types.stack → (change : Change)
        → option_and_then (λ tests. plain types tests []) (returned world.files result kind) ≡ Some change → MoveFits world tables (return_of world state frame others result kind)
    by_result None None is each change e = returns_fit frame others body found wait [] (subst (λ r. AreEach (KindFits world state.objects) (option_to_list r) []) (sym is) tt)
    by_result (Some result) (Some kind) is each change e =
        let tests : List (VType → Bool) = (λ type. has_kind kind type && fits_kind world.files result type) ∷ [] in
        value_returns result kind is frame.operands types.stack each known_types
        (where_true (takes tests types.stack) (Some (record { pops = length tests; renames = None; stores = None; pushes = []; pending = types.pending })) change e).0
    by_result None (Some kind) is each change e = absurd (none-some change e)
    by_result (Some result) None is each change e = absurd (none-some change e)

pub return_fits : (kind : Option ValueKind) → MoveLemma (op.Return kind)
return_fits kind parts world tables set state frame others same fits body types after stands typed =
    let rule = rule_parts world.files body frame.pc (op.Return kind) types after stands.rule in
    let wait = (subst (FramesFit world tables state.objects) same fits.frames).1 in
    let tested = where_false types.pending (option_and_then (λ tests. plain types tests []) (returned world.files body.result kind)) rule.change rule.is in
    by_result parts world tables set state fits frame others body types stands.found wait stands.of_set.stack body.result kind refl typed.operands rule.change tested.1
