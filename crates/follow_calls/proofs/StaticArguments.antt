-- The arguments of a call of a static method with a body, beside the kinds of its parameters, and the typed call.
use Rattle.std.proofs.Common.{◌≡◌, ◌≤◌, Bool, true, false, if◌then◌else◌, List, [], ◌∷◌, ◌++◌, map, reverse, length, take, drop, Option, option_and_then, sym, ap, ◌∙◌, append-nil}
use Rattle.std.specs.List.{AllByRecursion}
use Rattle.std.specs.Option.{option_map_or}
use Rattle.std.proofs.lemmas.Bool.{le-ltb}
use Rattle.std.proofs.lemmas.List.{reverse-reverse, take-append-drop}
use Rattle.account.specs.Account.{Does, Stuck, call_need}
use Rattle.class_pool.specs.declared.descriptor.Kind.{Kind}
use Rattle.class_pool.specs.Descriptors.{HasDims}
use Rattle.library.specs.declared.natives.Native.{Native}
use Rattle.body_form.specs.declared.body.Body.{Body}
use Rattle.body_form.specs.declared.op.MethodUse.{MethodUse}
use Rattle.body_form.specs.declared.op.Op.TheVariants as op
use Rattle.jvm_model.specs.Bodies.{AreEach}
use Rattle.jvm_model.specs.State.{Value}
use Rattle.jvm_model.specs.TypesRules.{takes, plain, argument_tests, result_of}
use Rattle.mote_model.specs.SplitState as split
use Rattle.typed_machine.specs.TypedCalls.{arguments_of, argument_count, frame_for, runs, runs_code, runs_native}
use Rattle.typed_machine.specs.TypedMoves.{TypedMove, at_pc}
use Rattle.typed_machine.specs.TypedState.{State, with_frames}
use Rattle.typed_machine.specs.TypedStep.{move}
use Rattle.typed_machine.specs.TypedWorld.{body_among, pc_after}
use Rattle.type_safety.specs.Facts.{RunsBody}
use Rattle.match_states.specs.Setting.{Setting}
use Rattle.follow_numbers.specs.WideCode.{IsWideCode, StandsAt}
use Rattle.follow_numbers.proofs.NextStates.{body_at, typed_move}
use Rattle.follow_operands.proofs.LocalRules.{where_true, and_then_some, rule_here}
use Rattle.follow_calls.proofs.CalledLocals.{taken_kinds, receiver_kind}
use Rattle.follow_calls.proofs.PairedArguments.{paired, kinds_of, values_of, taken_as, paired_kinds, paired_values, paired_taken, all_paired}
use Rattle.follow_calls.proofs.ParameterKinds.{Passes, Argument, IsPassed}
use Rattle.follow_calls.proofs.TurnedArguments.{mapped_reverse}
use Rattle.follow_calls.proofs.TestedArguments.{enough_operands, arguments_pass}

module _ {setting : Setting} {state : State} {other : split.State} (code : IsWideCode setting) (used : MethodUse) (here : StandsAt setting state other (op.CallStatic used)) where
  abbrev params : List Kind
  params = used.descriptor.params

  abbrev operands : List Value
  operands = here.frame.operands

  abbrev pub below : List Value
  below = drop (argument_count used) operands

  tests : takes (argument_tests setting.world.files used) (rule_here code here).types.stack ≡ true
  tests =
      let rule = rule_here code here in
      let all = argument_tests setting.world.files used in
      let pushes = result_of setting.world.files used.descriptor.result in
      let pushed = and_then_some pushes (plain rule.types (all ++ [])) rule.change rule.rule in
      let plainly = sym (ap (option_and_then (plain rule.types (all ++ []))) pushed.1) ∙ rule.rule in
      let taken = (where_true (takes (all ++ []) rule.types.stack) _ rule.change plainly).0 in
      sym (ap (λ tests. takes tests rule.types.stack) (append-nil all)) ∙ taken

  enough : argument_count used ≤ length operands
  enough = let rule = rule_here code here in enough_operands setting.world state.objects rule.of params operands rule.types.stack rule.operands tests

  -- ---- the arguments

  module _ (dims : AllByRecursion HasDims params) where
    abbrev values : List Value
    values = reverse (take (length params) operands)

    all_pass : AreEach Passes params values
    all_pass = let rule = rule_here code here in arguments_pass setting.world state.objects rule.of params operands rule.types.stack rule.operands tests dims

    abbrev pub arguments_here : List Argument
    arguments_here = paired params values

    pub arguments_passed : AllByRecursion IsPassed arguments_here
    arguments_passed = all_paired params values all_pass

    pub kinds_here : kinds_of arguments_here ≡ params
    kinds_here = paired_kinds params values all_pass

    pub taken_here : arguments_of used operands ≡ map taken_as arguments_here
    taken_here = paired_taken params values all_pass

    -- those of a static method
    pub kinds_taken : (run : RunsBody setting.world used.method used false) → kinds_of arguments_here ≡ taken_kinds run.body
    kinds_taken run =
        kinds_here ∙ sym run.params ∙ sym (ap (λ (b : Bool). if b then receiver_kind ∷ run.body.params else run.body.params) run.object)

    -- the operands are the arguments, the last one on top, and those below
    pub operands_are : operands ≡ values_of (reverse arguments_here) ++ below
    operands_are =
        sym (take-append-drop (argument_count used) operands)
        ∙ ap (λ (l : List Value). l ++ below) (sym (reverse-reverse (take (length params) operands)) ∙ ap reverse (sym (paired_values params values all_pass)) ∙ sym (mapped_reverse (λ (a : Argument). a.1) arguments_here))

  -- ---- the typed call

  pub typed_call : (run : RunsBody setting.world used.method used false) → move setting.world state
      ≡ Does (call_need (setting.world.frame_cells used.method)) [] (with_frames state (frame_for used.method run.body (arguments_of used operands) ∷ at_pc here.frame here.frame.pc below ∷ here.frames))
  typed_call run =
      let next = pc_after (body_at here).ops here.frame.pc in
      let values = arguments_of used operands in
      let does : Option Body → TypedMove = λ found. runs_code setting.world state here.frame here.frames used.method found values below in
      let native : Native → TypedMove = λ found. runs_native state here.frame here.frames next found operands in
      typed_move here
      ∙ ap (λ (b : Bool). if b then Stuck else runs setting.world state here.frame here.frames next used.method values below) (le-ltb (length operands) (argument_count used) enough)
      ∙ ap (λ (found : Option Native). option_map_or native found (does (body_among setting.world.bodies used.method))) run.none
      ∙ ap does run.found
