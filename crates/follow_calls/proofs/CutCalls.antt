-- Before a call of either kind the machine comes quietly to the call itself, with the arguments cut to what is passed.
use Rattle.std.proofs.Common.{◌≡◌, ℕ, ◌+◌, List, [], ◌∷◌, ◌++◌, map, reverse, length, refl, sym, ap, ap₂, subst, ◌∙◌}
use Rattle.std.specs.List.{AllByRecursion}
use Rattle.account.specs.RunLaws.{Quietly}
use Rattle.class_pool.specs.declared.descriptor.Kind.{Kind}
use Rattle.image_instr.specs.declared.insn.Kind.{Kind as Shape}
use Rattle.image_instr.specs.Insn.{insn_bytes}
use Rattle.body_form.specs.declared.op.MethodUse.{MethodUse}
use Rattle.body_form.specs.declared.op.Op.{Op}
use Rattle.jvm_model.specs.ImageExpansion.{Emitted, cut_arguments}
use Rattle.jvm_model.specs.State.{Value}
use Rattle.mote_model.specs.State.{Reference, Frame as SplitFrame}
use Rattle.mote_model.specs.SplitState as split
use Rattle.mote_model.specs.SplitStep as split_step
use Rattle.typed_machine.specs.TypedState.{State}
use Rattle.match_states.specs.Setting.{Setting}
use Rattle.match_code.specs.Standing.{StandsBetween}
use Rattle.match_code.proofs.CodeMoves.{insn_here, move_here}
use Rattle.match_code.proofs.MatchedCode.{IsCall, cuts_at}
use Rattle.match_code.proofs.QuietRuns.{ComesBehind, at_insn, goes_behind, youngest_between}
use Rattle.follow_numbers.specs.WideCode.{value_refs, value_cells, IsWideCode, StandsAt}
use Rattle.follow_numbers.proofs.NextStates.{body_at, found_at, refs_at, cells_at, split_is}
use Rattle.follow_operands.specs.WideShapes.{kind_of_value}
use Rattle.follow_operands.proofs.ValueShapes.{refs-append, shapes_here}
use Rattle.follow_calls.proofs.CutArguments.{Cuts, cuts, left_cells}
use Rattle.follow_calls.proofs.PairedArguments.{kinds_of, values_of}
use Rattle.follow_calls.proofs.ParameterKinds.{Argument, IsPassed, passed_of}
use Rattle.follow_calls.proofs.PassedCells.{argument_cells}
use Rattle.follow_calls.proofs.TurnedArguments.{mapped_reverse, turned_pieces, turned_refs, all_turned}

module _ {setting : Setting} {state : State} {other : split.State} {instruction : Op} (code : IsWideCode setting) (here : StandsAt setting state other instruction) (used : MethodUse)
    (arguments : List Argument) (passed : AllByRecursion IsPassed arguments) (rest : List Value) (operands : here.frame.operands ≡ values_of (reverse arguments) ++ rest)
    (kinds : kinds_of arguments ≡ used.descriptor.params) where
  emitted_cuts : cuts_at setting (body_at here) here.frame.pc used ≡ cut_arguments 0 (kinds_of (reverse arguments)) (map kind_of_value (values_of (reverse arguments) ++ rest))
  emitted_cuts =
      ap₂ (λ (kinds : List Kind) (shapes : List Shape). cut_arguments 0 kinds shapes) (ap reverse (sym kinds) ∙ sym (mapped_reverse (λ (a : Argument). a.0) arguments))
      (shapes_here code here ∙ ap (map kind_of_value) operands)

  abbrev cut_cells : List ℕ
  cut_cells = left_cells (reverse arguments) ++ value_cells rest

  pub cut_here : Cuts setting.image other here.others here.split (cuts_at setting (body_at here) here.frame.pc used) cut_cells
  cut_here =
      subst (λ (l : List Emitted). Cuts setting.image other here.others here.split l cut_cells) (sym emitted_cuts)
      (cuts setting.image other here.others (reverse arguments) rest (all_turned IsPassed arguments passed) [] here.split (cells_at here code ∙ ap value_cells operands))

  -- the frame at the call
  abbrev pub at_call : SplitFrame
  at_call = cut_here.last

  pub refs_cut : at_call.refs.operands ≡ reverse (value_refs (values_of arguments)) ++ value_refs rest
  refs_cut =
      ap (λ refs. refs.operands) cut_here.refs ∙ refs_at here code ∙ ap value_refs operands ∙ refs-append (values_of (reverse arguments)) rest
      ∙ ap (λ (l : List Reference). l ++ value_refs rest) (ap value_refs (mapped_reverse (λ (a : Argument). a.1) arguments) ∙ turned_refs (values_of arguments))

  pub cells_cut : at_call.cells.operands ≡ reverse (argument_cells arguments) ++ value_cells rest
  cells_cut = cut_here.operands ∙ ap (λ (l : List ℕ). l ++ value_cells rest) (turned_pieces (λ (a : Argument). passed_of a.0 a.1) arguments)

  -- ---- the call

  abbrev pub call_state : split.State
  call_state = split.with_frames other (at_call ∷ here.others)

  module _ (call : IsCall setting (body_at here) here.frame.pc instruction used) where
    came : ComesBehind setting (body_at here) here.frame.pc instruction other here.others here.split at_call (cuts_at setting (body_at here) here.frame.pc used) ((call.insn, []) ∷ call.rest)
    came =
        goes_behind setting (body_at here) here.frame.pc instruction code.compiled (code.insns (body_at here) (found_at here).of_set) other here.others here.split at_call []
        (cuts_at setting (body_at here) here.frame.pc used) ((call.insn, []) ∷ call.rest)
        (subst (λ (l : List Emitted). StandsBetween setting (body_at here) here.split here.frame.pc instruction [] l) call.emitted (youngest_between setting here.frame here.split here.youngest instruction here.at)) cut_here.over

    pub stands_at_call : StandsBetween setting (body_at here) at_call here.frame.pc instruction (cuts_at setting (body_at here) here.frame.pc used) ((call.insn, []) ∷ call.rest)
    stands_at_call = came.stands

    pub quiet_cut : Quietly (split_step.machine setting.image) other call_state
    quiet_cut = subst (λ start. Quietly (split_step.machine setting.image) start call_state) (split_is here) came.quiet

    -- the move there is that of the call
    pub call_move : split_step.move setting.image call_state ≡ split_step.move_of setting.image call_state at_call here.others (at_call.pc + length (insn_bytes call.insn [])) call.insn []
    call_move =
        let body = body_at here in
        let first = cuts_at setting body here.frame.pc used in
        let at = at_insn setting body here.frame.pc instruction at_call first call.insn [] call.rest came.stands in
        let is = insn_here setting body at_call here.frame.pc instruction first call.insn [] (code.insns body (found_at here).of_set) call.rest at in
        move_here setting body at_call here.frame.pc instruction first call.insn [] code.compiled call.rest at is call_state here.others refl
