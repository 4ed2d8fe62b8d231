-- The split machine follows the typed one where a static method with a body is called: it cuts the arguments, calls, and
-- extends the parameters.
use Rattle.std.proofs.Common.{◌≡◌, ℕ, ◌+◌, Bool, false, if◌then◌else◌, List, [], ◌∷◌, ◌++◌, map, reverse, length, drop, Option, Some, refl, sym, ap, subst, ◌∙◌, arith}
use Rattle.std.specs.Option.{option_map_or}
use Rattle.std.proofs.lemmas.List.{length-map}
use Rattle.account.specs.Account.{Does, Stuck, call_need}
use Rattle.account.specs.RunLaws.{Alike, BothDo, ComesTo, IsLoud}
use Rattle.image_form.specs.declared.record.Method.{Method}
use Rattle.image_instr.specs.declared.insn.MInsn.TheVariants as insns
use Rattle.image_instr.specs.Insn.{insn_bytes}
use Rattle.library.specs.declared.natives.Native.{Native}
use Rattle.body_form.specs.declared.op.MethodUse.{MethodUse}
use Rattle.body_form.specs.declared.op.Op.TheVariants as op
use Rattle.jvm_model.specs.State.{Value}
use Rattle.mote_model.specs.State.{Frame as SplitFrame}
use Rattle.mote_model.specs.SplitMoves.{SplitMove, using}
use Rattle.mote_model.specs.SplitState as split
use Rattle.mote_model.specs.SplitState.{method_at}
use Rattle.mote_model.specs.SplitStep as split_step
use Rattle.typed_machine.specs.TypedCalls.{frame_for}
use Rattle.typed_machine.specs.TypedMoves.{TypedMove, at_pc}
use Rattle.typed_machine.specs.TypedState.{State, with_frames}
use Rattle.typed_machine.specs.TypedStep.{move}
use Rattle.type_safety.specs.Facts.{RunsBody}
use Rattle.type_safety.specs.Fitting.{StateFits}
use Rattle.type_safety.specs.Safety.{MoveFits}
use Rattle.match_states.specs.Followed.{StatesMatch, EndingsMatch}
use Rattle.match_states.specs.MatchedFrames.{WaitingMatches}
use Rattle.match_states.specs.Setting.{Setting, id_for}
use Rattle.match_code.proofs.MatchedCode.{IsCall}
use Rattle.match_views.proofs.NextFrames.{states_with_frames}
use Rattle.follow_numbers.specs.WideCode.{value_refs, value_cells, IsWideCode, StandsAt}
use Rattle.follow_numbers.proofs.NextMoves.{AreMatched}
use Rattle.follow_numbers.proofs.NextStates.{body_at, is_unstuck}
use Rattle.follow_calls.proofs.CalledLocals.{TakesArguments}
use Rattle.follow_calls.proofs.CallResults.{result_read}
use Rattle.follow_calls.proofs.CutCalls.{cut_here, at_call, refs_cut, cells_cut, call_state, stands_at_call, quiet_cut, call_move}
use Rattle.follow_calls.proofs.DeclaredParameters.{HaveDims, AreDeclared, params_declared}
use Rattle.follow_calls.proofs.EnteredBodies.{found_callee, method_called, method_there, cells_same, arguments_there, refs_left, cells_left, behind_fills, entered, youngest_entered, entry}
use Rattle.follow_calls.proofs.NativeIds.{no_native}
use Rattle.follow_calls.proofs.PairedArguments.{values_of, taken_as}
use Rattle.follow_calls.proofs.ParameterKinds.{Argument}
use Rattle.follow_calls.proofs.PassedCells.{argument_cells}
use Rattle.follow_calls.proofs.StartedBodies.{values_few, none_shaped}
use Rattle.follow_calls.proofs.StaticArguments.{below, arguments_here, arguments_passed, kinds_here, kinds_taken, taken_here, operands_are, typed_call}
use Rattle.follow_calls.proofs.WaitingCallers.{caller_waits}

module _ {setting : Setting} {state : State} {other : split.State} (code : IsWideCode setting) (declared : AreDeclared setting) (used : MethodUse) (here : StandsAt setting state other (op.CallStatic used))
    (run : RunsBody setting.world used.method used false) where
  dims : HaveDims used.descriptor.params
  dims = params_declared setting declared used.method used false run

  abbrev arguments : List Argument
  arguments = arguments_here code used here dims

  abbrev rest : List Value
  rest = below code used here

  abbrev pc : ℕ
  pc = here.frame.pc

  -- ---- the typed machine

  abbrev next : State
  next = with_frames state (frame_for used.method run.body (map taken_as arguments) ∷ at_pc here.frame pc rest ∷ here.frames)

  typed : move setting.world state ≡ Does (call_need (setting.world.frame_cells used.method)) [] next
  typed =
      typed_call code used here run
      ∙ ap (λ (values : List Value). Does (call_need (setting.world.frame_cells used.method)) [] (with_frames state (frame_for used.method run.body values ∷ at_pc here.frame pc rest ∷ here.frames))) (taken_here code used here dims)

  next_fits : StateFits setting.world setting.tables next
  next_fits = subst (MoveFits setting.world setting.tables) typed (is_unstuck here code)

  takes : TakesArguments run.body arguments
  takes =
      let few = values_few code used.method run.body run.found state.objects (map taken_as arguments) next_fits.frames.0 in
      let count = length-map arguments taken_as in
      record { all = arguments_passed code used here dims; kinds = kinds_taken code used here dims run; few = omega (arith, few, count) }

  -- ---- the split machine

  abbrev cut : SplitFrame
  cut = at_call code here used arguments (arguments_passed code used here dims) rest (operands_are code used here dims) (kinds_here code used here dims)

  cut_refs : cut.refs.operands ≡ reverse (value_refs (values_of arguments)) ++ value_refs rest
  cut_refs = refs_cut code here used arguments (arguments_passed code used here dims) rest (operands_are code used here dims) (kinds_here code used here dims)

  cut_cells : cut.cells.operands ≡ reverse (argument_cells arguments) ++ value_cells rest
  cut_cells = cells_cut code here used arguments (arguments_passed code used here dims) rest (operands_are code used here dims) (kinds_here code used here dims)

  abbrev from : split.State
  from = call_state code here used arguments (arguments_passed code used here dims) rest (operands_are code used here dims) (kinds_here code used here dims)

  abbrev id : ℕ
  id = id_for setting used.method

  abbrev call : IsCall setting (body_at here) pc (op.CallStatic used) used
  call = record { insn = insns.CallS id; rest = result_read setting (body_at here) pc used; emitted = refl }

  abbrev called : Method
  called = method_called setting code.compiled used.method run.body run.found arguments takes

  called_there : method_at setting.image id ≡ Some called
  called_there = method_there setting code.compiled used.method run.body run.found arguments takes

  abbrev started : SplitFrame
  started = entry setting code.compiled used.method run.body run.found arguments takes cut rest cut_refs cut_cells

  abbrev waiter : SplitFrame
  waiter = split_step.without_arguments called.sig cut

  abbrev after : split.State
  after = split.with_frames other (started ∷ waiter ∷ here.others)

  loud : split_step.move setting.image from ≡ Does (call_need (split.frame_cells called)) [] after
  loud =
      call_move code here used arguments (arguments_passed code used here dims) rest (operands_are code used here dims) (kinds_here code used here dims) call
      ∙ ap (λ (found : Option Native). option_map_or (split_step.runs_native from cut here.others (cut.pc + length (insn_bytes call.insn []))) found (split_step.runs_code setting.image from cut here.others id)) (no_native setting.image id called called_there)
      ∙ ap (λ (found : Option Method). using found (λ (method : Method). split_step.runs_method from cut here.others id method)) called_there
      ∙ ap (λ (b : Bool). if b then Does (call_need (split.frame_cells called)) [] after else Stuck) (arguments_there setting code.compiled used.method run.body run.found arguments takes cut rest cut_refs cut_cells)

  -- ---- both

  waits : WaitingMatches setting (at_pc here.frame pc rest) waiter
  waits =
      let cuts = cut_here code here used arguments (arguments_passed code used here dims) rest (operands_are code used here dims) (kinds_here code used here dims) in
      caller_waits code here used (length used.descriptor.params) refl cut ((call.insn, []) ∷ call.rest)
      (stands_at_call code here used arguments (arguments_passed code used here dims) rest (operands_are code used here dims) (kinds_here code used here dims) call) cuts.method cuts.refs cuts.locals
      (drop called.sig.refs cut.refs.operands) (drop called.sig.cells cut.cells.operands)
      (refs_left setting code.compiled used.method run.body run.found arguments takes cut rest cut_refs cut_cells)
      (cells_left setting code.compiled used.method run.body run.found arguments takes cut rest cut_refs cut_cells)

  comes : ComesTo (split_step.machine setting.image) (StatesMatch setting) next after
  comes =
      let callee = found_callee setting code.compiled used.method run.body run.found arguments takes in
      let wide = code.wide run.body callee.of_set in
      let all = code.insns run.body callee.of_set in
      let below_it = waiter ∷ here.others in
      let last = behind_fills setting code.compiled used.method run.body run.found arguments takes cut rest cut_refs cut_cells wide all other below_it in
      let enters = entered setting code.compiled used.method run.body run.found arguments takes cut rest cut_refs cut_cells wide all other below_it in
      let shapes = none_shaped code used.method run.body run.found state.objects (map taken_as arguments) next_fits.frames.0 in
      let youngest = youngest_entered setting code.compiled used.method run.body run.found arguments takes cut rest cut_refs cut_cells wide all other below_it shapes in
      record {
        last = split.with_frames other (last ∷ below_it);
        quiet = enters.quiet;
        related = states_with_frames setting state other next.frames (last ∷ below_it) here.match next_fits (youngest, (waits, here.waiting));
      }

  pub call_body_follows : AreMatched setting state other
  call_body_follows =
      let SameMoves : TypedMove → SplitMove → Type 0 = Alike (ComesTo (split_step.machine setting.image) (StatesMatch setting)) (EndingsMatch setting) in
      let need = call_need (split.frame_cells called) in
      let same = cells_same setting code.compiled used.method run.body run.found arguments takes in
      IsLoud from (quiet_cut code here used arguments (arguments_passed code used here dims) rest (operands_are code used here dims) (kinds_here code used here dims) call)
      (subst (λ m. SameMoves m (split_step.move setting.image from)) (sym (typed ∙ ap (λ (cells : ℕ). Does (call_need cells) [] next) same))
      (subst (SameMoves (Does need [] next)) (sym loud) (BothDo need [] next after comes)))
