-- The split machine follows the typed one where a method returns a reference: its caller goes on, or the run is done.
use Rattle.std.proofs.Common.{◌≡◌, inl, inr, ◌+◌, List, [], ◌∷◌, length, Option, Some, refl, sym, ap, subst, ◌∙◌, arith}
use Rattle.std.specs.Option.{option_map_or}
use Rattle.account.specs.Account.{Stops, no_need}
use Rattle.account.specs.RunLaws.{Alike, BothStop, ComesTo, Rests, IsLoud}
use Rattle.class_pool.specs.declared.descriptor.Kind.{Kind}
use Rattle.image_instr.specs.declared.insn.Kind.TheVariants as kind
use Rattle.image_instr.specs.declared.insn.MInsn.TheVariants as insns
use Rattle.image_instr.specs.Insn.{insn_bytes}
use Rattle.insn_form.specs.declared.ValueKind.TheVariants as value_kind
use Rattle.body_form.specs.declared.op.Op.TheVariants as op
use Rattle.jvm_model.specs.Bodies.{AreEach}
use Rattle.jvm_model.specs.ImageExpansion.{Emitted, read_as, top_of}
use Rattle.jvm_model.specs.State.{Value}
use Rattle.jvm_model.specs.WidthsShapes.{point_at}
use Rattle.mote_model.specs.State.{Reference, Frame as SplitFrame}
use Rattle.mote_model.specs.SplitMoves as split_moves
use Rattle.mote_model.specs.SplitMoves.{SplitMove, push_ref, take_ref_from}
use Rattle.mote_model.specs.SplitState as split
use Rattle.mote_model.specs.SplitStep as split_step
use Rattle.typed_machine.specs.TypedCalls.{kept_as, resumes, returns, return_value}
use Rattle.typed_machine.specs.TypedMoves.{TypedMove, Done}
use Rattle.typed_machine.specs.TypedState.{Frame, State}
use Rattle.typed_machine.specs.TypedStep.{move}
use Rattle.typed_machine.specs.TypedWorld.{body_among}
use Rattle.type_safety.specs.Safety.{MoveFits}
use Rattle.match_states.specs.Followed.{StatesMatch, EndingsMatch, BothDone}
use Rattle.match_states.specs.MatchedFrames.{IsOfShape, WaitingMatches, reference_of}
use Rattle.match_states.specs.Setting.{Setting, table_for, widths_for}
use Rattle.match_code.specs.Standing.{WentOver}
use Rattle.match_code.proofs.MatchedCode.{found_body}
use Rattle.match_code.proofs.QuietRuns.{GoesOverAll, OverNone}
use Rattle.follow_numbers.specs.WideCode.{IsWideCode, StandsAt, value_refs}
use Rattle.follow_numbers.proofs.NextStates.{Carries, refs_at, typed_move, is_unstuck}
use Rattle.follow_numbers.proofs.NextMoves.{AreMatched, alone_move}
use Rattle.follow_operands.proofs.LocalRules.{refers_by, rule_here}
use Rattle.follow_operands.proofs.StoredReferences.{Refers, refers}
use Rattle.follow_calls.proofs.CallResults.{call_reads}
use Rattle.follow_calls.proofs.ReferenceResults.{reference_read}
use Rattle.follow_calls.proofs.ResumedCallers.{resume_alike}
use Rattle.follow_calls.proofs.ReturnedFrames.{result_awaited}
use Rattle.follow_calls.proofs.ReturnedValues.{ReturnsValue, returns_value}
use Rattle.follow_calls.proofs.WaitingOperands.{operands_below}

-- a reference is kept as it is
pub kept_reference : (result : Kind) (value : Value) → IsOfShape kind.Ref value → kept_as result value ≡ value
kept_reference result value (inl is) = ap (kept_as result) is ∙ sym is
kept_reference result value (inr is) = ap (kept_as result) is.1 ∙ sym is.1

module _ {setting : Setting} {state : State} {other : split.State} (code : IsWideCode setting) (here : StandsAt setting state other (op.Return (Some value_kind.Ref))) where
  abbrev result_here : ReturnsValue code value_kind.Ref here
  result_here = returns_value code value_kind.Ref here

  abbrev shape_here : IsOfShape kind.Ref result_here.value
  shape_here = refers_by setting.world state.objects (rule_here code here).of result_here.type result_here.kind result_here.value result_here.fits

  refers_here : Refers result_here.value
  refers_here = refers result_here.value shape_here

  typed_return : move setting.world state ≡ returns setting.world state here.frames (result_here.value ∷ [])
  typed_return =
      let held = result_here in
      typed_move here
      ∙ ap (λ (result : Option Kind). return_value setting.world state here.frames result here.frame.operands) held.declared
      ∙ ap (return_value setting.world state here.frames (Some held.result)) held.are
      ∙ ap (λ (value : Value). returns setting.world state here.frames (value ∷ [])) (kept_reference held.result held.value shape_here)

  split_return : split_step.move setting.image other ≡ split_step.returns setting.image other here.others (push_ref (reference_of result_here.value))
  split_return =
      let held = result_here in
      let use_it : Reference → SplitFrame → SplitMove = λ reference rest. split_step.returns setting.image other here.others (push_ref reference) in
      alone_move code here (insns.Ret (Some kind.Ref)) [] refl
      ∙ ap (λ (refs : List Reference). take_ref_from here.split refs use_it) (refs_at here code ∙ ap value_refs held.are ∙ refers_here.refs held.below)

  abbrev SameMoves : TypedMove → SplitMove → Type 0
  SameMoves = Alike (ComesTo (split_step.machine setting.image) (StatesMatch setting)) (EndingsMatch setting)

  returns_to : (caller : Frame) (frames : List Frame) (below : SplitFrame) (others : List SplitFrame) → here.frames ≡ caller ∷ frames → here.others ≡ below ∷ others
      → WaitingMatches setting caller below → AreEach (WaitingMatches setting) frames others → AreMatched setting state other
  returns_to caller frames below others frames_are others_are waiting waits =
      let held = result_here in
      let reference = refers_here in
      let values : List Value = held.value ∷ caller.operands in
      let body = waiting.body in
      let result = result_awaited here caller frames below waiting frames_are ∙ held.declared in
      let reads = call_reads setting body caller.pc waiting.instruction waiting.used waiting.taken waiting.call in
      let shape = top_of (point_at body.ops (widths_for setting body) (table_for setting body) caller.pc).after in
      let none : reads.call.rest ≡ [] =
      reads.read ∙ ap (λ (kept : Option Kind). option_map_or (λ result. read_as result shape) kept []) result
      ∙ reference_read setting.world.files held.result held.type shape held.kind held.taken in
      let typed : move setting.world state ≡ resumes setting.world state caller frames values (body_among setting.world.bodies caller.method) =
      typed_return ∙ ap (λ (frames : List Frame). returns setting.world state frames (held.value ∷ [])) frames_are in
      let pushed = push_ref (reference_of held.value) below in
      let loud : split_step.move setting.image other ≡ split_step.resumes setting.image other pushed others =
      split_return ∙ ap (λ (others : List SplitFrame). split_step.returns setting.image other others (push_ref (reference_of held.value))) others_are in
      let unstuck = subst (MoveFits setting.world setting.tables) typed (is_unstuck here code) in
      let behind = split_moves.at_pc pushed (pushed.pc + length (insn_bytes reads.call.insn [])) in
      let read : GoesOverAll setting.image other others behind reads.call.rest behind = subst (λ (l : List Emitted). GoesOverAll setting.image other others behind l behind) (sym none) (OverNone behind) in
      let found = found_body setting.world.bodies caller.method body waiting.found in
      let stand = operands_below setting body (code.wide body found.of_set) caller.pc waiting.taken caller.operands waiting.operands.shaped in
      let locals = waiting.locals in
      let carries : Carries setting body caller below.method values behind =
      record {
        method = refl;
        locals = record { refs_are = locals.refs_are; slotted = locals.slotted; count = locals.count; numbers = locals.numbers };
        refs = ap (λ (l : List Reference). reference_of held.value ∷ l) (waiting.operands.refs_are ∙ stand.refs) ∙ sym (reference.refs caller.operands);
        cells = waiting.operands.cells_are ∙ stand.cells ∙ sym (reference.cells caller.operands);
      } in
      let over : WentOver below pushed 0 = record { method = refl; pc = omega arith } in
      let alike = resume_alike code here.match caller frames below others waiting waits values unstuck reads.call pushed behind over read carries in
      IsLoud other (Rests other) (subst (λ m. SameMoves m (split_step.move setting.image other)) (sym typed)
      (subst (SameMoves (resumes setting.world state caller frames values (body_among setting.world.bodies caller.method))) (sym loud) alike))

  by_frames : (frames : List Frame) (others : List SplitFrame) → here.frames ≡ frames → here.others ≡ others → AreEach (WaitingMatches setting) frames others → AreMatched setting state other
  by_frames [] [] frames_are others_are waits =
      let held = result_here in
      let typed : move setting.world state ≡ Stops no_need [] Done = typed_return ∙ ap (λ (frames : List Frame). returns setting.world state frames (held.value ∷ [])) frames_are in
      let loud : split_step.move setting.image other ≡ Stops no_need [] split_moves.Done =
      split_return ∙ ap (λ (others : List SplitFrame). split_step.returns setting.image other others (push_ref (reference_of held.value))) others_are in
      IsLoud other (Rests other)
      (subst (λ m. SameMoves m (split_step.move setting.image other)) (sym typed) (subst (SameMoves (Stops no_need [] Done)) (sym loud) (BothStop no_need [] Done split_moves.Done BothDone)))
  by_frames [] (below ∷ others) frames_are others_are waits = absurd waits
  by_frames (caller ∷ frames) [] frames_are others_are waits = absurd waits
  by_frames (caller ∷ frames) (below ∷ others) frames_are others_are waits = returns_to caller frames below others frames_are others_are waits.0 waits.1

  pub return_reference_follows : AreMatched setting state other
  return_reference_follows = by_frames here.frames here.others refl refl here.waiting
