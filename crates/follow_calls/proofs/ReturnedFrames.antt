-- The split machine follows the typed one where a method returns nothing: its caller goes on, or the run is done.
use Rattle.std.proofs.Common.{◌≡◌, ℕ, ◌+◌, Bool, true, false, if◌then◌else◌, List, [], ◌∷◌, length, Option, Some, None, option_and_then, refl, sym, ap, subst, ◌∙◌, arith}
use Rattle.std.proofs.lemmas.Option.{none-some, same_Some}
use Rattle.std.specs.Option.{option_map_or}
use Rattle.account.specs.Account.{Stops, no_need}
use Rattle.account.specs.RunLaws.{Alike, BothStop, ComesTo, Rests, IsLoud}
use Rattle.class_pool.specs.declared.descriptor.Kind.{Kind}
use Rattle.class_file.specs.declared.record.ClassFile.{ClassFile}
use Rattle.image_instr.specs.declared.insn.MInsn.TheVariants as insns
use Rattle.image_instr.specs.Insn.{insn_bytes}
use Rattle.body_form.specs.declared.body.Body.{Body}
use Rattle.body_form.specs.declared.op.MethodUse.{MethodUse}
use Rattle.body_form.specs.declared.op.Op.{Op}
use Rattle.body_form.specs.declared.op.Op.TheVariants as op
use Rattle.body_form.specs.declared.types.VFrame.{VFrame}
use Rattle.jvm_model.specs.Bodies.{AreEach}
use Rattle.jvm_model.specs.ImageExpansion.{Emitted, read_as, top_of}
use Rattle.jvm_model.specs.TypesRules.{Change, op_at, plain, returned}
use Rattle.jvm_model.specs.WidthsShapes.{point_at}
use Rattle.mote_model.specs.State.{Frame as SplitFrame}
use Rattle.mote_model.specs.SplitMoves as split_moves
use Rattle.mote_model.specs.SplitMoves.{SplitMove}
use Rattle.mote_model.specs.SplitState as split
use Rattle.mote_model.specs.SplitStep as split_step
use Rattle.typed_machine.specs.TypedCalls.{resumes, returns}
use Rattle.typed_machine.specs.TypedMoves.{TypedMove, Done}
use Rattle.typed_machine.specs.TypedState.{Frame, State}
use Rattle.typed_machine.specs.TypedStep.{move}
use Rattle.typed_machine.specs.TypedWorld.{body_among}
use Rattle.type_safety.specs.Fitting.{Waits, FramesFit, call_of}
use Rattle.type_safety.specs.Safety.{MoveFits}
use Rattle.match_states.specs.Followed.{StatesMatch, EndingsMatch, BothDone}
use Rattle.match_states.specs.MatchedFrames.{WaitingMatches, call_at}
use Rattle.match_states.specs.Setting.{Setting, table_for, widths_for}
use Rattle.match_code.specs.Standing.{WentOver}
use Rattle.match_code.proofs.MatchedCode.{found_body}
use Rattle.match_code.proofs.QuietRuns.{GoesOverAll, OverNone}
use Rattle.follow_numbers.specs.WideCode.{IsWideCode, StandsAt}
use Rattle.follow_numbers.proofs.NextStates.{Carries, body_at, typed_move, is_unstuck}
use Rattle.follow_numbers.proofs.NextMoves.{AreMatched, alone_move}
use Rattle.follow_operands.proofs.LocalRules.{rule_here}
use Rattle.follow_calls.proofs.CallResults.{call_reads}
use Rattle.follow_calls.proofs.ResumedCallers.{resume_alike}
use Rattle.follow_calls.proofs.WaitingOperands.{operands_below}

-- ---- the result of the method that is called

-- a method that may return nothing has no result
no_result : (files : List ClassFile) (types : VFrame) (pending : Bool) (result : Option Kind) (change : Change)
    → (if pending then None else option_and_then (λ tests. plain types tests []) (returned files result None)) ≡ Some change → result ≡ None
no_result files types true result change is = absurd (none-some change is)
no_result files types false None change is = refl
no_result files types false (Some kind) change is = absurd (none-some change is)

-- what a call names is found in both ways
named_alike : (instruction : Op) (used other : MethodUse) (taken : ℕ) → call_at instruction ≡ Some (used, taken) → call_of instruction ≡ Some other → other ≡ used
named_alike (op.CallStatic found) used other taken is names = sym (same_Some found other names) ∙ ap (λ (x : MethodUse × ℕ). x.0) (same_Some (found, length found.descriptor.params) (used, taken) is)
named_alike (op.CallVirtual found) used other taken is names = sym (same_Some found other names) ∙ ap (λ (x : MethodUse × ℕ). x.0) (same_Some _ (used, taken) is)
named_alike (op.CallSpecial found) used other taken is names = sym (same_Some found other names) ∙ ap (λ (x : MethodUse × ℕ). x.0) (same_Some _ (used, taken) is)
named_alike (op.CallInterface found) used other taken is names = sym (same_Some found other names) ∙ ap (λ (x : MethodUse × ℕ). x.0) (same_Some _ (used, taken) is)
named_alike instruction used other taken is names = absurd (none-some other names)

module _ {setting : Setting} {state : State} {other : split.State} {instruction : Op} (here : StandsAt setting state other instruction)
    (caller : Frame) (frames : List Frame) (below : SplitFrame) (waiting : WaitingMatches setting caller below) (frames_are : here.frames ≡ caller ∷ frames) where
  abbrev waits_here : Waits setting.world setting.tables state.objects caller here.frame
  waits_here =
      (subst (FramesFit setting.world setting.tables state.objects) (here.frames_are ∙ ap (λ (l : List Frame). here.frame ∷ l) frames_are) here.match.fits.frames).1.0

  -- the call for which the caller waits has the result of the body that returns
  pub result_awaited : waiting.used.descriptor.result ≡ (body_at here).result
  result_awaited =
      let waits = waits_here in
      let body : waits.body ≡ waiting.body = same_Some waits.body waiting.body (sym waits.found ∙ waiting.found) in
      let callee : waits.callee ≡ body_at here = same_Some waits.callee (body_at here) (sym waits.callee_found ∙ here.youngest.found) in
      let instruction : waits.instruction ≡ waiting.instruction = same_Some waits.instruction waiting.instruction (sym waits.at ∙ ap (λ (b : Body). op_at b.ops caller.pc) body ∙ waiting.at) in
      let used = named_alike waiting.instruction waiting.used waits.used waiting.taken waiting.call (ap call_of (sym instruction) ∙ waits.calls) in
      ap (λ (u : MethodUse). u.descriptor.result) (sym used) ∙ sym waits.result ∙ ap (λ (b : Body). b.result) callee

-- ---- the return

module _ {setting : Setting} {state : State} {other : split.State} (code : IsWideCode setting) (here : StandsAt setting state other (op.Return None)) where
  returns_to : (caller : Frame) (frames : List Frame) (below : SplitFrame) (others : List SplitFrame) → here.frames ≡ caller ∷ frames → here.others ≡ below ∷ others
      → WaitingMatches setting caller below → AreEach (WaitingMatches setting) frames others → AreMatched setting state other
  returns_to caller frames below others frames_are others_are waiting waits =
      let body = waiting.body in
      let rule = rule_here code here in
      let result = result_awaited here caller frames below waiting frames_are ∙ no_result setting.world.files rule.types rule.types.pending (body_at here).result rule.change rule.rule in
      let reads = call_reads setting body caller.pc waiting.instruction waiting.used waiting.taken waiting.call in
      let none : reads.call.rest ≡ [] =
      reads.read ∙ ap (λ (kept : Option Kind). option_map_or (λ result. read_as result (top_of (point_at body.ops (widths_for setting body) (table_for setting body) caller.pc).after)) kept []) result in
      let typed : move setting.world state ≡ resumes setting.world state caller frames caller.operands (body_among setting.world.bodies caller.method) =
      typed_move here ∙ ap (λ (frames : List Frame). returns setting.world state frames []) frames_are in
      let loud : split_step.move setting.image other ≡ split_step.resumes setting.image other below others =
      alone_move code here (insns.Ret None) [] refl ∙ ap (λ (others : List SplitFrame). split_step.returns setting.image other others (λ caller. caller)) others_are in
      let unstuck = subst (MoveFits setting.world setting.tables) typed (is_unstuck here code) in
      let behind = split_moves.at_pc below (below.pc + length (insn_bytes reads.call.insn [])) in
      let read : GoesOverAll setting.image other others behind reads.call.rest behind = subst (λ (l : List Emitted). GoesOverAll setting.image other others behind l behind) (sym none) (OverNone behind) in
      let found = found_body setting.world.bodies caller.method body waiting.found in
      let stand = operands_below setting body (code.wide body found.of_set) caller.pc waiting.taken caller.operands waiting.operands.shaped in
      let locals = waiting.locals in
      let carries : Carries setting body caller below.method caller.operands behind =
      record {
        method = refl;
        locals = record { refs_are = locals.refs_are; slotted = locals.slotted; count = locals.count; numbers = locals.numbers };
        refs = waiting.operands.refs_are ∙ stand.refs;
        cells = waiting.operands.cells_are ∙ stand.cells;
      } in
      let over : WentOver below below 0 = record { method = refl; pc = omega arith } in
      let alike = resume_alike code here.match caller frames below others waiting waits caller.operands unstuck reads.call below behind over read carries in
      let SameMoves : TypedMove → SplitMove → Type 0 = Alike (ComesTo (split_step.machine setting.image) (StatesMatch setting)) (EndingsMatch setting) in
      IsLoud other (Rests other) (subst (λ m. SameMoves m (split_step.move setting.image other)) (sym typed)
      (subst (SameMoves (resumes setting.world state caller frames caller.operands (body_among setting.world.bodies caller.method))) (sym loud) alike))

  by_frames : (frames : List Frame) (others : List SplitFrame) → here.frames ≡ frames → here.others ≡ others → AreEach (WaitingMatches setting) frames others → AreMatched setting state other
  by_frames [] [] frames_are others_are waits =
      let typed : move setting.world state ≡ Stops no_need [] Done = typed_move here ∙ ap (λ (frames : List Frame). returns setting.world state frames []) frames_are in
      let loud : split_step.move setting.image other ≡ Stops no_need [] split_moves.Done =
      alone_move code here (insns.Ret None) [] refl ∙ ap (λ (others : List SplitFrame). split_step.returns setting.image other others (λ caller. caller)) others_are in
      let SameMoves : TypedMove → SplitMove → Type 0 = Alike (ComesTo (split_step.machine setting.image) (StatesMatch setting)) (EndingsMatch setting) in
      IsLoud other (Rests other)
      (subst (λ m. SameMoves m (split_step.move setting.image other)) (sym typed) (subst (SameMoves (Stops no_need [] Done)) (sym loud) (BothStop no_need [] Done split_moves.Done BothDone)))
  by_frames [] (below ∷ others) frames_are others_are waits = absurd waits
  by_frames (caller ∷ frames) [] frames_are others_are waits = absurd waits
  by_frames (caller ∷ frames) (below ∷ others) frames_are others_are waits = returns_to caller frames below others frames_are others_are waits.0 waits.1

  pub return_nothing_follows : AreMatched setting state other
  return_nothing_follows = by_frames here.frames here.others refl refl here.waiting
