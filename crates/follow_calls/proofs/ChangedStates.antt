-- States that match behind an instruction whose last machine instruction changes statics or objects.
use Rattle.std.proofs.Common.{◌≡◌, ℕ, ◌+◌, List, [], ◌∷◌, ◌++◌, length, Option, Some, None, refl, sym, ap, subst, ◌∙◌}
use Rattle.account.specs.Account.{Does, no_need}
use Rattle.account.specs.RunLaws.{Alike, BothDo, Quietly, Rests, ComesTo, IsLoud}
use Rattle.image_instr.specs.declared.insn.MInsn.{MInsn}
use Rattle.image_instr.specs.declared.insn.SwitchRow.{SwitchRow}
use Rattle.image_instr.specs.Insn.{insn_bytes}
use Rattle.body_form.specs.declared.op.Op.{Op}
use Rattle.jvm_model.specs.ImageEmission.{offset_of}
use Rattle.jvm_model.specs.ImageExpansion.{Emitted}
use Rattle.jvm_model.specs.State.{Value}
use Rattle.jvm_model.specs.WidthsShapes.{shapes_at}
use Rattle.mote_model.specs.State.{Reference, Frame as SplitFrame}
use Rattle.mote_model.specs.SplitMoves as split_moves
use Rattle.mote_model.specs.SplitMoves.{SplitMove}
use Rattle.mote_model.specs.SplitState as split
use Rattle.mote_model.specs.SplitStep as split_step
use Rattle.typed_machine.specs.TypedMoves.{TypedMove, at_pc, goes_on}
use Rattle.typed_machine.specs.TypedState.{State, with_frames}
use Rattle.typed_machine.specs.TypedStep.{move}
use Rattle.typed_machine.specs.TypedWorld.{pc_after}
use Rattle.type_safety.specs.Fitting.{StateFits}
use Rattle.type_safety.specs.Safety.{MoveFits}
use Rattle.match_states.specs.Followed.{StatesMatch, EndingsMatch}
use Rattle.match_states.specs.MatchedFrames.{LocalsMatch, YoungestMatches}
use Rattle.match_states.specs.MatchedObjects.{ObjectsMatch, StaticsMatch}
use Rattle.match_states.specs.Setting.{Setting, table_for, source_for, widths_for}
use Rattle.match_code.specs.Standing.{emitted_at, StandsBetween, WentOver}
use Rattle.match_code.proofs.CodeLayout.{same_after}
use Rattle.match_code.proofs.CodeMoves.{insn_here, move_here, goes_past}
use Rattle.match_code.proofs.QuietRuns.{GoesOverAll, at_insn, goes_behind, youngest_between}
use Rattle.follow_numbers.specs.WideCode.{IsWideCode, StandsAt, HasOperands}
use Rattle.follow_numbers.proofs.KnownOperands.{body_operands}
use Rattle.follow_numbers.proofs.NextStates.{body_at, found_at, is_unstuck, split_is}
use Rattle.follow_numbers.proofs.NextMoves.{AreMatched}
use Rattle.follow_numbers.proofs.WideOperands.{AreShaped, frame_shapes}

-- what states hold beside their frames matches
pub record RestsMatch (setting : Setting) (state : State) (other : split.State) : Type 0 where
  pub objects : ObjectsMatch setting state.objects other.objects
  pub statics : StaticsMatch setting state.statics other.ref_statics other.cell_statics
  pub answers : other.answers ≡ state.answers

module _ {setting : Setting} {state : State} {other : split.State} {instruction : Op} (code : IsWideCode setting) (here : StandsAt setting state other instruction) (changed : State) (values : List Value)
    (typed : move setting.world state ≡ goes_on changed here.frame here.frames (pc_after (body_at here).ops here.frame.pc) values) where
  -- the typed machine is not stuck, so that there is a next pc
  next_there : (next : Option ℕ) → MoveFits setting.world setting.tables (goes_on changed here.frame here.frames next values) → (to : ℕ) × (next ≡ Some to)
  next_there None fits = absurd fits
  next_there (Some to) fits = (to, refl)

  next_pc : (to : ℕ) × (pc_after (body_at here).ops here.frame.pc ≡ Some to)
  next_pc = next_there (pc_after (body_at here).ops here.frame.pc) (subst (MoveFits setting.world setting.tables) typed (is_unstuck here code))

  abbrev next_state : State
  next_state = with_frames changed (at_pc here.frame next_pc.0 values ∷ here.frames)

  does_next : move setting.world state ≡ Does no_need [] next_state
  does_next = typed ∙ ap (λ to. goes_on changed here.frame here.frames to values) next_pc.1

  next_fits : StateFits setting.world setting.tables next_state
  next_fits = subst (MoveFits setting.world setting.tables) does_next (is_unstuck here code)

  next_shapes : AreShaped (shapes_at (widths_for setting (body_at here)) (table_for setting (body_at here)) next_pc.0) values
  next_shapes =
      let body = body_at here in
      let fits = next_fits.frames.0 in
      let known : table_for setting body next_pc.0 ≡ Some fits.types = ap (λ id. setting.tables id next_pc.0) (found_at here).method ∙ fits.known in
      frame_shapes setting.world changed.objects fits.body setting body (code.wide body (found_at here).of_set) next_pc.0 fits.types known
      (body_operands setting code.compiled body (found_at here).of_set next_pc.0 fits.types known) values fits.has.operands

  module _ (last : SplitFrame) (has : HasOperands here.split last values) (pc_is : last.pc ≡ offset_of (source_for setting (body_at here)) next_pc.0) where
    next_youngest : YoungestMatches setting (at_pc here.frame next_pc.0 values) last
    next_youngest =
        let youngest = here.youngest in
        let shapes = next_shapes in
        let locals : LocalsMatch setting (body_at here) here.frame last.refs.locals last.cells.locals =
        subst (λ (refs : List Reference). LocalsMatch setting (body_at here) here.frame refs last.cells.locals) (sym has.ref_locals)
        (subst (LocalsMatch setting (body_at here) here.frame here.split.refs.locals) (sym has.cell_locals) youngest.locals) in
        record {
          body = youngest.body;
          found = youngest.found;
          method = has.method ∙ youngest.method;
          pc = pc_is;
          locals = record { refs_are = locals.refs_are; slotted = locals.slotted; count = locals.count; numbers = locals.numbers };
          operands = record { shaped = shapes.shaped; refs_are = has.refs ∙ sym shapes.refs; cells_are = has.cells ∙ sym shapes.cells };
        }

    next_match : (changed_other : split.State) → RestsMatch setting changed changed_other → StatesMatch setting next_state (split.with_frames changed_other (last ∷ here.others))
    next_match changed_other rests = record { fits = next_fits; frames = (next_youngest, here.waiting); objects = rests.objects; statics = rests.statics; answers = rests.answers }

  -- The first machine instructions go quietly, and the last one makes the change.
  pub last_changes : (first : List Emitted) (insn : MInsn) (rows : List SwitchRow) → emitted_at setting (body_at here) here.frame.pc instruction ≡ first ++ (insn, rows) ∷ []
      → (before last : SplitFrame) → GoesOverAll setting.image other here.others here.split first before → last.method ≡ before.method
      → (changed_other : split.State) → RestsMatch setting changed changed_other
      → split_step.move_of setting.image (split.with_frames other (before ∷ here.others)) before here.others (before.pc + length (insn_bytes insn rows)) insn rows
      ≡ split_moves.goes_on changed_other last here.others (before.pc + length (insn_bytes insn rows)) → HasOperands here.split last values → AreMatched setting state other
  last_changes first insn rows emits before last quiet_first same_method changed_other rests moves has =
      let body = body_at here in
      let pc = here.frame.pc in
      let all = code.insns body (found_at here).of_set in
      let from = split.with_frames other (before ∷ here.others) in
      let behind = split_moves.at_pc last (before.pc + length (insn_bytes insn rows)) in
      let after = split.with_frames changed_other (behind ∷ here.others) in
      let stands : StandsBetween setting body here.split pc instruction [] (first ++ (insn, rows) ∷ []) =
      subst (λ (l : List Emitted). StandsBetween setting body here.split pc instruction [] l) emits (youngest_between setting here.frame here.split here.youngest instruction here.at) in
      let came = goes_behind setting body pc instruction code.compiled all other here.others here.split before [] first ((insn, rows) ∷ []) stands quiet_first in
      let at = at_insn setting body pc instruction before first insn rows [] came.stands in
      let is = insn_here setting body before pc instruction first insn rows all [] at in
      let loud = move_here setting body before pc instruction first insn rows code.compiled [] at is from here.others refl ∙ moves in
      let over : WentOver before behind (length (insn_bytes insn rows)) = record { method = same_method; pc = refl } in
      let pc_is = goes_past setting body before pc instruction first insn rows code.compiled at next_pc.0 (sym (same_after body.ops pc) ∙ next_pc.1) behind over in
      let carries : HasOperands here.split behind values = record { method = has.method; ref_locals = has.ref_locals; cell_locals = has.cell_locals; refs = has.refs; cells = has.cells } in
      let comes : ComesTo (split_step.machine setting.image) (StatesMatch setting) next_state after = record { last = after; quiet = Rests after; related = next_match behind carries pc_is changed_other rests } in
      let SameMoves : TypedMove → SplitMove → Type 0 = Alike (ComesTo (split_step.machine setting.image) (StatesMatch setting)) (EndingsMatch setting) in
      IsLoud from (subst (λ start. Quietly (split_step.machine setting.image) start from) (split_is here) came.quiet)
      (subst (λ m. SameMoves m (split_step.move setting.image from)) (sym does_next) (subst (SameMoves (Does no_need [] next_state)) (sym loud) (BothDo no_need [] next_state after comes)))
