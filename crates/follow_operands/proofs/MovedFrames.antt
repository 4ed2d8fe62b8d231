-- States that match behind an instruction that goes on with other locals and operands, over several machine instructions.
use Rattle.std.proofs.Common.{◌≡◌, ℕ, ◌+◌, List, [], ◌∷◌, ◌++◌, length, Option, Some, None, refl, sym, ap, subst, ◌∙◌, append-nil}
use Rattle.account.specs.Account.{Does, no_need}
use Rattle.account.specs.RunLaws.{Alike, BothDo, Quietly, ComesTo, IsQuiet, IsLoud}
use Rattle.image_instr.specs.declared.insn.MInsn.{MInsn}
use Rattle.image_instr.specs.declared.insn.SwitchRow.{SwitchRow}
use Rattle.image_instr.specs.Insn.{insn_bytes}
use Rattle.body_form.specs.declared.op.Op.{Op}
use Rattle.jvm_model.specs.ImageEmission.{offset_of}
use Rattle.jvm_model.specs.ImageExpansion.{Emitted}
use Rattle.jvm_model.specs.State.{Value}
use Rattle.jvm_model.specs.WidthsShapes.{shapes_at}
use Rattle.mote_model.specs.State.{Frame as SplitFrame}
use Rattle.mote_model.specs.SplitMoves as split_moves
use Rattle.mote_model.specs.SplitMoves.{SplitMove}
use Rattle.mote_model.specs.SplitState as split
use Rattle.mote_model.specs.SplitStep as split_step
use Rattle.typed_machine.specs.TypedMoves.{TypedMove, at_pc, goes_on}
use Rattle.typed_machine.specs.TypedState.{Frame, State, with_frames}
use Rattle.typed_machine.specs.TypedStep.{move}
use Rattle.typed_machine.specs.TypedWorld.{pc_after}
use Rattle.type_safety.specs.Fitting.{StateFits}
use Rattle.type_safety.specs.Safety.{MoveFits}
use Rattle.match_states.specs.Followed.{StatesMatch, EndingsMatch}
use Rattle.match_states.specs.MatchedFrames.{LocalsMatch, YoungestMatches}
use Rattle.match_states.specs.Setting.{Setting, table_for, source_for, widths_for}
use Rattle.match_code.specs.Standing.{emitted_at, StandsBetween}
use Rattle.match_code.proofs.CodeLayout.{same_after}
use Rattle.match_code.proofs.CodeMoves.{insn_here, move_here}
use Rattle.match_code.proofs.QuietRuns.{GoesOverAll, at_insn, behind_insn, between_past, goes_behind, youngest_between}
use Rattle.match_views.proofs.NextFrames.{states_with_frames}
use Rattle.follow_numbers.specs.WideCode.{value_refs, value_cells, IsWideCode, StandsAt}
use Rattle.follow_numbers.proofs.KnownOperands.{body_operands}
use Rattle.follow_numbers.proofs.NextStates.{body_at, found_at, is_unstuck, split_is}
use Rattle.follow_numbers.proofs.NextMoves.{AreMatched}
use Rattle.follow_numbers.proofs.WideOperands.{AreShaped, frame_shapes}

module _ {setting : Setting} {state : State} {other : split.State} {instruction : Op} (code : IsWideCode setting) (here : StandsAt setting state other instruction) where
  -- the youngest frame with other locals
  abbrev pub frame_with : List (Option Value) → Frame
  frame_with locals = record { method = here.frame.method; pc = here.frame.pc; locals = locals; operands = here.frame.operands }

  -- a frame has these locals and operands in both halves
  pub record HasMoved (set : List (Option Value)) (values : List Value) (last : SplitFrame) : Type 0 where
    pub method : last.method ≡ here.split.method
    pub locals : LocalsMatch setting (body_at here) (frame_with set) last.refs.locals last.cells.locals
    pub refs : last.refs.operands ≡ value_refs values
    pub cells : last.cells.operands ≡ value_cells values

  module _ (set : List (Option Value)) (values : List Value) (typed : move setting.world state ≡ goes_on state (frame_with set) here.frames (pc_after (body_at here).ops here.frame.pc) values) where
    -- the typed machine is not stuck, so that there is a next pc
    next_there : (next : Option ℕ) → MoveFits setting.world setting.tables (goes_on state (frame_with set) here.frames next values) → (to : ℕ) × (next ≡ Some to)
    next_there None fits = absurd fits
    next_there (Some to) fits = (to, refl)

    pub next_pc : (to : ℕ) × (pc_after (body_at here).ops here.frame.pc ≡ Some to)
    next_pc = next_there (pc_after (body_at here).ops here.frame.pc) (subst (MoveFits setting.world setting.tables) typed (is_unstuck here code))

    abbrev next_state : State
    next_state = with_frames state (at_pc (frame_with set) next_pc.0 values ∷ here.frames)

    does_next : move setting.world state ≡ Does no_need [] next_state
    does_next = typed ∙ ap (λ to. goes_on state (frame_with set) here.frames to values) next_pc.1

    next_fits : StateFits setting.world setting.tables next_state
    next_fits = subst (MoveFits setting.world setting.tables) does_next (is_unstuck here code)

    next_shapes : AreShaped (shapes_at (widths_for setting (body_at here)) (table_for setting (body_at here)) next_pc.0) values
    next_shapes =
        let body = body_at here in
        let fits = next_fits.frames.0 in
        let known : table_for setting body next_pc.0 ≡ Some fits.types = ap (λ id. setting.tables id next_pc.0) (found_at here).method ∙ fits.known in
        frame_shapes setting.world state.objects fits.body setting body (code.wide body (found_at here).of_set) next_pc.0 fits.types known
        (body_operands setting code.compiled body (found_at here).of_set next_pc.0 fits.types known) values fits.has.operands

    module _ (last : SplitFrame) (has : HasMoved set values last) (pc_is : last.pc ≡ offset_of (source_for setting (body_at here)) next_pc.0) where
      next_youngest : YoungestMatches setting (at_pc (frame_with set) next_pc.0 values) last
      next_youngest =
          let youngest = here.youngest in
          let locals = has.locals in
          let shapes = next_shapes in
          record {
            body = youngest.body;
            found = youngest.found;
            method = has.method ∙ youngest.method;
            pc = pc_is;
            locals = record { refs_are = locals.refs_are; slotted = locals.slotted; count = locals.count; numbers = locals.numbers };
            operands = record { shaped = shapes.shaped; refs_are = has.refs ∙ sym shapes.refs; cells_are = has.cells ∙ sym shapes.cells };
          }

      next_match : StatesMatch setting next_state (split.with_frames other (last ∷ here.others))
      next_match = states_with_frames setting state other (at_pc (frame_with set) next_pc.0 values ∷ here.frames) (last ∷ here.others) here.match next_fits (next_youngest, here.waiting)

    -- the split machine goes on quietly
    pub all_quiet : (emitted : List Emitted) → emitted_at setting (body_at here) here.frame.pc instruction ≡ emitted → (last : SplitFrame)
        → GoesOverAll setting.image other here.others here.split emitted last → HasMoved set values last → AreMatched setting state other
    all_quiet emitted emits last over has =
        let body = body_at here in
        let pc = here.frame.pc in
        let stands : StandsBetween setting body here.split pc instruction [] (emitted ++ []) =
        subst (λ (l : List Emitted). StandsBetween setting body here.split pc instruction [] l) (emits ∙ sym (append-nil emitted)) (youngest_between setting here.frame here.split here.youngest instruction here.at) in
        let came = goes_behind setting body pc instruction code.compiled (code.insns body (found_at here).of_set) other here.others here.split last [] emitted [] stands over in
        IsQuiet next_state does_next
        (record {
          last = split.with_frames other (last ∷ here.others);
          quiet = subst (λ from. Quietly (split_step.machine setting.image) from (split.with_frames other (last ∷ here.others))) (split_is here) came.quiet;
          related = next_match last has (between_past setting body pc instruction code.compiled last emitted came.stands next_pc.0 (sym (same_after body.ops pc) ∙ next_pc.1));
        })

    -- one machine instruction of several may change what the account sees
    pub one_loud : (first : List Emitted) (insn : MInsn) (rows : List SwitchRow) (rest : List Emitted) → emitted_at setting (body_at here) here.frame.pc instruction ≡ first ++ (insn, rows) ∷ rest
        → (before between last : SplitFrame) → GoesOverAll setting.image other here.others here.split first before
        → between.method ≡ before.method
        → split_step.move_of setting.image (split.with_frames other (before ∷ here.others)) before here.others (before.pc + length (insn_bytes insn rows)) insn rows
        ≡ split_moves.goes_on other between here.others (before.pc + length (insn_bytes insn rows))
        → GoesOverAll setting.image other here.others (split_moves.at_pc between (before.pc + length (insn_bytes insn rows))) rest last → HasMoved set values last → AreMatched setting state other
    one_loud first insn rows rest emits before between last quiet_first same_method moves quiet_rest has =
        let body = body_at here in
        let pc = here.frame.pc in
        let all = code.insns body (found_at here).of_set in
        let from = split.with_frames other (before ∷ here.others) in
        let behind = split_moves.at_pc between (before.pc + length (insn_bytes insn rows)) in
        let stands : StandsBetween setting body here.split pc instruction [] (first ++ (insn, rows) ∷ rest) =
        subst (λ (l : List Emitted). StandsBetween setting body here.split pc instruction [] l) emits (youngest_between setting here.frame here.split here.youngest instruction here.at) in
        let came = goes_behind setting body pc instruction code.compiled all other here.others here.split before [] first ((insn, rows) ∷ rest) stands quiet_first in
        let at = at_insn setting body pc instruction before first insn rows rest came.stands in
        let is = insn_here setting body before pc instruction first insn rows all rest at in
        let loud = move_here setting body before pc instruction first insn rows code.compiled rest at is from here.others refl ∙ moves in
        let past : StandsBetween setting body behind pc instruction (first ++ (insn, rows) ∷ []) (rest ++ []) =
        subst (λ (l : List Emitted). StandsBetween setting body behind pc instruction (first ++ (insn, rows) ∷ []) l) (sym (append-nil rest))
        (behind_insn setting body pc instruction before behind first insn rows rest came.stands same_method refl) in
        let later = goes_behind setting body pc instruction code.compiled all other here.others behind last (first ++ (insn, rows) ∷ []) rest [] past quiet_rest in
        let comes : ComesTo (split_step.machine setting.image) (StatesMatch setting) next_state (split.with_frames other (behind ∷ here.others)) =
        record {
          last = split.with_frames other (last ∷ here.others);
          quiet = later.quiet;
          related = next_match last has (between_past setting body pc instruction code.compiled last ((first ++ (insn, rows) ∷ []) ++ rest) later.stands next_pc.0 (sym (same_after body.ops pc) ∙ next_pc.1));
        } in
        let SameMoves : TypedMove → SplitMove → Type 0 = Alike (ComesTo (split_step.machine setting.image) (StatesMatch setting)) (EndingsMatch setting) in
        IsLoud from (subst (λ start. Quietly (split_step.machine setting.image) start from) (split_is here) came.quiet)
        (subst (λ m. SameMoves m (split_step.move setting.image from)) (sym does_next)
        (subst (SameMoves (Does no_need [] next_state)) (sym loud) (BothDo no_need [] next_state (split.with_frames other (behind ∷ here.others)) comes)))

  -- the locals stay in both halves
  pub locals_kept : (last : SplitFrame) → last.refs.locals ≡ here.split.refs.locals → last.cells.locals ≡ here.split.cells.locals
      → LocalsMatch setting (body_at here) (frame_with here.frame.locals) last.refs.locals last.cells.locals
  locals_kept last refs cells =
      let locals = here.youngest.locals in
      let kept : LocalsMatch setting (body_at here) here.frame last.refs.locals last.cells.locals =
      subst (λ refs. LocalsMatch setting (body_at here) here.frame refs last.cells.locals) (sym refs)
      (subst (LocalsMatch setting (body_at here) here.frame here.split.refs.locals) (sym cells) locals) in
      record { refs_are = kept.refs_are; slotted = kept.slotted; count = kept.count; numbers = kept.numbers }
