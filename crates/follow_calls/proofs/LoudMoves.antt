-- Moves of both machines that need the same and show the same, behind which answers are left.
use Rattle.std.proofs.Common.{◌≡◌, ℕ, List, ◌∷◌, Option, Some, None, refl, sym, ap, subst, ◌∙◌}
use Rattle.dialogue.specs.Answers.{Answers}
use Rattle.account.specs.Account.{Event, Need, Does}
use Rattle.account.specs.RunLaws.{Alike, BothDo, ComesTo, Rests, IsLoud}
use Rattle.body_form.specs.declared.op.Op.{Op}
use Rattle.jvm_model.specs.ImageEmission.{offset_of}
use Rattle.jvm_model.specs.State.{Value}
use Rattle.jvm_model.specs.WidthsShapes.{shapes_at}
use Rattle.mote_model.specs.State.{Reference, Frame as SplitFrame}
use Rattle.mote_model.specs.SplitMoves.{SplitMove}
use Rattle.mote_model.specs.SplitState as split
use Rattle.mote_model.specs.SplitStep as split_step
use Rattle.typed_machine.specs.TypedMoves.{TypedMove, at_pc, does_next}
use Rattle.typed_machine.specs.TypedState.{State, with_frames, with_answers}
use Rattle.typed_machine.specs.TypedStep.{move}
use Rattle.type_safety.specs.Fitting.{StateFits}
use Rattle.type_safety.specs.Safety.{MoveFits}
use Rattle.match_states.specs.Followed.{StatesMatch, EndingsMatch}
use Rattle.match_states.specs.MatchedFrames.{LocalsMatch, YoungestMatches}
use Rattle.match_states.specs.Setting.{Setting, table_for, source_for, widths_for}
use Rattle.follow_numbers.specs.WideCode.{IsWideCode, StandsAt, HasOperands}
use Rattle.follow_numbers.proofs.KnownOperands.{body_operands}
use Rattle.follow_numbers.proofs.NextMoves.{AreMatched}
use Rattle.follow_numbers.proofs.NextStates.{body_at, found_at, is_unstuck}
use Rattle.follow_numbers.proofs.WideOperands.{AreShaped, frame_shapes}

module _ {setting : Setting} {state : State} {other : split.State} {instruction : Op} (code : IsWideCode setting) (here : StandsAt setting state other instruction) (need : Need) (events : List Event) where
  -- where the typed machine would go on, there is a next pc
  pub led_there : (from : State) (next : Option ℕ) (values : List Value) → MoveFits setting.world setting.tables (does_next need events from here.frame here.frames next values) → (to : ℕ) × (next ≡ Some to)
  led_there from None values fits = absurd fits
  led_there from (Some to) values fits = (to, refl)

  module _ (answers : Answers) (to : ℕ) (values : List Value) (typed : move setting.world state ≡ Does need events (with_frames (with_answers state answers) (at_pc here.frame to values ∷ here.frames))) where
    abbrev next : State
    next = with_frames (with_answers state answers) (at_pc here.frame to values ∷ here.frames)

    next_fits : StateFits setting.world setting.tables next
    next_fits = subst (MoveFits setting.world setting.tables) typed (is_unstuck here code)

    pub loud_shapes : AreShaped (shapes_at (widths_for setting (body_at here)) (table_for setting (body_at here)) to) values
    loud_shapes =
        let body = body_at here in
        let found = found_at here in
        let fits = next_fits.frames.0 in
        let known : table_for setting body to ≡ Some fits.types = ap (λ id. setting.tables id to) found.method ∙ fits.known in
        frame_shapes setting.world state.objects fits.body setting body (code.wide body found.of_set) to fits.types known
        (body_operands setting code.compiled body found.of_set to fits.types known) values fits.has.operands

    module _ (last : SplitFrame) (has : HasOperands here.split last values) (pc_is : last.pc ≡ offset_of (source_for setting (body_at here)) to) (left : Answers) (left_is : left ≡ answers) where
      abbrev after : split.State
      after = record other { frames = last ∷ here.others; answers = left }

      youngest_next : YoungestMatches setting (at_pc here.frame to values) last
      youngest_next =
          let youngest = here.youngest in
          let shapes = loud_shapes in
          let locals : LocalsMatch setting (body_at here) here.frame last.refs.locals last.cells.locals =
          subst (λ (refs : List Reference). LocalsMatch setting (body_at here) here.frame refs last.cells.locals) (sym has.ref_locals)
          (subst (LocalsMatch setting (body_at here) here.frame here.split.refs.locals) (sym has.cell_locals) youngest.locals) in
          record {
            body = youngest.body;
            found = youngest.found;
            method = has.method ∙ youngest.method;
            pc = pc_is;
            locals = record { refs_are = locals.refs_are; slotted = locals.slotted; count = locals.count; numbers = locals.numbers };
            operands = record { shaped = shapes.shaped; refs_are = has.refs ∙ sym shapes.refs; cells_are = has.cells ∙ sym shapes.cells };
          }

      next_match : StatesMatch setting next after
      next_match = record { fits = next_fits; frames = (youngest_next, here.waiting); objects = here.match.objects; statics = here.match.statics; answers = left_is }

      -- both machines make the same move
      pub goes_loudly : split_step.move setting.image other ≡ Does need events after → AreMatched setting state other
      goes_loudly moves =
          let comes : ComesTo (split_step.machine setting.image) (StatesMatch setting) next after = record { last = after; quiet = Rests after; related = next_match } in
          let SameMoves : TypedMove → SplitMove → Type 0 = Alike (ComesTo (split_step.machine setting.image) (StatesMatch setting)) (EndingsMatch setting) in
          IsLoud other (Rests other) (subst (λ m. SameMoves m (split_step.move setting.image other)) (sym typed) (subst (SameMoves (Does need events next)) (sym moves) (BothDo need events next after comes)))
