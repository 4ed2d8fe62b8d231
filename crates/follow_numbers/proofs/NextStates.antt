-- States that match behind an instruction, from its move on both machines.
use Rattle.std.proofs.Common.{◌≡◌, ℕ, List, [], ◌∷◌, Option, Some, option_map, refl, sym, ap, subst, ◌∙◌}
use Rattle.std.specs.Option.{option_map_or}
use Rattle.account.specs.Account.{Need, Does, Stuck, no_need}
use Rattle.account.specs.RunLaws.{Alike, BothDo, Quietly, Rests, ComesTo, Matches, IsQuiet, IsLoud}
use Rattle.body_form.specs.declared.body.Body.{Body}
use Rattle.body_form.specs.declared.op.Op.{Op}
use Rattle.jvm_model.specs.ImageEmission.{offset_of}
use Rattle.jvm_model.specs.State.{Value}
use Rattle.jvm_model.specs.WidthsShapes.{shapes_at}
use Rattle.mote_model.specs.State.{Reference, Frame as SplitFrame}
use Rattle.mote_model.specs.SplitMoves.{SplitMove}
use Rattle.mote_model.specs.SplitState as split
use Rattle.mote_model.specs.SplitStep as split_step
use Rattle.typed_machine.specs.TypedMoves.{TypedMove, at_pc}
use Rattle.typed_machine.specs.TypedState.{Frame, State, with_frames}
use Rattle.typed_machine.specs.TypedStep.{move_of, move_in, move_among, move}
use Rattle.typed_machine.specs.TypedWorld.{Placed, body_among, pc_after}
use Rattle.type_safety.specs.Fitting.{FramesFit, StateFits}
use Rattle.type_safety.specs.Safety.{MoveFits}
use Rattle.type_safety.proofs.SafeMoves.{facts_keep_safe}
use Rattle.match_states.specs.Followed.{StatesMatch, EndingsMatch}
use Rattle.match_states.specs.MatchedFrames.{LocalsMatch, YoungestMatches}
use Rattle.match_states.specs.Setting.{Setting, table_for, source_for, widths_for, id_for}
use Rattle.typed_machine.specs.TypedView.{machine}
use Rattle.match_code.proofs.MatchedCode.{IsFound, found_body}
use Rattle.match_views.proofs.NextFrames.{states_with_frames}
use Rattle.follow_numbers.proofs.KnownOperands.{body_operands}
use Rattle.follow_numbers.specs.WideCode.{value_refs, value_cells, IsWideCode, StandsAt, HasOperands}
use Rattle.follow_numbers.proofs.WideOperands.{AreShaped, frame_shapes}

-- a frame of a method stands for a typed one with these operands: its locals match
pub record Carries (setting : Setting) (body : Body) (moved : Frame) (id : ℕ) (values : List Value) (last : SplitFrame) : Type 0 where
  pub method : last.method ≡ id
  pub locals : LocalsMatch setting body moved last.refs.locals last.cells.locals
  pub refs : last.refs.operands ≡ value_refs values
  pub cells : last.cells.operands ≡ value_cells values

module _ {setting : Setting} {state : State} {other : split.State} {instruction : Op} (here : StandsAt setting state other instruction) where
  abbrev pub body_at : Body
  body_at = here.youngest.body

  pub found_at : IsFound setting.world.bodies here.frame.method here.youngest.body
  found_at = found_body setting.world.bodies here.frame.method here.youngest.body here.youngest.found

  -- the typed move is that of the instruction
  pub typed_move : move setting.world state ≡ move_of setting.world state here.frame here.frames body_at (pc_after body_at.ops here.frame.pc) instruction
  typed_move =
      let placed : Op → Placed = λ op. record { op = op; next = pc_after body_at.ops here.frame.pc } in
      let does : Placed → TypedMove = λ placed. move_of setting.world state here.frame here.frames body_at placed.next placed.op in
      ap (move_among setting.world state) here.frames_are
      ∙ ap (move_in setting.world state here.frame here.frames) here.youngest.found
      ∙ ap (λ (found : Option Op). option_map_or does (option_map placed found) Stuck) here.at

  -- the split state has the frame and the others
  pub split_is : split.with_frames other (here.split ∷ here.others) ≡ other
  split_is = sym (ap (split.with_frames other) here.others_are)

  module _ (code : IsWideCode setting) where
    -- the operands before the instruction stand in both halves as they are
    pub operands_at : AreShaped (shapes_at (widths_for setting body_at) (table_for setting body_at) here.frame.pc) here.frame.operands
    operands_at =
        let fits = (subst (FramesFit setting.world setting.tables state.objects) here.frames_are here.match.fits.frames).0 in
        let known : table_for setting body_at here.frame.pc ≡ Some fits.types = ap (λ id. setting.tables id here.frame.pc) found_at.method ∙ fits.known in
        frame_shapes setting.world state.objects fits.body setting body_at (code.wide body_at found_at.of_set) here.frame.pc fits.types known
        (body_operands setting code.compiled body_at found_at.of_set here.frame.pc fits.types known) here.frame.operands fits.has.operands

    pub refs_at : here.split.refs.operands ≡ value_refs here.frame.operands
    refs_at = here.youngest.operands.refs_are ∙ operands_at.refs

    pub cells_at : here.split.cells.operands ≡ value_cells here.frame.operands
    cells_at = here.youngest.operands.cells_are ∙ operands_at.cells

    -- the machine is not stuck
    pub is_unstuck : MoveFits setting.world setting.tables (move setting.world state)
    is_unstuck = facts_keep_safe setting.world setting.tables code.compiled.typed state here.match.fits

    -- the frame that goes on may have other locals
    module _ (need : Need) (moved : Frame) (same : moved.method ≡ here.frame.method) (to : ℕ) (values : List Value)
        (typed : move setting.world state ≡ Does need [] (with_frames state (at_pc moved to values ∷ here.frames))) where
      pub moved_fits : StateFits setting.world setting.tables (with_frames state (at_pc moved to values ∷ here.frames))
      moved_fits = subst (MoveFits setting.world setting.tables) typed is_unstuck

      pub moved_shapes : AreShaped (shapes_at (widths_for setting body_at) (table_for setting body_at) to) values
      moved_shapes =
          let fits = moved_fits.frames.0 in
          let known : table_for setting body_at to ≡ Some fits.types = ap (λ id. setting.tables id to) (found_at.method ∙ sym same) ∙ fits.known in
          frame_shapes setting.world state.objects fits.body setting body_at (code.wide body_at found_at.of_set) to fits.types known
          (body_operands setting code.compiled body_at found_at.of_set to fits.types known) values fits.has.operands

      module _ (last : SplitFrame) (carries : Carries setting body_at moved here.split.method values last) (pc_is : last.pc ≡ offset_of (source_for setting body_at) to) where
        moved_youngest : YoungestMatches setting (at_pc moved to values) last
        moved_youngest =
            let youngest = here.youngest in
            let locals = carries.locals in
            let shapes = moved_shapes in
            record {
              body = youngest.body;
              found = ap (body_among setting.world.bodies) same ∙ youngest.found;
              method = carries.method ∙ youngest.method ∙ ap (id_for setting) (sym same);
              pc = pc_is;
              locals = record { refs_are = locals.refs_are; slotted = locals.slotted; count = locals.count; numbers = locals.numbers };
              operands = record { shaped = shapes.shaped; refs_are = carries.refs ∙ sym shapes.refs; cells_are = carries.cells ∙ sym shapes.cells };
            }

        pub moved_match : StatesMatch setting (with_frames state (at_pc moved to values ∷ here.frames)) (split.with_frames other (last ∷ here.others))
        moved_match = states_with_frames setting state other (at_pc moved to values ∷ here.frames) (last ∷ here.others) here.match moved_fits (moved_youngest, here.waiting)

    module _ (need : Need) (to : ℕ) (values : List Value) (typed : move setting.world state ≡ Does need [] (with_frames state (at_pc here.frame to values ∷ here.frames))) where
      pub next_shapes : AreShaped (shapes_at (widths_for setting body_at) (table_for setting body_at) to) values
      next_shapes = moved_shapes need here.frame refl to values typed

      module _ (last : SplitFrame) (has : HasOperands here.split last values) (pc_is : last.pc ≡ offset_of (source_for setting body_at) to) where
        pub next_match : StatesMatch setting (with_frames state (at_pc here.frame to values ∷ here.frames)) (split.with_frames other (last ∷ here.others))
        next_match =
            let locals : LocalsMatch setting body_at here.frame last.refs.locals last.cells.locals =
            subst (λ (refs : List Reference). LocalsMatch setting body_at here.frame refs last.cells.locals) (sym has.ref_locals)
            (subst (LocalsMatch setting body_at here.frame here.split.refs.locals) (sym has.cell_locals) here.youngest.locals) in
            moved_match need here.frame refl to values typed last (record { method = has.method; locals = locals; refs = has.refs; cells = has.cells }) pc_is

        -- both machines make the same move, the split one after some that are quiet
        pub goes_to : (from : split.State) → Quietly (split_step.machine setting.image) other from → split_step.move setting.image from ≡ Does need [] (split.with_frames other (last ∷ here.others))
            → Matches (machine setting.world) (split_step.machine setting.image) (StatesMatch setting) (EndingsMatch setting) state other
        goes_to from quiet moves =
            let next = with_frames state (at_pc here.frame to values ∷ here.frames) in
            let after = split.with_frames other (last ∷ here.others) in
            let comes : ComesTo (split_step.machine setting.image) (StatesMatch setting) next after = record { last = after; quiet = Rests after; related = next_match } in
            let SameMoves : TypedMove → SplitMove → Type 0 = Alike (ComesTo (split_step.machine setting.image) (StatesMatch setting)) (EndingsMatch setting) in
            IsLoud from quiet (subst (λ m. SameMoves m (split_step.move setting.image from)) (sym typed) (subst (SameMoves (Does need [] next)) (sym moves) (BothDo need [] next after comes)))

    -- the typed machine goes on quietly, and the split one over several instructions
    pub goes_quietly : (to : ℕ) (values : List Value) (last : SplitFrame) → move setting.world state ≡ Does no_need [] (with_frames state (at_pc here.frame to values ∷ here.frames))
        → HasOperands here.split last values → last.pc ≡ offset_of (source_for setting body_at) to → Quietly (split_step.machine setting.image) other (split.with_frames other (last ∷ here.others))
        → Matches (machine setting.world) (split_step.machine setting.image) (StatesMatch setting) (EndingsMatch setting) state other
    goes_quietly to values last typed carries pc_is quiet =
        IsQuiet (with_frames state (at_pc here.frame to values ∷ here.frames)) typed
        (record { last = split.with_frames other (last ∷ here.others); quiet = quiet; related = next_match no_need to values typed last carries pc_is })
