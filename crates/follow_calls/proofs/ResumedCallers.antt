-- A caller goes on behind its call on both machines, and the split one quietly reads the result that came.
use Rattle.std.proofs.Common.{◌≡◌, ℕ, ◌+◌, List, [], ◌∷◌, ◌++◌, length, Option, Some, None, option_map, refl, sym, ap, subst, ◌∙◌, append-nil}
use Rattle.std.specs.Option.{option_map_or}
use Rattle.account.specs.Account.{Does, Stuck, no_need}
use Rattle.account.specs.RunLaws.{Alike, BothDo, ComesTo}
use Rattle.image_instr.specs.Insn.{insn_bytes}
use Rattle.body_form.specs.declared.body.Body.{Body}
use Rattle.body_form.specs.declared.op.Op.{Op}
use Rattle.jvm_model.specs.Bodies.{AreEach}
use Rattle.jvm_model.specs.ImageEmission.{offset_of}
use Rattle.jvm_model.specs.ImageExpansion.{Emitted}
use Rattle.jvm_model.specs.State.{Value}
use Rattle.jvm_model.specs.WidthsShapes.{shapes_at}
use Rattle.mote_model.specs.State.{Frame as SplitFrame}
use Rattle.mote_model.specs.SplitMoves as split_moves
use Rattle.mote_model.specs.SplitMoves.{SplitMove}
use Rattle.mote_model.specs.SplitState as split
use Rattle.mote_model.specs.SplitStep as split_step
use Rattle.typed_machine.specs.TypedCalls.{resumes}
use Rattle.typed_machine.specs.TypedMoves.{TypedMove, at_pc, does_next}
use Rattle.typed_machine.specs.TypedState.{Frame, State, with_frames}
use Rattle.typed_machine.specs.TypedWorld.{Placed, body_among, pc_after}
use Rattle.type_safety.specs.Fitting.{StateFits}
use Rattle.type_safety.specs.Safety.{MoveFits}
use Rattle.match_states.specs.Followed.{StatesMatch, EndingsMatch}
use Rattle.match_states.specs.MatchedFrames.{YoungestMatches, WaitingMatches}
use Rattle.match_states.specs.Setting.{Setting, table_for, source_for, widths_for, id_for}
use Rattle.match_code.specs.Standing.{StandsInExpansion, StandsBetween, WentOver}
use Rattle.match_code.proofs.CodeLayout.{same_after}
use Rattle.match_code.proofs.CodeMoves.{insn_here, resumes_here, stands_same}
use Rattle.match_code.proofs.MatchedCode.{IsFound, IsCall, found_body, cuts_at}
use Rattle.match_code.proofs.QuietRuns.{GoesOverAll, behind_insn, between_past, goes_behind}
use Rattle.match_views.proofs.NextFrames.{states_with_frames}
use Rattle.follow_numbers.specs.WideCode.{IsWideCode}
use Rattle.follow_numbers.proofs.KnownOperands.{body_operands}
use Rattle.follow_numbers.proofs.NextStates.{Carries}
use Rattle.follow_numbers.proofs.WideOperands.{AreShaped, frame_shapes}

module _ {setting : Setting} {state : State} {other : split.State} (code : IsWideCode setting) (match : StatesMatch setting state other)
    (caller : Frame) (frames : List Frame) (below : SplitFrame) (others : List SplitFrame) (waiting : WaitingMatches setting caller below) (waits : AreEach (WaitingMatches setting) frames others) where
  abbrev pub body_below : Body
  body_below = waiting.body

  pub found_below : IsFound setting.world.bodies caller.method body_below
  found_below = found_body setting.world.bodies caller.method waiting.body waiting.found

  -- the typed move looks up the instruction at which the caller stands
  typed_resumes : (values : List Value) → resumes setting.world state caller frames values (body_among setting.world.bodies caller.method)
      ≡ does_next no_need [] state caller frames (pc_after body_below.ops caller.pc) values
  typed_resumes values =
      let placed : Op → Placed = λ op. record { op = op; next = pc_after body_below.ops caller.pc } in
      let does : Placed → TypedMove = λ placed. does_next no_need [] state caller frames placed.next values in
      ap (resumes setting.world state caller frames values) waiting.found
      ∙ ap (λ (found : Option Op). option_map_or does (option_map placed found) Stuck) waiting.at

  next_there : (next : Option ℕ) (values : List Value) → MoveFits setting.world setting.tables (does_next no_need [] state caller frames next values) → (to : ℕ) × (next ≡ Some to)
  next_there None values fits = absurd fits
  next_there (Some to) values fits = (to, refl)

  module _ (values : List Value) (unstuck : MoveFits setting.world setting.tables (resumes setting.world state caller frames values (body_among setting.world.bodies caller.method))) where
    -- the machine is not stuck, so that there is a next pc
    pub next_below : (to : ℕ) × (pc_after body_below.ops caller.pc ≡ Some to)
    next_below = next_there (pc_after body_below.ops caller.pc) values (subst (MoveFits setting.world setting.tables) (typed_resumes values) unstuck)

    abbrev pub resumed : State
    resumed = with_frames state (at_pc caller next_below.0 values ∷ frames)

    resumes_typed : resumes setting.world state caller frames values (body_among setting.world.bodies caller.method) ≡ Does no_need [] resumed
    resumes_typed = typed_resumes values ∙ ap (λ to. does_next no_need [] state caller frames to values) next_below.1

    resumed_fits : StateFits setting.world setting.tables resumed
    resumed_fits = subst (MoveFits setting.world setting.tables) resumes_typed unstuck

    pub resumed_shapes : AreShaped (shapes_at (widths_for setting body_below) (table_for setting body_below) next_below.0) values
    resumed_shapes =
        let body = body_below in
        let fits = resumed_fits.frames.0 in
        let known : table_for setting body next_below.0 ≡ Some fits.types = ap (λ id. setting.tables id next_below.0) found_below.method ∙ fits.known in
        frame_shapes setting.world state.objects fits.body setting body (code.wide body found_below.of_set) next_below.0 fits.types known
        (body_operands setting code.compiled body found_below.of_set next_below.0 fits.types known) values fits.has.operands

    module _ (call : IsCall setting waiting.body caller.pc waiting.instruction waiting.used) (pushed last : SplitFrame) (over : WentOver below pushed 0)
        (read : GoesOverAll setting.image other others (split_moves.at_pc pushed (pushed.pc + length (insn_bytes call.insn []))) call.rest last)
        (carries : Carries setting body_below caller below.method values last) where
      abbrev behind : SplitFrame
      behind = split_moves.at_pc pushed (pushed.pc + length (insn_bytes call.insn []))

      stands_there : StandsInExpansion setting body_below pushed caller.pc waiting.instruction (cuts_at setting body_below caller.pc waiting.used) call.insn [] call.rest
      stands_there =
          let at_call : StandsInExpansion setting body_below below caller.pc waiting.instruction (cuts_at setting body_below caller.pc waiting.used) call.insn [] call.rest =
          record {
            of_set = found_below.of_set;
            method = waiting.method ∙ ap (id_for setting) (sym found_below.method);
            at = waiting.at;
            emitted = call.emitted;
            pc_is = waiting.pc;
          } in
          stands_same setting body_below below caller.pc waiting.instruction (cuts_at setting body_below caller.pc waiting.used) call.insn [] call.rest at_call pushed over

      resumes_split : split_step.resumes setting.image other pushed others ≡ Does no_need [] (split.with_frames other (behind ∷ others))
      resumes_split =
          let first = cuts_at setting body_below caller.pc waiting.used in
          let is = insn_here setting body_below pushed caller.pc waiting.instruction first call.insn [] (code.insns body_below found_below.of_set) call.rest stands_there in
          resumes_here setting body_below pushed caller.pc waiting.instruction first call.insn [] code.compiled call.rest stands_there is other others

      youngest_below : last.pc ≡ offset_of (source_for setting body_below) next_below.0 → YoungestMatches setting (at_pc caller next_below.0 values) last
      youngest_below pc_is =
          let locals = carries.locals in
          record {
            body = waiting.body;
            found = waiting.found;
            method = carries.method ∙ waiting.method;
            pc = pc_is;
            locals = record { refs_are = locals.refs_are; slotted = locals.slotted; count = locals.count; numbers = locals.numbers };
            operands = record { shaped = resumed_shapes.shaped; refs_are = carries.refs ∙ sym resumed_shapes.refs; cells_are = carries.cells ∙ sym resumed_shapes.cells };
          }

      comes : ComesTo (split_step.machine setting.image) (StatesMatch setting) resumed (split.with_frames other (behind ∷ others))
      comes =
          let body = body_below in
          let pc = caller.pc in
          let instruction = waiting.instruction in
          let first = cuts_at setting body pc waiting.used in
          let insn = call.insn in
          let rest = call.rest in
          let there = stands_there in
          let between : StandsBetween setting body pushed pc instruction first ((insn, []) ∷ rest) =
          record { of_set = there.of_set; method = there.method; at = there.at; emitted = there.emitted; pc_is = there.pc_is } in
          let past : StandsBetween setting body behind pc instruction (first ++ (insn, []) ∷ []) (rest ++ []) =
          subst (λ (l : List Emitted). StandsBetween setting body behind pc instruction (first ++ (insn, []) ∷ []) l) (sym (append-nil rest))
          (behind_insn setting body pc instruction pushed behind first insn [] rest between refl refl) in
          let later = goes_behind setting body pc instruction code.compiled (code.insns body found_below.of_set) other others behind last (first ++ (insn, []) ∷ []) rest [] past read in
          let pc_is = between_past setting body pc instruction code.compiled last ((first ++ (insn, []) ∷ []) ++ rest) later.stands next_below.0 (sym (same_after body.ops pc) ∙ next_below.1) in
          record {
            last = split.with_frames other (last ∷ others);
            quiet = later.quiet;
            related = states_with_frames setting state other (at_pc caller next_below.0 values ∷ frames) (last ∷ others) match resumed_fits (youngest_below pc_is, waits);
          }

      abbrev pub SameMoves : TypedMove → SplitMove → Type 0
      SameMoves = Alike (ComesTo (split_step.machine setting.image) (StatesMatch setting)) (EndingsMatch setting)

      -- both resume alike
      pub resume_alike : SameMoves (resumes setting.world state caller frames values (body_among setting.world.bodies caller.method)) (split_step.resumes setting.image other pushed others)
      resume_alike =
          let after = split.with_frames other (behind ∷ others) in
          subst (λ m. SameMoves m (split_step.resumes setting.image other pushed others)) (sym resumes_typed)
          (subst (SameMoves (Does no_need [] resumed)) (sym resumes_split) (BothDo no_need [] resumed after comes))
