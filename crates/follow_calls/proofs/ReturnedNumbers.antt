-- The split machine follows the typed one where a method returns a whole number: its caller reads it as two cells again, or
-- the run is done.
use Rattle.std.proofs.Common.{◌≡◌, ℕ, ◌+◌, List, [], ◌∷◌, ◌++◌, length, reverse, Option, Some, refl, sym, ap, subst, ◌∙◌, arith}
use Rattle.std.specs.Option.{option_map_or}
use Rattle.account.specs.Account.{Stops, no_need}
use Rattle.account.specs.RunLaws.{Alike, BothStop, ComesTo, IsLoud}
use Rattle.class_pool.specs.declared.descriptor.Kind.{Kind as DeclaredKind}
use Rattle.image_instr.specs.declared.insn.Kind.TheVariants as kind
use Rattle.image_instr.specs.Insn.{insn_bytes}
use Rattle.insn_form.specs.declared.ValueKind.TheVariants as value_kind
use Rattle.body_form.specs.declared.op.Op.TheVariants as op
use Rattle.jvm_model.specs.Bodies.{AreEach}
use Rattle.jvm_model.specs.ImageExpansion.{Emitted, read_as, top_of}
use Rattle.jvm_model.specs.State.{Value, Whole}
use Rattle.jvm_model.specs.WidthsShapes.{point_at, shapes_at}
use Rattle.mote_model.specs.State.{Reference, Frame as SplitFrame}
use Rattle.mote_model.specs.SplitMoves as split_moves
use Rattle.mote_model.specs.SplitMoves.{SplitMove, push_cells, take_cells}
use Rattle.mote_model.specs.SplitState as split
use Rattle.mote_model.specs.SplitStep as split_step
use Rattle.typed_machine.specs.TypedCalls.{resumes, returns}
use Rattle.typed_machine.specs.TypedMoves.{TypedMove, Done}
use Rattle.typed_machine.specs.TypedState.{Frame, State}
use Rattle.typed_machine.specs.TypedStep.{move}
use Rattle.typed_machine.specs.TypedWorld.{body_among}
use Rattle.type_safety.specs.Safety.{MoveFits}
use Rattle.match_states.specs.Followed.{StatesMatch, EndingsMatch, BothDone}
use Rattle.match_states.specs.MatchedFrames.{LocalsMatch, WaitingMatches}
use Rattle.match_states.specs.Setting.{Setting, table_for, widths_for}
use Rattle.match_code.specs.Standing.{WentOver}
use Rattle.match_code.proofs.CodeLayout.{same_after}
use Rattle.match_code.proofs.MatchedCode.{found_body}
use Rattle.match_code.proofs.QuietRuns.{GoesOverAll}
use Rattle.follow_numbers.specs.WideCode.{IsWideCode, StandsAt, value_cells}
use Rattle.follow_numbers.proofs.NextStates.{Carries, body_at, is_unstuck}
use Rattle.follow_numbers.proofs.NextMoves.{AreMatched}
use Rattle.follow_calls.proofs.CallResults.{call_reads}
use Rattle.follow_calls.proofs.KeptNumbers.{kept_cells, read_back}
use Rattle.follow_calls.proofs.ResumedCallers.{next_below, resumed_shapes, resume_alike}
use Rattle.follow_calls.proofs.ReturnedFrames.{result_awaited}
use Rattle.follow_calls.proofs.WaitingOperands.{operands_below}
use Rattle.follow_calls.proofs.CutResults.{ResultHasDims, ReturnsNumber, returns_number}

-- the locals match in another frame that has them
pub same_locals : (setting : Setting) (caller : Frame) (below last : SplitFrame) (waiting : WaitingMatches setting caller below) → last.refs ≡ below.refs → last.cells.locals ≡ below.cells.locals
    → LocalsMatch setting waiting.body caller last.refs.locals last.cells.locals
same_locals setting caller below last waiting refs cells =
    let locals = waiting.locals in
    let held : LocalsMatch setting waiting.body caller below.refs.locals below.cells.locals =
    record { refs_are = locals.refs_are; slotted = locals.slotted; count = locals.count; numbers = locals.numbers } in
    subst (λ (l : List Reference). LocalsMatch setting waiting.body caller l last.cells.locals) (ap (λ half. half.locals) (sym refs))
    (subst (LocalsMatch setting waiting.body caller below.refs.locals) (sym cells) held)

module _ {setting : Setting} {state : State} {other : split.State} (code : IsWideCode setting) (here : StandsAt setting state other (op.Return (Some value_kind.Int)))
    (returned : ReturnsNumber here) where
  abbrev SameMoves : TypedMove → SplitMove → Type 0
  SameMoves = Alike (ComesTo (split_step.machine setting.image) (StatesMatch setting)) (EndingsMatch setting)

  returns_to : (caller : Frame) (frames : List Frame) (below : SplitFrame) (others : List SplitFrame) → here.frames ≡ caller ∷ frames → here.others ≡ below ∷ others
      → WaitingMatches setting caller below → AreEach (WaitingMatches setting) frames others → AreMatched setting state other
  returns_to caller frames below others frames_are others_are waiting waits =
      let values : List Value = Whole returned.number ∷ caller.operands in
      let body = waiting.body in
      let typed : move setting.world state ≡ resumes setting.world state caller frames values (body_among setting.world.bodies caller.method) =
      returned.typed ∙ ap (λ (frames : List Frame). returns setting.world state frames (Whole returned.number ∷ [])) frames_are in
      let pushed = push_cells (kept_cells returned.result returned.number) below in
      let loud : split_step.move setting.image returned.from ≡ split_step.resumes setting.image other pushed others =
      returned.loud ∙ ap (λ (others : List SplitFrame). split_step.returns setting.image other others (push_cells (kept_cells returned.result returned.number))) others_are in
      let unstuck = subst (MoveFits setting.world setting.tables) typed (is_unstuck here code) in
      let reads = call_reads setting body caller.pc waiting.instruction waiting.used waiting.taken waiting.call in
      let shapes = shapes_at (widths_for setting body) (table_for setting body) in
      let next = next_below code here.match caller frames below others waiting waits values unstuck in
      let two : top_of (point_at body.ops (widths_for setting body) (table_for setting body) caller.pc).after ≡ kind.Two =
      ap (λ (to : Option ℕ). top_of (option_map_or shapes to [])) (sym (same_after body.ops caller.pc) ∙ next.1)
      ∙ (resumed_shapes code here.match caller frames below others waiting waits values unstuck).top returned.number caller.operands refl in
      let rest : reads.call.rest ≡ read_as returned.result kind.Two =
      reads.read
      ∙ ap (λ (declared : Option DeclaredKind). option_map_or (λ result. read_as result (top_of (point_at body.ops (widths_for setting body) (table_for setting body) caller.pc).after)) declared [])
      (result_awaited here caller frames below waiting frames_are ∙ returned.declared)
      ∙ ap (read_as returned.result) two in
      let found = found_body setting.world.bodies caller.method body waiting.found in
      let stand = operands_below setting body (code.wide body found.of_set) caller.pc waiting.taken caller.operands waiting.operands.shaped in
      let behind = split_moves.at_pc pushed (pushed.pc + length (insn_bytes reads.call.insn [])) in
      let read = read_back setting.image other others behind returned.number (value_cells caller.operands) returned.result returned.whole returned.kept
      (ap (λ (l : List ℕ). reverse (kept_cells returned.result returned.number) ++ l) (waiting.operands.cells_are ∙ stand.cells)) in
      let over : GoesOverAll setting.image other others behind reads.call.rest read.last = subst (λ (l : List Emitted). GoesOverAll setting.image other others behind l read.last) (sym rest) read.over in
      let carries : Carries setting body caller below.method values read.last =
      record {
        method = read.method;
        locals = same_locals setting caller below read.last waiting read.refs read.locals;
        refs = ap (λ half. half.operands) read.refs ∙ waiting.operands.refs_are ∙ stand.refs;
        cells = read.cells_are;
      } in
      let went : WentOver below pushed 0 = record { method = refl; pc = omega arith } in
      let alike = resume_alike code here.match caller frames below others waiting waits values unstuck reads.call pushed read.last went over carries in
      IsLoud returned.from returned.quiet (subst (λ m. SameMoves m (split_step.move setting.image returned.from)) (sym typed)
      (subst (SameMoves (resumes setting.world state caller frames values (body_among setting.world.bodies caller.method))) (sym loud) alike))

  by_frames : (frames : List Frame) (others : List SplitFrame) → here.frames ≡ frames → here.others ≡ others → AreEach (WaitingMatches setting) frames others → AreMatched setting state other
  by_frames [] [] frames_are others_are waits =
      let typed : move setting.world state ≡ Stops no_need [] Done = returned.typed ∙ ap (λ (frames : List Frame). returns setting.world state frames (Whole returned.number ∷ [])) frames_are in
      let loud : split_step.move setting.image returned.from ≡ Stops no_need [] split_moves.Done =
      returned.loud ∙ ap (λ (others : List SplitFrame). split_step.returns setting.image other others (push_cells (kept_cells returned.result returned.number))) others_are in
      IsLoud returned.from returned.quiet
      (subst (λ m. SameMoves m (split_step.move setting.image returned.from)) (sym typed) (subst (SameMoves (Stops no_need [] Done)) (sym loud) (BothStop no_need [] Done split_moves.Done BothDone)))
  by_frames [] (below ∷ others) frames_are others_are waits = absurd waits
  by_frames (caller ∷ frames) [] frames_are others_are waits = absurd waits
  by_frames (caller ∷ frames) (below ∷ others) frames_are others_are waits = returns_to caller frames below others frames_are others_are waits.0 waits.1

  number_returned : AreMatched setting state other
  number_returned = by_frames here.frames here.others refl refl here.waiting

pub return_int_follows : {setting : Setting} {state : State} {other : split.State} (code : IsWideCode setting) (here : StandsAt setting state other (op.Return (Some value_kind.Int)))
    → ResultHasDims (body_at here) → AreMatched setting state other
return_int_follows code here dims = number_returned code here (returns_number code here dims)
