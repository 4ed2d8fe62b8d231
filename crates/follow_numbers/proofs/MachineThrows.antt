-- The split machine follows the typed one where the machine throws an object that it makes.
use Rattle.std.proofs.Common.{◌≡◌, ℕ, ◌+◌, true, false, List, [], ◌∷◌, ◌++◌, length, Option, Some, None, refl, sym, ap, subst, ◌∙◌}
use Rattle.account.specs.Account.{Need, Does, Stops}
use Rattle.account.specs.RunLaws.{Alike, BothDo, BothStop, Quietly, Rests, ComesTo, IsLoud}
use Rattle.class_tree.specs.Subtypes.{class_type}
use Rattle.image_form.specs.declared.record.HandlerEntry.{HandlerEntry}
use Rattle.image_instr.specs.declared.insn.MInsn.{MInsn}
use Rattle.image_instr.specs.declared.insn.SwitchRow.{SwitchRow}
use Rattle.image_instr.specs.Insn.{insn_bytes}
use Rattle.body_form.specs.declared.op.Op.{Op}
use Rattle.jvm_model.specs.Bodies.{AreEach}
use Rattle.jvm_model.specs.ImageExpansion.{Emitted}
use Rattle.jvm_model.specs.ImageNumbering.{type_id}
use Rattle.jvm_model.specs.State.{Name}
use Rattle.mote_model.specs.State.{Reference, Frame as SplitFrame, Object as SplitObject}
use Rattle.mote_model.specs.SplitMoves as split_moves
use Rattle.mote_model.specs.SplitMoves.{SplitMove}
use Rattle.mote_model.specs.SplitState as split
use Rattle.mote_model.specs.SplitState.{with_frames as with_split_frames}
use Rattle.mote_model.specs.SplitStep as split_step
use Rattle.mote_model.specs.SplitTypes as split_types
use Rattle.typed_machine.specs.TypedMoves as typed
use Rattle.typed_machine.specs.TypedMoves.{TypedMove, Uncaught, at_pc}
use Rattle.typed_machine.specs.TypedState.{Frame, Object, State, with_frames, with_objects}
use Rattle.typed_machine.specs.TypedStep.{move}
use Rattle.typed_machine.specs.TypedWorld.{new_object, object_cells}
use Rattle.type_safety.specs.Fitting.{StateFits}
use Rattle.type_safety.specs.Safety.{MoveFits}
use Rattle.match_states.specs.Followed.{StatesMatch, EndingsMatch, BothUncaught}
use Rattle.match_states.specs.MatchedFrames.{LocalsMatch, YoungestMatches, WaitingMatches}
use Rattle.match_states.specs.MatchedObjects.{ObjectMatches}
use Rattle.match_states.specs.Setting.{Setting, table_for}
use Rattle.match_code.specs.Standing.{emitted_at, StandsBetween}
use Rattle.match_code.proofs.CodeMoves.{insn_here, move_here}
use Rattle.match_code.proofs.MatchedCode.{found_body}
use Rattle.match_code.proofs.QuietRuns.{GoesOverAll, OverNone, at_insn, goes_behind, youngest_between}
use Rattle.match_views.proofs.MatchedLists.{each_count}
use Rattle.match_views.proofs.NextObjects.{each_joined}
use Rattle.follow_numbers.proofs.KnownOperands.{body_operands}
use Rattle.follow_numbers.specs.WideCode.{IsWideCode, StandsAt}
use Rattle.follow_numbers.proofs.WideOperands.{frame_shapes}
use Rattle.follow_numbers.proofs.NextStates.{body_at, found_at, is_unstuck, split_is}
use Rattle.follow_numbers.proofs.NextMoves.{AreMatched, next_offset}
use Rattle.follow_numbers.proofs.CaughtFrames.{AllCatchAlike, Entered, CaughtAlike, NoneCatches, BothCatch, caught_behind}

-- A class of which the machine throws objects has its number as the id of its type, new objects of it match and have as
-- many cells, and rows catch them alike.
pub record ThrowsAlike (setting : Setting) (class : ℕ) : Type 0 where
  pub id : type_id setting.numbering.types (class_type class) ≡ class
  pub object : ObjectMatches setting (new_object setting.world.files class) (split_types.new_object setting.image class)
  pub cells : object_cells setting.world.files class ≡ split.object_cells (split_types.new_object setting.image class)
  pub catch : AllCatchAlike setting class class

module _ (setting : Setting) (code : IsWideCode setting) (state : State) (other : split.State) (match : StatesMatch setting state other) (made : Object) (held : SplitObject) (matched : ObjectMatches setting made held) (behind : List SplitFrame) where
  -- the state that stands behind quiet instructions
  abbrev from : split.State
  from = split.with_frames other behind

  abbrev after : State
  after = with_objects state (made ∷ [])

  abbrev split_after : split.State
  split_after = split.with_objects from (held ∷ [])

  -- a frame that is entered at a row matches
  entered_match : (name : ℕ) (frame : Frame) (frames : List Frame) (split : SplitFrame) (others : List SplitFrame) (target : ℕ) (row : HandlerEntry) → Entered setting frame split target row
      → AreEach (WaitingMatches setting) frames others → StateFits setting.world setting.tables (with_frames after (at_pc frame target (Name name ∷ []) ∷ frames))
      → StatesMatch setting (with_frames after (at_pc frame target (Name name ∷ []) ∷ frames)) (with_split_frames split_after (split_moves.at_handler split row name ∷ others))
  entered_match name frame frames split others target row entered waiting fits =
      let found = found_body setting.world.bodies frame.method entered.body entered.found in
      let youngest = fits.frames.0 in
      let known : table_for setting entered.body target ≡ Some youngest.types = ap (λ id. setting.tables id target) found.method ∙ youngest.known in
      let shapes =
      frame_shapes setting.world after.objects youngest.body setting entered.body (code.wide entered.body found.of_set) target youngest.types known (body_operands setting code.compiled entered.body found.of_set target youngest.types known)
      (Name name ∷ []) youngest.has.operands in
      let locals = entered.locals in
      let here : YoungestMatches setting (at_pc frame target (Name name ∷ [])) (split_moves.at_handler split row name) =
      record {
        body = entered.body;
        found = entered.found;
        method = entered.method;
        pc = entered.target_is;
        locals = record { refs_are = locals.refs_are; slotted = locals.slotted; count = locals.count; numbers = locals.numbers };
        operands = record { shaped = shapes.shaped; refs_are = sym shapes.refs; cells_are = sym shapes.cells };
      } in
      record {
        fits = fits;
        frames = (here, waiting);
        objects = each_joined (ObjectMatches setting) state.objects other.objects (made ∷ []) (held ∷ []) match.objects (matched, tt);
        statics = match.statics;
        answers = match.answers;
      }

  SameMoves : TypedMove → SplitMove → Type 0
  SameMoves = Alike (ComesTo (split_step.machine setting.image) (StatesMatch setting)) (EndingsMatch setting)

  same_moves : Quietly (split_step.machine setting.image) other from → (first : TypedMove) (second : SplitMove) → move setting.world state ≡ first → split_step.move setting.image from ≡ second → SameMoves first second
      → AreMatched setting state other
  unfolding SameMoves
  same_moves quiet first second is split_is alike =
      IsLoud from quiet (subst (λ m. SameMoves m (split_step.move setting.image from)) (sym is) (subst (SameMoves first) (sym split_is) alike))

  -- both machines go on at the row, or stop
  searched_match : Quietly (split_step.machine setting.image) other from → (name : ℕ) (class type : ℕ) → type_id setting.numbering.types (class_type class) ≡ type → (placed : Option ℕ) (found : Option (List Frame)) (split_found : Option (List SplitFrame)) → CaughtAlike setting name found split_found
      → move setting.world state ≡ typed.after_search placed after class found → split_step.move setting.image from ≡ split_moves.after_search placed split_after type split_found
      → MoveFits setting.world setting.tables (typed.after_search placed after class found) → AreMatched setting state other
  unfolding SameMoves
  searched_match quiet name class type id placed found split_found NoneCatches first second fits =
      let need : Need = record { placed = placed; tick = false; frame = None } in
      same_moves quiet (Stops need [] (Uncaught class)) (Stops need [] (split_moves.Uncaught type)) first second
      (BothStop need [] (Uncaught class) (split_moves.Uncaught type) (subst (λ (t : ℕ). EndingsMatch setting (Uncaught class) (split_moves.Uncaught t)) id (BothUncaught class)))
  searched_match quiet name class type id placed found split_found (BothCatch frame frames split others target row entered waiting) first second fits =
      let need : Need = record { placed = placed; tick = true; frame = None } in
      let next = with_frames after (at_pc frame target (Name name ∷ []) ∷ frames) in
      let last = with_split_frames split_after (split_moves.at_handler split row name ∷ others) in
      same_moves quiet (Does need [] next) (Does need [] last) first second
      (BothDo need [] next last (record { last = last; quiet = Rests last; related = entered_match name frame frames split others target row entered waiting fits }))

module _ {setting : Setting} {state : State} {other : split.State} {instruction : Op} (code : IsWideCode setting) (here : StandsAt setting state other instruction) where
  -- an instruction at which both throw, the split machine behind quiet machine instructions of its expansion
  pub throw_behind : (class : ℕ) → ThrowsAlike setting class → (first : List Emitted) (insn : MInsn) (rows : List SwitchRow) (rest : List Emitted) → emitted_at setting (body_at here) here.frame.pc instruction ≡ first ++ (insn, rows) ∷ rest
      → (last : SplitFrame) → GoesOverAll setting.image other here.others here.split first last → last.cells.locals ≡ here.split.cells.locals
      → move setting.world state ≡ typed.throws setting.world state (here.frame ∷ here.frames) class
      → split_step.move_of setting.image (split.with_frames other (last ∷ here.others)) last here.others (last.pc + length (insn_bytes insn rows)) insn rows
      ≡ split_moves.throws setting.image (split.with_frames other (last ∷ here.others)) (last ∷ here.others) class
      → AreMatched setting state other
  throw_behind class alike first insn rows rest emitted last over kept throws moves =
      let body = body_at here in
      let pc = here.frame.pc in
      let made = new_object setting.world.files class in
      let held = split_types.new_object setting.image class in
      let name = length state.objects in
      let split_frames = last ∷ here.others in
      let from = split.with_frames other split_frames in
      let all = code.insns body (found_at here).of_set in
      let stands : StandsBetween setting body here.split pc instruction [] (first ++ (insn, rows) ∷ rest) =
      subst (λ (l : List Emitted). StandsBetween setting body here.split pc instruction [] l) emitted (youngest_between setting here.frame here.split here.youngest instruction here.at) in
      let came = goes_behind setting body pc instruction code.compiled all other here.others here.split last [] first ((insn, rows) ∷ rest) stands over in
      let at = at_insn setting body pc instruction last first insn rows rest came.stands in
      let is = insn_here setting body last pc instruction first insn rows all rest at in
      let locals : LocalsMatch setting body here.frame last.refs.locals last.cells.locals =
      subst (λ (cells : List ℕ). LocalsMatch setting body here.frame last.refs.locals cells) (sym kept)
      (subst (λ (refs : List Reference). LocalsMatch setting body here.frame refs here.split.cells.locals) (sym (ap (λ refs. refs.locals) came.refs)) here.youngest.locals) in
      let count : name ≡ length other.objects = each_count (ObjectMatches setting) state.objects other.objects here.match.objects in
      let found = typed.caught setting.world class name (here.frame ∷ here.frames) in
      let caught = caught_behind setting code class class alike.catch name here.frame here.frames last here.others body here.youngest.found locals instruction first insn rows rest at is here.waiting in
      let searches : ℕ → ℕ → SplitMove = λ cells called. split_moves.after_search (Some cells) (split.with_objects from (held ∷ [])) class (split_moves.caught setting.image class called split_frames) in
      searched_match setting code state other here.match made held alike.object split_frames (subst (λ start. Quietly (split_step.machine setting.image) start from) (split_is here) came.quiet) name class class alike.id
      (Some (object_cells setting.world.files class)) found (split_moves.caught setting.image class name split_frames) caught throws
      (move_here setting body last pc instruction first insn rows code.compiled rest at is from here.others refl ∙ moves ∙ ap (searches (split.object_cells held)) (sym count) ∙ ap (λ (cells : ℕ). searches cells name) (sym alike.cells))
      (subst (MoveFits setting.world setting.tables) throws (is_unstuck here code))

  -- an instruction that is one machine instruction, at which both throw
  pub throw_follows : (class : ℕ) → ThrowsAlike setting class → (insn : MInsn) (rows : List SwitchRow) (emitted : emitted_at setting (body_at here) here.frame.pc instruction ≡ (insn, rows) ∷ [])
      → move setting.world state ≡ typed.throws setting.world state (here.frame ∷ here.frames) class
      → split_step.move_of setting.image other here.split here.others (next_offset code here insn rows emitted) insn rows ≡ split_moves.throws setting.image other (here.split ∷ here.others) class
      → AreMatched setting state other
  throw_follows class alike insn rows emitted throws moves =
      throw_behind class alike [] insn rows [] emitted here.split (OverNone here.split) refl throws
      (subst (λ (at : split.State). split_step.move_of setting.image at here.split here.others (here.split.pc + length (insn_bytes insn rows)) insn rows ≡ split_moves.throws setting.image at (here.split ∷ here.others) class) (sym (split_is here)) moves)
