-- What is thrown is caught by the same frame of both machines: the youngest one, or one that waits; or by none.
use Rattle.std.proofs.Common.{◌≡◌, ℕ, List, [], ◌∷◌, Option, Some, None, option_map, option_and_then, refl, sym, ap, subst, ◌∙◌}
use Rattle.std.specs.List.{AllByRecursion, Contains}
use Rattle.std.specs.Option.{option_map_or}
use Rattle.image_form.specs.declared.record.HandlerEntry.{HandlerEntry}
use Rattle.image_instr.specs.declared.insn.MInsn.{MInsn}
use Rattle.image_instr.specs.declared.insn.SwitchRow.{SwitchRow}
use Rattle.image_instr.specs.Insn.{IsInsn}
use Rattle.body_form.specs.declared.body.Body.{Body}
use Rattle.body_form.specs.declared.body.Guard.{Guard}
use Rattle.body_form.specs.declared.op.Op.{Op}
use Rattle.jvm_model.specs.Bodies.{AreEach}
use Rattle.jvm_model.specs.ImageEmission.{offset_of, handler_of}
use Rattle.jvm_model.specs.ImageExpansion.{Emitted}
use Rattle.jvm_model.specs.State.{Name}
use Rattle.mote_model.specs.State.{Frame as SplitFrame}
use Rattle.mote_model.specs.SplitMoves as split
use Rattle.typed_machine.specs.TypedMoves as typed
use Rattle.typed_machine.specs.TypedMoves.{at_pc, first_handler}
use Rattle.typed_machine.specs.TypedState.{Frame}
use Rattle.typed_machine.specs.TypedWorld.{body_among, guards_at}
use Rattle.match_states.specs.MatchedFrames.{LocalsMatch, WaitingMatches}
use Rattle.match_states.specs.Setting.{Setting, source_for, id_for}
use Rattle.match_code.specs.Standing.{StandsInExpansion}
use Rattle.match_code.proofs.CodeHandlers.{CatchesAlike, handler_here}
use Rattle.match_code.proofs.CodeMoves.{insn_here}
use Rattle.match_code.proofs.MatchedCode.{found_body, cuts_at, waiting_stands}
use Rattle.follow_numbers.specs.WideCode.{IsWideCode}

-- the rows of all bodies catch what is of a type as they do what is of a class
abbrev pub AllCatchAlike : Setting → ℕ → ℕ → Type 0
AllCatchAlike setting type class = (body : Body) → Contains setting.world.bodies body → AllByRecursion (CatchesAlike (source_for setting body) setting.image type setting.world class) body.handlers

-- a frame of a body, whose first row that handles it is that of the body
record Searched (setting : Setting) (type class : ℕ) (frame : Frame) (other : SplitFrame) : Type 0 where
  pub body : Body
  pub found : body_among setting.world.bodies frame.method ≡ Some body
  pub method : other.method ≡ id_for setting frame.method
  pub locals : LocalsMatch setting body frame other.refs.locals other.cells.locals
  pub row : split.handler_of setting.image type other ≡ option_map (handler_of (source_for setting body)) (first_handler setting.world class (guards_at body frame.pc))

-- frames that go on at a row
pub record Entered (setting : Setting) (frame : Frame) (other : SplitFrame) (target : ℕ) (row : HandlerEntry) : Type 0 where
  pub body : Body
  pub found : body_among setting.world.bodies frame.method ≡ Some body
  pub method : other.method ≡ id_for setting frame.method
  pub locals : LocalsMatch setting body frame other.refs.locals other.cells.locals
  pub target_is : row.target ≡ offset_of (source_for setting body) target

-- the frames that both machines go on with, where one catches it
pub data CaughtAlike (setting : Setting) (name : ℕ) : Option (List Frame) → Option (List SplitFrame) → Type 0 where
  NoneCatches : CaughtAlike setting name None None
  BothCatch : (frame : Frame) (frames : List Frame) (other : SplitFrame) (others : List SplitFrame) (target : ℕ) (row : HandlerEntry) → Entered setting frame other target row
      → AreEach (WaitingMatches setting) frames others
      → CaughtAlike setting name (Some (at_pc frame target (Name name ∷ []) ∷ frames)) (Some (split.at_handler other row name ∷ others))

module _ (setting : Setting) (code : IsWideCode setting) (type class : ℕ) (catch : AllCatchAlike setting type class) where
  -- a frame that stands behind the first of the machine instructions of an expansion
  searched_at : (frame : Frame) (other : SplitFrame) (body : Body) → body_among setting.world.bodies frame.method ≡ Some body → LocalsMatch setting body frame other.refs.locals other.cells.locals
      → (instruction : Op) (first : List Emitted) (insn : MInsn) (rows : List SwitchRow) (rest : List Emitted) → StandsInExpansion setting body other frame.pc instruction first insn rows rest → IsInsn insn rows
      → Searched setting type class frame other
  searched_at frame other body found locals instruction first insn rows rest stands is =
      record {
        body = body;
        found = found;
        method = stands.method ∙ ap (id_for setting) (found_body setting.world.bodies frame.method body found).method;
        locals = locals;
        row = handler_here setting code.compiled body other frame.pc instruction first insn rows rest stands is type class (catch body stands.of_set);
      }

  waiting_searched : (frame : Frame) (other : SplitFrame) → WaitingMatches setting frame other → Searched setting type class frame other
  waiting_searched frame other waiting =
      let at = waiting_stands setting frame other waiting in
      let cuts = cuts_at setting waiting.body frame.pc waiting.used in
      let is = insn_here setting waiting.body other frame.pc waiting.instruction cuts at.0.insn [] (code.insns waiting.body at.1.of_set) at.0.rest at.1 in
      searched_at frame other waiting.body waiting.found waiting.locals waiting.instruction cuts at.0.insn [] at.0.rest at.1 is

  module _ (name : ℕ) where
    module _ (frame : Frame) (frames : List Frame) (other : SplitFrame) (others : List SplitFrame) (searched : Searched setting type class frame other) where
      by_row : (found : Option Guard) → AreEach (WaitingMatches setting) frames others → CaughtAlike setting name (typed.caught setting.world class name frames) (split.caught setting.image type name others)
          → CaughtAlike setting name (option_map_or (λ (guard : Guard). Some (at_pc frame guard.target (Name name ∷ []) ∷ frames)) found (typed.caught setting.world class name frames))
          (option_map_or (λ (row : HandlerEntry). Some (split.at_handler other row name ∷ others)) (option_map (handler_of (source_for setting searched.body)) found) (split.caught setting.image type name others))
      by_row None waiting later = later
      by_row (Some guard) waiting later =
          BothCatch frame frames other others guard.target (handler_of (source_for setting searched.body) guard)
          (record { body = searched.body; found = searched.found; method = searched.method; locals = searched.locals; target_is = refl }) waiting

      caught_first : AreEach (WaitingMatches setting) frames others → CaughtAlike setting name (typed.caught setting.world class name frames) (split.caught setting.image type name others)
          → CaughtAlike setting name (typed.caught setting.world class name (frame ∷ frames)) (split.caught setting.image type name (other ∷ others))
      unfolding typed.caught split.caught
      caught_first waiting later =
          let first = first_handler setting.world class (guards_at searched.body frame.pc) in
          let row : typed.handler_of setting.world class frame ≡ first = ap (option_and_then (λ (body : Body). first_handler setting.world class (guards_at body frame.pc))) searched.found in
          subst (λ found. CaughtAlike setting name (option_map_or (λ (guard : Guard). Some (at_pc frame guard.target (Name name ∷ []) ∷ frames)) found (typed.caught setting.world class name frames)) (split.caught setting.image type name (other ∷ others))) (sym row)
          (subst (λ found. CaughtAlike setting name (option_map_or (λ (guard : Guard). Some (at_pc frame guard.target (Name name ∷ []) ∷ frames)) first (typed.caught setting.world class name frames))
          (option_map_or (λ (row : HandlerEntry). Some (split.at_handler other row name ∷ others)) found (split.caught setting.image type name others))) (sym searched.row) (by_row first waiting later))

    caught_waiting : (frames : List Frame) (others : List SplitFrame) → AreEach (WaitingMatches setting) frames others → CaughtAlike setting name (typed.caught setting.world class name frames) (split.caught setting.image type name others)
    unfolding typed.caught split.caught
    caught_waiting [] [] waiting = NoneCatches
    caught_waiting [] (other ∷ others) waiting = absurd waiting
    caught_waiting (frame ∷ frames) [] waiting = absurd waiting
    caught_waiting (frame ∷ frames) (other ∷ others) waiting =
        caught_first frame frames other others (waiting_searched frame other waiting.0) waiting.1 (caught_waiting frames others waiting.1)

    -- from the youngest frame on, which stands behind the first of the machine instructions of an expansion
    pub caught_behind : (frame : Frame) (frames : List Frame) (other : SplitFrame) (others : List SplitFrame) (body : Body) → body_among setting.world.bodies frame.method ≡ Some body → LocalsMatch setting body frame other.refs.locals other.cells.locals
        → (instruction : Op) (first : List Emitted) (insn : MInsn) (rows : List SwitchRow) (rest : List Emitted) → StandsInExpansion setting body other frame.pc instruction first insn rows rest → IsInsn insn rows
        → AreEach (WaitingMatches setting) frames others → CaughtAlike setting name (typed.caught setting.world class name (frame ∷ frames)) (split.caught setting.image type name (other ∷ others))
    caught_behind frame frames other others body found locals instruction first insn rows rest stands is waiting =
        caught_first frame frames other others (searched_at frame other body found locals instruction first insn rows rest stands is) waiting (caught_waiting frames others waiting)
