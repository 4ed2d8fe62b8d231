-- A move that goes on and leaves the references of its frame is quiet: the account sees the same before and after it.
use Rattle.std.proofs.Common.{◌≡◌, ℕ, ◌+◌, List, [], ◌∷◌, ◌++◌, length, reverse, refl, sym, ap, ap₂, ◌∙◌}
use Rattle.std.specs.List.{flat_map, fold, sum_by}
use Rattle.std.specs.Option.{option_map_or}
use Rattle.std.proofs.lemmas.Grind.{flat_map-append}
use Rattle.std.proofs.lemmas.List.{reverse-append}
use Rattle.account.specs.Account.{Does, no_need}
use Rattle.account.specs.Reachable.{collection_of}
use Rattle.account.specs.RunLaws.{Quietly, Moves}
use Rattle.image_form.specs.declared.record.Image.{Image}
use Rattle.image_instr.specs.declared.insn.MInsn.{MInsn}
use Rattle.image_instr.specs.declared.insn.SwitchRow.{SwitchRow}
use Rattle.image_instr.specs.Insn.{insn_bytes, IsInsn}
use Rattle.body_form.specs.declared.body.Body.{Body}
use Rattle.body_form.specs.declared.op.Op.{Op}
use Rattle.jvm_model.specs.ImageExpansion.{Emitted}
use Rattle.mote_model.specs.State.{Frame, whole}
use Rattle.mote_model.specs.SplitState.{State, with_frames, names_of, roots_of, objects_of, frame_cells, cells_of_frame, method_at, view_of}
use Rattle.mote_model.specs.SplitMoves.{at_pc, goes_on}
use Rattle.mote_model.specs.SplitStep.{machine, move, move_of}
use Rattle.match_states.specs.Setting.{Setting, IsCompiled}
use Rattle.match_code.specs.Standing.{StandsInExpansion, StandsInFills, WentOver}
use Rattle.match_code.proofs.CodeMoves.{move_here, move_at_entry}

-- the frame has the method and the references of another one
pub record KeepsRefs (frame other : Frame) : Type 0 where
  pub method : other.method ≡ frame.method
  pub refs : other.refs ≡ frame.refs

frame_names : Frame → List ℕ
frame_names frame = names_of (whole frame.refs)

names_last : (others : List Frame) (frame : Frame) → flat_map frame_names (reverse (frame ∷ others)) ≡ flat_map frame_names (reverse others) ++ (frame_names frame ++ [])
names_last others frame = ap (flat_map frame_names) (reverse-append (frame ∷ []) others) ∙ flat_map-append frame_names (reverse others) (frame ∷ [])

module _ (image : Image) (state : State) (frame other : Frame) (others : List Frame) (frames : state.frames ≡ frame ∷ others) (keeps : KeepsRefs frame other) where
  same_roots : roots_of (with_frames state (other ∷ others)) ≡ roots_of state
  unfolding frame_names
  same_roots =
      let names : frame_names other ≡ frame_names frame = ap (λ refs. names_of (whole refs)) keeps.refs in
      ap (λ (l : List ℕ). l ++ names_of state.ref_statics)
      (names_last others other
      ∙ ap (λ (l : List ℕ). flat_map frame_names (reverse others) ++ (l ++ [])) names
      ∙ sym (names_last others frame)
      ∙ sym (ap (λ (l : List Frame). flat_map frame_names (reverse l)) frames))

  same_frames : sum_by (cells_of_frame image) (other ∷ others) ≡ sum_by (cells_of_frame image) state.frames
  same_frames =
      ap (λ (id : ℕ). fold (λ cells one. cells + cells_of_frame image one) (0 + option_map_or frame_cells (method_at image id) 0) others) keeps.method
      ∙ sym (ap (sum_by (cells_of_frame image)) frames)

  -- the account sees the same
  pub same_view : view_of image (with_frames state (other ∷ others)) ≡ view_of image state
  same_view = ap₂ (λ roots (cells : ℕ). record { collection = collection_of (objects_of state) roots; frames = cells }) same_roots same_frames

  -- such a move comes before what is quiet
  pub goes_quietly : (last : State) → move image state ≡ Does no_need [] (with_frames state (other ∷ others)) → Quietly (machine image) (with_frames state (other ∷ others)) last → Quietly (machine image) state last
  goes_quietly last moves later = Moves state (with_frames state (other ∷ others)) last moves same_view later

-- ---- within an expansion

-- The machine instruction at which the frame stands goes on, with another frame in its place that has the same references.
pub record GoesOver (image : Image) (state : State) (frame other : Frame) (others : List Frame) (insn : MInsn) (rows : List SwitchRow) (size : ℕ) : Type 0 where
  pub keeps : KeepsRefs frame other
  pub moves : move_of image state frame others (frame.pc + size) insn rows ≡ goes_on state other others (frame.pc + size)

module _ (setting : Setting) (compiled : IsCompiled setting) (body : Body) (state : State) (frame other : Frame) (others : List Frame) (frames : state.frames ≡ frame ∷ others)
    (insn : MInsn) (rows : List SwitchRow) (over : GoesOver setting.image state frame other others insn rows (length (insn_bytes insn rows))) where
  -- the frame behind it
  abbrev pub frame_over : Frame
  frame_over = at_pc other (frame.pc + length (insn_bytes insn rows))

  pub went_over : WentOver frame frame_over (length (insn_bytes insn rows))
  went_over = record { method = over.keeps.method; pc = refl }

  kept_over : KeepsRefs frame frame_over
  kept_over = record { method = over.keeps.method; refs = over.keeps.refs }

  -- in an expansion such an instruction comes before what is quiet
  pub quietly_over : (pc : ℕ) (instruction : Op) (first rest : List Emitted) → StandsInExpansion setting body frame pc instruction first insn rows rest → IsInsn insn rows
      → (last : State) → Quietly (machine setting.image) (with_frames state (frame_over ∷ others)) last → Quietly (machine setting.image) state last
  quietly_over pc instruction first rest stands is last later =
      goes_quietly setting.image state frame frame_over others frames kept_over last (move_here setting body frame pc instruction first insn rows compiled rest stands is state others frames ∙ over.moves) later

  -- and at entry
  pub quietly_filled : (first rest : List Emitted) → StandsInFills setting body frame first insn rows rest → IsInsn insn rows
      → (last : State) → Quietly (machine setting.image) (with_frames state (frame_over ∷ others)) last → Quietly (machine setting.image) state last
  quietly_filled first rest stands is last later =
      goes_quietly setting.image state frame frame_over others frames kept_over last (move_at_entry setting body frame first insn rows compiled rest stands is state others frames ∙ over.moves) later
