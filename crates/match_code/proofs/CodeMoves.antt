-- The move of the split machine where a frame stands at a machine instruction of its code, and going on over it.
use Rattle.std.proofs.Common.{◌≡◌, ℕ, zero, suc, ◌+◌, List, [], ◌∷◌, ◌++◌, length, drop, Some, sym, ap, subst, ◌∙◌, arith}
use Rattle.std.specs.List.{Contains, AllByRecursion}
use Rattle.std.specs.Option.{option_map_or}
use Rattle.code_reach.specs.Reached.{RisesFrom}
use Rattle.image_instr.specs.declared.insn.MInsn.{MInsn}
use Rattle.image_instr.specs.declared.insn.SwitchRow.{SwitchRow}
use Rattle.image_instr.specs.Insn.{insn_bytes, IsInsn}
use Rattle.image_instr.specs.Reading.{insn_at, rows_at}
use Rattle.image_instr.proofs.encoding.Again.{insn_at-again}
use Rattle.image_instr.proofs.encoding.EncodingIsInjective.{rows_are}
use Rattle.image_form.specs.declared.record.Image.{Image}
use Rattle.image_form.specs.declared.record.Method.{Method}
use Rattle.body_form.specs.declared.body.Body.{Body}
use Rattle.body_form.specs.declared.op.Op.{Op}
use Rattle.jvm_model.specs.ImageEmission.{offset_of, size_at, code_of}
use Rattle.jvm_model.specs.ImageExpansion.{Emitted, bytes_of}
use Rattle.jvm_model.specs.WidthsShapes.{pc_after}
use Rattle.mote_model.specs.State.{Frame}
use Rattle.mote_model.specs.SplitMoves.{using, goes_on}
use Rattle.mote_model.specs.SplitState.{State, method_at}
use Rattle.mote_model.specs.SplitStep.{code_from, move, move_at, move_among, move_of, resumes}
use Rattle.type_safety.specs.Safety as safety
use Rattle.match_states.specs.Setting.{Setting, IsCompiled, IsCompiledBody, source_for, id_for}
use Rattle.match_code.specs.Standing.{IsEmittedInsn, AreInsns, fills_for, StandsInExpansion, StandsInFills, WentOver}
use Rattle.match_code.proofs.CodeLayout.{offset_first, offset_next}
use Rattle.match_code.proofs.CodePoints.{holds_here, list_over, size_over, after_point, code_at_point, after_fill, code_at_fill}
use Rattle.expansion.proofs.ExpansionSizes.{size_is}

-- ---- the instruction that is read

-- the move where the code goes on with an instruction
pub move_there : (image : Image) (state : State) (frame : Frame) (others : List Frame) (insn : MInsn) (rows : List SwitchRow) (after : List ℕ)
    → IsInsn insn rows → code_from image frame ≡ insn_bytes insn rows ++ after → state.frames ≡ frame ∷ others
    → move image state ≡ move_of image state frame others (frame.pc + length (insn_bytes insn rows)) insn rows
move_there image state frame others insn rows after is code frames =
    ap (move_among image state) frames
    ∙ ap (move_at image state frame others) code
    ∙ ap (λ found. using found (λ x. move_of image state frame others (frame.pc + x.1) x.0 (rows_at x.0 (insn_bytes insn rows ++ after)))) (insn_at-again insn rows after is)
    ∙ ap (move_of image state frame others (frame.pc + length (insn_bytes insn rows)) insn) (sym (rows_are insn rows after is))

-- ---- the code of a compiled body

one_of : (P : Body → Type 0) (bodies : List Body) → AllByRecursion P bodies → (body : Body) → Contains bodies body → P body
one_of P [] all body (k, within, is) = absurd (omega (arith, within))
one_of P (other ∷ bodies) all body (zero, within, is) = subst P is all.0
one_of P (other ∷ bodies) all body (suc k, within, is) = one_of P bodies all.1 body (k, omega (arith, within), is)

module _ (setting : Setting) (compiled : IsCompiled setting) (body : Body) (of_set : Contains setting.world.bodies body) where
  pub compiled_body : IsCompiledBody setting body
  compiled_body = one_of (IsCompiledBody setting) setting.world.bodies compiled.bodies body of_set

  pub body_rises : RisesFrom 0 body.ops
  body_rises = (compiled.typed.facts body of_set).of_set.rise

  -- the code of a frame of its method
  pub code_of_frame : (frame : Frame) → frame.method ≡ id_for setting (safety.method_of body) → code_from setting.image frame ≡ drop frame.pc (code_of (source_for setting body))
  code_of_frame frame method =
      ap (λ found. drop frame.pc (option_map_or (λ (m : Method). m.code) found [])) (ap (method_at setting.image) method ∙ compiled_body.method)

-- ---- within an expansion

module _ (setting : Setting) (body : Body) (frame : Frame) (pc : ℕ) (instruction : Op) (first : List Emitted) (insn : MInsn) (rows : List SwitchRow) where
  -- it is one, where all of the body are
  pub insn_here : AreInsns setting body → (rest : List Emitted) → StandsInExpansion setting body frame pc instruction first insn rows rest → IsInsn insn rows
  insn_here all rest stands =
      holds_here IsEmittedInsn first (insn, rows) rest (subst (λ (l : List Emitted). AllByRecursion IsEmittedInsn l) stands.emitted (all.expansions pc instruction stands.at))

  -- what follows in the code is the instruction and more
  pub code_there : IsCompiled setting → (rest : List Emitted) → StandsInExpansion setting body frame pc instruction first insn rows rest
      → (after : List ℕ) × (code_from setting.image frame ≡ insn_bytes insn rows ++ after)
  code_there compiled rest stands =
      let source = source_for setting body in
      let rise = body_rises setting compiled body stands.of_set in (
        after_point source rise pc instruction stands.at first insn rows rest stands.emitted,
        code_of_frame setting compiled body stands.of_set frame stands.method
            ∙ ap (λ n. drop n (code_of source)) stands.pc_is
            ∙ code_at_point source rise pc instruction stands.at first insn rows rest stands.emitted,
      )

  -- it is the instruction that is read there
  pub read_there : IsCompiled setting → (rest : List Emitted) → StandsInExpansion setting body frame pc instruction first insn rows rest → IsInsn insn rows
      → insn_at (code_from setting.image frame) ≡ Some (insn, length (insn_bytes insn rows))
  read_there compiled rest stands is =
      let found = code_there compiled rest stands in
      ap insn_at found.1 ∙ insn_at-again insn rows found.0 is

  -- the move is that of the instruction
  pub move_here : IsCompiled setting → (rest : List Emitted) → StandsInExpansion setting body frame pc instruction first insn rows rest → IsInsn insn rows
      → (state : State) (others : List Frame) → state.frames ≡ frame ∷ others
      → move setting.image state ≡ move_of setting.image state frame others (frame.pc + length (insn_bytes insn rows)) insn rows
  move_here compiled rest stands is state others frames =
      let found = code_there compiled rest stands in
      move_there setting.image state frame others insn rows found.0 is found.1 frames

  -- another frame of the method at the same place stands there too
  pub stands_same : (rest : List Emitted) → StandsInExpansion setting body frame pc instruction first insn rows rest → (other : Frame) → WentOver frame other 0 → StandsInExpansion setting body other pc instruction first insn rows rest
  stands_same rest stands other over =
      record {
        of_set = stands.of_set;
        method = over.method ∙ stands.method;
        at = stands.at;
        emitted = stands.emitted;
        pc_is = omega (arith, over.pc, stands.pc_is);
      }

  -- a caller goes on behind the call at which it stands
  pub resumes_here : IsCompiled setting → (rest : List Emitted) → StandsInExpansion setting body frame pc instruction first insn rows rest → IsInsn insn rows
      → (state : State) (others : List Frame) → resumes setting.image state frame others ≡ goes_on state frame others (frame.pc + length (insn_bytes insn rows))
  resumes_here compiled rest stands is state others =
      ap (λ found. using found (λ x. goes_on state frame others (frame.pc + x.1))) (read_there compiled rest stands is)

  -- a frame that went on stands at the next instruction of the expansion
  pub stands_next : (next : MInsn) (next_rows : List SwitchRow) (rest : List Emitted) → StandsInExpansion setting body frame pc instruction first insn rows ((next, next_rows) ∷ rest)
      → (other : Frame) → WentOver frame other (length (insn_bytes insn rows)) → StandsInExpansion setting body other pc instruction (first ++ (insn, rows) ∷ []) next next_rows rest
  stands_next next next_rows rest stands other over =
      record {
        of_set = stands.of_set;
        method = over.method ∙ stands.method;
        at = stands.at;
        emitted = stands.emitted ∙ list_over first (insn, rows) ((next, next_rows) ∷ rest);
        pc_is = omega (arith, over.pc, stands.pc_is, size_over first insn rows);
      }

  -- behind the last one it is where the next pc is
  pub goes_past : IsCompiled setting → StandsInExpansion setting body frame pc instruction first insn rows [] → (to : ℕ) → pc_after body.ops pc ≡ Some to
      → (other : Frame) → WentOver frame other (length (insn_bytes insn rows)) → other.pc ≡ offset_of (source_for setting body) to
  goes_past compiled stands to next other over =
      let source = source_for setting body in
      let size : size_at source (pc, instruction) ≡ length (bytes_of (first ++ (insn, rows) ∷ [])) =
      sym (size_is source (offset_of source) (pc, instruction)) ∙ ap (λ (l : List Emitted). length (bytes_of l)) stands.emitted in
      omega (arith, over.pc, stands.pc_is, size, size_over first insn rows, offset_next source (body_rises setting compiled body stands.of_set) pc instruction stands.at to next)

-- ---- at entry

module _ (setting : Setting) (body : Body) (frame : Frame) (first : List Emitted) (insn : MInsn) (rows : List SwitchRow) where
  -- it is one, where all of the body are
  pub insn_at_entry : AreInsns setting body → (rest : List Emitted) → StandsInFills setting body frame first insn rows rest → IsInsn insn rows
  insn_at_entry all rest stands =
      holds_here IsEmittedInsn first (insn, rows) rest (subst (λ (l : List Emitted). AllByRecursion IsEmittedInsn l) stands.emitted all.fills)

  pub code_at_entry : IsCompiled setting → (rest : List Emitted) → StandsInFills setting body frame first insn rows rest
      → (after : List ℕ) × (code_from setting.image frame ≡ insn_bytes insn rows ++ after)
  code_at_entry compiled rest stands =
      let source = source_for setting body in (
        after_fill source first insn rows rest stands.emitted,
        code_of_frame setting compiled body stands.of_set frame stands.method
            ∙ ap (λ n. drop n (code_of source)) stands.pc_is
            ∙ code_at_fill source first insn rows rest stands.emitted,
      )

  -- the move is that of the instruction
  pub move_at_entry : IsCompiled setting → (rest : List Emitted) → StandsInFills setting body frame first insn rows rest → IsInsn insn rows
      → (state : State) (others : List Frame) → state.frames ≡ frame ∷ others
      → move setting.image state ≡ move_of setting.image state frame others (frame.pc + length (insn_bytes insn rows)) insn rows
  move_at_entry compiled rest stands is state others frames =
      let found = code_at_entry compiled rest stands in
      move_there setting.image state frame others insn rows found.0 is found.1 frames

  -- a frame that went on stands at the next one
  pub fills_next : (next : MInsn) (next_rows : List SwitchRow) (rest : List Emitted) → StandsInFills setting body frame first insn rows ((next, next_rows) ∷ rest)
      → (other : Frame) → WentOver frame other (length (insn_bytes insn rows)) → StandsInFills setting body other (first ++ (insn, rows) ∷ []) next next_rows rest
  fills_next next next_rows rest stands other over =
      record {
        of_set = stands.of_set;
        method = over.method ∙ stands.method;
        emitted = stands.emitted ∙ list_over first (insn, rows) ((next, next_rows) ∷ rest);
        pc_is = omega (arith, over.pc, stands.pc_is, size_over first insn rows);
      }

  -- behind the last one the body's first instruction begins
  pub fills_past : StandsInFills setting body frame first insn rows [] → (other : Frame) → WentOver frame other (length (insn_bytes insn rows)) → other.pc ≡ offset_of (source_for setting body) 0
  fills_past stands other over =
      let source = source_for setting body in
      let size = ap (λ (l : List Emitted). length (bytes_of l)) stands.emitted in
      omega (arith, over.pc, stands.pc_is, size, size_over first insn rows, offset_first source)

-- a frame of a method that begins stands at the first of what extends its parameters
pub entry_stands : (setting : Setting) (body : Body) (frame : Frame) → Contains setting.world.bodies body → frame.method ≡ id_for setting (safety.method_of body) → frame.pc ≡ 0
    → (insn : MInsn) (rows : List SwitchRow) (rest : List Emitted) → fills_for setting body ≡ (insn, rows) ∷ rest → StandsInFills setting body frame [] insn rows rest
entry_stands setting body frame of_set method begins insn rows rest emitted = record { of_set = of_set; method = method; emitted = emitted; pc_is = begins }

-- where nothing extends them it stands at the body's first instruction
pub entry_plain : (setting : Setting) (body : Body) → fills_for setting body ≡ [] → offset_of (source_for setting body) 0 ≡ 0
entry_plain setting body none = offset_first (source_for setting body) ∙ ap (λ (l : List Emitted). length (bytes_of l)) none
