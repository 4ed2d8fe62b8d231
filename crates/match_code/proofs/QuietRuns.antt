-- Several quiet machine instructions of an expansion, one after another.
use Rattle.std.proofs.Common.{◌≡◌, ℕ, ◌+◌, List, [], ◌∷◌, ◌++◌, length, Some, refl, sym, ap, subst, ◌∙◌, append-nil, arith}
use Rattle.account.specs.RunLaws.{Quietly, Rests}
use Rattle.image_form.specs.declared.record.Image.{Image}
use Rattle.image_instr.specs.declared.insn.MInsn.{MInsn}
use Rattle.image_instr.specs.declared.insn.SwitchRow.{SwitchRow}
use Rattle.image_instr.specs.Insn.{insn_bytes}
use Rattle.body_form.specs.declared.body.Body.{Body}
use Rattle.body_form.specs.declared.op.Op.{Op}
use Rattle.jvm_model.specs.ImageEmission.{offset_of, size_at}
use Rattle.jvm_model.specs.ImageExpansion.{Emitted, bytes_of}
use Rattle.jvm_model.specs.TypesRules.{op_at}
use Rattle.jvm_model.specs.WidthsShapes.{pc_after}
use Rattle.mote_model.specs.State.{Frame as SplitFrame}
use Rattle.mote_model.specs.SplitMoves.{at_pc}
use Rattle.mote_model.specs.SplitState.{State, with_frames}
use Rattle.mote_model.specs.SplitStep.{machine}
use Rattle.typed_machine.specs.TypedState.{Frame}
use Rattle.match_states.specs.MatchedFrames.{YoungestMatches}
use Rattle.match_states.specs.Setting.{Setting, IsCompiled, source_for, id_for}
use Rattle.match_code.specs.Standing.{AreInsns, emitted_at, StandsInExpansion, StandsBetween}
use Rattle.match_code.proofs.CodeLayout.{offset_next}
use Rattle.match_code.proofs.CodeMoves.{body_rises, insn_here}
use Rattle.match_code.proofs.CodePoints.{list_over, size_over}
use Rattle.expansion.proofs.ExpansionSizes.{size_is}
use Rattle.match_code.proofs.MatchedCode.{found_body}
use Rattle.match_code.proofs.QuietMoves.{GoesOver, quietly_over}

-- the frame goes over these, one by one, and its references stay
pub data GoesOverAll (image : Image) (state : State) (others : List SplitFrame) : SplitFrame → List Emitted → SplitFrame → Type 0 where
  OverNone : (frame : SplitFrame) → GoesOverAll image state others frame [] frame
  OverOne : (frame other last : SplitFrame) (insn : MInsn) (rows : List SwitchRow) (rest : List Emitted)
      → GoesOver image (with_frames state (frame ∷ others)) frame other others insn rows (length (insn_bytes insn rows))
      → GoesOverAll image state others (at_pc other (frame.pc + length (insn_bytes insn rows))) rest last
      → GoesOverAll image state others frame ((insn, rows) ∷ rest) last

-- one run after another
pub over_both : (image : Image) (state : State) (others : List SplitFrame) (frame between last : SplitFrame) (first second : List Emitted)
    → GoesOverAll image state others frame first between → GoesOverAll image state others between second last → GoesOverAll image state others frame (first ++ second) last
over_both image state others frame between last first second (OverNone same) later = later
over_both image state others frame between last first second (OverOne here other there insn rows rest over more) later =
    OverOne here other last insn rows (rest ++ second) over (over_both image state others (at_pc other (here.pc + length (insn_bytes insn rows))) between last rest second more later)

module _ (setting : Setting) (body : Body) (pc : ℕ) (instruction : Op) where
  -- at an instruction
  pub at_insn : (frame : SplitFrame) (first : List Emitted) (insn : MInsn) (rows : List SwitchRow) (rest : List Emitted)
      → StandsBetween setting body frame pc instruction first ((insn, rows) ∷ rest) → StandsInExpansion setting body frame pc instruction first insn rows rest
  at_insn frame first insn rows rest stands = record { of_set = stands.of_set; method = stands.method; at = stands.at; emitted = stands.emitted; pc_is = stands.pc_is }

  -- behind an instruction over which it went
  pub behind_insn : (frame other : SplitFrame) (first : List Emitted) (insn : MInsn) (rows : List SwitchRow) (rest : List Emitted)
      → StandsBetween setting body frame pc instruction first ((insn, rows) ∷ rest) → other.method ≡ frame.method → other.pc ≡ frame.pc + length (insn_bytes insn rows)
      → StandsBetween setting body other pc instruction (first ++ (insn, rows) ∷ []) rest
  behind_insn frame other first insn rows rest stands method over =
      record {
        of_set = stands.of_set;
        method = method ∙ stands.method;
        at = stands.at;
        emitted = stands.emitted ∙ list_over first (insn, rows) rest;
        pc_is = omega (arith, over, stands.pc_is, size_over first insn rows);
      }

  -- behind the last one it is where the next pc is
  pub between_past : IsCompiled setting → (frame : SplitFrame) (first : List Emitted) → StandsBetween setting body frame pc instruction first [] → (to : ℕ) → pc_after body.ops pc ≡ Some to
      → frame.pc ≡ offset_of (source_for setting body) to
  between_past compiled frame first stands to next =
      let source = source_for setting body in
      let size : size_at source (pc, instruction) ≡ length (bytes_of first) =
      sym (size_is source (offset_of source) (pc, instruction)) ∙ ap (λ (l : List Emitted). length (bytes_of l)) (stands.emitted ∙ append-nil first) in
      omega (arith, stands.pc_is, size, offset_next source (body_rises setting compiled body stands.of_set) pc instruction stands.at to next)

  -- where a run of quiet instructions leads, and that it is quiet
  pub record ComesBehind (state : State) (others : List SplitFrame) (frame last : SplitFrame) (first rest : List Emitted) : Type 0 where
    pub stands : StandsBetween setting body last pc instruction first rest
    pub refs : last.refs ≡ frame.refs
    pub quiet : Quietly (machine setting.image) (with_frames state (frame ∷ others)) (with_frames state (last ∷ others))

  module _ (compiled : IsCompiled setting) (all : AreInsns setting body) (state : State) (others : List SplitFrame) where
    pub goes_behind : (frame last : SplitFrame) (first passed rest : List Emitted) → StandsBetween setting body frame pc instruction first (passed ++ rest)
        → GoesOverAll setting.image state others frame passed last → ComesBehind state others frame last (first ++ passed) rest
    goes_behind frame last first passed rest stands (OverNone same) =
        record {
          stands = subst (λ (l : List Emitted). StandsBetween setting body frame pc instruction l rest) (sym (append-nil first)) stands;
          refs = refl;
          quiet = Rests (with_frames state (frame ∷ others));
        }
    goes_behind frame last first passed rest stands (OverOne here other there insn rows more over later) =
        let here_state = with_frames state (frame ∷ others) in
        let next = at_pc other (frame.pc + length (insn_bytes insn rows)) in
        let at = at_insn frame first insn rows (more ++ rest) stands in
        let behind = behind_insn frame next first insn rows (more ++ rest) stands over.keeps.method refl in
        let came = goes_behind next last (first ++ (insn, rows) ∷ []) more rest behind later in
        record {
          stands = subst (λ (l : List Emitted). StandsBetween setting body last pc instruction l rest) (sym (list_over first (insn, rows) more)) came.stands;
          refs = came.refs ∙ over.keeps.refs;
          quiet =
              quietly_over setting compiled body here_state frame other others refl insn rows over pc instruction first (more ++ rest) at
              (insn_here setting body frame pc instruction first insn rows all (more ++ rest) at) (with_frames state (last ∷ others)) came.quiet;
        }

-- the youngest frame stands before the whole expansion
pub youngest_between : (setting : Setting) (frame : Frame) (other : SplitFrame) (youngest : YoungestMatches setting frame other) (instruction : Op) → op_at youngest.body.ops frame.pc ≡ Some instruction
    → StandsBetween setting youngest.body other frame.pc instruction [] (emitted_at setting youngest.body frame.pc instruction)
youngest_between setting frame other youngest instruction at =
    let found = found_body setting.world.bodies frame.method youngest.body youngest.found in
    record {
      of_set = found.of_set;
      method = youngest.method ∙ ap (id_for setting) (sym found.method);
      at = at;
      emitted = refl;
      pc_is = omega (arith, youngest.pc);
    }
