-- What extends the parameters of a method at entry goes quietly.
use Rattle.std.proofs.Common.{◌≡◌, ◌+◌, List, [], ◌∷◌, ◌++◌, length, refl, sym, subst, ◌∙◌, append-nil, arith}
use Rattle.std.specs.List.{Contains}
use Rattle.account.specs.RunLaws.{Quietly, Rests}
use Rattle.image_instr.specs.declared.insn.MInsn.{MInsn}
use Rattle.image_instr.specs.declared.insn.SwitchRow.{SwitchRow}
use Rattle.image_instr.specs.Insn.{insn_bytes}
use Rattle.body_form.specs.declared.body.Body.{Body}
use Rattle.jvm_model.specs.ImageEmission.{offset_of}
use Rattle.jvm_model.specs.ImageExpansion.{Emitted}
use Rattle.mote_model.specs.State.{Frame}
use Rattle.mote_model.specs.SplitMoves.{at_pc}
use Rattle.mote_model.specs.SplitState.{State, with_frames}
use Rattle.mote_model.specs.SplitStep.{machine}
use Rattle.type_safety.specs.Safety.{method_of}
use Rattle.match_states.specs.Setting.{Setting, IsCompiled, source_for, id_for}
use Rattle.match_code.specs.Standing.{AreInsns, fills_for, StandsInFills, StandsAmongFills}
use Rattle.match_code.proofs.CodeLayout.{offset_first}
use Rattle.match_code.proofs.CodeMoves.{insn_at_entry}
use Rattle.match_code.proofs.CodePoints.{list_over, size_over}
use Rattle.match_code.proofs.QuietMoves.{quietly_filled}
use Rattle.match_code.proofs.QuietRuns.{GoesOverAll, OverNone, OverOne}

module _ (setting : Setting) (body : Body) where
  at_fill : (frame : Frame) (first : List Emitted) (insn : MInsn) (rows : List SwitchRow) (rest : List Emitted) → StandsAmongFills setting body frame first ((insn, rows) ∷ rest) → StandsInFills setting body frame first insn rows rest
  at_fill frame first insn rows rest stands = record { of_set = stands.of_set; method = stands.method; emitted = stands.emitted; pc_is = stands.pc_is }

  behind_fill : (frame other : Frame) (first : List Emitted) (insn : MInsn) (rows : List SwitchRow) (rest : List Emitted)
      → StandsAmongFills setting body frame first ((insn, rows) ∷ rest) → other.method ≡ frame.method → other.pc ≡ frame.pc + length (insn_bytes insn rows)
      → StandsAmongFills setting body other (first ++ (insn, rows) ∷ []) rest
  behind_fill frame other first insn rows rest stands method over =
      record {
        of_set = stands.of_set;
        method = method ∙ stands.method;
        emitted = stands.emitted ∙ list_over first (insn, rows) rest;
        pc_is = omega (arith, over, stands.pc_is, size_over first insn rows);
      }

  -- where a run of them leads, and that it is quiet
  record Filled (state : State) (others : List Frame) (frame last : Frame) (first rest : List Emitted) : Type 0 where
    pub stands : StandsAmongFills setting body last first rest
    pub refs : last.refs ≡ frame.refs
    pub quiet : Quietly (machine setting.image) (with_frames state (frame ∷ others)) (with_frames state (last ∷ others))

  -- the frame is at the body's first instruction, to which it came quietly
  pub record Entered (state : State) (others : List Frame) (frame last : Frame) : Type 0 where
    pub method : last.method ≡ id_for setting (method_of body)
    pub pc_is : last.pc ≡ offset_of (source_for setting body) 0
    pub refs : last.refs ≡ frame.refs
    pub quiet : Quietly (machine setting.image) (with_frames state (frame ∷ others)) (with_frames state (last ∷ others))

  module _ (compiled : IsCompiled setting) (all : AreInsns setting body) (state : State) (others : List Frame) where
    fills_behind : (frame last : Frame) (first passed rest : List Emitted) → StandsAmongFills setting body frame first (passed ++ rest) → GoesOverAll setting.image state others frame passed last
        → Filled state others frame last (first ++ passed) rest
    fills_behind frame last first passed rest stands (OverNone same) =
        record {
          stands = subst (λ (l : List Emitted). StandsAmongFills setting body frame l rest) (sym (append-nil first)) stands;
          refs = refl;
          quiet = Rests (with_frames state (frame ∷ others));
        }
    fills_behind frame last first passed rest stands (OverOne here other there insn rows more over later) =
        let here_state = with_frames state (frame ∷ others) in
        let next = at_pc other (frame.pc + length (insn_bytes insn rows)) in
        let at = at_fill frame first insn rows (more ++ rest) stands in
        let behind = behind_fill frame next first insn rows (more ++ rest) stands over.keeps.method refl in
        let came = fills_behind next last (first ++ (insn, rows) ∷ []) more rest behind later in
        record {
          stands = subst (λ (l : List Emitted). StandsAmongFills setting body last l rest) (sym (list_over first (insn, rows) more)) came.stands;
          refs = came.refs ∙ over.keeps.refs;
          quiet =
              quietly_filled setting compiled body here_state frame other others refl insn rows over first (more ++ rest) at
              (insn_at_entry setting body frame first insn rows all (more ++ rest) at) (with_frames state (last ∷ others)) came.quiet;
        }

    -- a frame that begins comes quietly to the body's first instruction, where it goes over all that extends parameters
    pub enters : (frame last : Frame) → Contains setting.world.bodies body → frame.method ≡ id_for setting (method_of body) → frame.pc ≡ 0
        → GoesOverAll setting.image state others frame (fills_for setting body) last → Entered state others frame last
    enters frame last of_set method begins over =
        let stands : StandsAmongFills setting body frame [] (fills_for setting body ++ []) = record { of_set = of_set; method = method; emitted = sym (append-nil (fills_for setting body)); pc_is = begins } in
        let came = fills_behind frame last [] (fills_for setting body) [] stands over in
        record {
          method = came.stands.method;
          pc_is = came.stands.pc_is ∙ sym (offset_first (source_for setting body));
          refs = came.refs;
          quiet = came.quiet;
        }
