-- Instructions that move the operands of both halves: first the references, where there are any, and then the cells.
use Rattle.std.proofs.Common.{◌≡◌, ℕ, ◌+◌, Bool, true, false, List, [], ◌∷◌, ◌++◌, length, refl, ◌∙◌}
use Rattle.image_instr.specs.declared.insn.MInsn.{MInsn}
use Rattle.image_instr.specs.Insn.{insn_bytes}
use Rattle.body_form.specs.declared.op.Op.{Op}
use Rattle.jvm_model.specs.ImageExpansion.{alone, alone_where}
use Rattle.jvm_model.specs.State.{Value}
use Rattle.mote_model.specs.State.{Frame as SplitFrame}
use Rattle.mote_model.specs.SplitMoves as split_moves
use Rattle.mote_model.specs.SplitMoves.{with_refs, with_cells}
use Rattle.mote_model.specs.SplitState as split
use Rattle.mote_model.specs.SplitStep as split_step
use Rattle.typed_machine.specs.TypedMoves.{goes_on}
use Rattle.typed_machine.specs.TypedState.{State}
use Rattle.typed_machine.specs.TypedStep.{move}
use Rattle.typed_machine.specs.TypedWorld.{pc_after}
use Rattle.match_states.specs.Setting.{Setting}
use Rattle.match_code.specs.Standing.{emitted_at}
use Rattle.match_code.proofs.QuietInsns.{GoesOn}
use Rattle.match_code.proofs.QuietRuns.{GoesOverAll, OverNone, OverOne}
use Rattle.follow_numbers.specs.WideCode.{value_refs, value_cells, IsWideCode, StandsAt}
use Rattle.follow_numbers.proofs.NextStates.{body_at, refs_at, cells_at}
use Rattle.follow_numbers.proofs.NextMoves.{AreMatched}
use Rattle.follow_operands.proofs.MovedFrames.{all_quiet, one_loud, locals_kept}

module _ {setting : Setting} {state : State} {other : split.State} {instruction : Op} (code : IsWideCode setting) (here : StandsAt setting state other instruction) (values : List Value) where
  -- What an instruction does to the references, and another one to the cells, where they are there. The operands of a half
  -- for which there is none are as they are to be.
  pub record MoveHalves (some_refs some_cells : Bool) (over_refs over_cells : MInsn) : Type 0 where
    pub refs : some_refs ≡ true → (at : ℕ) → split_step.move_of setting.image (split.with_frames other (here.split ∷ here.others)) here.split here.others at over_refs []
        ≡ split_moves.goes_on other (with_refs here.split (value_refs values)) here.others at
    pub cells : some_cells ≡ true → (frame : SplitFrame) → frame.cells ≡ here.split.cells → GoesOn setting.image (split.with_frames other (frame ∷ here.others)) frame (with_cells frame (value_cells values)) here.others over_cells
    pub same_refs : some_refs ≡ false → value_refs here.frame.operands ≡ value_refs values
    pub same_cells : some_cells ≡ false → value_cells here.frame.operands ≡ value_cells values

  module _ (typed : move setting.world state ≡ goes_on state here.frame here.frames (pc_after (body_at here).ops here.frame.pc) values) (over_refs over_cells : MInsn) where
    -- a frame whose cells have moved
    cells_over : (frame : SplitFrame) → GoesOn setting.image (split.with_frames other (frame ∷ here.others)) frame (with_cells frame (value_cells values)) here.others over_cells
        → GoesOverAll setting.image other here.others frame (alone over_cells) (split_moves.at_pc (with_cells frame (value_cells values)) (frame.pc + length (insn_bytes over_cells [])))
    cells_over frame over =
        let moved = with_cells frame (value_cells values) in
        let last = split_moves.at_pc moved (frame.pc + length (insn_bytes over_cells [])) in
        OverOne frame moved last over_cells [] [] over (OverNone last)

    pub halves_follow : (some_refs some_cells : Bool) → MoveHalves some_refs some_cells over_refs over_cells
        → emitted_at setting (body_at here) here.frame.pc instruction ≡ alone_where some_refs over_refs ++ alone_where some_cells over_cells → AreMatched setting state other
    halves_follow false false moves emitted =
        all_quiet code here here.frame.locals values typed [] emitted here.split (OverNone here.split)
        (record { method = refl; locals = locals_kept code here here.split refl refl; refs = refs_at here code ∙ moves.same_refs refl; cells = cells_at here code ∙ moves.same_cells refl })
    halves_follow false true moves emitted =
        let last = split_moves.at_pc (with_cells here.split (value_cells values)) (here.split.pc + length (insn_bytes over_cells [])) in
        all_quiet code here here.frame.locals values typed (alone over_cells) emitted last (cells_over here.split (moves.cells refl here.split refl))
        (record { method = refl; locals = locals_kept code here last refl refl; refs = refs_at here code ∙ moves.same_refs refl; cells = refl })
    halves_follow true false moves emitted =
        let after = here.split.pc + length (insn_bytes over_refs []) in
        let between = with_refs here.split (value_refs values) in
        let last = split_moves.at_pc between after in
        one_loud code here here.frame.locals values typed [] over_refs [] [] emitted here.split between last (OverNone here.split) refl (moves.refs refl after) (OverNone last)
        (record { method = refl; locals = locals_kept code here last refl refl; refs = refl; cells = cells_at here code ∙ moves.same_cells refl })
    halves_follow true true moves emitted =
        let after = here.split.pc + length (insn_bytes over_refs []) in
        let between = with_refs here.split (value_refs values) in
        let behind = split_moves.at_pc between after in
        let last = split_moves.at_pc (with_cells behind (value_cells values)) (behind.pc + length (insn_bytes over_cells [])) in
        one_loud code here here.frame.locals values typed [] over_refs [] (alone over_cells) emitted here.split between last (OverNone here.split) refl (moves.refs refl after)
        (cells_over behind (moves.cells refl behind refl)) (record { method = refl; locals = locals_kept code here last refl refl; refs = refl; cells = refl })
