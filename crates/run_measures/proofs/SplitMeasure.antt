-- The split machine is measured in the reached states of a sound image.
use Rattle.std.proofs.Common.{◌≡◌, ℕ, ◌+◌, ◌<◌, false, List, [], ◌∷◌, drop, Option, Some, sym, ap, subst, ◌∙◌, arith}
use Rattle.std.specs.Option.{option_map_or}
use Rattle.account.specs.Account.{Event, Need, Does}
use Rattle.image_instr.specs.declared.insn.MInsn.{MInsn}
use Rattle.image_instr.specs.Reading.{insn_at, rows_at}
use Rattle.image_form.specs.declared.record.Image.{Image}
use Rattle.image_form.specs.declared.record.Method.{Method}
use Rattle.mote_model.specs.State.{Frame}
use Rattle.mote_model.specs.SplitMoves.{using}
use Rattle.mote_model.specs.SplitState.{State}
use Rattle.mote_model.specs.SplitStep.{code_from, move, move_of, move_among}
use Rattle.split_safety.specs.Reached.{IsReached, depth_of}
use Rattle.split_safety.specs.Safety.{IsSound, StaysReached}
use Rattle.split_safety.proofs.facts.Numbers.{found_sized}
use Rattle.split_safety.proofs.facts.Standing.{Stands}
use Rattle.split_safety.proofs.moves.AllMoves.{stands, moves_stay}
use Rattle.run_measures.specs.Measured.{SplitIsMeasured}
use Rattle.run_measures.proofs.SplitRank.{rank_of, IsAhead, code_there}
use Rattle.run_measures.proofs.SplitForms.{rank_in}
use Rattle.run_measures.proofs.Lowering.{Lowers}
use Rattle.run_measures.proofs.SplitMoves.{insn_lowers}

module _ (image : Image) (sound : IsSound image) (state : State) (reached : IsReached image state) where
  abbrev frame : Frame
  frame = reached.frame

  abbrev others : List Frame
  others = reached.others

  here : Stands image reached.running.method frame.pc (depth_of frame)
  here = stands image sound state reached

  found_is : insn_at (code_from image frame) ≡ Some (here.insn, here.size)
  found_is = ap (λ (found : Option Method). insn_at (drop frame.pc (option_map_or (λ (method : Method). method.code) found []))) reached.running.found ∙ here.found

  -- the instruction of the youngest frame has bytes
  ahead : IsAhead image frame (frame.pc + here.size)
  ahead =
      let size = (found_sized (code_from image frame) here.insn here.size found_is).0 in
      record { some = code_there image frame (here.insn, here.size) found_is; later = omega (arith, size) }

  lowers : Lowers (rank_in image) (rank_of image (frame ∷ others)) (move image state)
  lowers =
      subst (λ (frames : List Frame). Lowers (rank_in image) (rank_of image (frame ∷ others)) (move_among image state frames)) (sym reached.frames_are)
      (subst (λ (found : Option (MInsn × ℕ)). Lowers (rank_in image) (rank_of image (frame ∷ others)) (using found (λ found. move_of image state frame others (frame.pc + found.1) found.0 (rows_at found.0 (code_from image frame))))) (sym found_is)
      (insn_lowers ahead others state here.insn (rows_at here.insn (code_from image frame)) here.run))

  pub falls : (next : State) (need : Need) (events : List Event) → move image state ≡ Does need events next → need.tick ≡ false → rank_of image next.frames < rank_of image state.frames
  falls next need events is quiet =
      subst (λ (frames : List Frame). rank_of image next.frames < rank_of image frames) (sym reached.frames_are) (lowers.lower need events next is quiet)

pub split_is_measured : SplitIsMeasured
split_is_measured image sound = record {
  moves = λ state reached stuck. subst (StaysReached image) stuck (moves_stay image sound state reached);
  holds = λ state next need events reached is. subst (StaysReached image) is (moves_stay image sound state reached);
  rank = rank_in image;
  falls = λ state next need events reached is quiet. falls image sound state reached next need events is quiet;
}
