-- The move of the next instruction, whatever is answered, and what the memory has where it is ready.
use Rattle.std.proofs.Common.{◌≡◌, ◌+◌, drop, refl, subst}
use Rattle.image_instr.specs.declared.insn.MInsn.{MInsn}
use Rattle.image_instr.specs.Reading.{rows_at}
use Rattle.dialogue.specs.Answers.{Answers}
use Rattle.mote_model.specs.declared.memory.State.{State as Memory}
use Rattle.mote_model.specs.SplitMoves.{SplitMove}
use Rattle.mote_model.specs.SplitStep.{move, move_of}
use Rattle.split_safety.specs.Ready.{Shown, IsNext, IsReady}
use Rattle.split_safety.specs.Safety.{StaysReached}
use Rattle.split_safety.proofs.moves.AllMoves.{moves_stay}
use Rattle.mote_exec.specs.Steps.{IsStep}
use Rattle.mote_exec.proofs.GoingOn.{move_is}
use Rattle.mote_call.specs.CallTurns.{with_answers}

-- the step of the next instruction
abbrev pub step_of : (shown : Shown) (memory : Memory) (insn : MInsn) (ready : IsReady shown memory insn) → IsStep shown memory insn (ready.next.frame.pc + ready.next.size)
step_of shown memory insn ready = record { ready = ready; behind = refl }

module _ (shown : Shown) (insn : MInsn) (next : IsNext shown.image shown.state insn) where
  -- the move with these answers to come
  abbrev pub move_with : Answers → SplitMove
  move_with answers =
      move_of shown.image (with_answers shown.state answers) next.frame next.others (next.frame.pc + next.size) insn (rows_at insn (drop next.frame.pc next.method.code))

  pub moves_with : (answers : Answers) → move shown.image (with_answers shown.state answers) ≡ move_with answers
  moves_with answers = move_is shown.image (with_answers shown.state answers) insn (record {
    frame = next.frame;
    others = next.others;
    frames_are = next.frames_are;
    method = next.method;
    found = next.found;
    size = next.size;
    there = next.there;
  })

  -- it is not stuck
  pub stays_with : (memory : Memory) → IsReady shown memory insn → StaysReached shown.image (move_with shown.state.answers)
  stays_with memory ready = subst (StaysReached shown.image) (moves_with shown.state.answers) (moves_stay shown.image ready.sound shown.state ready.reached)
