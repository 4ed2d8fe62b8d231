-- The number on top, of which a native shows bytes.
use Rattle.std.proofs.Common.{◌≡◌, ℕ, ℤ, ◌+◌, ◌≤◌, List, ◌∷◌, length, map, reverse, take, sym, ap, ◌∙◌, arith}
use Rattle.dialogue.specs.Answers.{Answers}
use Rattle.image_instr.specs.declared.insn.MInsn.TheVariants as insns
use Rattle.image_instr.specs.declared.insn.Width.TheVariants as width
use Rattle.account.specs.Account.{Put, Does, tick_need}
use Rattle.mote_stack.specs.Frames.{youngest_frame}
use Rattle.mote_model.specs.declared.memory.State.{State as Memory}
use Rattle.mote_model.specs.State.{Frame}
use Rattle.mote_model.specs.SplitMoves.{at_pc, number_of}
use Rattle.mote_model.specs.SplitState.{with_frames}
use Rattle.mote_model.specs.SplitStep.{shows}
use Rattle.split_safety.specs.Ready.{Shown, IsReady}
use Rattle.mote_exec.specs.Steps.{number_below}
use Rattle.mote_exec.proofs.GoingOn.{cells_counted, number_is}
use Rattle.mote_exec.proofs.Taking.{takes_number}
use Rattle.mote_call.specs.CallTurns.{with_answers}
use Rattle.mote_call.specs.Shows.{Shows, without_number}
use Rattle.mote_call.proofs.Answering.{move_with, moves_with, step_of}

module _ (at : Shown) (old : Memory) (method : ℕ) (ready : IsReady at old (insns.CallS method)) (enough : 2 ≤ length ready.next.frame.cells.operands) where
  abbrev pub number : ℤ
  number = number_of (reverse (take 2 ready.next.frame.cells.operands))

  pub two_cells : let youngest = youngest_frame old.region in 2 ≤ length youngest.cells
  two_cells = omega (arith, enough, cells_counted at old old (insns.CallS method) (ready.next.frame.pc + ready.next.size) (step_of at old (insns.CallS method) ready))

  pub number_read : (let youngest = youngest_frame old.region in number_below width.Two 0 youngest.cells) ≡ number
  number_read = number_is at old old (insns.CallS method) (ready.next.frame.pc + ready.next.size) (step_of at old (insns.CallS method) ready) width.Two 0 (omega (arith, enough))

  pub shows_of : (bytes_of : ℤ → List ℕ)
      → ((answers : Answers) → move_with at (insns.CallS method) ready.next answers ≡ shows (with_answers at.state answers) ready.next.frame ready.next.others (ready.next.frame.pc + ready.next.size) bytes_of)
      → (bytes : List ℕ) → bytes ≡ bytes_of number → Shows at old bytes
  shows_of bytes_of is bytes e = record {
    method = method;
    ready = ready;
    enough = enough;
    shows = λ answers.
        let state = with_answers at.state answers in
        moves_with at (insns.CallS method) ready.next answers ∙ is answers
        ∙ takes_number width.Two ready.next.frame (λ (number : ℤ) (rest : Frame). Does tick_need (map Put (bytes_of number)) (with_frames state (at_pc rest (ready.next.frame.pc + ready.next.size) ∷ ready.next.others))) enough
        ∙ ap (λ bytes. Does tick_need (map Put bytes) (with_answers (without_number at (insns.CallS method) ready.next) answers)) (sym e);
  }
