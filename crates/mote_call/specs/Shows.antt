-- What is asked of the memory before a native that shows bytes for the number on top.
use Rattle.std.specs.Prelude.{◌≡◌, ℕ, ◌+◌, ◌≤◌, List, ◌∷◌, length, map}
use Rattle.dialogue.specs.Answers.{Answers}
use Rattle.image_instr.specs.declared.insn.MInsn.{MInsn}
use Rattle.image_instr.specs.declared.insn.MInsn.TheVariants as insns
use Rattle.account.specs.Account.{Put, Does, tick_need}
use Rattle.mote_model.specs.declared.memory.State.{State as Memory}
use Rattle.mote_model.specs.SplitMoves.{at_pc}
use Rattle.mote_model.specs.SplitState.{State, with_frames}
use Rattle.mote_model.specs.SplitStep.{move}
use Rattle.mote_exec.specs.Steps.{with_taken}
use Rattle.split_safety.specs.Ready.{Shown, IsNext, IsReady}
use Rattle.mote_call.specs.CallTurns.{with_answers}

-- the state behind the instruction, without the number on top
abbrev pub without_number : (at : Shown) (insn : MInsn) → IsNext at.image at.state insn → State
without_number at insn next = with_frames at.state (at_pc (with_taken 2 next.frame) (next.frame.pc + next.size) ∷ next.others)

-- the memory is ready for a native that takes the number on top, and shows these bytes
pub record Shows (at : Shown) (memory : Memory) (bytes : List ℕ) : Type 0 where
  pub method : ℕ
  pub ready : IsReady at memory (insns.CallS method)
  pub enough : 2 ≤ length ready.next.frame.cells.operands
  pub shows : (answers : Answers) → move at.image (with_answers at.state answers) ≡ Does tick_need (map Put bytes) (with_answers (without_number at (insns.CallS method) ready.next) answers)
