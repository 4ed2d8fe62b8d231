-- The form of the lemmas on moves.
use Rattle.std.proofs.Common.{ℕ, ◌+◌, List, drop}
use Rattle.image_instr.specs.declared.insn.MInsn.{MInsn}
use Rattle.image_instr.specs.Reading.{rows_at}
use Rattle.image_form.specs.declared.record.Image.{Image}
use Rattle.image_form.specs.declared.record.Method.{Method}
use Rattle.mote_model.specs.State.{Frame}
use Rattle.mote_model.specs.SplitState.{State}
use Rattle.mote_model.specs.SplitStep.{move_of}
use Rattle.split_safety.specs.Safety.{StaysReached}
use Rattle.split_safety.proofs.moves.Going.{IsAt}

-- the move of the instruction, where it stands in the youngest frame of a reached state, stays reached
abbrev pub MoveLemma : MInsn → Type 0
MoveLemma insn =
    (image : Image) (state : State) (frame : Frame) (others : List Frame) (method : Method) (size : ℕ) → IsAt image state frame others method insn size
    → StaysReached image (move_of image state frame others (frame.pc + size) insn (rows_at insn (drop frame.pc method.code)))
