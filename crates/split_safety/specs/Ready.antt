-- What is asked of the memory of a mote before a step.
use Rattle.std.specs.Prelude.{◌≡◌, ℕ, List, ◌∷◌, drop, Some}
use Rattle.image_instr.specs.declared.insn.MInsn.{MInsn}
use Rattle.image_instr.specs.Reading.{insn_at}
use Rattle.image_form.specs.declared.record.Image.{Image}
use Rattle.image_form.specs.declared.record.Method.{Method}
use Rattle.mote_model.specs.State.{Frame}
use Rattle.mote_model.specs.SplitState.{State, method_at}
use Rattle.mote_model.specs.declared.memory.State.{State as Memory}
use Rattle.mote_model.specs.Picture.{Naming, Pictures}
use Rattle.split_safety.specs.Reached.{IsReached}
use Rattle.split_safety.specs.Safety.{IsSound}

-- an image, a state of its run, where the objects stand, and how many cells the stack has
pub record Shown : Type 0 where
  pub image : Image
  pub state : State
  pub naming : Naming
  pub size : ℕ

-- the instruction, of so many bytes, is at the pc of the youngest frame
pub record IsNext (image : Image) (state : State) (insn : MInsn) : Type 0 where
  pub frame : Frame
  pub others : List Frame
  pub frames_are : state.frames ≡ frame ∷ others
  pub method : Method
  pub found : method_at image frame.method ≡ Some method
  pub size : ℕ
  pub there : insn_at (drop frame.pc method.code) ≡ Some (insn, size)

-- the memory stands for a state that runs of the image come to, and the instruction is the next one
pub record IsReady (shown : Shown) (memory : Memory) (insn : MInsn) : Type 0 where
  pub sound : IsSound shown.image
  pub reached : IsReached shown.image shown.state
  pub pictures : Pictures shown.image shown.naming shown.size memory shown.state
  pub next : IsNext shown.image shown.state insn
