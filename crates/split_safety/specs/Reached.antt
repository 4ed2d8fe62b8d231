-- The states that runs of a checked image come to. Each frame is that of a method, and the depths of its operands reach
-- its pc; those below the youngest wait at a call, for the result that the frame above them gives.
use Rattle.std.specs.Prelude.{◌≡◌, ℕ, ◌-◌, ◌^◌, ◌<◌, Bool, true, false, List, [], ◌∷◌, drop, length, Some}
use Rattle.std.specs.List.{AllByRecursion}
use Rattle.std.specs.Option.{option_map_or}
use Rattle.image_instr.specs.declared.insn.MInsn.{MInsn}
use Rattle.image_instr.specs.declared.insn.MInsn.TheVariants as insns
use Rattle.image_instr.specs.Reading.{insn_at}
use Rattle.image_form.specs.declared.record.Image.{Image}
use Rattle.image_form.specs.declared.record.Method.{Method}
use Rattle.image_check.specs.Ids.{called_by}
use Rattle.image_check.specs.Visits.{Depth, depth, HasOperands, IsSent, moved_by}
use Rattle.mote_model.specs.State.{Frame, whole}
use Rattle.mote_model.specs.SplitState.{State, method_at}

abbrev pub IsCell : ℕ → Type 0
IsCell number = number < 2 ^ 16

-- ---- frames

-- how many operands the halves of a frame have
abbrev pub depth_of : Frame → Depth
depth_of frame = depth (length frame.refs.operands) (length frame.cells.operands)

-- the locals of the method are there, and each cell holds a number of 16 bits
pub record HoldsLocals (method : Method) (frame : Frame) : Type 0 where
  pub refs : length frame.refs.locals ≡ method.ref_locals
  pub cells : length frame.cells.locals ≡ method.cell_locals
  pub are_cells : AllByRecursion IsCell (whole frame.cells)

-- the depths of the frame's operands reach its pc
pub record IsRunning (image : Image) (frame : Frame) : Type 0 where
  pub method : Method
  pub found : method_at image frame.method ≡ Some method
  pub locals : HoldsLocals method frame
  pub sent : IsSent image method.code frame.pc (depth_of frame)

-- the instruction calls a method
abbrev pub is_call : MInsn → Bool
is_call (insns.CallS id) = true
is_call (insns.CallX id) = true
is_call (insns.CallV selector) = true
is_call (insns.CallI selector id) = true
is_call insn = false

-- the depth without what an instruction takes
abbrev pub without_taken : Image → MInsn → Depth → Depth
without_taken image insn before = depth (before.refs - (moved_by image insn).ref_pop) (before.cells - (moved_by image insn).cell_pop)

-- the frame waits at a call for a result of this code, without what the call took
pub record IsWaiting (image : Image) (result : ℕ) (frame : Frame) : Type 0 where
  pub method : Method
  pub found : method_at image frame.method ≡ Some method
  pub locals : HoldsLocals method frame
  pub before : Depth
  pub sent : IsSent image method.code frame.pc before
  pub insn : MInsn
  pub size : ℕ
  pub there : insn_at (drop frame.pc method.code) ≡ Some (insn, size)
  pub call : is_call insn ≡ true
  pub operands : HasOperands (moved_by image insn) before
  pub left : depth_of frame ≡ without_taken image insn before
  pub awaited : (called_by image insn).result ≡ result

-- the code of what a frame's method gives
abbrev pub result_of : Image → Frame → ℕ
result_of image frame = option_map_or (λ (method : Method). method.sig.result) (method_at image frame.method) 0

-- each of these frames waits for the one above it
unfoldable pub AreWaiting : Image → Frame → List Frame → Type 0
AreWaiting image above [] = Unit {0}
AreWaiting image above (frame ∷ others) = IsWaiting image (result_of image above) frame × AreWaiting image frame others

-- ---- states

-- the youngest frame runs, and the others wait; the statics of the image are there
pub record IsReached (image : Image) (state : State) : Type 0 where
  pub frame : Frame
  pub others : List Frame
  pub frames_are : state.frames ≡ frame ∷ others
  pub running : IsRunning image frame
  pub waiting : AreWaiting image frame others
  pub ref_statics : length state.ref_statics ≡ image.static_refs
  pub cell_statics : length state.cell_statics ≡ length image.static_cells
  pub are_cells : AllByRecursion IsCell state.cell_statics
