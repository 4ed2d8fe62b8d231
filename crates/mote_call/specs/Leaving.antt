-- Where the code of a frame goes on, and what a return leaves.
use Rattle.std.specs.Prelude.{◌≡◌, ℕ, ◌+◌, ◌^◌, ◌<◌, ◌≤◌, List, [], ◌++◌, drop, length, Some}
use Rattle.std.specs.Option.{option_map_or}
use Rattle.image_instr.specs.declared.insn.MInsn.{MInsn}
use Rattle.image_instr.specs.Reading.{insn_at}
use Rattle.image_form.specs.declared.record.Image.{Image}
use Rattle.image_form.specs.declared.record.Method.{Method}
use Rattle.mote_stack.specs.Frames.{Stack, Frame, nth_frame, with_youngest, without_frame}
use Rattle.mote_model.specs.SplitState.{method_at}

-- the code of a method with code
abbrev pub code_of : Image → ℕ → List ℕ
code_of image id = option_map_or (λ (method : Method). method.code) (method_at image id) []

-- the pc behind the instruction at the pc of a frame
abbrev pub behind : Image → Frame → ℕ
behind image frame = option_map_or (λ (found : MInsn × ℕ). frame.pc + found.1) (insn_at (drop frame.pc (code_of image frame.method))) 0

-- an instruction is at the pc of the frame, and the pc behind it is one of 16 bits
pub record IsInCode (image : Image) (frame : Frame) : Type 0 where
  pub method : Method
  pub found : method_at image frame.method ≡ Some method
  pub insn : MInsn
  pub size : ℕ
  pub there : insn_at (drop frame.pc method.code) ≡ Some (insn, size)
  pub inside : frame.pc + size < 2 ^ 16

-- the caller of the youngest frame
abbrev pub caller_of : Stack → Frame
caller_of stack = nth_frame stack 1

-- The youngest frame is removed; its caller goes on behind its call, with these references and cells on top.
abbrev pub returned : Image → Stack → (refs cells : List ℕ) → Stack
returned image stack refs cells =
    let caller = caller_of stack in
    with_youngest (without_frame stack) (record caller { pc = behind image caller; refs = caller.refs ++ refs; cells = caller.cells ++ cells })

-- the caller has room for so many cells more
abbrev pub HasRoom : Stack → ℕ → Type 0
HasRoom stack count = let caller = caller_of stack in length caller.refs + length caller.cells + count ≤ caller.body

-- the youngest frame has a caller, which is in its code
pub record HasCaller (image : Image) (stack : Stack) : Type 0 where
  pub two : 1 < length stack.frames
  pub in_code : IsInCode image (caller_of stack)
