-- A stack of activation frames as lists.
use Rattle.std.specs.Prelude.{◌≡◌, All, ℕ, ◌+◌, ◌-◌, ◌<◌, ◌≤◌, List, [], ◌∷◌, ◌++◌, length, take, drop, replicate, slice_index, slice_set}
use Rattle.std.specs.List.{slice_index_or, sum_by}

-- a frame: its method, its pc, the cells of its body, and its two lists, locals first, then operands
pub record Frame : Type 0 where
  pub method : ℕ
  pub pc : ℕ
  pub body : ℕ
  pub refs : List ℕ
  pub cells : List ℕ

-- a stack: its size in cells, the body cells of each method, and its frames, the youngest first
pub record Stack : Type 0 where
  pub size : ℕ
  pub bodies : List ℕ
  pub frames : List Frame

-- what stands for the youngest frame of a stack without one
abbrev pub no_frame : Frame
no_frame = record { method = 0; pc = 0; body = 0; refs = []; cells = [] }

-- frame k, counted from the youngest
abbrev pub nth_frame : Stack → ℕ → Frame
nth_frame stack k = slice_index_or stack.frames k no_frame

abbrev pub youngest_frame : Stack → Frame
youngest_frame stack = nth_frame stack 0

-- the stack with another youngest frame
abbrev pub with_youngest : Stack → Frame → Stack
with_youngest stack frame = record stack { frames = slice_set stack.frames 0 frame }

-- the stack with other references in the youngest frame
abbrev pub with_refs : Stack → List ℕ → Stack
with_refs stack refs = with_youngest stack (record (youngest_frame stack) { refs = refs })

-- the stack with other whole-number cells in the youngest frame
abbrev pub with_cells : Stack → List ℕ → Stack
with_cells stack cells = with_youngest stack (record (youngest_frame stack) { cells = cells })

-- the cells that a frame takes: four of header, and its body
abbrev pub cells_of : Frame → ℕ
cells_of frame = frame.body + 4

-- the cells in use
abbrev pub cells_in_use : Stack → ℕ
cells_in_use stack = sum_by cells_of stack.frames

-- the youngest frame has n free cells between its halves
abbrev pub HasFreeCells : Stack → ℕ → Type 0
HasFreeCells stack n =
    length (youngest_frame stack).refs + length (youngest_frame stack).cells + n ≤ (youngest_frame stack).body

-- a list without its last n items, and these items
abbrev pub without_last : ℕ → List ℕ → List ℕ
without_last n items = take (length items - n) items

abbrev pub last_items : ℕ → List ℕ → List ℕ
last_items n items = drop (length items - n) items

-- the n last items of a list, and zeros up to a length
abbrev pub locals_from : ℕ → ℕ → List ℕ → List ℕ
locals_from n count items = last_items n items ++ replicate (count - n) 0

-- the cells that a new frame of a method needs
abbrev pub frame_need : Stack → ℕ → ℕ
frame_need stack method = slice_index stack.bodies method + 4

-- the new frame of a call: its arguments come off the lists of the youngest frame
abbrev pub called_frame : Stack → ℕ → ℕ → ℕ → ℕ → ℕ → Frame
called_frame stack method ref_locals cell_locals ref_args cell_args = record {
  method = method;
  pc = 0;
  body = slice_index stack.bodies method;
  refs = locals_from ref_args ref_locals (youngest_frame stack).refs;
  cells = locals_from cell_args cell_locals (youngest_frame stack).cells;
}

-- the youngest frame without the arguments of a call
abbrev pub calling_frame : Stack → ℕ → ℕ → Frame
calling_frame stack ref_args cell_args = record (youngest_frame stack) {
  refs = without_last ref_args (youngest_frame stack).refs;
  cells = without_last cell_args (youngest_frame stack).cells;
}

-- the stack after a call
abbrev pub with_frame : Stack → ℕ → ℕ → ℕ → ℕ → ℕ → Stack
with_frame stack method ref_locals cell_locals ref_args cell_args = record stack {
  frames = called_frame stack method ref_locals cell_locals ref_args cell_args
      ∷ slice_set stack.frames 0 (calling_frame stack ref_args cell_args);
}

-- the stack without its youngest frame
abbrev pub without_frame : Stack → Stack
without_frame stack = record stack { frames = drop 1 stack.frames }

-- a frame of a method in the table, whose lists fit its body
pub record IsFrame (bodies : List ℕ) (frame : Frame) : Type 0 where
  pub method_known : frame.method < length bodies
  pub body_is : frame.body ≡ slice_index bodies frame.method
  pub lists_fit : length frame.refs + length frame.cells ≤ frame.body

-- what holds of each stack
pub record IsStack (stack : Stack) : Type 0 where
  pub size_large : 64 ≤ stack.size
  pub size_small : stack.size ≤ 32767
  pub within : cells_in_use stack ≤ stack.size
  pub frames_fit : All (IsFrame stack.bodies) stack.frames
