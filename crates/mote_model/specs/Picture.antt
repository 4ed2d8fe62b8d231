-- How the memory of a mote stands for a state of the split machine: each half of a frame as one list, references as the
-- offsets of their objects.
use Rattle.std.specs.Prelude.{◌≡◌, ℕ, ◌<◌, Bool, true, List, ◌++◌, map, replicate, Some, None}
use Rattle.std.specs.List.{AllByRecursion}
use Rattle.std.specs.Option.{option_map_or}
use Rattle.library.specs.Classes.{first_own}
use Rattle.image_form.specs.declared.record.Image.{Image}
use Rattle.image_form.specs.declared.record.Method.{Method}
use Rattle.mote_stack.specs.Frames.{Stack}
use Rattle.mote_stack.specs.Frames as stack
use Rattle.mote_model.specs.declared.memory.State.{State as Memory}
use Rattle.mote_model.specs.State.{Reference, Frame, whole}
use Rattle.mote_model.specs.SplitState.{State, method_at}

-- ---- objects

-- where the objects of the heap stand, by their names: the offsets of those that are kept
pub record Naming : Type 0 where
  pub offset : ℕ → ℕ
  pub kept : ℕ → Bool

-- no two objects stand at one offset, and none at 0, which is null's
pub record IsNaming (naming : Naming) : Type 0 where
  pub apart : (first second : ℕ) → naming.kept first ≡ true → naming.kept second ≡ true → naming.offset first ≡ naming.offset second → first ≡ second
  pub above : (name : ℕ) → naming.kept name ≡ true → 0 < naming.offset name

-- the cell of a reference
abbrev pub cell_of : Naming → Reference → ℕ
cell_of naming None = 0
cell_of naming (Some name) = naming.offset name

-- null, or an object of the heap
abbrev pub IsKept : Naming → Reference → Type 0
IsKept naming None = Unit {0}
IsKept naming (Some name) = naming.kept name ≡ true

-- ---- frames

abbrev pub body_of : Image → ℕ → ℕ
body_of image id = option_map_or (λ (method : Method). method.body) (method_at image id) 0

-- the body cells of the methods by their ids; those of the library have none
abbrev pub bodies_of : Image → List ℕ
bodies_of image = replicate first_own 0 ++ map (λ (method : Method). method.body) image.methods

-- a frame in cells
abbrev pub shown_frame : Image → Naming → Frame → stack.Frame
shown_frame image naming frame =
    record {
      method = frame.method;
      pc = frame.pc;
      body = body_of image frame.method;
      refs = map (cell_of naming) (whole frame.refs);
      cells = whole frame.cells;
    }

abbrev pub shown_stack : Image → Naming → ℕ → List Frame → Stack
shown_stack image naming size frames = record { size = size; bodies = bodies_of image; frames = map (shown_frame image naming) frames }

abbrev pub KeepsFrame : Naming → Frame → Type 0
KeepsFrame naming frame = AllByRecursion (IsKept naming) (whole frame.refs)

-- ---- states

-- the memory, of a stack of so many cells, stands for the state
pub record Pictures (image : Image) (naming : Naming) (size : ℕ) (memory : Memory) (state : State) : Type 0 where
  pub naming_is : IsNaming naming
  pub region : memory.region ≡ shown_stack image naming size state.frames
  pub ref_statics : memory.ref_statics.items ≡ map (cell_of naming) state.ref_statics
  pub cell_statics : memory.cell_statics.items ≡ state.cell_statics
  pub kept_frames : AllByRecursion (KeepsFrame naming) state.frames
  pub kept_statics : AllByRecursion (IsKept naming) state.ref_statics
