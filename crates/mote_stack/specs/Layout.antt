-- How cells stand for frames. A frame is its body and, above it, a header of four cells: method, pc,
-- the number of references and the number of whole-number cells. In the body the references grow up
-- from the low end, and the whole-number cells grow down from the high end.
use Rattle.std.specs.Prelude.{◌≡◌, ℕ, zero, suc, ◌+◌, ◌-◌, ◌<◌, ◌≤◌, List, [], ◌∷◌, length, reverse, slice_index, slice_range, vec_len, nat_lt, if◌then◌else◌}
use Rattle.mote_stack.specs.Frames.{Frame, Stack}
use Rattle.mote_stack.specs.Roots.{refs_of}
use Rattle.mote_stack.specs.declared.region.Region.TheInside.{Inside}

-- the body cells of the frame whose header is here
abbrev pub body_of : List ℕ → List ℕ → ℕ → ℕ
body_of bodies cells header = slice_index bodies (slice_index cells header)

abbrev pub ref_depth_of : List ℕ → ℕ → ℕ
ref_depth_of cells header = slice_index cells (header + 2)

abbrev pub cell_depth_of : List ℕ → ℕ → ℕ
cell_depth_of cells header = slice_index cells (header + 3)

-- where the body of a frame begins
abbrev pub base_of : List ℕ → List ℕ → ℕ → ℕ
base_of bodies cells header = header - body_of bodies cells header

-- the frame whose header is here
abbrev pub frame_at : List ℕ → List ℕ → ℕ → Frame
frame_at bodies cells header = record {
  method = slice_index cells header;
  pc = slice_index cells (header + 1);
  body = body_of bodies cells header;
  refs = slice_range cells (base_of bodies cells header) (base_of bodies cells header + ref_depth_of cells header);
  cells = reverse (slice_range cells (header - cell_depth_of cells header) header);
}

-- the frames below a place, of which the youngest is the first
abbrev pub frames_below : List ℕ → List ℕ → ℕ → ℕ → List Frame
frames_below bodies cells zero top = []
frames_below bodies cells (suc older) top =
    frame_at bodies cells (top - 4) ∷ frames_below bodies cells older (base_of bodies cells (top - 4))

-- a header of a frame: its method is in the table, and its lists fit its body, which lies below it
pub record IsHeader (bodies cells : List ℕ) (header : ℕ) : Type 0 where
  pub method_known : slice_index cells header < length bodies
  pub body_below : body_of bodies cells header ≤ header
  pub lists_fit : ref_depth_of cells header + cell_depth_of cells header ≤ body_of bodies cells header

-- so many frames lie below a place, without a gap
abbrev pub AreFrames : List ℕ → List ℕ → ℕ → ℕ → Type 0
AreFrames bodies cells zero top = top ≡ 0
AreFrames bodies cells (suc older) top =
    (4 ≤ top) × IsHeader bodies cells (top - 4) × AreFrames bodies cells older (base_of bodies cells (top - 4))

-- where reference k of the frames below a place is, those of the oldest frame first
abbrev pub root_position : List ℕ → List ℕ → ℕ → ℕ → ℕ → ℕ
root_position bodies cells zero top k = 0
root_position bodies cells (suc older) top k =
    let base = base_of bodies cells (top - 4) in
    let below = length (refs_of (frames_below bodies cells older base)) in
    if nat_lt k below then root_position bodies cells older base k else base + (k - below)

-- the stack that the fields stand for
abbrev pub stack_of : Inside → Stack
stack_of inside = record {
  size = vec_len inside.cells;
  bodies = inside.bodies.items;
  frames = frames_below inside.bodies.items inside.cells.items inside.count inside.used;
}

-- what holds of the fields
pub record IsRegion (inside : Inside) : Type 0 where
  pub within : inside.used ≤ length inside.cells.items
  pub size_large : 64 ≤ length inside.cells.items
  pub size_small : length inside.cells.items ≤ 32767
  pub header_last : inside.youngest ≡ inside.used - 4
  pub in_frames : AreFrames inside.bodies.items inside.cells.items inside.count inside.used
