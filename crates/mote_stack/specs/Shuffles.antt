-- What the shuffles of operands do to a list.
use Rattle.std.specs.Prelude.{ℕ, ◌+◌, Bool, true, false, List, ◌++◌, take}
use Rattle.mote_stack.specs.Frames.{Frame, Stack, youngest_frame, with_youngest, with_refs, with_cells, without_last, last_items}

-- a half of a frame: its references, or its whole-number cells
abbrev pub half : Bool → Frame → List ℕ
half true frame = frame.refs
half false frame = frame.cells

-- the stack with another list in a half of the youngest frame
abbrev pub with_half : Bool → Stack → List ℕ → Stack
with_half true stack items = with_refs stack items
with_half false stack items = with_cells stack items

-- `.. J K` becomes `.. K J K`, where K has m items and J has n
abbrev pub duplicated : ℕ → ℕ → List ℕ → List ℕ
duplicated m n items = without_last (m + n) items ++ last_items m items ++ last_items (m + n) items

-- `.. J K` becomes `.. K J`, where K has m items and J has n
abbrev pub exchanged : ℕ → ℕ → List ℕ → List ℕ
exchanged m n items = without_last (m + n) items ++ last_items m items ++ without_last m (last_items (m + n) items)

-- without the item that has `depth` items above it
abbrev pub without_item : ℕ → List ℕ → List ℕ
without_item depth items = without_last (depth + 1) items ++ last_items depth items

-- the stack with the lists of the youngest frame cut to these lengths
abbrev pub trimmed : ℕ → ℕ → Stack → Stack
trimmed refs cells stack = with_youngest stack (record (youngest_frame stack) {
  refs = take refs (youngest_frame stack).refs;
  cells = take cells (youngest_frame stack).cells;
})
