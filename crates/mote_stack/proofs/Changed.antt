-- The stack as the cells of the youngest frame change.
use Rattle.std.proofs.Common.{◌≡◌, ℕ, suc, ◌+◌, ◌-◌, ◌<◌, ◌≤◌, List, [], ◌∷◌, length, get_or, slice_set, refl, sym, ◌∙◌, ap, subst, arith}
use Rattle.mote_stack.specs.Frames.{Frame, Stack, no_frame, youngest_frame, with_youngest, with_refs, with_cells}
use Rattle.mote_stack.specs.Layout.{body_of, base_of, ref_depth_of, cell_depth_of, frame_at, frames_below, IsHeader, AreFrames, stack_of, IsRegion}
use Rattle.mote_stack.specs.declared.region.Region.TheInside.{Inside}
use Rattle.std.proofs.lemmas.List.{get_or_read}
use Rattle.mote_stack.proofs.Ranges.{length_up, length_down, get_up, get_down}
use Rattle.mote_stack.proofs.Youngest.{frame_count_is, AgreeBelow, Opened, opened, reopened, frame_is}

-- a region whose stack has a frame
pub some_frame : (i : Inside) → 0 < length (stack_of i).frames → 0 < i.count
some_frame i some =
    omega (arith, some, frame_count_is i.bodies.items i.cells.items i.count i.used)

-- the fields of a region with a frame, seen from the youngest frame
pub record Seen (i : Inside) (stack : Stack) : Type 0 where
  pub is_view : stack_of i ≡ stack
  pub within : i.used ≤ length i.cells.items
  pub size_small : length i.cells.items ≤ 32767
  pub long : length i.cells.items ≡ i.cells.len
  pub last : i.youngest + 4 ≡ i.used
  pub method_known : get_or i.cells.items i.youngest 0 < length i.bodies.items
  pub body_below : body_of i.bodies.items i.cells.items i.youngest ≤ i.youngest
  pub lists_fit : ref_depth_of i.cells.items i.youngest + cell_depth_of i.cells.items i.youngest ≤ body_of i.bodies.items i.cells.items i.youngest
  pub refs_long : length (youngest_frame stack).refs ≡ ref_depth_of i.cells.items i.youngest
  pub cells_long : length (youngest_frame stack).cells ≡ cell_depth_of i.cells.items i.youngest
  pub youngest_is : youngest_frame stack ≡ frame_at i.bodies.items i.cells.items i.youngest
  pub method_is : (youngest_frame stack).method ≡ get_or i.cells.items i.youngest 0
  pub pc_is : (youngest_frame stack).pc ≡ get_or i.cells.items (i.youngest + 1) 0
  pub body_is : (youngest_frame stack).body ≡ body_of i.bodies.items i.cells.items i.youngest
  pub refs_at : (k : ℕ) → k < ref_depth_of i.cells.items i.youngest → get_or (youngest_frame stack).refs k 0 ≡ get_or i.cells.items (base_of i.bodies.items i.cells.items i.youngest + k) 0
  pub cells_at : (k : ℕ) → k < cell_depth_of i.cells.items i.youngest → get_or (youngest_frame stack).cells k 0 ≡ get_or i.cells.items (i.youngest - 1 - k) 0
  pub view : Opened i.bodies.items i.cells.items i.count i.used i.youngest

seen_so : (i : Inside) → IsRegion i → 0 < i.count → Seen i (stack_of i)
seen_so i is some =
    let view = opened i.bodies.items i.cells.items i.count i.used i.youngest is.in_frames is.header_last some in
    let within = is.within in
    let last = view.header_last in
    let youngest : youngest_frame (stack_of i) ≡ frame_at i.bodies.items i.cells.items i.youngest =
    ap (λ fs. get_or fs 0 no_frame) view.frames in
    record {
      is_view = refl;
      within = is.within;
      size_small = is.size_small;
      long = sym i.cells.ok.0;
      last = view.header_last;
      method_known = view.is.method_known;
      body_below = view.is.body_below;
      lists_fit = view.is.lists_fit;
      refs_long = ap (λ (f : Frame). length f.refs) youngest ∙ length_up i.cells.items (base_of i.bodies.items i.cells.items i.youngest) (ref_depth_of i.cells.items i.youngest) (omega arith);
      cells_long = ap (λ (f : Frame). length f.cells) youngest ∙ length_down i.cells.items i.youngest (cell_depth_of i.cells.items i.youngest) (omega arith) (omega arith);
      youngest_is = youngest;
      method_is = ap (λ (f : Frame). f.method) youngest;
      pc_is = ap (λ (f : Frame). f.pc) youngest;
      body_is = ap (λ (f : Frame). f.body) youngest;
      refs_at = λ k small. ap (λ (f : Frame). get_or f.refs k 0) youngest ∙ get_up i.cells.items (base_of i.bodies.items i.cells.items i.youngest) (ref_depth_of i.cells.items i.youngest) k small;
      cells_at = λ k small. ap (λ (f : Frame). get_or f.cells k 0) youngest ∙ get_down i.cells.items i.youngest (cell_depth_of i.cells.items i.youngest) k (omega arith) (omega arith) small;
      view = view;
    }

pub seen : (i : Inside) (stack : Stack) → stack_of i ≡ stack → IsRegion i → 0 < length stack.frames → Seen i stack
seen i stack view is some =
    let P : Stack → Type 0 = λ s. 0 < length s.frames → Seen i s in
    subst P view (λ some. seen_so i is (some_frame i some)) some

-- what reads of the header and of the table give
pub body_read : (i : Inside) (stack : Stack) (at method index body : ℕ) → Seen i stack → at ≡ i.youngest → method ≡ get_or i.cells.items at method → index ≡ method → body ≡ get_or i.bodies.items index body → body ≡ body_of i.bodies.items i.cells.items i.youngest
body_read i stack at method index body s there first same second =
    let cells = i.cells.items in
    let inside : at < length cells = omega arith in
    let read : method ≡ get_or cells i.youngest 0 = get_or_read cells at method inside first 0 ∙ ap (λ k. get_or cells k 0) there in
    let found : index ≡ get_or cells i.youngest 0 = same ∙ read in
    get_or_read i.bodies.items index body (omega arith) second 0 ∙ ap (λ k. get_or i.bodies.items k 0) found

pub refs_read : (i : Inside) (stack : Stack) (at depth : ℕ) → Seen i stack → at ≡ i.youngest + 2 → depth ≡ get_or i.cells.items at depth → depth ≡ ref_depth_of i.cells.items i.youngest
refs_read i stack at depth s there read =
    let inside : at < length i.cells.items = omega arith in
    get_or_read i.cells.items at depth inside read 0 ∙ ap (λ k. get_or i.cells.items k 0) there

pub cells_read : (i : Inside) (stack : Stack) (at depth : ℕ) → Seen i stack → at ≡ i.youngest + 3 → depth ≡ get_or i.cells.items at depth → depth ≡ cell_depth_of i.cells.items i.youngest
cells_read i stack at depth s there read =
    let inside : at < length i.cells.items = omega arith in
    get_or_read i.cells.items at depth inside read 0 ∙ ap (λ k. get_or i.cells.items k 0) there

-- where the youngest frame has something, there is a frame
first_ref : (frames : List Frame) (n : ℕ) → n < length (get_or frames 0 no_frame).refs → 0 < length frames
first_ref [] n below = absurd (omega arith)
first_ref (f ∷ fs) n below = omega arith

first_cell : (frames : List Frame) (n : ℕ) → n < length (get_or frames 0 no_frame).cells → 0 < length frames
first_cell [] n below = absurd (omega arith)
first_cell (f ∷ fs) n below = omega arith

first_free : (frames : List Frame) (n : ℕ) → n < (get_or frames 0 no_frame).body → 0 < length frames
first_free [] n below = absurd (omega arith)
first_free (f ∷ fs) n below = omega arith

pub some_of_ref : (stack : Stack) (n : ℕ) → n < length (youngest_frame stack).refs → 0 < length stack.frames
some_of_ref stack n below = first_ref stack.frames n below

pub some_of_cell : (stack : Stack) (n : ℕ) → n < length (youngest_frame stack).cells → 0 < length stack.frames
some_of_cell stack n below = first_cell stack.frames n below

pub some_of_free : (stack : Stack) (n : ℕ) → length (youngest_frame stack).refs + length (youngest_frame stack).cells + suc n ≤ (youngest_frame stack).body → 0 < length stack.frames
some_of_free stack n free = first_free stack.frames n (omega (arith, free))

-- fields in which the youngest frame alone is another one
pub record Writes (i j : Inside) (stack : Stack) (frame : Frame) : Type 0 where
  pub bodies : j.bodies ≡ i.bodies
  pub used : j.used ≡ i.used
  pub count : j.count ≡ i.count
  pub youngest : j.youngest ≡ i.youngest
  pub len : j.cells.len ≡ i.cells.len
  pub below : (k : ℕ) → k < base_of i.bodies.items i.cells.items i.youngest → get_or j.cells.items k 0 ≡ get_or i.cells.items k 0
  pub method : get_or j.cells.items i.youngest 0 ≡ get_or i.cells.items i.youngest 0
  pub pc : get_or j.cells.items (i.youngest + 1) 0 ≡ frame.pc
  pub ref_depth : get_or j.cells.items (i.youngest + 2) 0 ≡ length frame.refs
  pub cell_depth : get_or j.cells.items (i.youngest + 3) 0 ≡ length frame.cells
  pub fits : length frame.refs + length frame.cells ≤ body_of i.bodies.items i.cells.items i.youngest
  pub refs : (k : ℕ) → k < length frame.refs → get_or j.cells.items (base_of i.bodies.items i.cells.items i.youngest + k) 0 ≡ get_or frame.refs k 0
  pub cells : (k : ℕ) → k < length frame.cells → get_or j.cells.items (i.youngest - 1 - k) 0 ≡ get_or frame.cells k 0
  pub same_method : frame.method ≡ (youngest_frame stack).method
  pub same_body : frame.body ≡ (youngest_frame stack).body

stacked : ℕ → List ℕ → List Frame → Stack
stacked size bodies frames = record { size = size; bodies = bodies; frames = frames }

written_so : (i j : Inside) (frame : Frame) → IsRegion i → Seen i (stack_of i) → Writes i j (stack_of i) frame → (stack_of j ≡ with_youngest (stack_of i) frame) × IsRegion j
unfolding stacked
written_so i j frame is s w =
    let bodies = i.bodies.items in
    let old = i.cells.items in
    let new = j.cells.items in
    let header = i.youngest in
    let long : length new ≡ length old = sym j.cells.ok.0 ∙ (w.len ∙ i.cells.ok.0) in
    let within = s.within in
    let small = s.size_small in
    let agree : AgreeBelow old new (base_of bodies old header) = record { long = long; same = w.below } in
    let fit : ref_depth_of new header + cell_depth_of new header ≤ body_of bodies old header = rw (w.ref_depth, w.cell_depth) w.fits in
    let again = reopened bodies old new i.count i.used header within s.view agree w.method fit in
    let base : base_of bodies new header ≡ base_of bodies old header = ap (λ m. header - get_or bodies m 0) w.method in
    let body : body_of bodies new header ≡ body_of bodies old header = ap (λ m. get_or bodies m 0) w.method in
    let now : IsHeader bodies new header = record {
      method_known = rw w.method s.method_known;
      body_below = rw w.method s.body_below;
      lists_fit = rw w.method fit;
    } in
    let is_frame : frame_at bodies new header ≡ frame =
    frame_is bodies new header frame (omega arith) now
    (w.method ∙ (sym s.method_is ∙ sym w.same_method))
    w.pc
    (body ∙ (sym s.body_is ∙ sym w.same_body))
    w.ref_depth w.cell_depth
    (λ k h. ap (λ b. get_or new (b + k) 0) base ∙ w.refs k h)
    w.cells in
    let before : slice_set (frames_below bodies old i.count i.used) 0 frame ≡ frame ∷ frames_below bodies old (i.count - 1) (base_of bodies old header) =
    ap (λ fs. slice_set fs 0 frame) s.view.frames in
    let after : frames_below bodies new i.count i.used ≡ slice_set (frames_below bodies old i.count i.used) 0 frame =
    again.0 ∙ (ap (λ f. f ∷ frames_below bodies old (i.count - 1) (base_of bodies old header)) is_frame ∙ sym before) in
    let moved : frames_below j.bodies.items new j.count j.used ≡ frames_below bodies new i.count i.used =
    rw (w.bodies, w.count, w.used) refl in
    let kept : AreFrames j.bodies.items new j.count j.used = rw (w.bodies, w.count, w.used) again.1 in (
      ap (λ n. stacked n j.bodies.items (frames_below j.bodies.items new j.count j.used)) w.len
          ∙ (ap (λ fs. stacked i.cells.len j.bodies.items fs) (moved ∙ after)
          ∙ ap (λ (b : List ℕ). stacked i.cells.len b (slice_set (frames_below bodies old i.count i.used) 0 frame)) (rw w.bodies refl)),
      record {
        within = rw (w.used, long) within;
        size_large = rw long is.size_large;
        size_small = rw long small;
        header_last = rw (w.youngest, w.used) is.header_last;
        in_frames = kept;
      },
    )

-- what a call ensures of its fields
abbrev pub Becomes : Inside → Stack → Type 0
Becomes j stack = (stack_of j ≡ stack) × IsRegion j

pub written : (i j : Inside) (stack : Stack) (frame : Frame) → IsRegion i → Seen i stack → Writes i j stack frame → Becomes j (with_youngest stack frame)
written i j stack frame is s w =
    let P : Stack → Type 0 = λ t. Seen i t → Writes i j t frame → Becomes j (with_youngest t frame) in
    subst P s.is_view (λ s w. written_so i j frame is s w) s w

-- fields of which only cells differ
pub record KeepsFields (i j : Inside) : Type 0 where
  pub bodies : j.bodies ≡ i.bodies
  pub used : j.used ≡ i.used
  pub count : j.count ≡ i.count
  pub youngest : j.youngest ≡ i.youngest
  pub len : j.cells.len ≡ i.cells.len

-- the references are others, and all else is as before
pub record WritesRefs (i j : Inside) (stack : Stack) (refs : List ℕ) : Type 0 where
  pub low : (k : ℕ) → k < base_of i.bodies.items i.cells.items i.youngest → get_or j.cells.items k 0 ≡ get_or i.cells.items k 0
  pub high : (k : ℕ) → i.youngest - cell_depth_of i.cells.items i.youngest ≤ k → k < i.youngest + 2 → get_or j.cells.items k 0 ≡ get_or i.cells.items k 0
  pub cell_depth : get_or j.cells.items (i.youngest + 3) 0 ≡ get_or i.cells.items (i.youngest + 3) 0
  pub depth : get_or j.cells.items (i.youngest + 2) 0 ≡ length refs
  pub fits : length refs + cell_depth_of i.cells.items i.youngest ≤ body_of i.bodies.items i.cells.items i.youngest
  pub refs_at : (k : ℕ) → k < length refs → get_or j.cells.items (base_of i.bodies.items i.cells.items i.youngest + k) 0 ≡ get_or refs k 0

pub refs_written : (i j : Inside) (stack : Stack) (refs : List ℕ) → IsRegion i → Seen i stack → KeepsFields i j → WritesRefs i j stack refs → Becomes j (with_refs stack refs)
refs_written i j stack refs is s keeps w =
    let fits = w.fits in
    written i j stack (record (youngest_frame stack) { refs = refs }) is s (record {
      bodies = keeps.bodies;
      used = keeps.used;
      count = keeps.count;
      youngest = keeps.youngest;
      len = keeps.len;
      below = w.low;
      method = w.high i.youngest (omega arith) (omega arith);
      pc = w.high (i.youngest + 1) (omega arith) (omega arith) ∙ sym s.pc_is;
      ref_depth = w.depth;
      cell_depth = w.cell_depth ∙ sym s.cells_long;
      fits = omega arith;
      refs = w.refs_at;
      cells = λ k h. let small : k < cell_depth_of i.cells.items i.youngest = omega (arith, h, s.cells_long) in
          w.high (i.youngest - 1 - k) (omega arith) (omega arith) ∙ sym (s.cells_at k small);
      same_method = refl;
      same_body = refl;
    })

-- the whole-number cells are others, and all else is as before
pub record WritesCells (i j : Inside) (stack : Stack) (cells : List ℕ) : Type 0 where
  pub low : (k : ℕ) → k < base_of i.bodies.items i.cells.items i.youngest + ref_depth_of i.cells.items i.youngest → get_or j.cells.items k 0 ≡ get_or i.cells.items k 0
  pub header : (k : ℕ) → i.youngest ≤ k → k < i.youngest + 3 → get_or j.cells.items k 0 ≡ get_or i.cells.items k 0
  pub depth : get_or j.cells.items (i.youngest + 3) 0 ≡ length cells
  pub fits : ref_depth_of i.cells.items i.youngest + length cells ≤ body_of i.bodies.items i.cells.items i.youngest
  pub cells_at : (k : ℕ) → k < length cells → get_or j.cells.items (i.youngest - 1 - k) 0 ≡ get_or cells k 0

pub cells_written : (i j : Inside) (stack : Stack) (cells : List ℕ) → IsRegion i → Seen i stack → KeepsFields i j → WritesCells i j stack cells → Becomes j (with_cells stack cells)
cells_written i j stack cells is s keeps w =
    let fits = w.fits in
    written i j stack (record (youngest_frame stack) { cells = cells }) is s (record {
      bodies = keeps.bodies;
      used = keeps.used;
      count = keeps.count;
      youngest = keeps.youngest;
      len = keeps.len;
      below = λ k h. w.low k (omega arith);
      method = w.header i.youngest (omega arith) (omega arith);
      pc = w.header (i.youngest + 1) (omega arith) (omega arith) ∙ sym s.pc_is;
      ref_depth = w.header (i.youngest + 2) (omega arith) (omega arith) ∙ sym s.refs_long;
      cell_depth = w.depth;
      fits = omega arith;
      refs = λ k h. let small : k < ref_depth_of i.cells.items i.youngest = omega (arith, h, s.refs_long) in
          w.low (base_of i.bodies.items i.cells.items i.youngest + k) (omega arith) ∙ sym (s.refs_at k small);
      cells = w.cells_at;
      same_method = refl;
      same_body = refl;
    })
