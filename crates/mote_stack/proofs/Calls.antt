-- Frames that come and go.
use Rattle.std.proofs.Common.{◌≡◌, ◌≢◌, ⊎_elim, ℕ, zero, suc, ◌+◌, ◌-◌, ◌<◌, ◌≤◌, List, [], ◌∷◌, length, get_or, set, take, drop, replicate, refl, sym, ◌∙◌, ap, subst, arith, length-append, length-set, length-drop, get_or-set_other, get_or-set_same}
use Rattle.std.specs.Vec.{with_item}
use Rattle.std.proofs.lemmas.Bool.{cases_lt}
use Rattle.std.proofs.lemmas.List.{length-take-le, get_or-take, get_or-drop, get_or-replicate, length-replicate, get_or_append_left, get_or-append_right}
use Rattle.mote_stack.specs.Frames.{Frame, Stack, no_frame, youngest_frame, with_youngest, with_frame, without_frame, called_frame, calling_frame, locals_from, last_items, without_last}
use Rattle.mote_stack.specs.Shuffles.{trimmed}
use Rattle.mote_stack.specs.Moves.{LaysFrame, HandsOver}
use Rattle.mote_stack.specs.Layout.{body_of, base_of, frame_at, frames_below, IsHeader, AreFrames, stack_of, IsRegion}
use Rattle.mote_stack.specs.declared.region.Region.TheInside.{Inside}
use Rattle.std.proofs.lemmas.List.{get_or_read}
use Rattle.mote_stack.specs.Frames.{cells_in_use}
use Rattle.mote_stack.proofs.Youngest.{frame_is, frame_count_is, used_is}
use Rattle.mote_stack.proofs.Changed.{Seen, seen, written, Becomes, KeepsFields}

stacked : ℕ → List ℕ → List Frame → Stack
stacked size bodies frames = record { size = size; bodies = bodies; frames = frames }

-- without a frame no cell counts
empty_so : (i j : Inside) (frame : Frame) → IsRegion i → KeepsFields i j → i.count ≡ 0 → Becomes j (with_youngest (stack_of i) frame)
unfolding stacked
empty_so i j frame is keeps none =
    let none_too : j.count ≡ 0 = keeps.count ∙ none in
    let F : ℕ → List Frame = λ n. frames_below j.bodies.items j.cells.items n j.used in
    let nothing : frames_below j.bodies.items j.cells.items j.count j.used ≡ [] = ap F none_too in
    let G : ℕ → List Frame = λ n. frames_below i.bodies.items i.cells.items n i.used in
    let before : frames_below i.bodies.items i.cells.items i.count i.used ≡ [] = ap G none in
    let after : set (frames_below i.bodies.items i.cells.items i.count i.used) 0 frame ≡ [] = ap (λ fs. set fs 0 frame) before in
    let A : ℕ → Type 0 = λ n. AreFrames i.bodies.items i.cells.items n i.used in
    let bottom : i.used ≡ 0 = subst A none is.in_frames in
    let B : ℕ → Type 0 = λ n. AreFrames j.bodies.items j.cells.items n j.used in
    let kept : AreFrames j.bodies.items j.cells.items j.count j.used = subst B (sym none_too) (keeps.used ∙ bottom) in
    let long : length j.cells.items ≡ length i.cells.items = sym j.cells.ok.0 ∙ (keeps.len ∙ i.cells.ok.0) in
    let within = is.within in (
      ap (λ n. stacked n j.bodies.items (frames_below j.bodies.items j.cells.items j.count j.used)) keeps.len
          ∙ (ap (λ fs. stacked i.cells.len j.bodies.items fs) (nothing ∙ sym after)
          ∙ ap (λ (b : List ℕ). stacked i.cells.len b (set (frames_below i.bodies.items i.cells.items i.count i.used) 0 frame)) (rw keeps.bodies refl)),
      record {
        within = rw (keeps.used, long) is.within;
        size_large = rw long is.size_large;
        size_small = rw long is.size_small;
        header_last = rw (keeps.youngest, keeps.used) is.header_last;
        in_frames = kept;
      },
    )

pub empty_becomes : (i j : Inside) (stack : Stack) (frame : Frame) → stack_of i ≡ stack → IsRegion i → KeepsFields i j → i.count ≡ 0 → Becomes j (with_youngest stack frame)
empty_becomes i j stack frame view is keeps none =
    let P : Stack → Type 0 = λ s. Becomes j (with_youngest s frame) in
    subst P view (empty_so i j frame is keeps none)

-- as many frames as the count says
pub count_of : (i : Inside) (stack : Stack) → stack_of i ≡ stack → length stack.frames ≡ i.count
count_of i stack view = ap (λ (s : Stack). length s.frames) (sym view) ∙ frame_count_is i.bodies.items i.cells.items i.count i.used

-- both numbers of items cut
pub both_cut : (i : Inside) (stack : Stack) (two refs three cells : ℕ) → stack_of i ≡ stack → IsRegion i → refs ≤ length (youngest_frame stack).refs → cells ≤ length (youngest_frame stack).cells → two ≡ i.youngest + 2 → three ≡ i.youngest + 3
    → Becomes (record i { cells = with_item (with_item i.cells two refs) three cells }) (trimmed refs cells stack)
both_cut i stack two refs three cells view is less_refs less_cells at_two at_three =
    let frame = calling (youngest_frame stack) refs cells in
    let j : Inside = record i { cells = with_item (with_item i.cells two refs) three cells } in
    ⊎_elim
    (λ (some : 0 < i.count).
    let s = seen i stack view is (omega (arith, count_of i stack view)) in
    let old = i.cells.items in
    let mid = set old two refs in
    let new = set mid three cells in
    let long : length mid ≡ length old = length-set old two refs in
    let other : (k : ℕ) → k ≢ two → k ≢ three → get_or new k 0 ≡ get_or old k 0 =
    λ k ne no. get_or-set_other mid three k cells 0 no ∙ get_or-set_other old two k refs 0 ne in
    let cut_refs : length (take refs (youngest_frame stack).refs) ≡ refs = length-take-le refs (youngest_frame stack).refs less_refs in
    let cut_cells : length (take cells (youngest_frame stack).cells) ≡ cells = length-take-le cells (youngest_frame stack).cells less_cells in
    written i j stack frame is s (record {
      bodies = refl;
      used = refl;
      count = refl;
      youngest = refl;
      len = refl;
      below = λ k h. other k (omega arith) (omega arith);
      method = other i.youngest (omega arith) (omega arith);
      pc = other (i.youngest + 1) (omega arith) (omega arith) ∙ sym s.pc_is;
      ref_depth = get_or-set_other mid three (i.youngest + 2) cells 0 (omega arith) ∙ (ap (λ x. get_or mid x 0) (sym at_two) ∙ (get_or-set_same old two refs 0 (omega arith) ∙ sym cut_refs));
      cell_depth = ap (λ x. get_or new x 0) (sym at_three) ∙ (get_or-set_same mid three cells 0 (omega arith) ∙ sym cut_cells);
      fits = omega arith;
      refs = λ k h. other (base_of i.bodies.items old i.youngest + k) (omega arith) (omega arith) ∙ (sym (s.refs_at k (omega arith)) ∙ sym (get_or-take refs (youngest_frame stack).refs k 0 (omega arith)));
      cells = λ k h. other (i.youngest - 1 - k) (omega arith) (omega arith) ∙ (sym (s.cells_at k (omega arith)) ∙ sym (get_or-take cells (youngest_frame stack).cells k 0 (omega arith)));
      same_method = refl;
      same_body = refl;
    }))
    (λ (none : i.count ≤ 0). empty_becomes i j stack frame view is (record { bodies = refl; used = refl; count = refl; youngest = refl; len = refl }) (omega arith))
    (cases_lt 0 i.count)
  where
    calling : Frame → ℕ → ℕ → Frame
    calling frame refs cells = record frame { refs = take refs frame.refs; cells = take cells frame.cells }

popped_so : (i : Inside) (base last : ℕ) → Seen i (stack_of i) → base ≡ base_of i.bodies.items i.cells.items i.youngest → stack_of (record i { used = base; count = i.count - 1; youngest = last }) ≡ without_frame (stack_of i)
unfolding stacked
popped_so i base last s low =
    let below : frames_below i.bodies.items i.cells.items (i.count - 1) base ≡ drop 1 (frames_below i.bodies.items i.cells.items i.count i.used) =
    rw low (sym (ap (λ fs. drop 1 fs) s.view.frames)) in
    ap (λ fs. stacked i.cells.len i.bodies.items fs) below

-- the youngest frame removed
pub popped : (i : Inside) (stack : Stack) (base last : ℕ) → Seen i stack → base ≡ base_of i.bodies.items i.cells.items i.youngest → stack_of (record i { used = base; count = i.count - 1; youngest = last }) ≡ without_frame stack
popped i stack base last s low =
    let P : Stack → Type 0 = λ t. Seen i t → stack_of (record i { used = base; count = i.count - 1; youngest = last }) ≡ without_frame t in
    subst P s.is_view (λ s. popped_so i base last s low) s

-- the locals that a call makes of the last n of these items
locals_long : (n count : ℕ) (items : List ℕ) → n ≤ count → n ≤ length items → length (locals_from n count items) ≡ count
locals_long n count items less has =
    let last : length (last_items n items) ≡ n = length-drop (length items - n) items ∙ omega arith in
    let zeros : length {A = ℕ} (replicate (count - n) 0) ≡ count - n = length-replicate (count - n) 0 in
    let sum : length (last_items n items) + length {A = ℕ} (replicate (count - n) 0) ≡ count = rw (last, zeros) (omega arith) in
    (length-append (last_items n items) (replicate (count - n) 0) ∙ sum)

locals_first : (n count : ℕ) (items : List ℕ) (k : ℕ) → n ≤ length items → k < n → get_or (locals_from n count items) k 0 ≡ get_or items (length items - n + k) 0
locals_first n count items k has small =
    let last : length (last_items n items) ≡ n = length-drop (length items - n) items ∙ omega arith in
    get_or_append_left (last_items n items) (replicate (count - n) 0) 0 k (omega arith) ∙ get_or-drop (length items - n) items k 0

locals_rest : (n count : ℕ) (items : List ℕ) (k : ℕ) → n ≤ length items → n ≤ k → k < count → get_or (locals_from n count items) k 0 ≡ 0
locals_rest n count items k has large small =
    let last : length (last_items n items) ≡ n = length-drop (length items - n) items ∙ omega arith in
    get_or-append_right (last_items n items) (replicate (count - n) 0) n k 0 last large ∙ get_or-replicate (count - n) (k - n) 0 0 (omega arith)

-- the cells of a new frame, its arguments among them
pub record Passed (new refs nums : List ℕ) (base header method ref_locals cell_locals ref_args cell_args : ℕ) : Type 0 where
  pub its_method : get_or new header 0 ≡ method
  pub its_pc : get_or new (header + 1) 0 ≡ 0
  pub its_refs : get_or new (header + 2) 0 ≡ ref_locals
  pub its_cells : get_or new (header + 3) 0 ≡ cell_locals
  pub refs_handed : (k : ℕ) → k < ref_args → get_or new (base + k) 0 ≡ get_or refs (length refs - ref_args + k) 0
  pub refs_zero : (k : ℕ) → ref_args ≤ k → k < ref_locals → get_or new (base + k) 0 ≡ 0
  pub cells_handed : (k : ℕ) → k < cell_args → get_or new (header - 1 - k) 0 ≡ get_or nums (length nums - cell_args + k) 0
  pub cells_zero : (k : ℕ) → cell_args ≤ k → k < cell_locals → get_or new (header - 1 - k) 0 ≡ 0

-- without a caller there are no arguments
pub passed_first : (old new refs nums : List ℕ) (base header method ref_locals cell_locals ref_args cell_args : ℕ) → ref_args ≡ 0 → cell_args ≡ 0 → base + ref_locals + cell_locals ≤ header → LaysFrame old new base header method ref_locals cell_locals
    → Passed new refs nums base header method ref_locals cell_locals ref_args cell_args
passed_first old new refs nums base header method ref_locals cell_locals ref_args cell_args no_refs no_cells room laid = record {
  its_method = laid.its_method;
  its_pc = laid.its_pc;
  its_refs = laid.its_refs;
  its_cells = laid.its_cells;
  refs_handed = λ k h. absurd (omega arith);
  refs_zero = λ k h g. laid.zeros (base + k) (omega arith) (omega arith);
  cells_handed = λ k h. absurd (omega arith);
  cells_zero = λ k h g. laid.zeros (header - 1 - k) (omega arith) (omega arith);
}

pub passed_next : (i : Inside) (stack : Stack) (laid new : List ℕ) (caller_base header method ref_locals cell_locals ref_args cell_args : ℕ) → Seen i stack → caller_base ≡ base_of i.bodies.items i.cells.items i.youngest → ref_args ≤ ref_locals → cell_args ≤ cell_locals → i.used + ref_locals + cell_locals ≤ header
    → ref_args ≤ length (youngest_frame stack).refs → cell_args ≤ length (youngest_frame stack).cells
    → LaysFrame i.cells.items laid i.used header method ref_locals cell_locals → HandsOver laid new i.youngest caller_base i.used header ref_args cell_args
    → Passed new (youngest_frame stack).refs (youngest_frame stack).cells i.used header method ref_locals cell_locals ref_args cell_args
passed_next i stack laid new caller_base header method ref_locals cell_locals ref_args cell_args s low less_refs less_cells room has_refs has_cells lays hands =
    let y = i.youngest in
    let old = i.cells.items in
    let refs_same : get_or laid (y + 2) 0 ≡ get_or old (y + 2) 0 = lays.below (y + 2) (omega arith) in
    let cells_same : get_or laid (y + 3) 0 ≡ get_or old (y + 3) 0 = lays.below (y + 3) (omega arith) in
    record {
      its_method = hands.high header (omega arith) ∙ lays.its_method;
      its_pc = hands.high (header + 1) (omega arith) ∙ lays.its_pc;
      its_refs = hands.high (header + 2) (omega arith) ∙ lays.its_refs;
      its_cells = hands.high (header + 3) (omega arith) ∙ lays.its_cells;
      refs_handed = λ k h. hands.refs_handed k h ∙ (lays.below (caller_base + (get_or laid (y + 2) 0 - ref_args) + k) (omega arith)
          ∙ (ap (λ x. get_or old x 0) (omega arith) ∙ sym (s.refs_at (length (youngest_frame stack).refs - ref_args + k) (omega arith))));
      refs_zero = λ k h g. hands.between (i.used + k) (omega arith) (omega arith) ∙ lays.zeros (i.used + k) (omega arith) (omega arith);
      cells_handed = λ k h. hands.cells_handed k h ∙ (lays.below (y - 1 - (get_or laid (y + 3) 0 - cell_args + k)) (omega arith)
          ∙ (ap (λ x. get_or old x 0) (omega arith) ∙ sym (s.cells_at (length (youngest_frame stack).cells - cell_args + k) (omega arith))));
      cells_zero = λ k h g. hands.between (header - 1 - k) (omega arith) (omega arith) ∙ lays.zeros (header - 1 - k) (omega arith) (omega arith);
    }

-- the caller without its arguments
pub caller_cut : (i j : Inside) (stack : Stack) (laid : List ℕ) (caller_base header method ref_locals cell_locals ref_args cell_args : ℕ) → IsRegion i → Seen i stack → KeepsFields i j → caller_base ≡ base_of i.bodies.items i.cells.items i.youngest → i.used ≤ header
    → ref_args ≤ length (youngest_frame stack).refs → cell_args ≤ length (youngest_frame stack).cells
    → LaysFrame i.cells.items laid i.used header method ref_locals cell_locals → HandsOver laid j.cells.items i.youngest caller_base i.used header ref_args cell_args
    → Becomes j (with_youngest stack (calling_frame stack ref_args cell_args))
caller_cut i j stack laid caller_base header method ref_locals cell_locals ref_args cell_args is s keeps low order has_refs has_cells lays hands =
    let y = i.youngest in
    let old = i.cells.items in
    let refs = (youngest_frame stack).refs in
    let nums = (youngest_frame stack).cells in
    let refs_same : get_or laid (y + 2) 0 ≡ get_or old (y + 2) 0 = lays.below (y + 2) (omega arith) in
    let cells_same : get_or laid (y + 3) 0 ≡ get_or old (y + 3) 0 = lays.below (y + 3) (omega arith) in
    let cut_refs : length (without_last ref_args refs) ≡ length refs - ref_args = length-take-le (length refs - ref_args) refs (omega arith) in
    let cut_cells : length (without_last cell_args nums) ≡ length nums - cell_args = length-take-le (length nums - cell_args) nums (omega arith) in
    let other : (k : ℕ) → k < i.used → k ≢ y + 2 → k ≢ y + 3 → get_or j.cells.items k 0 ≡ get_or old k 0 = λ k h ne no. hands.low k h ne no ∙ lays.below k h in
    written i j stack (calling_frame stack ref_args cell_args) is s (record {
      bodies = keeps.bodies;
      used = keeps.used;
      count = keeps.count;
      youngest = keeps.youngest;
      len = keeps.len;
      below = λ k h. other k (omega arith) (omega arith) (omega arith);
      method = other y (omega arith) (omega arith) (omega arith);
      pc = other (y + 1) (omega arith) (omega arith) (omega arith) ∙ sym s.pc_is;
      ref_depth = hands.refs_left ∙ omega arith;
      cell_depth = hands.cells_left ∙ omega arith;
      fits = omega arith;
      refs = λ k h. other (base_of i.bodies.items old y + k) (omega arith) (omega arith) (omega arith) ∙ (sym (s.refs_at k (omega arith)) ∙ sym (get_or-take (length refs - ref_args) refs k 0 (omega arith)));
      cells = λ k h. other (y - 1 - k) (omega arith) (omega arith) (omega arith) ∙ (sym (s.cells_at k (omega arith)) ∙ sym (get_or-take (length nums - cell_args) nums k 0 (omega arith)));
      same_method = refl;
      same_body = refl;
    })

-- a frame above all others
entered_so : (j : Inside) (frame : Frame) (used count youngest : ℕ) → IsRegion j → youngest ≡ j.used + frame.body → used ≡ youngest + 4 → count ≡ suc j.count → used ≤ length j.cells.items
    → frame.method < length j.bodies.items → frame.body ≡ get_or j.bodies.items frame.method 0
    → get_or j.cells.items youngest 0 ≡ frame.method → get_or j.cells.items (youngest + 1) 0 ≡ frame.pc
    → get_or j.cells.items (youngest + 2) 0 ≡ length frame.refs → get_or j.cells.items (youngest + 3) 0 ≡ length frame.cells
    → length frame.refs + length frame.cells ≤ frame.body
    → ((k : ℕ) → k < length frame.refs → get_or j.cells.items (j.used + k) 0 ≡ get_or frame.refs k 0)
    → ((k : ℕ) → k < length frame.cells → get_or j.cells.items (youngest - 1 - k) 0 ≡ get_or frame.cells k 0)
    → Becomes (record j { used = used; count = count; youngest = youngest }) (record (stack_of j) { frames = frame ∷ (stack_of j).frames })
unfolding stacked
entered_so j frame used count youngest is at end more within known body_is method pc refs_long cells_long fits refs nums =
    let bodies = j.bodies.items in
    let cells = j.cells.items in
    let body : body_of bodies cells youngest ≡ frame.body = ap (λ m. get_or bodies m 0) method ∙ sym body_is in
    let base : base_of bodies cells youngest ≡ j.used = omega arith in
    let is_header : IsHeader bodies cells youngest = record {
      method_known = rw method known;
      body_below = omega arith;
      lists_fit = omega arith;
    } in
    let is_frame : frame_at bodies cells youngest ≡ frame =
    frame_is bodies cells youngest frame (omega arith) is_header method pc body refs_long cells_long
    (λ k h. ap (λ b. get_or cells (b + k) 0) base ∙ refs k h) nums in
    let P : ℕ → Type 0 = λ b. (frame_at bodies cells youngest ∷ frames_below bodies cells j.count b ≡ frame ∷ frames_below bodies cells j.count j.used) × AreFrames bodies cells j.count b in
    let first : P j.used = (ap (λ f. f ∷ frames_below bodies cells j.count j.used) is_frame, is.in_frames) in
    let second : P (base_of bodies cells youngest) = subst P (sym base) first in
    let Q : ℕ → Type 0 = λ h. (frame_at bodies cells h ∷ frames_below bodies cells j.count (base_of bodies cells h) ≡ frame ∷ frames_below bodies cells j.count j.used) × ((4 ≤ used) × IsHeader bodies cells h × AreFrames bodies cells j.count (base_of bodies cells h)) in
    let top : youngest ≡ used - 4 = omega arith in
    let third : Q (used - 4) = subst Q top (second.0, (omega arith, is_header, second.1)) in
    let R : ℕ → Type 0 = λ n. (frames_below bodies cells n used ≡ frame ∷ frames_below bodies cells j.count j.used) × AreFrames bodies cells n used in
    let all : R count = subst R (sym more) third in (
      ap (λ fs. stacked j.cells.len bodies fs) all.0,
      record {
        within = within;
        size_large = is.size_large;
        size_small = is.size_small;
        header_last = top;
        in_frames = all.1;
      },
    )

-- a call, from the stack with the caller cut
pub entered : (j : Inside) (stack : Stack) (method ref_locals cell_locals ref_args cell_args used count youngest : ℕ) → Becomes j (with_youngest stack (calling_frame stack ref_args cell_args))
    → youngest ≡ j.used + get_or stack.bodies method 0 → used ≡ youngest + 4 → count ≡ j.count + 1 → used ≤ length j.cells.items
    → method < length stack.bodies → ref_locals + cell_locals ≤ get_or stack.bodies method 0 → ref_args ≤ ref_locals → cell_args ≤ cell_locals
    → ref_args ≤ length (youngest_frame stack).refs → cell_args ≤ length (youngest_frame stack).cells
    → Passed j.cells.items (youngest_frame stack).refs (youngest_frame stack).cells j.used youngest method ref_locals cell_locals ref_args cell_args
    → Becomes (record j { used = used; count = count; youngest = youngest }) (with_frame stack method ref_locals cell_locals ref_args cell_args)
entered j stack method ref_locals cell_locals ref_args cell_args used count youngest becomes at end more within known locals less_refs less_cells has_refs has_cells passed =
    let frame = called_frame stack method ref_locals cell_locals ref_args cell_args in
    let refs = (youngest_frame stack).refs in
    let nums = (youngest_frame stack).cells in
    let long_refs : length frame.refs ≡ ref_locals = locals_long ref_args ref_locals refs less_refs has_refs in
    let long_cells : length frame.cells ≡ cell_locals = locals_long cell_args cell_locals nums less_cells has_cells in
    let bodies : j.bodies.items ≡ stack.bodies = ap (λ (s : Stack). s.bodies) becomes.0 in
    let P : Stack → Type 0 = λ s. Becomes (record j { used = used; count = count; youngest = youngest }) (record s { frames = frame ∷ s.frames }) in
    subst P becomes.0 (entered_so j frame used count youngest becomes.1 at end (omega arith) within (rw bodies known) (rw bodies refl) passed.its_method passed.its_pc (passed.its_refs ∙ sym long_refs) (passed.its_cells ∙ sym long_cells) (omega arith)
    (λ k h. ⊎_elim
    (λ (small : k < ref_args). passed.refs_handed k small ∙ sym (locals_first ref_args ref_locals refs k has_refs small))
    (λ (large : ref_args ≤ k). passed.refs_zero k large (omega arith) ∙ sym (locals_rest ref_args ref_locals refs k has_refs large (omega arith)))
    (cases_lt k ref_args))
    (λ k h. ⊎_elim
    (λ (small : k < cell_args). passed.cells_handed k small ∙ sym (locals_first cell_args cell_locals nums k has_cells small))
    (λ (large : cell_args ≤ k). passed.cells_zero k large (omega arith) ∙ sym (locals_rest cell_args cell_locals nums k has_cells large (omega arith)))
    (cases_lt k cell_args)))

-- what a call compares
pub record Sizes (i : Inside) (stack : Stack) (method body : ℕ) : Type 0 where
  pub in_use : cells_in_use stack ≡ i.used
  pub size : stack.size ≡ i.cells.len
  pub bodies : stack.bodies ≡ i.bodies.items
  pub body_is : body ≡ get_or stack.bodies method 0
  pub long : length i.cells.items ≡ i.cells.len

pub sizes : (i : Inside) (stack : Stack) (method at body : ℕ) → stack_of i ≡ stack → IsRegion i → method < length stack.bodies → at ≡ method → body ≡ get_or i.bodies.items at body → Sizes i stack method body
sizes i stack method at body view is known same read =
    let bodies : stack.bodies ≡ i.bodies.items = ap (λ (s : Stack). s.bodies) (sym view) in
    let long : length stack.bodies ≡ length i.bodies.items = ap (λ (b : List ℕ). length b) bodies in
    record {
      in_use = ap (λ (s : Stack). cells_in_use s) (sym view) ∙ used_is i.bodies.items i.cells.items i.count i.used is.in_frames;
      size = ap (λ (s : Stack). s.size) (sym view);
      bodies = bodies;
      body_is = get_or_read i.bodies.items at body (omega arith) read 0 ∙ (ap (λ k. get_or i.bodies.items k 0) same ∙ ap (λ (b : List ℕ). get_or b method 0) (sym bodies));
      long = sym i.cells.ok.0;
    }

-- the caller's body, read after the new frame was laid
pub caller_method : (i : Inside) (stack : Stack) (laid : List ℕ) (header m rl cl at method index : ℕ) → Seen i stack → LaysFrame i.cells.items laid i.used header m rl cl → length laid ≡ length i.cells.items → at ≡ i.youngest → method ≡ get_or laid at method → index ≡ method → index ≡ get_or i.cells.items i.youngest 0
caller_method i stack laid header m rl cl at method index s lays long there first same =
    same ∙ (get_or_read laid at method (omega arith) first 0 ∙ (ap (λ k. get_or laid k 0) there ∙ lays.below i.youngest (omega arith)))

pub caller_body : (i : Inside) (stack : Stack) (laid : List ℕ) (header m rl cl at method index body : ℕ) → Seen i stack → LaysFrame i.cells.items laid i.used header m rl cl → length laid ≡ length i.cells.items → at ≡ i.youngest → method ≡ get_or laid at method → index ≡ method → body ≡ get_or i.bodies.items index body → body ≡ body_of i.bodies.items i.cells.items i.youngest
caller_body i stack laid header m rl cl at method index body s lays long there first same second =
    let is = caller_method i stack laid header m rl cl at method index s lays long there first same in
    get_or_read i.bodies.items index body (omega arith) second 0 ∙ ap (λ k. get_or i.bodies.items k 0) is

-- each frame takes four cells at least
pub few_frames : (bodies cells : List ℕ) (count top : ℕ) → AreFrames bodies cells count top → count ≤ top
few_frames bodies cells zero top are = omega arith
few_frames bodies cells (suc older) top are =
    let rest = few_frames bodies cells older (base_of bodies cells (top - 4)) are.2 in
    let deep = are.0 in
    omega arith

no_first_refs : (frames : List Frame) → length frames ≡ 0 → length (get_or frames 0 no_frame).refs ≡ 0
no_first_refs [] none = refl
no_first_refs (f ∷ fs) none = absurd (omega arith)

no_first_cells : (frames : List Frame) → length frames ≡ 0 → length (get_or frames 0 no_frame).cells ≡ 0
no_first_cells [] none = refl
no_first_cells (f ∷ fs) none = absurd (omega arith)

-- without a frame there is nothing to take
pub no_refs : (stack : Stack) → length stack.frames ≡ 0 → length (youngest_frame stack).refs ≡ 0
no_refs stack none = no_first_refs stack.frames none

pub no_cells : (stack : Stack) → length stack.frames ≡ 0 → length (youngest_frame stack).cells ≡ 0
no_cells stack none = no_first_cells stack.frames none

-- the fields once the caller's arguments were moved into the new frame
pub record Called (i j : Inside) (stack : Stack) (header method ref_locals cell_locals ref_args cell_args : ℕ) : Type 0 where
  pub becomes : Becomes j (with_youngest stack (calling_frame stack ref_args cell_args))
  pub passed : Passed j.cells.items (youngest_frame stack).refs (youngest_frame stack).cells j.used header method ref_locals cell_locals ref_args cell_args
  pub used : j.used ≡ i.used
  pub count : j.count ≡ i.count
  pub long : length j.cells.items ≡ length i.cells.items

-- the arguments of a caller are handed over to the frame that was laid
pub called_next : (i j : Inside) (stack : Stack) (laid : List ℕ) (caller_base header method ref_locals cell_locals ref_args cell_args : ℕ) → IsRegion i → Seen i stack → KeepsFields i j → caller_base ≡ base_of i.bodies.items i.cells.items i.youngest
    → ref_args ≤ ref_locals → cell_args ≤ cell_locals → i.used + ref_locals + cell_locals ≤ header
    → ref_args ≤ length (youngest_frame stack).refs → cell_args ≤ length (youngest_frame stack).cells
    → LaysFrame i.cells.items laid i.used header method ref_locals cell_locals → HandsOver laid j.cells.items i.youngest caller_base i.used header ref_args cell_args
    → Called i j stack header method ref_locals cell_locals ref_args cell_args
called_next i j stack laid caller_base header method ref_locals cell_locals ref_args cell_args is s keeps low less_refs less_cells room has_refs has_cells lays hands =
    let P : ℕ → Type 0 = λ base. Passed j.cells.items (youngest_frame stack).refs (youngest_frame stack).cells base header method ref_locals cell_locals ref_args cell_args in
    record {
      becomes = caller_cut i j stack laid caller_base header method ref_locals cell_locals ref_args cell_args is s keeps low (omega (arith, room)) has_refs has_cells lays hands;
      passed = subst P (sym keeps.used) (passed_next i stack laid j.cells.items caller_base header method ref_locals cell_locals ref_args cell_args s low less_refs less_cells room has_refs has_cells lays hands);
      used = keeps.used;
      count = keeps.count;
      long = sym j.cells.ok.0 ∙ (keeps.len ∙ i.cells.ok.0);
    }

-- the first frame has no arguments
pub called_first : (i j : Inside) (stack : Stack) (header method ref_locals cell_locals ref_args cell_args : ℕ) → stack_of i ≡ stack → IsRegion i → KeepsFields i j → i.count ≡ 0
    → i.used + ref_locals + cell_locals ≤ header → ref_args ≤ length (youngest_frame stack).refs → cell_args ≤ length (youngest_frame stack).cells
    → LaysFrame i.cells.items j.cells.items i.used header method ref_locals cell_locals
    → Called i j stack header method ref_locals cell_locals ref_args cell_args
called_first i j stack header method ref_locals cell_locals ref_args cell_args view is keeps none room has_refs has_cells lays =
    let P : ℕ → Type 0 = λ base. Passed j.cells.items (youngest_frame stack).refs (youngest_frame stack).cells base header method ref_locals cell_locals ref_args cell_args in
    let empty : length stack.frames ≡ 0 = count_of i stack view ∙ none in
    record {
      becomes = empty_becomes i j stack (calling_frame stack ref_args cell_args) view is keeps none;
      passed = subst P (sym keeps.used) (passed_first i.cells.items j.cells.items (youngest_frame stack).refs (youngest_frame stack).cells i.used header method ref_locals cell_locals ref_args cell_args (omega (arith, no_refs stack empty, has_refs)) (omega (arith, no_cells stack empty, has_cells)) room lays);
      used = keeps.used;
      count = keeps.count;
      long = sym j.cells.ok.0 ∙ (keeps.len ∙ i.cells.ok.0);
    }
