-- Walks from the youngest frame to the oldest, a step a frame.
use Rattle.std.proofs.Common.{◌≡◌, ℕ, zero, suc, ◌+◌, ◌-◌, ◌<◌, ◌≤◌, Bool, true, false, nat_lt, if◌then◌else◌, List, ◌∷◌, ◌++◌, length, get_or, drop, refl, sym, ◌∙◌, ap, arith, length-append}
use Rattle.std.proofs.lemmas.Bool.{lt-ltb, le-ltb}
use Rattle.std.proofs.lemmas.List.{get_or_read, get_or-drop, drop-drop}
use Rattle.mote_stack.specs.Frames.{Frame, Stack, no_frame, nth_frame}
use Rattle.mote_stack.specs.Roots.{refs_of}
use Rattle.mote_stack.specs.Layout.{body_of, base_of, ref_depth_of, frame_at, frames_below, AreFrames, root_position, stack_of}
use Rattle.mote_stack.specs.declared.region.Region.TheInside.{Inside}
use Rattle.mote_stack.proofs.Ranges.{length_up}
use Rattle.mote_stack.proofs.Youngest.{frame_count_is, Opened, opened}

-- what reads at a header give
pub method_in : (bodies cells : List ℕ) (count top header at method index : ℕ) → Opened bodies cells count top header → header < length cells → at ≡ header → method ≡ get_or cells at method → index ≡ method → index < length bodies
method_in bodies cells count top header at method index view inside there first same =
    let read : method ≡ get_or cells header 0 = get_or_read cells at method (omega arith) first 0 ∙ ap (λ k. get_or cells k 0) there in
    omega arith

pub body_in : (bodies cells : List ℕ) (count top header at method index body : ℕ) → Opened bodies cells count top header → header < length cells → at ≡ header → method ≡ get_or cells at method → index ≡ method → body ≡ get_or bodies index body → body ≡ body_of bodies cells header
body_in bodies cells count top header at method index body view inside there first same second =
    let known = method_in bodies cells count top header at method index view inside there first same in
    let read : method ≡ get_or cells header 0 = get_or_read cells at method (omega arith) first 0 ∙ ap (λ k. get_or cells k 0) there in
    get_or_read bodies index body known second 0 ∙ ap (λ k. get_or bodies k 0) (same ∙ read)

pub depth_in : (cells : List ℕ) (header at depth : ℕ) → header + 2 < length cells → at ≡ header + 2 → depth ≡ get_or cells at depth → depth ≡ ref_depth_of cells header
depth_in cells header at depth inside there read = get_or_read cells at depth (omega arith) read 0 ∙ ap (λ k. get_or cells k 0) there

-- the frames below the youngest one
pub frames_next : (bodies cells : List ℕ) (count top header older base : ℕ) → Opened bodies cells count top header → older ≡ count - 1 → base ≡ base_of bodies cells header → AreFrames bodies cells older base
frames_next bodies cells count top header older base view less low = rw (less, low) view.older

pub list_next : (bodies cells : List ℕ) (count top header older base : ℕ) → Opened bodies cells count top header → older ≡ count - 1 → base ≡ base_of bodies cells header → frames_below bodies cells count top ≡ frame_at bodies cells header ∷ frames_below bodies cells older base
list_next bodies cells count top header older base view less low = rw (less, low) view.frames

pub drop_next : (bodies cells : List ℕ) (count top header older base step : ℕ) (all : List Frame) → Opened bodies cells count top header → older ≡ count - 1 → base ≡ base_of bodies cells header → drop step all ≡ frames_below bodies cells count top → drop (step + 1) all ≡ frames_below bodies cells older base
drop_next bodies cells count top header older base step all view less low so_far =
    let split : drop 1 (drop step all) ≡ drop (step + 1) all = drop-drop 1 step all in
    sym split ∙ (ap (λ fs. drop 1 fs) so_far ∙ ap (λ fs. drop 1 fs) (list_next bodies cells count top header older base view less low))

-- the references below the youngest frame
pub refs_next : (bodies cells : List ℕ) (count top header older base depth : ℕ) → Opened bodies cells count top header → top ≤ length cells → older ≡ count - 1 → base ≡ base_of bodies cells header → depth ≡ ref_depth_of cells header
    → length (refs_of (frames_below bodies cells count top)) ≡ length (refs_of (frames_below bodies cells older base)) + depth
refs_next bodies cells count top header older base depth view within less low is =
    let up : length (frame_at bodies cells header).refs ≡ ref_depth_of cells header = length_up cells (base_of bodies cells header) (ref_depth_of cells header) (omega arith) in
    let all : length (refs_of (frames_below bodies cells count top)) ≡ length (refs_of (frames_below bodies cells older base) ++ (frame_at bodies cells header).refs) =
    ap (λ fs. length (refs_of fs)) (list_next bodies cells count top header older base view less low) in
    all ∙ (length-append (refs_of (frames_below bodies cells older base)) (frame_at bodies cells header).refs ∙ omega arith)

-- there are no more references than cells
pub refs_bound : (bodies cells : List ℕ) (count top : ℕ) → top ≤ length cells → AreFrames bodies cells count top → length (refs_of (frames_below bodies cells count top)) ≤ top
refs_bound bodies cells zero top within are = omega arith
refs_bound bodies cells (suc older) top within are =
    let base = base_of bodies cells (top - 4) in
    let deep = are.0 in
    let rest = refs_bound bodies cells older base (omega arith) are.2 in
    let up : length (frame_at bodies cells (top - 4)).refs ≡ ref_depth_of cells (top - 4) = length_up cells base (ref_depth_of cells (top - 4)) (omega arith) in
    let all : length (refs_of (frames_below bodies cells older base) ++ (frame_at bodies cells (top - 4)).refs) ≡ length (refs_of (frames_below bodies cells older base)) + length (frame_at bodies cells (top - 4)).refs =
    length-append (refs_of (frames_below bodies cells older base)) (frame_at bodies cells (top - 4)).refs in
    omega arith

-- where a reference is, from one frame to the next
position_step : (bodies cells : List ℕ) (count top header k : ℕ) → Opened bodies cells count top header
    → root_position bodies cells count top k ≡ (let base = base_of bodies cells header in let below = length (refs_of (frames_below bodies cells (count - 1) base)) in if nat_lt k below then root_position bodies cells (count - 1) base k else base + (k - below))
position_step bodies cells zero top header k view = absurd (omega (arith, view.some))
position_step bodies cells (suc older) top header k view =
    let at : top - 4 ≡ header = omega arith in
    let less : suc older - 1 ≡ older = omega arith in
    rw (at, less) refl

pub position_below : (bodies cells : List ℕ) (count top header older base k : ℕ) → Opened bodies cells count top header → older ≡ count - 1 → base ≡ base_of bodies cells header → k < length (refs_of (frames_below bodies cells older base)) → root_position bodies cells count top k ≡ root_position bodies cells older base k
position_below bodies cells count top header older base k view less low small =
    let b = base_of bodies cells header in
    let below = length (refs_of (frames_below bodies cells (count - 1) b)) in
    let same : length (refs_of (frames_below bodies cells older base)) ≡ below = rw (less, low) refl in
    let yes : nat_lt k below ≡ true = lt-ltb k below (omega arith) in
    position_step bodies cells count top header k view ∙ (ap (λ (t : Bool). if t then root_position bodies cells (count - 1) b k else b + (k - below)) yes ∙ rw (less, low) refl)

pub position_here : (bodies cells : List ℕ) (count top header older base k : ℕ) → Opened bodies cells count top header → older ≡ count - 1 → base ≡ base_of bodies cells header → length (refs_of (frames_below bodies cells older base)) ≤ k → root_position bodies cells count top k ≡ base + (k - length (refs_of (frames_below bodies cells older base)))
position_here bodies cells count top header older base k view less low large =
    let b = base_of bodies cells header in
    let below = length (refs_of (frames_below bodies cells (count - 1) b)) in
    let same : length (refs_of (frames_below bodies cells older base)) ≡ below = rw (less, low) refl in
    let no : nat_lt k below ≡ false = le-ltb k below (omega arith) in
    position_step bodies cells count top header k view ∙ (ap (λ (t : Bool). if t then root_position bodies cells (count - 1) b k else b + (k - below)) no ∙ rw (less, low) refl)

-- frame k is the youngest of those that are left below k frames
pub nth_is : (i : Inside) (stack : Stack) (k end : ℕ) → stack_of i ≡ stack → k < length stack.frames → AreFrames i.bodies.items i.cells.items (i.count - k) end
    → drop k (frames_below i.bodies.items i.cells.items i.count i.used) ≡ frames_below i.bodies.items i.cells.items (i.count - k) end
    → (4 ≤ end) × (nth_frame stack k ≡ frame_at i.bodies.items i.cells.items (end - 4))
nth_is i stack k end view asked are rest =
    let all = frames_below i.bodies.items i.cells.items i.count i.used in
    let many : length stack.frames ≡ i.count = ap (λ (s : Stack). length s.frames) (sym view) ∙ frame_count_is i.bodies.items i.cells.items i.count i.used in
    let left = opened i.bodies.items i.cells.items (i.count - k) end (end - 4) are refl (omega arith) in
    let index : k + 0 ≡ k = omega arith in (
      omega arith,
      sym (ap (λ (s : Stack). nth_frame s k) view) ∙ sym (ap (λ n. get_or all n no_frame) index) ∙ sym (get_or-drop k all 0 no_frame)
          ∙ ap (λ (frames : List Frame). get_or frames 0 no_frame) (rest ∙ left.frames),
    )

-- a step of a walk past the youngest of so many frames, whose body and whose number of references were read
pub record Passes (bodies cells : List ℕ) (count top older body depth : ℕ) : Type 0 where
  pub view : Opened bodies cells count top (top - 4)
  pub less : older ≡ count - 1
  pub fits : body ≤ top - 4
  pub short : depth ≤ body
  pub low : top - 4 - body ≡ base_of bodies cells (top - 4)
  pub next : length (refs_of (frames_below bodies cells count top)) ≡ length (refs_of (frames_below bodies cells older (top - 4 - body))) + depth

pub passes : (bodies cells : List ℕ) (count top older depth_at depth at method index body : ℕ) → AreFrames bodies cells count top → 0 < count → top ≤ length cells → older ≡ count - 1
    → depth_at ≡ top - 4 + 2 → depth ≡ get_or cells depth_at depth → at ≡ top - 4 → method ≡ get_or cells at method → index ≡ method → body ≡ get_or bodies index body
    → Passes bodies cells count top older body depth
passes bodies cells count top older depth_at depth at method index body are some within less depth_there depth_read there first same second =
    let view = opened bodies cells count top (top - 4) are refl some in
    let is : body ≡ body_of bodies cells (top - 4) = body_in bodies cells count top (top - 4) at method index body view (omega arith) there first same second in
    let low : top - 4 - body ≡ base_of bodies cells (top - 4) = ap (λ b. top - 4 - b) is in
    let depth_is : depth ≡ ref_depth_of cells (top - 4) = depth_in cells (top - 4) depth_at depth (omega arith) depth_there depth_read in
    record {
      view = view;
      less = less;
      fits = omega arith;
      short = omega arith;
      low = low;
      next = refs_next bodies cells count top (top - 4) older (top - 4 - body) depth view within less low depth_is;
    }
