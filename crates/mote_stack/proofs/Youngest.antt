-- The youngest frame in the cells, and what stays of the others as its cells change.
use Rattle.std.proofs.Common.{◌≡◌, ℕ, zero, suc, ◌+◌, ◌-◌, ◌<◌, ◌≤◌, List, ◌∷◌, length, get_or, reverse, slice_range, refl, sym, ◌∙◌, ap, subst, arith}
use Rattle.std.specs.Prelude.{All}
use Rattle.std.proofs.lemmas.List.Elements.{All-nil, All-cons}
use Rattle.std.specs.List.{sum_by}
use Rattle.std.proofs.lemmas.List.Sums.{sum_by-cons}
use Rattle.mote_stack.specs.Frames.{Frame, IsFrame, cells_of}
use Rattle.mote_stack.specs.Layout.{body_of, base_of, ref_depth_of, cell_depth_of, frame_at, frames_below, IsHeader, AreFrames}
use Rattle.mote_stack.proofs.Ranges.{read_up, read_down, length_up, length_down, get_up, get_down}

pub frame_count_is : (bodies cells : List ℕ) (count top : ℕ) → length (frames_below bodies cells count top) ≡ count
frame_count_is bodies cells zero top = refl
frame_count_is bodies cells (suc older) top =
    ap suc (frame_count_is bodies cells older (base_of bodies cells (top - 4)))

-- the frames take all cells below their end
pub used_is : (bodies cells : List ℕ) (count top : ℕ) → AreFrames bodies cells count top → sum_by cells_of (frames_below bodies cells count top) ≡ top
used_is bodies cells zero top are = sym are
used_is bodies cells (suc older) top are =
    let rest = used_is bodies cells older (base_of bodies cells (top - 4)) are.2 in
    let deep = are.0 in
    omega (arith, rest, sum_by-cons cells_of (frame_at bodies cells (top - 4)) (frames_below bodies cells older (base_of bodies cells (top - 4))))

-- two memories of one length that agree below a place
pub record AgreeBelow (old new : List ℕ) (top : ℕ) : Type 0 where
  pub long : length new ≡ length old
  pub same : (k : ℕ) → k < top → get_or new k 0 ≡ get_or old k 0

pub agree_lower : (old new : List ℕ) (top low : ℕ) → low ≤ top → AgreeBelow old new top → AgreeBelow old new low
agree_lower old new top low le agree = record { long = agree.long; same = λ k h. agree.same k (omega arith) }

-- what a header of a frame tells stays
pub same_header : (bodies old new : List ℕ) (header : ℕ) → AgreeBelow old new (header + 4) → IsHeader bodies old header → IsHeader bodies new header
same_header bodies old new header agree is =
    let method : get_or new header 0 ≡ get_or old header 0 = agree.same header (omega arith) in
    let refs : get_or new (header + 2) 0 ≡ get_or old (header + 2) 0 = agree.same (header + 2) (omega arith) in
    let cells : get_or new (header + 3) 0 ≡ get_or old (header + 3) 0 = agree.same (header + 3) (omega arith) in
    record {
      method_known = rw method is.method_known;
      body_below = rw method is.body_below;
      lists_fit = rw (method, refs, cells) is.lists_fit;
    }

made : ℕ → ℕ → ℕ → List ℕ → List ℕ → Frame
made method pc body refs cells = record { method = method; pc = pc; body = body; refs = refs; cells = cells }

made_alike : (m n p q b d : ℕ) (r s c e : List ℕ) → m ≡ n → p ≡ q → b ≡ d → r ≡ s → c ≡ e → made m p b r c ≡ made n q d s e
made_alike m n p q b d r s c e method pc body refs cells = cc

-- frames are equal where their fields are
pub same_fields : (a b : Frame) → a.method ≡ b.method → a.pc ≡ b.pc → a.body ≡ b.body → a.refs ≡ b.refs → a.cells ≡ b.cells → a ≡ b
unfolding made
same_fields a b method pc body refs cells =
    made_alike a.method b.method a.pc b.pc a.body b.body a.refs b.refs a.cells b.cells method pc body refs cells

-- a frame is what its header and its lists say
pub frame_is : (bodies cells : List ℕ) (header : ℕ) (frame : Frame) → header ≤ length cells → IsHeader bodies cells header
    → get_or cells header 0 ≡ frame.method
    → get_or cells (header + 1) 0 ≡ frame.pc
    → body_of bodies cells header ≡ frame.body
    → get_or cells (header + 2) 0 ≡ length frame.refs
    → get_or cells (header + 3) 0 ≡ length frame.cells
    → ((k : ℕ) → k < length frame.refs → get_or cells (base_of bodies cells header + k) 0 ≡ get_or frame.refs k 0)
    → ((k : ℕ) → k < length frame.cells → get_or cells (header - 1 - k) 0 ≡ get_or frame.cells k 0)
    → frame_at bodies cells header ≡ frame
frame_is bodies cells header frame within is method pc body refs_long cells_long refs nums =
    let up : slice_range cells (base_of bodies cells header) (base_of bodies cells header + ref_depth_of cells header) ≡ frame.refs =
    read_up cells frame.refs (base_of bodies cells header) (ref_depth_of cells header) (omega arith) (sym refs_long) (λ k h. refs k (omega arith)) in
    let down : reverse (slice_range cells (header - cell_depth_of cells header) header) ≡ frame.cells =
    read_down cells frame.cells header (cell_depth_of cells header) (omega arith) within (sym cells_long) (λ k h. nums k (omega arith)) in
    same_fields (frame_at bodies cells header) frame method pc body up down

-- a frame stays where the cells up to its header's end stay
pub same_frame : (bodies old new : List ℕ) (header : ℕ) → header ≤ length old → AgreeBelow old new (header + 4) → IsHeader bodies old header → frame_at bodies new header ≡ frame_at bodies old header
same_frame bodies old new header within agree is =
    let method : get_or new header 0 ≡ get_or old header 0 = agree.same header (omega arith) in
    let pc : get_or new (header + 1) 0 ≡ get_or old (header + 1) 0 = agree.same (header + 1) (omega arith) in
    let refs : get_or new (header + 2) 0 ≡ get_or old (header + 2) 0 = agree.same (header + 2) (omega arith) in
    let cells : get_or new (header + 3) 0 ≡ get_or old (header + 3) 0 = agree.same (header + 3) (omega arith) in
    let body : body_of bodies new header ≡ body_of bodies old header = ap (λ m. get_or bodies m 0) method in
    let base : base_of bodies new header ≡ base_of bodies old header = ap (λ b. header - b) body in
    let long = agree.long in
    let up : length (frame_at bodies old header).refs ≡ ref_depth_of old header =
    length_up old (base_of bodies old header) (ref_depth_of old header) (omega arith) in
    let down : length (frame_at bodies old header).cells ≡ cell_depth_of old header =
    length_down old header (cell_depth_of old header) (omega arith) within in
    frame_is bodies new header (frame_at bodies old header) (omega arith) (same_header bodies old new header agree is)
    method pc body (refs ∙ sym up) (cells ∙ sym down)
    (λ k h.
    let small : k < ref_depth_of old header = omega (arith, h, up) in
    let at : get_or (frame_at bodies old header).refs k 0 ≡ get_or old (base_of bodies old header + k) 0 =
    get_up old (base_of bodies old header) (ref_depth_of old header) k small in
    ap (λ b. get_or new (b + k) 0) base ∙ (agree.same (base_of bodies old header + k) (omega arith) ∙ sym at))
    (λ k h.
    let small : k < cell_depth_of old header = omega (arith, h, down) in
    let at : get_or (frame_at bodies old header).cells k 0 ≡ get_or old (header - 1 - k) 0 =
    get_down old header (cell_depth_of old header) k (omega arith) within small in
    agree.same (header - 1 - k) (omega arith) ∙ sym at)

-- the frames below a place stay where the cells below it stay
pub same_below : (bodies old new : List ℕ) (count top : ℕ) → top ≤ length old → AgreeBelow old new top → AreFrames bodies old count top → (frames_below bodies new count top ≡ frames_below bodies old count top) × AreFrames bodies new count top
same_below bodies old new zero top within agree are = (refl, are)
same_below bodies old new (suc older) top within agree are =
    let deep = are.0 in
    let is = are.1 in
    let header = top - 4 in
    let method : get_or new header 0 ≡ get_or old header 0 = agree.same header (omega arith) in
    let base : base_of bodies new header ≡ base_of bodies old header = ap (λ m. header - get_or bodies m 0) method in
    let upto : AgreeBelow old new (header + 4) = agree_lower old new top (header + 4) (omega arith) agree in
    let frame = same_frame bodies old new header (omega arith) upto is in
    let rest = same_below bodies old new older (base_of bodies old header) (omega arith) (agree_lower old new top (base_of bodies old header) (omega arith) agree) are.2 in
    let P : ℕ → Type 0 = λ b. (frame_at bodies new header ∷ frames_below bodies new older b ≡ frame_at bodies old header ∷ frames_below bodies old older (base_of bodies old header)) × AreFrames bodies new older b in
    let both : P (base_of bodies old header) = (ap (λ f. f ∷ frames_below bodies new older (base_of bodies old header)) frame ∙ ap (λ fs. frame_at bodies old header ∷ fs) rest.0, rest.1) in
    let moved = subst P (sym base) both in
    (moved.0, (deep, same_header bodies old new header upto is, moved.1))

-- the cells seen from the youngest frame
pub record Opened (bodies cells : List ℕ) (count used header : ℕ) : Type 0 where
  pub some : 0 < count
  pub header_last : header + 4 ≡ used
  pub is : IsHeader bodies cells header
  pub older : AreFrames bodies cells (count - 1) (base_of bodies cells header)
  pub frames : frames_below bodies cells count used ≡ frame_at bodies cells header ∷ frames_below bodies cells (count - 1) (base_of bodies cells header)

pub opened : (bodies cells : List ℕ) (count used header : ℕ) → AreFrames bodies cells count used → header ≡ used - 4 → 0 < count → Opened bodies cells count used header
opened bodies cells zero used header are last some = absurd (omega arith)
opened bodies cells (suc older) used header are last some =
    let P : ℕ → Type 0 = λ h. Opened bodies cells (suc older) used h in
    let deep = are.0 in
    let less : suc older - 1 ≡ older = omega arith in
    let there : P (used - 4) = record {
      some = omega arith;
      header_last = omega arith;
      is = are.1;
      older = rw less are.2;
      frames = rw less refl;
    } in
    subst P (sym last) there

-- the frames where the youngest frame alone was changed
pub reopened : (bodies old new : List ℕ) (count used header : ℕ) → used ≤ length old → Opened bodies old count used header → AgreeBelow old new (base_of bodies old header) → get_or new header 0 ≡ get_or old header 0 → ref_depth_of new header + cell_depth_of new header ≤ body_of bodies old header
    → (frames_below bodies new count used ≡ frame_at bodies new header ∷ frames_below bodies old (count - 1) (base_of bodies old header)) × AreFrames bodies new count used
reopened bodies old new zero used header within seen agree method fit = absurd (omega (arith, seen.some))
reopened bodies old new (suc older) used header within seen agree method fit =
    let less : suc older - 1 ≡ older = omega arith in
    let last = seen.header_last in
    let at : used - 4 ≡ header = omega arith in
    let base : base_of bodies new header ≡ base_of bodies old header = ap (λ m. header - get_or bodies m 0) method in
    let rest = same_below bodies old new (suc older - 1) (base_of bodies old header) (omega arith) agree seen.older in
    let now : IsHeader bodies new header = record {
      method_known = rw method seen.is.method_known;
      body_below = rw method seen.is.body_below;
      lists_fit = rw method fit;
    } in
    let P : ℕ → Type 0 = λ n. (frame_at bodies new header ∷ frames_below bodies new n (base_of bodies old header) ≡ frame_at bodies new header ∷ frames_below bodies old (suc older - 1) (base_of bodies old header)) × AreFrames bodies new n (base_of bodies old header) in
    let first : P (suc older - 1) = (ap (λ fs. frame_at bodies new header ∷ fs) rest.0, rest.1) in
    let second : P older = subst P less first in
    let Q : ℕ → Type 0 = λ b. (frame_at bodies new header ∷ frames_below bodies new older b ≡ frame_at bodies new header ∷ frames_below bodies old (suc older - 1) (base_of bodies old header)) × AreFrames bodies new older b in
    let third : Q (base_of bodies new header) = subst Q (sym base) second in
    let R : ℕ → Type 0 = λ h. (frame_at bodies new h ∷ frames_below bodies new older (base_of bodies new h) ≡ frame_at bodies new header ∷ frames_below bodies old (suc older - 1) (base_of bodies old header)) × ((4 ≤ used) × IsHeader bodies new h × AreFrames bodies new older (base_of bodies new h)) in
    subst R (sym at) (third.0, (omega arith, now, third.1))

-- each frame is one of a method in the table, whose lists fit its body
pub frames_fit : (bodies cells : List ℕ) (count top : ℕ) → top ≤ length cells → AreFrames bodies cells count top → All (IsFrame bodies) (frames_below bodies cells count top)
frames_fit bodies cells zero top within are = All-nil (IsFrame bodies)
frames_fit bodies cells (suc older) top within are =
    let header = top - 4 in
    let deep = are.0 in
    let up : length (frame_at bodies cells header).refs ≡ ref_depth_of cells header = length_up cells (base_of bodies cells header) (ref_depth_of cells header) (omega arith) in
    let down : length (frame_at bodies cells header).cells ≡ cell_depth_of cells header = length_down cells header (cell_depth_of cells header) (omega arith) (omega arith) in
    let here : IsFrame bodies (frame_at bodies cells header) = record { method_known = are.1.method_known; body_is = refl; lists_fit = omega arith } in
    All-cons (IsFrame bodies) (frame_at bodies cells header) (frames_below bodies cells older (base_of bodies cells header)) here
    (frames_fit bodies cells older (base_of bodies cells header) (omega arith) are.2)
