-- The cells of the references of all frames.
use Rattle.std.proofs.Common.{◌≡◌, ◌≢◌, ⊎_elim, ℕ, zero, suc, ◌+◌, ◌-◌, ◌<◌, ◌≤◌, Bool, if◌then◌else◌, List, ◌∷◌, ◌++◌, length, get_or, set, refl, sym, ◌∙◌, ap, subst, arith, length-append, length-set, get_or-set_other, get_or-set_same}
use Rattle.std.proofs.lemmas.Bool.{cases_lt, cases_eq, lt-ltb, le-ltb}
use Rattle.std.proofs.lemmas.List.{get_or_append_left, get_or-append_right}
use Rattle.mote_stack.specs.Roots.{refs_of, set_reference}
use Rattle.mote_stack.specs.Layout.{body_of, base_of, ref_depth_of, cell_depth_of, frame_at, frames_below, IsHeader, AreFrames, root_position}
use Rattle.mote_stack.proofs.Ranges.{length_up, length_down, get_up, get_down}
use Rattle.mote_stack.proofs.Youngest.{frame_is, same_below}

-- which of its two values a reference's position has
position_low : (bodies cells : List ℕ) (older top k : ℕ) → k < length (refs_of (frames_below bodies cells older (base_of bodies cells (top - 4)))) → root_position bodies cells (suc older) top k ≡ root_position bodies cells older (base_of bodies cells (top - 4)) k
position_low bodies cells older top k small =
    let base = base_of bodies cells (top - 4) in
    let below = length (refs_of (frames_below bodies cells older base)) in
    ap (λ (t : Bool). if t then root_position bodies cells older base k else base + (k - below)) (lt-ltb k below small)

position_high : (bodies cells : List ℕ) (older top k : ℕ) → length (refs_of (frames_below bodies cells older (base_of bodies cells (top - 4)))) ≤ k → root_position bodies cells (suc older) top k ≡ base_of bodies cells (top - 4) + (k - length (refs_of (frames_below bodies cells older (base_of bodies cells (top - 4)))))
position_high bodies cells older top k large =
    let base = base_of bodies cells (top - 4) in
    let below = length (refs_of (frames_below bodies cells older base)) in
    ap (λ (t : Bool). if t then root_position bodies cells older base k else base + (k - below)) (le-ltb k below large)

pub position_within : (bodies cells : List ℕ) (count top k : ℕ) → top ≤ length cells → AreFrames bodies cells count top → k < length (refs_of (frames_below bodies cells count top)) → root_position bodies cells count top k < top
position_within bodies cells zero top k within are there = absurd (omega arith)
position_within bodies cells (suc older) top k within are there =
    let header = top - 4 in
    let base = base_of bodies cells header in
    let below = length (refs_of (frames_below bodies cells older base)) in
    let deep = are.0 in
    let refs = (frame_at bodies cells header).refs in
    let up : length refs ≡ ref_depth_of cells header = length_up cells base (ref_depth_of cells header) (omega arith) in
    let all : length (refs_of (frames_below bodies cells older base) ++ refs) ≡ below + length refs = length-append (refs_of (frames_below bodies cells older base)) refs in
    ⊎_elim
    (λ (small : k < below).
    let rest = position_within bodies cells older base k (omega arith) are.2 small in
    omega (arith, position_low bodies cells older top k small))
    (λ (large : below ≤ k). omega (arith, position_high bodies cells older top k large))
    (cases_lt k below)

pub root_read : (bodies cells : List ℕ) (count top k : ℕ) → top ≤ length cells → AreFrames bodies cells count top → k < length (refs_of (frames_below bodies cells count top)) → get_or cells (root_position bodies cells count top k) 0 ≡ get_or (refs_of (frames_below bodies cells count top)) k 0
root_read bodies cells zero top k within are there = absurd (omega arith)
root_read bodies cells (suc older) top k within are there =
    let header = top - 4 in
    let base = base_of bodies cells header in
    let lower = refs_of (frames_below bodies cells older base) in
    let deep = are.0 in
    let refs = (frame_at bodies cells header).refs in
    let up : length refs ≡ ref_depth_of cells header = length_up cells base (ref_depth_of cells header) (omega arith) in
    let all : length (lower ++ refs) ≡ length lower + length refs = length-append lower refs in
    ⊎_elim
    (λ (small : k < length lower).
    ap (λ x. get_or cells x 0) (position_low bodies cells older top k small)
    ∙ (root_read bodies cells older base k (omega arith) are.2 small ∙ sym (get_or_append_left lower refs 0 k small)))
    (λ (large : length lower ≤ k).
    ap (λ x. get_or cells x 0) (position_high bodies cells older top k large)
    ∙ (sym (get_up cells base (ref_depth_of cells header) (k - length lower) (omega arith)) ∙ sym (get_or-append_right lower refs (length lower) k 0 refl large)))
    (cases_lt k (length lower))

-- the frames after a write to the cell of a reference
pub root_set : (bodies cells : List ℕ) (count top k v at : ℕ) → top ≤ length cells → AreFrames bodies cells count top → k < length (refs_of (frames_below bodies cells count top)) → at ≡ root_position bodies cells count top k
    → (frames_below bodies (set cells at v) count top ≡ set_reference (frames_below bodies cells count top) k v) × AreFrames bodies (set cells at v) count top
root_set bodies cells zero top k v at within are there is = absurd (omega arith)
root_set bodies cells (suc older) top k v at within are there is =
    let header = top - 4 in
    let base = base_of bodies cells header in
    let lower = refs_of (frames_below bodies cells older base) in
    let deep = are.0 in
    let lies = are.1.body_below in
    let fit = are.1.lists_fit in
    let frame = frame_at bodies cells header in
    let refs = frame.refs in
    let new = set cells at v in
    let long : length new ≡ length cells = length-set cells at v in
    let other : (i : ℕ) → i ≢ at → get_or new i 0 ≡ get_or cells i 0 = λ i ne. get_or-set_other cells at i v 0 ne in
    let up : length refs ≡ ref_depth_of cells header = length_up cells base (ref_depth_of cells header) (omega arith) in
    let down : length frame.cells ≡ cell_depth_of cells header = length_down cells header (cell_depth_of cells header) (omega arith) (omega arith) in
    let all : length (lower ++ refs) ≡ length lower + length refs = length-append lower refs in
    let inside : at + cell_depth_of cells header < header = ⊎_elim
    (λ (small : k < length lower). omega (arith, is, position_low bodies cells older top k small, position_within bodies cells older base k (omega arith) are.2 small))
    (λ (large : length lower ≤ k). omega (arith, is, position_high bodies cells older top k large))
    (cases_lt k (length lower)) in
    let method : get_or new header 0 ≡ get_or cells header 0 = other header (omega arith) in
    let pc : get_or new (header + 1) 0 ≡ get_or cells (header + 1) 0 = other (header + 1) (omega arith) in
    let ref_depth : get_or new (header + 2) 0 ≡ get_or cells (header + 2) 0 = other (header + 2) (omega arith) in
    let cell_depth : get_or new (header + 3) 0 ≡ get_or cells (header + 3) 0 = other (header + 3) (omega arith) in
    let body : body_of bodies new header ≡ body_of bodies cells header = ap (λ m. get_or bodies m 0) method in
    let low : base_of bodies new header ≡ base = ap (λ b. header - b) body in
    let is_header : IsHeader bodies new header = record {
      method_known = rw method are.1.method_known;
      body_below = rw method lies;
      lists_fit = rw (method, ref_depth, cell_depth) fit;
    } in
    let nums : (i : ℕ) → i < length frame.cells → get_or new (header - 1 - i) 0 ≡ get_or frame.cells i 0 = λ i h.
    other (header - 1 - i) (omega arith) ∙ sym (get_down cells header (cell_depth_of cells header) i (omega arith) (omega arith) (omega arith)) in
    let Goal : ℕ → Type 0 = λ b. (frame_at bodies new header ∷ frames_below bodies new older b ≡ set_reference (frame ∷ frames_below bodies cells older base) k v) × AreFrames bodies new older b in
    let closed : Goal base → (frame_at bodies new header ∷ frames_below bodies new older (base_of bodies new header) ≡ set_reference (frame ∷ frames_below bodies cells older base) k v) × ((4 ≤ top) × IsHeader bodies new header × AreFrames bodies new older (base_of bodies new header)) =
    λ goal. let moved = subst Goal (sym low) goal in (moved.0, (deep, is_header, moved.1)) in
    ⊎_elim
    (λ (small : k < length lower).
    let at_is : at ≡ root_position bodies cells older base k = is ∙ position_low bodies cells older top k small in
    let under = position_within bodies cells older base k (omega arith) are.2 small in
    let rest = root_set bodies cells older base k v at (omega arith) are.2 small at_is in
    let same : frame_at bodies new header ≡ frame =
    frame_is bodies new header frame (omega arith) is_header method pc body (ref_depth ∙ sym up) (cell_depth ∙ sym down)
    (λ i h. ap (λ b. get_or new (b + i) 0) low ∙ (other (base + i) (omega arith) ∙ sym (get_up cells base (ref_depth_of cells header) i (omega arith))))
    nums in
    closed (
      ap (λ f. f ∷ frames_below bodies new older base) same
          ∙ (ap (λ fs. frame ∷ fs) rest.0
          ∙ sym (ap (λ (t : Bool). if t then frame ∷ set_reference (frames_below bodies cells older base) k v else (record frame { refs = set refs (k - length lower) v }) ∷ frames_below bodies cells older base) (lt-ltb k (length lower) small))),
      rest.1,
    ))
    (λ (large : length lower ≤ k).
    let at_is : at ≡ base + (k - length lower) = is ∙ position_high bodies cells older top k large in
    let rest = same_below bodies cells new older base (omega arith) (record { long = long; same = λ i h. other i (omega arith) }) are.2 in
    let wrote : length (set refs (k - length lower) v) ≡ length refs = length-set refs (k - length lower) v in
    let same : frame_at bodies new header ≡ record frame { refs = set refs (k - length lower) v } =
    frame_is bodies new header (record frame { refs = set refs (k - length lower) v }) (omega arith) is_header method pc body (ref_depth ∙ (sym up ∙ sym wrote)) (cell_depth ∙ sym down)
    (λ i h. ap (λ b. get_or new (b + i) 0) low ∙ ⊎_elim
    (λ (here : i ≡ k - length lower).
    let place : base + i ≡ at = omega arith in
    ap (λ x. get_or new x 0) place ∙ (get_or-set_same cells at v 0 (omega arith)
    ∙ sym (ap (λ x. get_or (set refs (k - length lower) v) x 0) here ∙ get_or-set_same refs (k - length lower) v 0 (omega arith))))
    (λ (ne : i ≢ k - length lower).
    other (base + i) (λ e. ne (omega arith)) ∙ (sym (get_up cells base (ref_depth_of cells header) i (omega arith))
    ∙ sym (get_or-set_other refs (k - length lower) i v 0 ne)))
    (cases_eq i (k - length lower)))
    nums in
    closed (
      ap (λ f. f ∷ frames_below bodies new older base) same
          ∙ (ap (λ fs. (record frame { refs = set refs (k - length lower) v }) ∷ fs) rest.0
          ∙ sym (ap (λ (t : Bool). if t then frame ∷ set_reference (frames_below bodies cells older base) k v else (record frame { refs = set refs (k - length lower) v }) ∷ frames_below bodies cells older base) (le-ltb k (length lower) large))),
      rest.1,
    ))
    (cases_lt k (length lower))
