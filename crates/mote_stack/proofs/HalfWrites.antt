-- Writes to a header and to the halves of a body, as changes of the lists.
use Rattle.std.proofs.Common.{◌≡◌, ◌≢◌, ◌⊎◌, inl, inr, ⊎_elim, ℕ, ◌+◌, ◌-◌, ◌<◌, ◌≤◌, List, [], ◌∷◌, ◌++◌, length, get_or, set, take, refl, sym, ◌∙◌, arith, length-append, length-set, get_or-set_other, get_or-set_same}
use Rattle.std.specs.Vec.{with_item}
use Rattle.std.proofs.lemmas.Bool.{cases_lt, cases_eq}
use Rattle.std.proofs.lemmas.List.{length-take-le, get_or-take, get_or_append_left, get_or_push}
use Rattle.mote_stack.specs.Frames.{Stack, youngest_frame, with_youngest, with_refs, with_cells, HasFreeCells}
use Rattle.mote_stack.specs.Layout.{base_of, ref_depth_of, cell_depth_of, IsRegion}
use Rattle.mote_stack.specs.declared.region.Region.TheInside.{Inside}
use Rattle.mote_stack.proofs.Changed.{Seen, written, Becomes, refs_written, cells_written}

-- the fields after one write and after two writes
abbrev pub put : Inside → ℕ → ℕ → Inside
put i at v = record i { cells = with_item i.cells at v }

pub pc_written : (i : Inside) (stack : Stack) (at pc : ℕ) → IsRegion i → Seen i stack → at ≡ i.youngest + 1
    → Becomes (put i at pc) (with_youngest stack (record (youngest_frame stack) { pc = pc }))
pc_written i stack at pc is s place =
    let fit = s.lists_fit in
    let old = i.cells.items in
    let inside : at < length old = omega arith in
    let other : (k : ℕ) → k ≢ at → get_or (set old at pc) k 0 ≡ get_or old k 0 = λ k ne. get_or-set_other old at k pc 0 ne in
    written i (put i at pc) stack (record (youngest_frame stack) { pc = pc }) is s (record {
      bodies = refl;
      used = refl;
      count = refl;
      youngest = refl;
      len = refl;
      below = λ k h. other k (omega arith);
      method = other i.youngest (omega arith);
      pc = rw (sym place) (get_or-set_same old at pc 0 inside);
      ref_depth = other (i.youngest + 2) (omega arith) ∙ sym s.refs_long;
      cell_depth = other (i.youngest + 3) (omega arith) ∙ sym s.cells_long;
      fits = omega (arith, s.refs_long, s.cells_long, fit);
      refs = λ k h. let small : k < ref_depth_of old i.youngest = omega (arith, h, s.refs_long) in
          other (base_of i.bodies.items old i.youngest + k) (omega arith) ∙ sym (s.refs_at k small);
      cells = λ k h. let small : k < cell_depth_of old i.youngest = omega (arith, h, s.cells_long) in
          other (i.youngest - 1 - k) (omega arith) ∙ sym (s.cells_at k small);
      same_method = refl;
      same_body = refl;
    })

-- a list of cells where one was written
other_than : (cells : List ℕ) (at v k : ℕ) → k ≢ at → get_or (set cells at v) k 0 ≡ get_or cells k 0
other_than cells at v k ne = get_or-set_other cells at k v 0 ne

written_at : (cells : List ℕ) (at v k : ℕ) → k ≡ at → at < length cells → get_or (set cells at v) k 0 ≡ v
written_at cells at v k same inside = rw same (get_or-set_same cells at v 0 inside)

-- an item of a list with one more at its end
pushed_at : (items : List ℕ) (v k : ℕ) → k < length (items ++ v ∷ []) → ((k < length items) × (get_or (items ++ v ∷ []) k 0 ≡ get_or items k 0)) ⊎ ((k ≡ length items) × (get_or (items ++ v ∷ []) k 0 ≡ v))
pushed_at items v k below =
    let long : length (items ++ v ∷ []) ≡ length items + 1 = length-append items (v ∷ []) in
    ⊎_elim (λ small. inl (small, get_or_append_left items (v ∷ []) 0 k small))
    (λ past. let end : length items ≡ k = omega arith in inr (sym end, get_or_push items v 0 k end))
    (cases_lt k (length items))

-- a reference written, then the number of references
pub ref_pushed : (i : Inside) (stack : Stack) (at v there depth : ℕ) → IsRegion i → Seen i stack → HasFreeCells stack 1
    → at ≡ base_of i.bodies.items i.cells.items i.youngest + ref_depth_of i.cells.items i.youngest
    → there ≡ i.youngest + 2 → depth ≡ ref_depth_of i.cells.items i.youngest + 1
    → Becomes (put (put i at v) there depth) (with_refs stack ((youngest_frame stack).refs ++ v ∷ []))
ref_pushed i stack at v there depth is s free place header more =
    let old = i.cells.items in
    let refs = (youngest_frame stack).refs in
    let pushed : length (refs ++ v ∷ []) ≡ length refs + 1 = length-append refs (v ∷ []) in
    let inside : at < length old = omega arith in
    let long : length (set old at v) ≡ length old = length-set old at v in
    let first : (k : ℕ) → k ≢ there → get_or (set (set old at v) there depth) k 0 ≡ get_or (set old at v) k 0 =
    λ k no. other_than (set old at v) there depth k no in
    let other : (k : ℕ) → k ≢ at → k ≢ there → get_or (set (set old at v) there depth) k 0 ≡ get_or old k 0 =
    λ k ne no. first k no ∙ other_than old at v k ne in
    refs_written i (put (put i at v) there depth) stack (refs ++ v ∷ []) is s (record { bodies = refl; used = refl; count = refl; youngest = refl; len = refl }) (record {
      low = λ k h. other k (omega arith) (omega arith);
      high = λ k h g. other k (omega arith) (omega arith);
      cell_depth = other (i.youngest + 3) (omega arith) (omega arith);
      depth = written_at (set old at v) there depth (i.youngest + 2) (omega arith) (omega arith) ∙ omega arith;
      fits = omega arith;
      refs_at = λ k h. ⊎_elim
          (λ (small, is_old). other (base_of i.bodies.items old i.youngest + k) (omega arith) (omega arith) ∙ (sym (s.refs_at k (omega arith)) ∙ sym is_old))
          (λ (end, is_new). first (base_of i.bodies.items old i.youngest + k) (omega arith) ∙ (written_at old at v (base_of i.bodies.items old i.youngest + k) (omega arith) inside ∙ sym is_new))
          (pushed_at refs v k h);
    })

-- a whole-number cell written, then the number of these cells
pub cell_pushed : (i : Inside) (stack : Stack) (at v there depth : ℕ) → IsRegion i → Seen i stack → HasFreeCells stack 1
    → at ≡ i.youngest - 1 - cell_depth_of i.cells.items i.youngest
    → there ≡ i.youngest + 3 → depth ≡ cell_depth_of i.cells.items i.youngest + 1
    → Becomes (put (put i at v) there depth) (with_cells stack ((youngest_frame stack).cells ++ v ∷ []))
cell_pushed i stack at v there depth is s free place header more =
    let old = i.cells.items in
    let nums = (youngest_frame stack).cells in
    let pushed : length (nums ++ v ∷ []) ≡ length nums + 1 = length-append nums (v ∷ []) in
    let inside : at < length old = omega arith in
    let long : length (set old at v) ≡ length old = length-set old at v in
    let first : (k : ℕ) → k ≢ there → get_or (set (set old at v) there depth) k 0 ≡ get_or (set old at v) k 0 =
    λ k no. other_than (set old at v) there depth k no in
    let other : (k : ℕ) → k ≢ at → k ≢ there → get_or (set (set old at v) there depth) k 0 ≡ get_or old k 0 =
    λ k ne no. first k no ∙ other_than old at v k ne in
    cells_written i (put (put i at v) there depth) stack (nums ++ v ∷ []) is s (record { bodies = refl; used = refl; count = refl; youngest = refl; len = refl }) (record {
      low = λ k h. other k (omega arith) (omega arith);
      header = λ k h g. other k (omega arith) (omega arith);
      depth = written_at (set old at v) there depth (i.youngest + 3) (omega arith) (omega arith) ∙ omega arith;
      fits = omega arith;
      cells_at = λ k h. ⊎_elim
          (λ (small, is_old). other (i.youngest - 1 - k) (omega arith) (omega arith) ∙ (sym (s.cells_at k (omega arith)) ∙ sym is_old))
          (λ (end, is_new). first (i.youngest - 1 - k) (omega arith) ∙ (written_at old at v (i.youngest - 1 - k) (omega arith) inside ∙ sym is_new))
          (pushed_at nums v k h);
    })

-- a reference written
pub ref_set : (i : Inside) (stack : Stack) (at n v : ℕ) → IsRegion i → Seen i stack → n < length (youngest_frame stack).refs
    → at ≡ base_of i.bodies.items i.cells.items i.youngest + n
    → Becomes (put i at v) (with_refs stack (set (youngest_frame stack).refs n v))
ref_set i stack at n v is s there place =
    let old = i.cells.items in
    let refs = (youngest_frame stack).refs in
    let inside : at < length old = omega arith in
    let long : length (set refs n v) ≡ length refs = length-set refs n v in
    let other : (k : ℕ) → k ≢ at → get_or (set old at v) k 0 ≡ get_or old k 0 = λ k ne. other_than old at v k ne in
    refs_written i (put i at v) stack (set refs n v) is s (record { bodies = refl; used = refl; count = refl; youngest = refl; len = refl }) (record {
      low = λ k h. other k (omega arith);
      high = λ k h g. other k (omega arith);
      cell_depth = other (i.youngest + 3) (omega arith);
      depth = other (i.youngest + 2) (omega arith) ∙ omega arith;
      fits = omega arith;
      refs_at = λ k h. ⊎_elim
          (λ same. written_at old at v (base_of i.bodies.items old i.youngest + k) (omega arith) inside ∙ sym (written_at refs n v k same there))
          (λ ne. other (base_of i.bodies.items old i.youngest + k) (λ e. ne (omega arith)) ∙ (sym (s.refs_at k (omega arith)) ∙ sym (other_than refs n v k ne)))
          (cases_eq k n);
    })

-- a whole-number cell written
pub cell_set : (i : Inside) (stack : Stack) (at n v : ℕ) → IsRegion i → Seen i stack → n < length (youngest_frame stack).cells
    → at ≡ i.youngest - 1 - n
    → Becomes (put i at v) (with_cells stack (set (youngest_frame stack).cells n v))
cell_set i stack at n v is s there place =
    let old = i.cells.items in
    let nums = (youngest_frame stack).cells in
    let inside : at < length old = omega arith in
    let long : length (set nums n v) ≡ length nums = length-set nums n v in
    let other : (k : ℕ) → k ≢ at → get_or (set old at v) k 0 ≡ get_or old k 0 = λ k ne. other_than old at v k ne in
    cells_written i (put i at v) stack (set nums n v) is s (record { bodies = refl; used = refl; count = refl; youngest = refl; len = refl }) (record {
      low = λ k h. other k (omega arith);
      header = λ k h g. other k (omega arith);
      depth = other (i.youngest + 3) (omega arith) ∙ omega arith;
      fits = omega arith;
      cells_at = λ k h. ⊎_elim
          (λ same. written_at old at v (i.youngest - 1 - k) (omega arith) inside ∙ sym (written_at nums n v k same there))
          (λ ne. other (i.youngest - 1 - k) (λ e. ne (omega arith)) ∙ (sym (s.cells_at k (omega arith)) ∙ sym (other_than nums n v k ne)))
          (cases_eq k n);
    })

-- the number of references cut
pub refs_cut : (i : Inside) (stack : Stack) (there depth cut : ℕ) → IsRegion i → Seen i stack → depth ≡ cut → cut ≤ length (youngest_frame stack).refs
    → there ≡ i.youngest + 2
    → Becomes (put i there depth) (with_refs stack (take cut (youngest_frame stack).refs))
refs_cut i stack there depth cut is s same less header =
    let old = i.cells.items in
    let refs = (youngest_frame stack).refs in
    let long : length (take cut refs) ≡ cut = length-take-le cut refs less in
    let other : (k : ℕ) → k ≢ there → get_or (set old there depth) k 0 ≡ get_or old k 0 = λ k ne. other_than old there depth k ne in
    refs_written i (put i there depth) stack (take cut refs) is s (record { bodies = refl; used = refl; count = refl; youngest = refl; len = refl }) (record {
      low = λ k h. other k (omega arith);
      high = λ k h g. other k (omega arith);
      cell_depth = other (i.youngest + 3) (omega arith);
      depth = written_at old there depth (i.youngest + 2) (omega arith) (omega arith) ∙ (same ∙ sym long);
      fits = omega arith;
      refs_at = λ k h. other (base_of i.bodies.items old i.youngest + k) (omega arith) ∙ (sym (s.refs_at k (omega arith)) ∙ sym (get_or-take cut refs k 0 (omega arith)));
    })

-- the number of whole-number cells cut
pub cells_cut : (i : Inside) (stack : Stack) (there depth cut : ℕ) → IsRegion i → Seen i stack → depth ≡ cut → cut ≤ length (youngest_frame stack).cells
    → there ≡ i.youngest + 3
    → Becomes (put i there depth) (with_cells stack (take cut (youngest_frame stack).cells))
cells_cut i stack there depth cut is s same less header =
    let old = i.cells.items in
    let nums = (youngest_frame stack).cells in
    let long : length (take cut nums) ≡ cut = length-take-le cut nums less in
    let other : (k : ℕ) → k ≢ there → get_or (set old there depth) k 0 ≡ get_or old k 0 = λ k ne. other_than old there depth k ne in
    cells_written i (put i there depth) stack (take cut nums) is s (record { bodies = refl; used = refl; count = refl; youngest = refl; len = refl }) (record {
      low = λ k h. other k (omega arith);
      header = λ k h g. other k (omega arith);
      depth = written_at old there depth (i.youngest + 3) (omega arith) (omega arith) ∙ (same ∙ sym long);
      fits = omega arith;
      cells_at = λ k h. other (i.youngest - 1 - k) (omega arith) ∙ (sym (s.cells_at k (omega arith)) ∙ sym (get_or-take cut nums k 0 (omega arith)));
    })
