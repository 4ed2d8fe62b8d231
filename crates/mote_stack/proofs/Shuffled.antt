-- Shuffles of the operands, as moves of cells and as changes of lists.
use Rattle.std.proofs.Common.{◌≡◌, ◌≢◌, ⊎_elim, ℕ, ◌+◌, ◌-◌, ◌<◌, ◌≤◌, List, ◌++◌, length, get_or, refl, sym, ◌∙◌, ap, arith, length-append, length-drop}
use Rattle.std.proofs.lemmas.Bool.{cases_lt}
use Rattle.std.proofs.lemmas.List.{length-take-le, get_or-take, get_or-drop, get_or_append_left, get_or-append_right}
use Rattle.mote_stack.specs.Frames.{Stack, youngest_frame, with_refs, with_cells, without_last, last_items}
use Rattle.mote_stack.specs.Shuffles.{duplicated, exchanged, without_item}
use Rattle.mote_stack.specs.Layout.{body_of, base_of, ref_depth_of, cell_depth_of, IsRegion}
use Rattle.mote_stack.specs.declared.region.Region.TheInside.{Inside}
use Rattle.mote_stack.proofs.Changed.{Seen, Becomes, KeepsFields, refs_written, cells_written}

-- all but the last m + n items stay, the m last come next, and then those from m places below
pub record Shuffled (items result : List ℕ) (m n : ℕ) : Type 0 where
  pub there : m + n ≤ length items
  pub short : length items - n ≤ length result
  pub bound : length result ≤ length items + m
  pub same : (k : ℕ) → k < length items - (m + n) → get_or result k 0 ≡ get_or items k 0
  pub next : (k : ℕ) → length items - (m + n) ≤ k → k < length items - n → get_or result k 0 ≡ get_or items (k + n) 0
  pub last : (k : ℕ) → length items - n ≤ k → k < length result → get_or result k 0 ≡ get_or items (k - m) 0

-- an item of three lists joined
joined_first : (a b c : List ℕ) (k : ℕ) → k < length a → get_or (a ++ b ++ c) k 0 ≡ get_or a k 0
joined_first a b c k h =
    let long : length (a ++ b) ≡ length a + length b = length-append a b in
    get_or_append_left (a ++ b) c 0 k (omega arith) ∙ get_or_append_left a b 0 k h

joined_second : (a b c : List ℕ) (k : ℕ) → length a ≤ k → k < length a + length b → get_or (a ++ b ++ c) k 0 ≡ get_or b (k - length a) 0
joined_second a b c k h g =
    let long : length (a ++ b) ≡ length a + length b = length-append a b in
    get_or_append_left (a ++ b) c 0 k (omega arith) ∙ get_or-append_right a b (length a) k 0 refl h

joined_third : (a b c : List ℕ) (k : ℕ) → length a + length b ≤ k → get_or (a ++ b ++ c) k 0 ≡ get_or c (k - (length a + length b)) 0
joined_third a b c k h =
    let long : length (a ++ b) ≡ length a + length b = length-append a b in
    get_or-append_right (a ++ b) c (length a + length b) k 0 long h

length_joined : (a b c : List ℕ) → length (a ++ b ++ c) ≡ length a + length b + length c
length_joined a b c = length-append (a ++ b) c ∙ ap (λ n. n + length c) (length-append a b)

pub duplicated_shuffles : (m n : ℕ) (items : List ℕ) → m + n ≤ length items → Shuffled items (duplicated m n items) m n × (length (duplicated m n items) ≡ length items + m)
duplicated_shuffles m n items there =
    let a = without_last (m + n) items in
    let b = last_items m items in
    let c = last_items (m + n) items in
    let la : length a ≡ length items - (m + n) = length-take-le (length items - (m + n)) items (omega arith) in
    let lb : length b ≡ m = length-drop (length items - m) items ∙ omega arith in
    let lc : length c ≡ m + n = length-drop (length items - (m + n)) items ∙ omega arith in
    let all = length_joined a b c in (
      record {
        there = there;
        short = omega arith;
        bound = omega arith;
        same = λ k h. joined_first a b c k (omega arith) ∙ get_or-take (length items - (m + n)) items k 0 h;
        next = λ k h g. joined_second a b c k (omega arith) (omega arith) ∙ (get_or-drop (length items - m) items (k - length a) 0 ∙ ap (λ x. get_or items x 0) (omega arith));
        last = λ k h g. joined_third a b c k (omega arith) ∙ (get_or-drop (length items - (m + n)) items (k - (length a + length b)) 0 ∙ ap (λ x. get_or items x 0) (omega arith));
      },
      omega arith,
    )

pub exchanged_shuffles : (m n : ℕ) (items : List ℕ) → m + n ≤ length items → Shuffled items (exchanged m n items) m n × (length (exchanged m n items) ≡ length items)
exchanged_shuffles m n items there =
    let a = without_last (m + n) items in
    let b = last_items m items in
    let d = last_items (m + n) items in
    let c = without_last m d in
    let la : length a ≡ length items - (m + n) = length-take-le (length items - (m + n)) items (omega arith) in
    let lb : length b ≡ m = length-drop (length items - m) items ∙ omega arith in
    let ld : length d ≡ m + n = length-drop (length items - (m + n)) items ∙ omega arith in
    let lc : length c ≡ n = length-take-le (length d - m) d (omega arith) ∙ omega arith in
    let all = length_joined a b c in (
      record {
        there = there;
        short = omega arith;
        bound = omega arith;
        same = λ k h. joined_first a b c k (omega arith) ∙ get_or-take (length items - (m + n)) items k 0 h;
        next = λ k h g. joined_second a b c k (omega arith) (omega arith) ∙ (get_or-drop (length items - m) items (k - length a) 0 ∙ ap (λ x. get_or items x 0) (omega arith));
        last = λ k h g. joined_third a b c k (omega arith) ∙ (get_or-take (length d - m) d (k - (length a + length b)) 0 (omega arith) ∙ (get_or-drop (length items - (m + n)) items (k - (length a + length b)) 0 ∙ ap (λ x. get_or items x 0) (omega arith)));
      },
      omega arith,
    )

pub without_item_shuffles : (depth : ℕ) (items : List ℕ) → depth < length items → Shuffled items (without_item depth items) depth 1 × (length (without_item depth items) ≡ length items - 1)
without_item_shuffles depth items there =
    let a = without_last (depth + 1) items in
    let b = last_items depth items in
    let la : length a ≡ length items - (depth + 1) = length-take-le (length items - (depth + 1)) items (omega arith) in
    let lb : length b ≡ depth = length-drop (length items - depth) items ∙ omega arith in
    let all : length (a ++ b) ≡ length a + length b = length-append a b in (
      record {
        there = omega arith;
        short = omega arith;
        bound = omega arith;
        same = λ k h. get_or_append_left a b 0 k (omega arith) ∙ get_or-take (length items - (depth + 1)) items k 0 h;
        next = λ k h g. get_or-append_right a b (length a) k 0 refl (omega arith) ∙ (get_or-drop (length items - depth) items (k - length a) 0 ∙ ap (λ x. get_or items x 0) (omega arith));
        last = λ k h g. absurd (omega arith);
      },
      omega arith,
    )

-- cells moved as a shuffle of the references moves them
pub record MovesUp (i j : Inside) (m n size : ℕ) : Type 0 where
  pub same : (k : ℕ) → k + (m + n) < base_of i.bodies.items i.cells.items i.youngest + ref_depth_of i.cells.items i.youngest → get_or j.cells.items k 0 ≡ get_or i.cells.items k 0
  pub next : (k : ℕ) → base_of i.bodies.items i.cells.items i.youngest + ref_depth_of i.cells.items i.youngest ≤ k + (m + n) → k + n < base_of i.bodies.items i.cells.items i.youngest + ref_depth_of i.cells.items i.youngest → get_or j.cells.items k 0 ≡ get_or i.cells.items (k + n) 0
  pub last : (k : ℕ) → base_of i.bodies.items i.cells.items i.youngest + ref_depth_of i.cells.items i.youngest ≤ k + n → k < base_of i.bodies.items i.cells.items i.youngest + size → get_or j.cells.items k 0 ≡ get_or i.cells.items (k - m) 0
  pub high : (k : ℕ) → base_of i.bodies.items i.cells.items i.youngest + size ≤ k → k ≢ i.youngest + 2 → base_of i.bodies.items i.cells.items i.youngest + ref_depth_of i.cells.items i.youngest ≤ k → get_or j.cells.items k 0 ≡ get_or i.cells.items k 0
  pub depth : get_or j.cells.items (i.youngest + 2) 0 ≡ size

pub refs_shuffled : (i j : Inside) (stack : Stack) (result : List ℕ) (m n size : ℕ) → IsRegion i → Seen i stack → KeepsFields i j → Shuffled (youngest_frame stack).refs result m n → length result ≡ size → size + length (youngest_frame stack).cells ≤ body_of i.bodies.items i.cells.items i.youngest → MovesUp i j m n size
    → Becomes j (with_refs stack result)
refs_shuffled i j stack result m n size is s keeps to long room w =
    let there = to.there in
    let short = to.short in
    let bound = to.bound in
    let old = i.cells.items in
    let base = base_of i.bodies.items old i.youngest in
    refs_written i j stack result is s keeps (record {
      low = λ k h. w.same k (omega arith);
      high = λ k h g. w.high k (omega arith) (omega arith) (omega arith);
      cell_depth = w.high (i.youngest + 3) (omega arith) (omega arith) (omega arith);
      depth = w.depth ∙ sym long;
      fits = omega arith;
      refs_at = λ k h. ⊎_elim
          (λ (low : k < length (youngest_frame stack).refs - (m + n)).
          w.same (base + k) (omega arith) ∙ (sym (s.refs_at k (omega arith)) ∙ sym (to.same k low)))
          (λ (above : length (youngest_frame stack).refs - (m + n) ≤ k). ⊎_elim
          (λ (mid : k < length (youngest_frame stack).refs - n).
          w.next (base + k) (omega arith) (omega arith) ∙ (ap (λ x. get_or old x 0) (omega arith) ∙ (sym (s.refs_at (k + n) (omega arith)) ∙ sym (to.next k above mid))))
          (λ (past : length (youngest_frame stack).refs - n ≤ k).
          w.last (base + k) (omega arith) (omega arith) ∙ (ap (λ x. get_or old x 0) (omega arith) ∙ (sym (s.refs_at (k - m) (omega arith)) ∙ sym (to.last k past h))))
          (cases_lt k (length (youngest_frame stack).refs - n)))
          (cases_lt k (length (youngest_frame stack).refs - (m + n)));
    })

-- cells moved as a shuffle of the whole-number cells moves them
pub record MovesDown (i j : Inside) (m n size : ℕ) : Type 0 where
  pub same : (k : ℕ) → i.youngest + (m + n) ≤ k + cell_depth_of i.cells.items i.youngest → k ≢ i.youngest + 3 → get_or j.cells.items k 0 ≡ get_or i.cells.items k 0
  pub next : (k : ℕ) → k + cell_depth_of i.cells.items i.youngest < i.youngest + (m + n) → i.youngest + n ≤ k + cell_depth_of i.cells.items i.youngest → get_or j.cells.items k 0 ≡ get_or i.cells.items (k - n) 0
  pub last : (k : ℕ) → k + cell_depth_of i.cells.items i.youngest < i.youngest + n → i.youngest ≤ k + size → get_or j.cells.items k 0 ≡ get_or i.cells.items (k + m) 0
  pub low : (k : ℕ) → k + size < i.youngest → k + cell_depth_of i.cells.items i.youngest < i.youngest → get_or j.cells.items k 0 ≡ get_or i.cells.items k 0
  pub depth : get_or j.cells.items (i.youngest + 3) 0 ≡ size

pub cells_shuffled : (i j : Inside) (stack : Stack) (result : List ℕ) (m n size : ℕ) → IsRegion i → Seen i stack → KeepsFields i j → Shuffled (youngest_frame stack).cells result m n → length result ≡ size → length (youngest_frame stack).refs + size ≤ body_of i.bodies.items i.cells.items i.youngest → MovesDown i j m n size
    → Becomes j (with_cells stack result)
cells_shuffled i j stack result m n size is s keeps to long room w =
    let there = to.there in
    let short = to.short in
    let bound = to.bound in
    let old = i.cells.items in
    let y = i.youngest in
    cells_written i j stack result is s keeps (record {
      low = λ k h. w.low k (omega arith) (omega arith);
      header = λ k h g. w.same k (omega arith) (omega arith);
      depth = w.depth ∙ sym long;
      fits = omega arith;
      cells_at = λ k h. ⊎_elim
          (λ (low : k < length (youngest_frame stack).cells - (m + n)).
          w.same (y - 1 - k) (omega arith) (omega arith) ∙ (sym (s.cells_at k (omega arith)) ∙ sym (to.same k low)))
          (λ (above : length (youngest_frame stack).cells - (m + n) ≤ k). ⊎_elim
          (λ (mid : k < length (youngest_frame stack).cells - n).
          w.next (y - 1 - k) (omega arith) (omega arith) ∙ (ap (λ x. get_or old x 0) (omega arith) ∙ (sym (s.cells_at (k + n) (omega arith)) ∙ sym (to.next k above mid))))
          (λ (past : length (youngest_frame stack).cells - n ≤ k).
          w.last (y - 1 - k) (omega arith) (omega arith) ∙ (ap (λ x. get_or old x 0) (omega arith) ∙ (sym (s.cells_at (k - m) (omega arith)) ∙ sym (to.last k past h))))
          (cases_lt k (length (youngest_frame stack).cells - n)))
          (cases_lt k (length (youngest_frame stack).cells - (m + n)));
    })
