-- Copies of cells within the memory, as shuffles of a half.
use Rattle.std.proofs.Common.{◌≡◌, ◌≢◌, ℕ, ◌+◌, ◌-◌, ◌<◌, ◌≤◌, List, length, get_or, set, sym, ◌∙◌, ap, arith, length-set, get_or-set_other, get_or-set_same}
use Rattle.std.specs.List.{CopiedTo, SameBelow, SameFrom}
use Rattle.mote_stack.specs.Frames.{Stack}
use Rattle.mote_stack.specs.Moves.{Rotates, HandsOver}
use Rattle.mote_stack.specs.Layout.{body_of, base_of, ref_depth_of, cell_depth_of}
use Rattle.mote_stack.specs.declared.region.Region.TheInside.{Inside}
use Rattle.mote_stack.proofs.Changed.{Seen}
use Rattle.mote_stack.proofs.Shuffled.{MovesUp, MovesDown}

-- what `copy_within` leaves
abbrev pub Copies : List ℕ → List ℕ → ℕ → ℕ → ℕ → Type 0
Copies old new src dest n = CopiedTo old new src dest n × SameBelow old new dest × SameFrom old new (dest + n)

pub copied : (old new : List ℕ) (src dest n k from : ℕ) → Copies old new src dest n → dest ≤ k → k < dest + n → src + (k - dest) ≡ from → get_or new k 0 ≡ get_or old from 0
copied old new src dest n k from c h g e = c.0 k 0 h g ∙ ap (λ x. get_or old x 0) e

pub uncopied_below : (old new : List ℕ) (src dest n k : ℕ) → Copies old new src dest n → k < dest → get_or new k 0 ≡ get_or old k 0
uncopied_below old new src dest n k c h = c.1 k 0 h

pub uncopied_above : (old new : List ℕ) (src dest n k : ℕ) → Copies old new src dest n → dest + n ≤ k → get_or new k 0 ≡ get_or old k 0
uncopied_above old new src dest n k c h = c.2 k 0 h

-- the references K moved up, then copied beneath
pub dup_up : (i j : Inside) (stack : Stack) (mid two : List ℕ) (m n size s1 d1 n1 s2 d2 n2 there depth : ℕ) → Seen i stack
    → m + n ≤ ref_depth_of i.cells.items i.youngest → size ≡ ref_depth_of i.cells.items i.youngest + m
    → size + cell_depth_of i.cells.items i.youngest ≤ body_of i.bodies.items i.cells.items i.youngest
    → s1 + (m + n) ≡ base_of i.bodies.items i.cells.items i.youngest + ref_depth_of i.cells.items i.youngest
    → d1 ≡ s1 + m → n1 ≡ m + n → s2 ≡ s1 + (m + n) → d2 ≡ s1 → n2 ≡ m
    → Copies i.cells.items mid s1 d1 n1 → Copies mid two s2 d2 n2 → length two ≡ length i.cells.items
    → there ≡ i.youngest + 2 → depth ≡ size → j.cells.items ≡ set two there depth → MovesUp i j m n size
dup_up i j stack mid two m n size s1 d1 n1 s2 d2 n2 there depth s fits grown room es1 ed1 en1 es2 ed2 en2 first second long et ed is =
    let last = s.last in
    let old = i.cells.items in
    let other : (k : ℕ) → k ≢ there → get_or j.cells.items k 0 ≡ get_or two k 0 =
    λ k ne. ap (λ xs. get_or xs k 0) is ∙ get_or-set_other two there k depth 0 ne in
    record {
      same = λ k h. other k (omega arith) ∙ (uncopied_below mid two s2 d2 n2 k second (omega arith) ∙ uncopied_below old mid s1 d1 n1 k first (omega arith));
      next = λ k h g. other k (omega arith) ∙ (copied mid two s2 d2 n2 k (k + (m + n)) second (omega arith) (omega arith) (omega arith) ∙ copied old mid s1 d1 n1 (k + (m + n)) (k + n) first (omega arith) (omega arith) (omega arith));
      last = λ k h g. other k (omega arith) ∙ (uncopied_above mid two s2 d2 n2 k second (omega arith) ∙ copied old mid s1 d1 n1 k (k - m) first (omega arith) (omega arith) (omega arith));
      high = λ k h ne g. other k (λ e. ne (omega arith)) ∙ (uncopied_above mid two s2 d2 n2 k second (omega arith) ∙ uncopied_above old mid s1 d1 n1 k first (omega arith));
      depth = ap (λ xs. get_or xs (i.youngest + 2) 0) is ∙ (ap (λ x. get_or (set two there depth) x 0) (sym et) ∙ (get_or-set_same two there depth 0 (omega arith) ∙ ed));
    }

-- the whole-number cells K moved down, then copied beneath
pub dup_down : (i j : Inside) (stack : Stack) (mid two : List ℕ) (m n size s1 d1 n1 s2 d2 n2 there depth : ℕ) → Seen i stack
    → m + n ≤ cell_depth_of i.cells.items i.youngest → size ≡ cell_depth_of i.cells.items i.youngest + m
    → ref_depth_of i.cells.items i.youngest + size ≤ body_of i.bodies.items i.cells.items i.youngest
    → s1 + cell_depth_of i.cells.items i.youngest ≡ i.youngest
    → d1 + m ≡ s1 → n1 ≡ m + n → s2 ≡ d1 → d2 ≡ s1 + n → n2 ≡ m
    → Copies i.cells.items mid s1 d1 n1 → Copies mid two s2 d2 n2 → length two ≡ length i.cells.items
    → there ≡ i.youngest + 3 → depth ≡ size → j.cells.items ≡ set two there depth → MovesDown i j m n size
dup_down i j stack mid two m n size s1 d1 n1 s2 d2 n2 there depth s fits grown room es1 ed1 en1 es2 ed2 en2 first second long et ed is =
    let last = s.last in
    let old = i.cells.items in
    let other : (k : ℕ) → k ≢ there → get_or j.cells.items k 0 ≡ get_or two k 0 =
    λ k ne. ap (λ xs. get_or xs k 0) is ∙ get_or-set_other two there k depth 0 ne in
    record {
      same = λ k h ne. other k (λ e. ne (omega arith)) ∙ (uncopied_above mid two s2 d2 n2 k second (omega arith) ∙ uncopied_above old mid s1 d1 n1 k first (omega arith));
      next = λ k h g. other k (omega arith) ∙ (copied mid two s2 d2 n2 k (k - (m + n)) second (omega arith) (omega arith) (omega arith) ∙ copied old mid s1 d1 n1 (k - (m + n)) (k - n) first (omega arith) (omega arith) (omega arith));
      last = λ k h g. other k (omega arith) ∙ (uncopied_below mid two s2 d2 n2 k second (omega arith) ∙ copied old mid s1 d1 n1 k (k + m) first (omega arith) (omega arith) (omega arith));
      low = λ k h g. other k (omega arith) ∙ (uncopied_below mid two s2 d2 n2 k second (omega arith) ∙ uncopied_below old mid s1 d1 n1 k first (omega arith));
      depth = ap (λ xs. get_or xs (i.youngest + 3) 0) is ∙ (ap (λ x. get_or (set two there depth) x 0) (sym et) ∙ (get_or-set_same two there depth 0 (omega arith) ∙ ed));
    }

-- the whole-number cells above one moved up by one
pub drop_down : (i j : Inside) (stack : Stack) (mid : List ℕ) (above size s1 d1 n1 there depth : ℕ) → Seen i stack
    → above < cell_depth_of i.cells.items i.youngest → size ≡ cell_depth_of i.cells.items i.youngest - 1
    → s1 + cell_depth_of i.cells.items i.youngest ≡ i.youngest
    → d1 ≡ s1 + 1 → n1 ≡ above
    → Copies i.cells.items mid s1 d1 n1 → length mid ≡ length i.cells.items
    → there ≡ i.youngest + 3 → depth ≡ size → j.cells.items ≡ set mid there depth → MovesDown i j above 1 size
drop_down i j stack mid above size s1 d1 n1 there depth s fits less es1 ed1 en1 first long et ed is =
    let last = s.last in
    let old = i.cells.items in
    let other : (k : ℕ) → k ≢ there → get_or j.cells.items k 0 ≡ get_or mid k 0 =
    λ k ne. ap (λ xs. get_or xs k 0) is ∙ get_or-set_other mid there k depth 0 ne in
    record {
      same = λ k h ne. other k (λ e. ne (omega arith)) ∙ uncopied_above old mid s1 d1 n1 k first (omega arith);
      next = λ k h g. other k (omega arith) ∙ copied old mid s1 d1 n1 k (k - 1) first (omega arith) (omega arith) (omega arith);
      last = λ k h g. absurd (omega arith);
      low = λ k h g. other k (omega arith) ∙ uncopied_below old mid s1 d1 n1 k first (omega arith);
      depth = ap (λ xs. get_or xs (i.youngest + 3) 0) is ∙ (ap (λ x. get_or (set mid there depth) x 0) (sym et) ∙ (get_or-set_same mid there depth 0 (omega arith) ∙ ed));
    }

-- the last references rotated
pub swap_up : (i j : Inside) (stack : Stack) (m n size start end by : ℕ) → Seen i stack
    → m + n ≤ ref_depth_of i.cells.items i.youngest → size ≡ ref_depth_of i.cells.items i.youngest
    → start + (m + n) ≡ end → end ≡ base_of i.bodies.items i.cells.items i.youngest + ref_depth_of i.cells.items i.youngest → by ≡ n
    → Rotates i.cells.items j.cells.items start end by → MovesUp i j m n size
swap_up i j stack m n size start end by s fits same es ee eb r =
    let old = i.cells.items in
    record {
      same = λ k h. r.outside_below k (omega arith);
      next = λ k h g. r.moved k (omega arith) (omega arith) ∙ ap (λ x. get_or old x 0) (omega arith);
      last = λ k h g. r.fallen k (omega arith) (omega arith) ∙ ap (λ x. get_or old x 0) (omega arith);
      high = λ k h ne g. r.outside_above k (omega arith);
      depth = r.outside_above (i.youngest + 2) (omega arith) ∙ sym same;
    }

-- the last whole-number cells rotated
pub swap_down : (i j : Inside) (stack : Stack) (m n size start end by : ℕ) → Seen i stack
    → m + n ≤ cell_depth_of i.cells.items i.youngest → size ≡ cell_depth_of i.cells.items i.youngest
    → start + (m + n) ≡ end → start + cell_depth_of i.cells.items i.youngest ≡ i.youngest → by ≡ m
    → Rotates i.cells.items j.cells.items start end by → MovesDown i j m n size
swap_down i j stack m n size start end by s fits same es ee eb r =
    let old = i.cells.items in
    record {
      same = λ k h ne. r.outside_above k (omega arith);
      next = λ k h g. r.fallen k (omega arith) (omega arith) ∙ ap (λ x. get_or old x 0) (omega arith);
      last = λ k h g. r.moved k (omega arith) (omega arith) ∙ ap (λ x. get_or old x 0) (omega arith);
      low = λ k h g. r.outside_below k (omega arith);
      depth = r.outside_above (i.youngest + 3) (omega arith) ∙ sym same;
    }

-- the arguments of a call copied, and the depths of the caller cut
pub handed_over : (old mid two : List ℕ) (caller caller_base base header ref_args cell_args refs nums s1 n1 s2 d2 n2 : ℕ) → caller + 4 ≤ base → base + ref_args + cell_args ≤ header → header ≤ length old → length two ≡ length old
    → caller_base + get_or old (caller + 2) 0 + get_or old (caller + 3) 0 ≤ caller → ref_args ≤ get_or old (caller + 2) 0 → cell_args ≤ get_or old (caller + 3) 0
    → refs ≡ get_or old (caller + 2) 0 - ref_args → nums ≡ get_or old (caller + 3) 0 - cell_args
    → s1 ≡ caller_base + refs → n1 ≡ ref_args → s2 + cell_args + nums ≡ caller → d2 + cell_args ≡ header → n2 ≡ cell_args
    → Copies old mid s1 base n1 → Copies mid two s2 d2 n2
    → HandsOver old (set (set two (caller + 2) refs) (caller + 3) nums) caller caller_base base header ref_args cell_args
handed_over old mid two caller caller_base base header ref_args cell_args refs nums s1 n1 s2 d2 n2 above room within long halves has_refs has_cells refs_is nums_is es1 en1 es2 ed2 en2 first second =
    let one = set two (caller + 2) refs in
    let new = set one (caller + 3) nums in
    let long_one : length one ≡ length two = length-set two (caller + 2) refs in
    let other : (k : ℕ) → k ≢ caller + 2 → k ≢ caller + 3 → get_or new k 0 ≡ get_or two k 0 =
    λ k ne no. get_or-set_other one (caller + 3) k nums 0 no ∙ get_or-set_other two (caller + 2) k refs 0 ne in
    record {
      low = λ k h ne no. other k ne no ∙ (uncopied_below mid two s2 d2 n2 k second (omega arith) ∙ uncopied_below old mid s1 base n1 k first h);
      refs_left = get_or-set_other one (caller + 3) (caller + 2) nums 0 (omega arith) ∙ (get_or-set_same two (caller + 2) refs 0 (omega arith) ∙ refs_is);
      cells_left = get_or-set_same one (caller + 3) nums 0 (omega arith) ∙ nums_is;
      refs_handed = λ k h. other (base + k) (omega arith) (omega arith) ∙ (uncopied_below mid two s2 d2 n2 (base + k) second (omega arith)
          ∙ copied old mid s1 base n1 (base + k) (caller_base + (get_or old (caller + 2) 0 - ref_args) + k) first (omega arith) (omega arith) (omega arith));
      cells_handed = λ k h. other (header - 1 - k) (omega arith) (omega arith) ∙ (copied mid two s2 d2 n2 (header - 1 - k) (caller - 1 - (get_or old (caller + 3) 0 - cell_args + k)) second (omega arith) (omega arith) (omega arith)
          ∙ uncopied_below old mid s1 base n1 (caller - 1 - (get_or old (caller + 3) 0 - cell_args + k)) first (omega arith));
      between = λ k h g. other k (omega arith) (omega arith) ∙ (uncopied_below mid two s2 d2 n2 k second (omega arith) ∙ uncopied_above old mid s1 base n1 k first (omega arith));
      high = λ k h. other k (omega arith) (omega arith) ∙ (uncopied_above mid two s2 d2 n2 k second (omega arith) ∙ uncopied_above old mid s1 base n1 k first (omega arith));
    }
