-- What moves of cells leave in a memory, cell by cell.
use Rattle.std.specs.Prelude.{◌≡◌, ◌≢◌, ℕ, ◌+◌, ◌-◌, ◌<◌, ◌≤◌, List, slice_index}

-- a header and a body of zeros were written from `base` on
pub record LaysFrame (old new : List ℕ) (base header method ref_locals cell_locals : ℕ) : Type 0 where
  pub below : (k : ℕ) → k < base → slice_index new k ≡ slice_index old k
  pub zeros : (k : ℕ) → base ≤ k → k < header → slice_index new k ≡ 0
  pub its_method : slice_index new header ≡ method
  pub its_pc : slice_index new (header + 1) ≡ 0
  pub its_refs : slice_index new (header + 2) ≡ ref_locals
  pub its_cells : slice_index new (header + 3) ≡ cell_locals

-- the cells from `start` to `end` were moved down by `by`, those that fall off to their end
pub record Rotates (old new : List ℕ) (start end by : ℕ) : Type 0 where
  pub outside_below : (k : ℕ) → k < start → slice_index new k ≡ slice_index old k
  pub outside_above : (k : ℕ) → end ≤ k → slice_index new k ≡ slice_index old k
  pub moved : (k : ℕ) → start ≤ k → k + by < end → slice_index new k ≡ slice_index old (k + by)
  pub fallen : (k : ℕ) → end ≤ k + by → k < end → slice_index new k ≡ slice_index old (start + (k + by - end))

-- the arguments were moved off the halves of the caller, to the ends of the body from `base` to `header`
pub record HandsOver (old new : List ℕ) (caller caller_base base header ref_args cell_args : ℕ) : Type 0 where
  pub low : (k : ℕ) → k < base → k ≢ caller + 2 → k ≢ caller + 3 → slice_index new k ≡ slice_index old k
  pub refs_left : slice_index new (caller + 2) ≡ slice_index old (caller + 2) - ref_args
  pub cells_left : slice_index new (caller + 3) ≡ slice_index old (caller + 3) - cell_args
  pub refs_handed : (k : ℕ) → k < ref_args → slice_index new (base + k) ≡ slice_index old (caller_base + (slice_index old (caller + 2) - ref_args) + k)
  pub cells_handed : (k : ℕ) → k < cell_args → slice_index new (header - 1 - k) ≡ slice_index old (caller - 1 - (slice_index old (caller + 3) - cell_args + k))
  pub between : (k : ℕ) → base + ref_args ≤ k → k + cell_args < header → slice_index new k ≡ slice_index old k
  pub high : (k : ℕ) → header ≤ k → slice_index new k ≡ slice_index old k
