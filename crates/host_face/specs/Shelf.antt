-- What a shelf keeps: bytes under names. A name is the list of its bytes.
use Rattle.std.specs.Prelude.{◌≡◌, ◌≢◌, ℕ, ◌≤◌, List, Option, Some, None}
use Rattle.std.specs.Ordering.{nat_cmp}
use Rattle.std.specs.Cmp.Lexicographic.{slice_cmp}
use Rattle.std.specs.FinMap.{FinMap, get}

-- files by their names
abbrev pub Files : Type 0
Files = FinMap (slice_cmp nat_cmp) (List ℕ)

-- no count fell, whatever the name
abbrev pub NeverFell : (List ℕ → ℕ) → (List ℕ → ℕ) → Type 0
NeverFell before now = (name : List ℕ) → before name ≤ now name

-- each other name has what it had, and what was told is told
abbrev pub ChangesOnly : List ℕ → Option Files → Option Files → Type 0
ChangesOnly name None None = Unit {0}
ChangesOnly name (Some old) (Some new) = (other : List ℕ) → other ≢ name → get new other ≡ get old other
ChangesOnly name None (Some new) = ⊥
ChangesOnly name (Some old) None = ⊥
