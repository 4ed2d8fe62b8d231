-- Which numbers a number leads to, in one or more steps, and the table that says so.
use Rattle.std.specs.Prelude.{◌≡◌, ℕ, zero, suc, ◌<◌, Bool, false, true, ◌||◌, ◌&&◌, List, [], length, get_or, ◌↔◌}

-- one number leads to another at once
abbrev pub Edges : Type 0
Edges = ℕ → ℕ → Bool

-- what is led to is below this number
abbrev pub StaysBelow : ℕ → Edges → Type 0
StaysBelow count edge = (from to : ℕ) → edge from to ≡ true → to < count

-- one number leads to another in one or more steps
pub data Leads (edge : Edges) : ℕ → ℕ → Type 0 where
  AtOnce : {from to : ℕ} → edge from to ≡ true → Leads edge from to
  Over : {from to : ℕ} (by : ℕ) → edge from by ≡ true → Leads edge by to → Leads edge from to

-- ---- the table

-- a row of flags for each number
abbrev pub Rows : Type 0
Rows = List (List Bool)

-- the flag of a pair
abbrev pub at : Rows → ℕ → ℕ → Bool
at rows from to = get_or (get_or rows from []) to false

-- the rows are so many, and so long
pub record IsSquare (count : ℕ) (rows : Rows) : Type 0 where
  pub many : length rows ≡ count
  pub long : (from : ℕ) → from < count → length (get_or rows from []) ≡ count

-- the table says which of so many numbers leads to which
pub record IsClosure (edge : Edges) (count : ℕ) (rows : Rows) : Type 0 where
  pub square : IsSquare count rows
  pub says : (from to : ℕ) → from < count → to < count → (at rows from to ≡ true) ↔ Leads edge from to

-- ---- how it is made

-- one number leads to another in steps between which only numbers below k are met
unfoldable pub leads_over : Edges → ℕ → ℕ → ℕ → Bool
leads_over edge zero from to = edge from to
leads_over edge (suc k) from to = leads_over edge k from to || (leads_over edge k from k && leads_over edge k k to)

-- the table says so of each pair of so many numbers
pub record AreOver (edge : Edges) (count k : ℕ) (rows : Rows) : Type 0 where
  pub square : IsSquare count rows
  pub says : (from to : ℕ) → from < count → to < count → at rows from to ≡ leads_over edge k from to

-- a row leads where the pivot leads, if it leads to the pivot's number
pub record IsStep (pivot : List Bool) (number : ℕ) (old new : List Bool) : Type 0 where
  pub same_length : length new ≡ length old
  pub says : (to : ℕ) → get_or new to false ≡ (get_or old to false || (get_or old number false && get_or pivot to false))

-- each row does, with that of the number as the pivot
pub record IsRound (number : ℕ) (old new : Rows) : Type 0 where
  pub same_length : length new ≡ length old
  pub steps : (from : ℕ) → from < length old → IsStep (get_or old number []) number (get_or old from []) (get_or new from [])

-- a row of so many flags says to which numbers a number leads at once
pub record IsRowOf (edge : Edges) (count from : ℕ) (row : List Bool) : Type 0 where
  pub long : length row ≡ count
  pub says : (to : ℕ) → to < count → get_or row to false ≡ edge from to
