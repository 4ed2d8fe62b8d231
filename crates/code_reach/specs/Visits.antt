-- The search: which instructions are in the set, by their index, and which of them are still to be visited.
use Rattle.std.specs.Prelude.{◌≡◌, ℕ, suc, ◌+◌, ◌<◌, ◌≤◌, ◌⊎◌, true, false, not, ◌==◌, if◌then◌else◌, List, [], ◌∷◌, length, map, drop, get_or}
use Rattle.std.specs.List.{count_by, list_any}
use Rattle.code_reach.specs.declared.visits.Visits.{Visits}
use Rattle.code_reach.specs.Reached.{Way, Ways, Placed, successors, IsReached}

-- the number is in the list
abbrev pub IsIn : List ℕ → ℕ → Type 0
IsIn numbers number = list_any (λ other. other == number) numbers ≡ true

-- the pcs of instructions
abbrev pub pcs_of : {X : Type 0} → Placed X → List ℕ
pcs_of placed = map (λ x. x.0) placed

-- the index of the first of these pcs that is this one, or past the end where none is
unfoldable pub index_of : List ℕ → ℕ → ℕ
index_of [] pc = 0
index_of (at ∷ pcs) pc = if at == pc then 0 else suc (index_of pcs pc)

-- ---- the set

-- The instruction is in the set. An index past the end always is: nothing is there that could lead on.
abbrev pub IsMarked : Visits → ℕ → Type 0
IsMarked visits index = get_or visits.marks.items index true ≡ true

-- how many instructions are not in the set
abbrev pub unmarked : Visits → ℕ
unmarked visits = count_by not visits.marks.items

-- The set has grown, by these indexes alone. Each that is new in it is to be visited, and no list of visits
-- is longer than the instructions allow.
pub record Grows (may : ℕ → Type 0) (before after : Visits) : Type 0 where
  pub size : length after.marks.items ≡ length before.marks.items
  pub grows : (index : ℕ) → IsMarked before index → IsMarked after index
  pub only : (index : ℕ) → IsMarked after index → IsMarked before index ⊎ may index
  pub keeps : (index : ℕ) → IsIn before.todo.items index → IsIn after.todo.items index
  pub fresh : (index : ℕ) → IsIn after.todo.items index → IsIn before.todo.items index ⊎ ((index < length after.marks.items) × IsMarked after index)
  pub noted : (index : ℕ) → IsMarked after index → IsMarked before index ⊎ IsIn after.todo.items index
  pub fewer : unmarked after + length after.todo.items ≤ unmarked before + length before.todo.items

-- and has all of them now
pub record Reaches (may : ℕ → Type 0) (before after : Visits) : Type 0 where
  pub grows : Grows may before after
  pub all : (index : ℕ) → may index → IsMarked after index

-- ---- what follows an instruction

-- what stands for an instruction past the end
abbrev pub nowhere : ℕ × Way
nowhere = (0, record { goes_on = false; targets = [] })

-- the pc at the index, and the pcs to which the instruction there leads
abbrev pub pc_at : Ways → ℕ → ℕ
pc_at ways index = let x = get_or ways index nowhere in x.0

abbrev pub successors_at : Ways → ℕ → List ℕ
successors_at ways index = let x = get_or ways index nowhere in successors x.1 (drop (suc index) ways)

-- the instruction at the first index leads to the second
abbrev pub Follows : Ways → ℕ → ℕ → Type 0
Follows ways index other = IsIn (map (index_of (pcs_of ways)) (successors_at ways index)) other

-- What holds while pcs are visited: the set has nothing but what is reached, and for each instruction in it
-- that is not to be visited all that follows it.
pub record Reaching (ways : Ways) (visits : Visits) : Type 0 where
  pub size : length visits.marks.items ≡ length ways
  pub zero : IsMarked visits (index_of (pcs_of ways) 0)
  pub sound : (index : ℕ) → index < length ways → IsMarked visits index → IsReached ways (pc_at ways index)
  pub waits : (index : ℕ) → IsIn visits.todo.items index → (index < length ways) × IsMarked visits index
  pub closed : (index : ℕ) → index < length ways → IsMarked visits index → IsIn visits.todo.items index ⊎ ((other : ℕ) → Follows ways index other → IsMarked visits other)
