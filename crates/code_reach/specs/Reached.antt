-- Which instructions of some code are reached from pc 0: by jumps, by going on, and by handlers.
use Rattle.std.specs.Prelude.{◌≡◌, ℕ, suc, ◌≤◌, ◌↔◌, Bool, true, ◌&&◌, nat_lt, nat_le, if◌then◌else◌, List, [], ◌∷◌, ◌++◌, map, filter}
use Rattle.std.specs.List.{AllByRecursion}
use Rattle.code_reach.specs.declared.row.Row.{Row}

-- where an instruction leads: whether it goes on after itself, and to which pcs it leads besides
pub record Way : Type 0 where
  pub goes_on : Bool
  pub targets : List ℕ

-- the ways of instructions in the order of the code, each with its pc
abbrev pub Ways : Type 0
Ways = List (ℕ × Way)

-- ---- what is reached

-- the pcs to which an instruction leads, where these follow it
abbrev pub successors : Way → Ways → List ℕ
successors way [] = way.targets
successors way (x ∷ suffix) = if way.goes_on then x.0 ∷ way.targets else way.targets

-- A set of pcs, as a test, is closed where it has, with a pc, all pcs to which its instruction leads.
abbrev pub IsClosed : (ℕ → Bool) → Ways → Type 0
IsClosed holds [] = Unit {0}
IsClosed holds ((pc, way) ∷ ways) = (holds pc ≡ true → AllByRecursion (λ to. holds to ≡ true) (successors way ways)) × IsClosed holds ways

-- the pc is reached from 0: each closed set that has 0 has it
abbrev pub IsReached : Ways → ℕ → Type 0
IsReached ways pc = (holds : ℕ → Bool) → holds 0 ≡ true → IsClosed holds ways → holds pc ≡ true

-- ---- exception tables

-- the row of an exception table covers the pc
abbrev pub covers : ℕ → Row → Bool
covers pc row = nat_le row.start pc && nat_lt pc row.end

-- the handlers of the rows that cover the pc
abbrev pub handlers_at : List Row → ℕ → List ℕ
handlers_at rows pc = map (λ row. row.target) (filter (covers pc) rows)

-- an instruction leads besides to the handlers at its pc
abbrev pub with_handlers : List Row → ℕ × Way → ℕ × Way
with_handlers rows x = (x.0, record { goes_on = x.1.goes_on; targets = x.1.targets ++ handlers_at rows x.0 })

-- ---- code

-- instructions of any type, each with its pc
abbrev pub Placed : Type 0 → Type 0
Placed X = List (ℕ × X)

-- the pcs rise, from this one on
abbrev pub RisesFrom : {X : Type 0} → ℕ → Placed X → Type 0
RisesFrom low [] = Unit {0}
RisesFrom low (x ∷ placed) = (low ≤ x.0) × RisesFrom (suc x.0) placed

-- the ways of instructions that lead so of themselves
abbrev pub plain_ways : {X : Type 0} → (X → Way) → Placed X → Ways
plain_ways way placed = map (λ x. (x.0, way x.1)) placed

-- and with this exception table
abbrev pub code_ways : {X : Type 0} → (X → Way) → List Row → Placed X → Ways
code_ways way rows placed = map (with_handlers rows) (plain_ways way placed)

-- ---- flags

-- one flag for each of these, in order: true exactly where its pc is reached by all the ways
abbrev pub AreFlags : Ways → Ways → List Bool → Type 0
AreFlags all [] [] = Unit {0}
AreFlags all [] (flag ∷ flags) = ⊥
AreFlags all (x ∷ ways) [] = ⊥
AreFlags all (x ∷ ways) (flag ∷ flags) = ((flag ≡ true) ↔ IsReached all x.0) × AreFlags all ways flags

abbrev pub TellReached : Ways → List Bool → Type 0
TellReached ways flags = AreFlags ways ways flags
