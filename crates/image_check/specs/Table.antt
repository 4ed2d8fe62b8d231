-- The depths that reached the offsets of a code, by the offset.
use Rattle.std.specs.Prelude.{◌≡◌, ℕ, suc, List, [], ◌∷◌, get_or, Option, Some, None}
use Rattle.image_check.specs.declared.depth.Depth.{Depth as Stored}
use Rattle.image_check.specs.Visits.{Depth, depth}

-- a table: for each offset the depth, where one reached it
abbrev pub Table : Type 0
Table = List (Option Stored)

-- a depth as the program has it, and back
abbrev pub as_depth : Stored → Depth
as_depth d = depth d.refs d.cells

abbrev pub stored : Depth → Stored
stored d = record { refs = d.refs; cells = d.cells }

-- the depth reached the offset
abbrev pub Has : Table → ℕ → Depth → Type 0
Has table pc d = get_or table pc None ≡ Some (stored d)

-- how many offsets no depth reached
abbrev pub unset : Table → ℕ
unset [] = 0
unset (None ∷ table) = suc (unset table)
unset (Some d ∷ table) = unset table
