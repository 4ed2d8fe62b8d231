-- Items of a list, in place.
use Rattle.std.specs.Prelude.{ℕ, ◌+◌, List, ◌++◌, length, take, drop}

-- so many items from one on
abbrev pub part_at : ℕ → ℕ → List ℕ → List ℕ
part_at from count items = take count (drop from items)

-- the items with others in the place of as many from one on
abbrev pub with_part : List ℕ → ℕ → List ℕ → List ℕ
with_part items from new = take from items ++ (new ++ drop (from + length new) items)
