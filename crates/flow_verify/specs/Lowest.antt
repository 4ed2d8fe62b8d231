-- The lowest pc that has a property.
use Rattle.std.specs.Prelude.{ℕ, ◌<◌, min, Option, None, Some}

-- the lowest pc that has P, if any has
abbrev pub IsLowest : (ℕ → Type 0) → Option ℕ → Type 0
IsLowest P None = (pc : ℕ) → P pc → ⊥
IsLowest P (Some low) = P low × ((pc : ℕ) → pc < low → P pc → ⊥)

-- the lower of two pcs, where there are two
abbrev pub lower_of : Option ℕ → Option ℕ → Option ℕ
lower_of None second = second
lower_of (Some first) None = Some first
lower_of (Some first) (Some second) = Some (min first second)
