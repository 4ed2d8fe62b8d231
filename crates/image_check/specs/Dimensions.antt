-- The dimensions of the types of an image as a table, made once.
use Rattle.std.specs.Prelude.{◌≡◌, ℕ, ◌+◌, ◌-◌, ◌≤◌, min, nat_lt, nat_le, if◌then◌else◌, List, get_or}
use Rattle.library.specs.Classes.{first_own}
use Rattle.image_form.specs.declared.record.TypeEntry.{TypeEntry}
use Rattle.image_form.specs.declared.record.TypeEntry.TheVariants.{Class, RefArray, NumArray}
use Rattle.image_check.specs.Ids.{has_dimensions}

-- the dimensions of the type of the id, by the table of those of the image's types
abbrev pub dimensions_in : List ℕ → ℕ → ℕ
dimensions_in table id = if nat_lt id first_own then 0 else get_or table (id - first_own) 0

-- those of a type after the types of the table; 255 are the most that are counted
abbrev pub dimensions_after : List ℕ → TypeEntry → ℕ
dimensions_after table (Class class) = 0
dimensions_after table (RefArray element) = min (dimensions_in table element + 1) 255
dimensions_after table (NumArray kind) = 1

-- the table decides which types have how many dimensions, up to 255
abbrev pub AreDimensions : List TypeEntry → List ℕ → Type 0
AreDimensions types table = (dimensions id : ℕ) → dimensions ≤ 255 → has_dimensions types dimensions id ≡ nat_le dimensions (dimensions_in table id)
