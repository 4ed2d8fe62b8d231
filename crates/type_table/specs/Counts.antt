-- How many of the operands of a frame are whole numbers.
use Rattle.std.specs.Prelude.{◌≡◌, ℕ, List, length, slice_get, Some}
use Rattle.std.specs.List.{count_by}
use Rattle.body_form.specs.declared.types.VType.{VType}
use Rattle.jvm_model.specs.TypesFrames.{is_int}
use Rattle.type_table.specs.declared.shapes.Counted.{Counted}
use Rattle.type_table.specs.declared.store.Cell.{Cell}
use Rattle.type_table.specs.Frames.{operands_of}

-- how many of the types are that of a whole number
abbrev pub ints_in : List VType → ℕ
ints_in types = count_by is_int types

-- what is noted of each cell: of so many operands from it downwards, so many are whole numbers
pub record AreCounted (cells : List Cell) (counts : List Counted) : Type 0 where
  pub size : length counts ≡ length cells
  pub right : (index : ℕ) (counted : Counted) → slice_get counts index ≡ Some counted → counted.ints ≡ ints_in (operands_of cells counted.height index)
