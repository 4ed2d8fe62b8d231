use Rattle.std.proofs.Common.{◌≡◌, ℕ, ◌<◌, length, Some}
use Rattle.std.specs.Prelude.{slice_get}
use Rattle.class_file.specs.Texts.{number_in, row_at}
use Rattle.class_file.proofs.texts.rows_of.Given as goal

-- the rows of the indexes so far
abbrev pub invariant-loop-index : goal.invariant-loop-index
invariant-loop-index l = (length l.rows.items ≡ l.index) × ((at : ℕ) → at < length l.rows.items → slice_get l.rows.items at ≡ Some (row_at l.pool (number_in l.numbers) at))
