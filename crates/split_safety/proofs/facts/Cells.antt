-- Cells stay cells: those of numbers, and what is moved and pushed.
use Rattle.std.proofs.Common.{◌≡◌, ℕ, ℤ, pos, ◌<◌, ◌%◌, List, [], ◌∷◌, length, Some, None, refl, arith, FitsSigned, w32}
use Rattle.std.specs.List.{AllByRecursion}
use Rattle.std.proofs.lemmas.Int.{ints}
use Rattle.cell_num.specs.Cells.{low_cell, high_cell}
use Rattle.dialogue.specs.Answers.{Answers}
use Rattle.dialogue.specs.Natives.{next_byte}
use Rattle.image_instr.specs.declared.insn.Width.{Width}
use Rattle.image_instr.specs.declared.insn.Width.TheVariants as width
use Rattle.mote_model.specs.SplitMoves.{cells_of, count_of}
use Rattle.split_safety.specs.Reached.{IsCell}

abbrev pub AreCells : List ℕ → Type 0
AreCells cells = AllByRecursion IsCell cells

pub low_below : (number : ℤ) → IsCell (low_cell number)
low_below number = omega arith

high_below : (number : ℤ) → FitsSigned w32 number → IsCell (high_cell number)
high_below number fits = omega (arith, ints, fits)

-- the low cell of any number is a cell, and the high one of an int
pub one_cells : (number : ℤ) → AreCells (cells_of width.One number)
one_cells number = (low_below number, tt)

pub number_cells : (w : Width) (number : ℤ) → FitsSigned w32 number → AreCells (cells_of w number)
number_cells width.One number fits = one_cells number
number_cells width.Two number fits = (low_below number, (high_below number fits, tt))

pub number_count : (w : Width) (number : ℤ) → length (cells_of w number) ≡ count_of w
number_count width.One number = refl
number_count width.Two number = refl

pub bit_below : (cell : ℕ) → IsCell (cell % 2)
bit_below cell = omega arith

pub pos_fits : (n : ℕ) → n < 65536 → FitsSigned w32 (pos n)
pos_fits n lt = record { sfits = omega arith }

pub read_fits : (answers : Answers) → FitsSigned w32 (next_byte answers)
read_fits [] = record { sfits = omega arith }
read_fits (None ∷ rest) = record { sfits = omega arith }
read_fits (Some byte ∷ rest) = pos_fits _ (omega arith)
