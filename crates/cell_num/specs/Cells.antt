-- A cell is a number of 16 bits. An int is two cells, the low and the high half of its two's
-- complement, or the one cell of which it is the sign extension.
use Rattle.std.specs.Prelude.{ℕ, ℤ, ◌+◌, ◌*◌, ◌/◌, ◌%◌, ◌^◌}
use Rattle.std.specs.Int.{w16, w32, cast_signed, cast_unsigned}

-- the number from -32768 to 32767 whose two's complement is the cell
abbrev pub sign_extended : ℕ → ℤ
sign_extended cell = cast_signed w16 cell

-- the low 16 bits of an int
abbrev pub low_cell : ℤ → ℕ
low_cell number = cast_unsigned w32 number % 2 ^ 16

-- the high 16 bits of an int
abbrev pub high_cell : ℤ → ℕ
high_cell number = cast_unsigned w32 number / 2 ^ 16

-- the int whose two's complement has these halves
abbrev pub joined_cells : ℕ → ℕ → ℤ
joined_cells low high = cast_signed w32 (low + 2 ^ 16 * high)
