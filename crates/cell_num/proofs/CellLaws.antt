-- Numbers and their cells tell one another.
use Rattle.std.proofs.Common.{◌≡◌, ℕ, ◌+◌, ◌*◌, ◌<◌, ℤ, FitsSigned, ap, ◌∙◌, arith}
use Rattle.std.proofs.lemmas.Int.{ints, to_z-of_z, of_z-to_z}
use Rattle.std.specs.Int.{w16, w32, cast_signed, cast_unsigned}
use Rattle.cell_num.specs.Cells.{sign_extended, low_cell, high_cell, joined_cells}

pub low_cell-below : (number : ℤ) → low_cell number < 65536
low_cell-below number = omega arith

pub high_cell-below : (number : ℤ) → FitsSigned w32 number → high_cell number < 65536
high_cell-below number fits = omega (arith, ints, fits)

pub joined_cells-split : (number : ℤ) → FitsSigned w32 number → joined_cells (low_cell number) (high_cell number) ≡ number
joined_cells-split number fits =
    let whole : low_cell number + 65536 * high_cell number ≡ cast_unsigned w32 number = omega arith in
    ap (cast_signed w32) whole ∙ to_z-of_z w32 number fits

pub low_cell-joined : (low high : ℕ) → low < 65536 → high < 65536 → low_cell (joined_cells low high) ≡ low
low_cell-joined low high p q =
    let bits : cast_unsigned w32 (cast_signed w32 (low + 65536 * high)) ≡ low + 65536 * high = of_z-to_z w32 (low + 65536 * high) (omega arith) in
    omega arith

pub high_cell-joined : (low high : ℕ) → low < 65536 → high < 65536 → high_cell (joined_cells low high) ≡ high
high_cell-joined low high p q =
    let bits : cast_unsigned w32 (cast_signed w32 (low + 65536 * high)) ≡ low + 65536 * high = of_z-to_z w32 (low + 65536 * high) (omega arith) in
    omega arith

pub low_cell-sign_extended : (cell : ℕ) → cell < 65536 → low_cell (sign_extended cell) ≡ cell
low_cell-sign_extended cell below = grind (arith, ints)

pub sign_extended-low_cell : (number : ℤ) → FitsSigned w16 number → sign_extended (low_cell number) ≡ number
sign_extended-low_cell number fits = grind (arith, ints)
