-- The low cell of what a declared type keeps of a number, and the number by its low cell.
use Rattle.std.proofs.Common.{◌≡◌, ℕ, ℤ, pos, ◌%◌, ◌<◌, FitsSigned, sym, ap, subst, ◌∙◌, arith}
use Rattle.std.proofs.Math.Nat.{mod-lt}
use Rattle.std.proofs.lemmas.Int.{ints, SFits-int_wrap}
use Rattle.std.specs.Int.{w8, w16, w32, int_wrap, cast_signed, cast_unsigned}
use Rattle.cell_num.specs.declared.conversions.Conv.TheVariants as conv
use Rattle.cell_num.specs.Cells.{low_cell, sign_extended}
use Rattle.cell_num.specs.Conversions.{converted}
use Rattle.cell_num.proofs.CellLaws.{sign_extended-low_cell, low_cell-sign_extended, low_cell-below}
use Rattle.cell_num.proofs.Wrapping.{wrap_byte, wrap_short}
use Rattle.jvm_model.specs.InitialStatics.{lowest_bit}

small_cell : (number : ℕ) → number < 65536 → low_cell (pos number) ≡ number
small_cell number below = grind (arith, ints, below)

-- ---- the cell of what is kept

pub char_cell : (number : ℤ) → low_cell number ≡ low_cell (converted conv.Char number)
char_cell number = sym (small_cell (low_cell number) (low_cell-below number))

pub short_cell : (number : ℤ) → FitsSigned w32 number → low_cell number ≡ low_cell (converted conv.Short number)
short_cell number fits = sym (low_cell-sign_extended (low_cell number) (low_cell-below number)) ∙ ap low_cell (sym (wrap_short number fits))

short_fits : (number : ℤ) → FitsSigned w16 number → FitsSigned w32 number
short_fits number fits = omega (arith, ints, fits)

low_bits : (a b : ℕ) → a % 65536 ≡ b % 65536 → a % 256 ≡ b % 256
low_bits a b same = omega (arith, same)

-- what a byte keeps of the low cell is what it keeps of the number
pub byte_cell : (number : ℤ) → FitsSigned w32 number → low_cell (converted conv.Byte (sign_extended (low_cell number))) ≡ low_cell (converted conv.Byte number)
byte_cell number fits =
    let short = sign_extended (low_cell number) in
    let in_range : FitsSigned w32 short = subst (FitsSigned w32) (wrap_short number fits) (short_fits (int_wrap w16 number) (SFits-int_wrap w16 number)) in
    let bits : cast_unsigned w32 short % 256 ≡ cast_unsigned w32 number % 256 = low_bits (cast_unsigned w32 short) (cast_unsigned w32 number) (low_cell-sign_extended (low_cell number) (low_cell-below number)) in
    ap low_cell (wrap_byte short in_range ∙ ap (cast_signed w8) bits ∙ sym (wrap_byte number fits))

bit_of_cell : (bits : ℕ) → bits % 65536 % 2 ≡ bits % 2
bit_of_cell bits = omega arith

bit_below : (number : ℤ) → cast_unsigned w32 number % 2 < 65536
bit_below number = let less : cast_unsigned w32 number % 2 < 2 = mod-lt (cast_unsigned w32 number) (omega arith) in omega (arith, less)

pub bit_cell : (number : ℤ) → low_cell number % 2 ≡ low_cell (lowest_bit number)
bit_cell number = bit_of_cell (cast_unsigned w32 number) ∙ sym (small_cell (cast_unsigned w32 number % 2) (bit_below number))

-- ---- the number by the cell, where its type keeps it

pub byte_read : (number : ℤ) → converted conv.Byte number ≡ number → sign_extended (low_cell number) ≡ number
byte_read number kept =
    let byte : FitsSigned w8 number = subst (FitsSigned w8) kept (SFits-int_wrap w8 number) in
    sign_extended-low_cell number (omega (arith, ints, byte))

pub short_read : (number : ℤ) → converted conv.Short number ≡ number → sign_extended (low_cell number) ≡ number
short_read number kept = sign_extended-low_cell number (subst (FitsSigned w16) kept (SFits-int_wrap w16 number))

pub bit_read : (number : ℤ) → lowest_bit number ≡ number → pos (low_cell number) ≡ number
bit_read number kept =
    ap (λ (n : ℤ). pos (low_cell n)) (sym kept) ∙ ap (λ (n : ℕ). pos n) (small_cell (cast_unsigned w32 number % 2) (bit_below number)) ∙ kept
