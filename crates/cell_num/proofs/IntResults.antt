-- What the operations give of ints are ints.
use Rattle.std.proofs.Common.{ℕ, suc, zero, ◌/◌, ◌^◌, ◌<◌, ◌≤◌, ℤ, pos, negsuc, IfSome, FitsSigned, arith, bit_and, bit_or}
use Rattle.std.proofs.Math.Facts.{sfits_to_z}
use Rattle.std.proofs.Math.Nat.{div-le_self}
use Rattle.std.proofs.lemmas.Int.{ints, SFits-int_wrap, rem_below, fits_signed_from_abs}
use Rattle.std.proofs.lemmas.Nat.{and_le_l, or_of_32, xor_of_32}
use Rattle.std.specs.Int.{w32, cast_signed, cast_unsigned, int_wrap, int_div_euclid}
use Rattle.std.specs.Int.RustNames.{unsigned_abs, int_div, int_rem, bit_xor}
use Rattle.cell_num.specs.Arithmetic.{applied, by_nonzero, shift_count}
use Rattle.cell_num.specs.declared.arithmetic.BinOp.{BinOp}
use Rattle.cell_num.specs.declared.arithmetic.BinOp.TheVariants.{Add, Sub, Mul, Div, Rem, Shl, Shr, Ushr, And, Or, Xor}

by_nonzero-fits : (b result : ℤ) → (0 < unsigned_abs b → FitsSigned w32 result) → IfSome (by_nonzero b result) (λ r. FitsSigned w32 r)
by_nonzero-fits (pos zero) result fits = tt
by_nonzero-fits (pos (suc n)) result fits = fits (omega arith)
by_nonzero-fits (negsuc n) result fits = fits (omega arith)

rem_fits : (a b : ℤ) → FitsSigned w32 b → 0 < unsigned_abs b → FitsSigned w32 (int_rem a b)
rem_fits a b b_fits nonzero =
    let below : unsigned_abs (int_rem a b) < unsigned_abs b = rem_below a b nonzero in
    let small : unsigned_abs b ≤ 2147483648 = omega (arith, ints, b_fits) in
    fits_signed_from_abs w32 (int_rem a b) (omega arith)

shr_fits : (a : ℤ) (divisor : ℕ) → FitsSigned w32 a → FitsSigned w32 (int_div_euclid a (pos divisor))
shr_fits (pos n) divisor fits = let small : n < 2147483648 = fits.sfits in record { sfits = omega (arith, div-le_self n divisor) }
shr_fits (negsuc n) divisor fits = let small : n < 2147483648 = fits.sfits in record { sfits = omega (arith, div-le_self n divisor) }

bits_below : (a : ℤ) → FitsSigned w32 a → cast_unsigned w32 a < 4294967296
bits_below a fits = omega (arith, ints, fits)

cast_fits : (n : ℕ) → n < 4294967296 → FitsSigned w32 (cast_signed w32 n)
cast_fits n below = sfits_to_z (record { fits = below })

-- an operation on two ints gives an int, where it gives anything
pub applied-fits : (op : BinOp) (a b : ℤ) → FitsSigned w32 a → FitsSigned w32 b → IfSome (applied op a b) (λ result. FitsSigned w32 result)
applied-fits Add a b f g = SFits-int_wrap w32 _
applied-fits Sub a b f g = SFits-int_wrap w32 _
applied-fits Mul a b f g = SFits-int_wrap w32 _
applied-fits Div a b f g = by_nonzero-fits b (int_wrap w32 (int_div a b)) (λ _. SFits-int_wrap w32 (int_div a b))
applied-fits Rem a b f g = by_nonzero-fits b (int_rem a b) (rem_fits a b g)
applied-fits Shl a b f g = SFits-int_wrap w32 _
applied-fits Shr a b f g = shr_fits a (2 ^ shift_count b) f
applied-fits Ushr a b f g = cast_fits (cast_unsigned w32 a / 2 ^ shift_count b) (let small : cast_unsigned w32 a < 4294967296 = bits_below a f in omega (arith, div-le_self (cast_unsigned w32 a) (2 ^ shift_count b)))
applied-fits And a b f g = cast_fits (bit_and (cast_unsigned w32 a) (cast_unsigned w32 b)) (let small : cast_unsigned w32 a < 4294967296 = bits_below a f in omega (arith, and_le_l (cast_unsigned w32 a) (cast_unsigned w32 b)))
applied-fits Or a b f g = cast_fits (bit_or (cast_unsigned w32 a) (cast_unsigned w32 b)) (or_of_32 (cast_unsigned w32 a) (cast_unsigned w32 b) (bits_below a f) (bits_below b g))
applied-fits Xor a b f g = cast_fits (bit_xor (cast_unsigned w32 a) (cast_unsigned w32 b)) (xor_of_32 (cast_unsigned w32 a) (cast_unsigned w32 b) (bits_below a f) (bits_below b g))
