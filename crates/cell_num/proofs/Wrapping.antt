-- Wrapping to the bits of a type, told by the unsigned bits of a number.
use Rattle.std.proofs.Common.{◌≡◌, ◌≢◌, ℕ, suc, zero, ◌-◌, ◌%◌, ◌^◌, ◌<◌, ◌≤◌, ℤ, pos, negsuc, ◌*ℤ◌, neg_ℤ, FitsSigned, Some, refl, sym, ◌∙◌, ap, subst, arith, lit≤}
use Rattle.std.proofs.Math.Nat.{div-le_self}
use Rattle.std.proofs.lemmas.Int.{ints, to_z-of_z, wrapping_mul-bits, int_wrap-mul_right, SFits-int_wrap}
use Rattle.std.proofs.lemmas.Nat.{pow_below, and_mask}
use mir.Val.{hbits}
use lib.Signed.{mag}
use Rattle.std.specs.Int.{Width, w8, w16, w32, cast_signed, cast_unsigned, int_wrap, int_shl}
use Rattle.std.specs.Int.RustNames.{unsigned_abs, int_div, bit_and}
use Rattle.cell_num.specs.Arithmetic.{by_nonzero}
use Rattle.cell_num.specs.Cells.{low_cell, sign_extended}

-- a number of 32 bits, or the one past the greatest int, wraps to what its bits say
pub wrap_from_bits : (z : ℤ) → unsigned_abs z ≤ 2147483648 → cast_signed w32 (cast_unsigned w32 z) ≡ int_wrap w32 z
unfolding int_wrap
wrap_from_bits (pos n) h = let e : n ≡ n % 4294967296 = omega arith in ap (cast_signed w32) e
wrap_from_bits (negsuc n) h = let e : 4294967296 - suc n ≡ 4294967296 - 1 - n % 4294967296 = omega arith in ap (cast_signed w32) e

-- the last bits of a number are those of its 32 bits
pub wrap_byte : (z : ℤ) → FitsSigned w32 z → int_wrap w8 z ≡ cast_signed w8 (cast_unsigned w32 z % 256)
unfolding int_wrap
wrap_byte (pos n) h = refl
wrap_byte (negsuc n) h = let e : 256 - 1 - n % 256 ≡ (4294967296 - suc n) % 256 = omega (arith, ints, h) in ap (cast_signed w8) e

pub wrap_short : (z : ℤ) → FitsSigned w32 z → int_wrap w16 z ≡ cast_signed w16 (cast_unsigned w32 z % 65536)
unfolding int_wrap
wrap_short (pos n) h = refl
wrap_short (negsuc n) h = let e : 65536 - 1 - n % 65536 ≡ (4294967296 - suc n) % 65536 = omega (arith, ints, h) in ap (cast_signed w16) e

pub unsigned_abs-neg_ℤ : (n : ℕ) → unsigned_abs (neg_ℤ (pos n)) ≡ n
unsigned_abs-neg_ℤ zero = refl
unsigned_abs-neg_ℤ (suc n) = refl

-- no quotient has a greater amount than the dividend
pub unsigned_abs-int_div : (a b : ℤ) → unsigned_abs (int_div a b) ≤ unsigned_abs a
unsigned_abs-int_div (pos a) (pos b) = div-le_self a b
unsigned_abs-int_div (pos a) (negsuc b) = rw unsigned_abs-neg_ℤ (div-le_self a (suc b))
unsigned_abs-int_div (negsuc a) (pos b) = rw unsigned_abs-neg_ℤ (div-le_self (suc a) b)
unsigned_abs-int_div (negsuc a) (negsuc b) = div-le_self (suc a) (suc b)

by_nonzero-some : (b result : ℤ) → b ≢ pos 0 → by_nonzero b result ≡ Some result
by_nonzero-some (pos zero) result h = absurd (h refl)
by_nonzero-some (pos (suc b)) result h = refl
by_nonzero-some (negsuc b) result h = refl

-- a quotient in 32 bits is the exact one, wrapped
pub quotient_is : (a b result : ℤ) → FitsSigned w32 a → b ≢ pos 0 → result ≡ cast_signed w32 (cast_unsigned w32 (int_div a b)) → Some (cast_signed w32 (cast_unsigned w32 result)) ≡ by_nonzero b (int_wrap w32 (int_div a b))
quotient_is a b result h nonzero e =
    let small : unsigned_abs a ≤ 2147483648 = omega (arith, ints, h) in
    let smaller : unsigned_abs (int_div a b) ≤ 2147483648 = omega (arith, unsigned_abs-int_div a b) in
    let wrapped : result ≡ int_wrap w32 (int_div a b) = e ∙ wrap_from_bits (int_div a b) smaller in
    let fits : FitsSigned w32 result = subst (FitsSigned w32) (sym wrapped) (SFits-int_wrap w32 (int_div a b)) in
    ap Some (to_z-of_z w32 result fits ∙ wrapped) ∙ sym (by_nonzero-some b (int_wrap w32 (int_div a b)) nonzero)

wrap-pos : (n : ℕ) → n < 4294967296 → cast_signed w32 n ≡ int_wrap w32 (pos n)
unfolding int_wrap
wrap-pos n h = let e : n ≡ n % 4294967296 = omega arith in ap (cast_signed w32) e

-- a shift to the left multiplies and wraps
pub shift_left_is : (a : ℤ) (k : ℕ) → FitsSigned w32 a → k < 32 → int_shl w32 a k ≡ int_wrap w32 (a *ℤ pos (2 ^ k))
shift_left_is a k h below =
    let power : 2 ^ k < 4294967296 = pow_below k 32 below in
    let bits : cast_unsigned w32 a < 4294967296 = omega (arith, ints, h) in
    wrapping_mul-bits w32 (cast_unsigned w32 a) (2 ^ k) bits power
    ∙ ap (λ x. int_wrap w32 (x *ℤ cast_signed w32 (2 ^ k))) (to_z-of_z w32 a h)
    ∙ ap (λ x. int_wrap w32 (a *ℤ x)) (wrap-pos (2 ^ k) power)
    ∙ int_wrap-mul_right w32 a (pos (2 ^ k))

-- the same as the code shifts, by a count below 32
pub shifted_left_is : (a result : ℤ) (k count : ℕ) → FitsSigned w32 a → k < 32 → k ≡ count → result ≡ int_shl w32 a (k % 32) → Some (cast_signed w32 (cast_unsigned w32 result)) ≡ Some (int_wrap w32 (a *ℤ pos (2 ^ count)))
shifted_left_is a result k count h below same e =
    let whole : k % 32 ≡ k = omega arith in
    let wrapped : result ≡ int_wrap w32 (a *ℤ pos (2 ^ count)) = e ∙ ap (int_shl w32 a) whole ∙ shift_left_is a k h below ∙ ap (λ n. int_wrap w32 (a *ℤ pos (2 ^ n))) same in
    let fits : FitsSigned w32 result = subst (FitsSigned w32) (sym wrapped) (SFits-int_wrap w32 (a *ℤ pos (2 ^ count))) in
    ap Some (to_z-of_z w32 result fits ∙ wrapped)

-- a small number is an int
wide : (w : Width) (z : ℤ) → 2 ^ hbits w ≤ 2147483648 → FitsSigned w z → FitsSigned w32 z
wide w z le h = let small : mag z < 2 ^ hbits w = h.sfits in record { sfits = omega arith }

-- an int's low byte with its sign, as the code takes it
pub byte_is : (v signed result : ℤ) (bits : ℕ) → FitsSigned w32 v → bits ≡ cast_unsigned w32 v → signed ≡ cast_signed w8 (bit_and bits 255) → result ≡ cast_signed w8 (cast_unsigned w8 signed) → cast_signed w32 (cast_unsigned w32 result) ≡ int_wrap w8 v
byte_is v signed result bits h e f g =
    let masked : bit_and bits 255 ≡ bits % 256 = and_mask bits 8 in
    let wrapped : signed ≡ int_wrap w8 v = f ∙ ap (cast_signed w8) (masked ∙ ap (λ n. n % 256) e) ∙ sym (wrap_byte v h) in
    let small : FitsSigned w8 signed = subst (FitsSigned w8) (sym wrapped) (SFits-int_wrap w8 v) in
    let same : result ≡ signed = g ∙ to_z-of_z w8 signed small in
    let fits : FitsSigned w32 result = subst (FitsSigned w32) (sym same) (wide w8 signed (lit≤ tt) small) in
    to_z-of_z w32 result fits ∙ same ∙ wrapped

-- the same of its low cell
pub short_is : (v result : ℤ) (cell : ℕ) → FitsSigned w32 v → cell ≡ low_cell v → result ≡ sign_extended cell → cast_signed w32 (cast_unsigned w32 result) ≡ int_wrap w16 v
short_is v result cell h e f =
    let wrapped : result ≡ int_wrap w16 v = f ∙ ap (cast_signed w16) e ∙ sym (wrap_short v h) in
    let small : FitsSigned w16 result = subst (FitsSigned w16) (sym wrapped) (SFits-int_wrap w16 v) in
    to_z-of_z w32 result (wide w16 result (lit≤ tt) small) ∙ wrapped
