-- The whole-number arithmetic of the Java standard on two ints (JVMS 2.11.3, 6.5).
use Rattle.std.specs.Prelude.{ℕ, ℤ, pos, negsuc, zero, suc, ◌+ℤ◌, ◌-ℤ◌, ◌*ℤ◌, ◌/◌, ◌%◌, ◌^◌, Option, Some, None, int_div, int_rem}
use Rattle.std.specs.Int.{w32, cast_signed, cast_unsigned, int_wrap, int_div_euclid, int_bit_and, int_bit_or, int_bit_xor}
use Rattle.cell_num.specs.declared.arithmetic.BinOp.{BinOp}
use Rattle.cell_num.specs.declared.arithmetic.BinOp.TheVariants.{Add, Sub, Mul, Div, Rem, Shl, Shr, Ushr, And, Or, Xor}

-- the number by which formats and instructions name an operation
abbrev pub operation_code : BinOp → ℕ
operation_code Add = 0
operation_code Sub = 1
operation_code Mul = 2
operation_code Div = 3
operation_code Rem = 4
operation_code Shl = 5
operation_code Shr = 6
operation_code Ushr = 7
operation_code And = 8
operation_code Or = 9
operation_code Xor = 10

-- how far a shift goes: the low five bits of the count
abbrev pub shift_count : ℤ → ℕ
shift_count count = cast_unsigned w32 count % 2 ^ 5

-- a result, but by a divisor other than 0 alone
abbrev pub by_nonzero : ℤ → ℤ → Option ℤ
by_nonzero (pos zero) result = None
by_nonzero (pos (suc _)) result = Some result
by_nonzero (negsuc _) result = Some result

-- what an operation gives: sums, products and quotients keep 32 bits of the exact number, a quotient
-- is rounded toward zero, a remainder has the dividend's sign, a shift to the left multiplies and one
-- to the right divides by a power of two and rounds down, of the number or of its unsigned bits
abbrev pub applied : BinOp → ℤ → ℤ → Option ℤ
applied Add a b = Some (int_wrap w32 (a +ℤ b))
applied Sub a b = Some (int_wrap w32 (a -ℤ b))
applied Mul a b = Some (int_wrap w32 (a *ℤ b))
applied Div a b = by_nonzero b (int_wrap w32 (int_div a b))
applied Rem a b = by_nonzero b (int_rem a b)
applied Shl a b = Some (int_wrap w32 (a *ℤ pos (2 ^ shift_count b)))
applied Shr a b = Some (int_div_euclid a (pos (2 ^ shift_count b)))
applied Ushr a b = Some (cast_signed w32 (cast_unsigned w32 a / 2 ^ shift_count b))
applied And a b = Some (int_bit_and w32 a b)
applied Or a b = Some (int_bit_or w32 a b)
applied Xor a b = Some (int_bit_xor w32 a b)

-- the operations that have no result at a divisor of 0
abbrev pub Divides : BinOp → Type 0
Divides Div = Unit {0}
Divides Rem = Unit {0}
Divides _ = ⊥
