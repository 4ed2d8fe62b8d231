-- A flag as a bit.
use Rattle.std.proofs.Common.{◌≡◌, ℕ, ◌/◌, ◌%◌, ◌^◌, ◌<◌, bit_and, not, eqb, refl, ◌∙◌, arith, inl, inr}
use Rattle.std.proofs.lemmas.Bool.{cases_eq, eq-eqb, ne_eqb}
use Rattle.std.proofs.lemmas.Nat.{pow_pos}
use Rattle.std.proofs.lemmas.Nat.Bits.{and_pow}

-- the mask leaves something where the bit is set
pub flag_bit : (n k : ℕ) → not (eqb (bit_and n (2 ^ k)) 0) ≡ eqb (n / 2 ^ k % 2) 1
flag_bit n k =
    elim (cases_eq (n / 2 ^ k % 2) 1) [
      | inl set ↦
          let masked : bit_and n (2 ^ k) ≡ 2 ^ k = and_pow n k ∙ rw set (omega arith) in
          let some : 0 < 2 ^ k = pow_pos k in
          rw (ne_eqb (bit_and n (2 ^ k)) 0 (omega arith), eq-eqb (n / 2 ^ k % 2) 1 set) refl
      | inr clear ↦
          let none : n / 2 ^ k % 2 ≡ 0 = omega arith in
          let masked : bit_and n (2 ^ k) ≡ 0 = and_pow n k ∙ rw none (omega arith) in
          rw (eq-eqb (bit_and n (2 ^ k)) 0 masked, ne_eqb (n / 2 ^ k % 2) 1 clear) refl
    ]
