-- What an operand's reader took from the bytes, and that what was encoded is read.
use Rattle.std.proofs.Common.{◌≡◌, ℕ, ℤ, suc, ◌+◌, ◌^◌, ◌<◌, ◌≤◌, Bool, true, false, cond, ltb, List, [], ◌∷◌, ◌++◌, length, get_or, take, drop, Option, Some, None, option_map, refl, sym, ap, subst, ◌∙◌, arith, rules, inl, inr, FitsSigned, Fits, w8, w16, w32}
use Rattle.std.specs.Int.{from_be_bytes, cast_signed, cast_unsigned}
use Rattle.std.proofs.Math.Facts.{sfits_to_z}
use Rattle.std.proofs.lemmas.Int.{of_z-to_z, to_z-of_z, ints}
use Rattle.std.proofs.lemmas.Nat.{be_bytes_2, be_bytes_4}
use Rattle.std.proofs.lemmas.Bool.{cases_lt, ltb-false, le-ltb}
use Rattle.std.proofs.lemmas.List.{take-append-drop, length-append, length-take, get_or-drop, get_or-take, get_or_past}
use Rattle.byteorder.specs.Endian.{big_number, big_bytes}
use Rattle.byteorder.specs.Numbers.{big_number-reads_back, big_from-take, big_from-lt}
use Rattle.image_instr.specs.Insn.{u2, i1, i2, i4}
use Rattle.image_instr.specs.Reading.{u1_in, u2_in, u4_in, i1_in, i2_in, i4_in}

abbrev pub IsBytes : List ℕ → Type 0
IsBytes bytes = (i : ℕ) → get_or bytes i 0 < 256

pub IsBytes-drop : (n : ℕ) (bytes : List ℕ) → IsBytes bytes → IsBytes (drop n bytes)
IsBytes-drop n bytes h i = rw get_or-drop (h (n + i))

pub IsBytes-take : (n : ℕ) (bytes : List ℕ) → IsBytes bytes → IsBytes (take n bytes)
IsBytes-take n bytes h i =
    elim (cases_lt i n) [
      | inl lt ↦ rw (get_or-take n bytes i 0 lt) (h i)
      | inr le ↦ rw (get_or_past (take n bytes) i 0 (omega (arith, length-take n bytes))) (omega arith)
    ]

pub IsBytes-rest : (b : ℕ) (bytes : List ℕ) → IsBytes (b ∷ bytes) → IsBytes bytes
IsBytes-rest b bytes h i = h (suc i)

-- ---- unsigned numbers

-- the bytes of the number in the first two bytes are those two
pub back_2 : (bytes : List ℕ) → 2 ≤ length bytes → IsBytes bytes → u2 (big_number 2 bytes) ≡ take 2 bytes
back_2 bytes long fits =
    let same : big_number 2 (take 2 bytes) ≡ from_be_bytes w16 (take 2 bytes) = omega arith in
    be_bytes_2 (take 2 bytes) (big_number 2 bytes) (omega (arith, length-take 2 bytes)) (IsBytes-take 2 bytes fits) (sym (big_from-take 0 2 2 bytes (omega arith)) ∙ same)

abbrev pub u4 : ℕ → List ℕ
u4 n = big_bytes 4 n

pub back_4 : (bytes : List ℕ) → 4 ≤ length bytes → IsBytes bytes → u4 (big_number 4 bytes) ≡ take 4 bytes
back_4 bytes long fits =
    let same : big_number 4 (take 4 bytes) ≡ from_be_bytes w32 (take 4 bytes) = omega arith in
    be_bytes_4 (take 4 bytes) (big_number 4 bytes) (omega (arith, length-take 4 bytes)) (IsBytes-take 4 bytes fits) (sym (big_from-take 0 4 4 bytes (omega arith)) ∙ same)

-- what was read: the bytes are a text and the rest after so many bytes
pub record Takes (bytes text : List ℕ) (size : ℕ) : Type 0 where
  pub parts : bytes ≡ text ++ drop size bytes
  pub len : length text ≡ size

guarded : {A : Type 0} (b : Bool) (x y : A) → cond b None (Some x) ≡ Some y → (b ≡ false) × (x ≡ y)
guarded true x y e = absurd cc
guarded false x y e = (refl, cc)

pub u1_takes : (bytes : List ℕ) (n : ℕ) → IsBytes bytes → u1_in bytes ≡ Some n → Takes bytes (n ∷ []) 1 × (n < 256)
u1_takes [] n fits e = absurd cc
u1_takes (b ∷ bytes) n fits e =
    let same : b ≡ n = cc in
    subst (λ n. Takes (b ∷ bytes) (n ∷ []) 1 × (n < 256)) same (record { parts = refl; len = refl }, fits 0)

pub u2_takes : (bytes : List ℕ) (n : ℕ) → IsBytes bytes → u2_in bytes ≡ Some n → Takes bytes (u2 n) 2 × (n < 2 ^ 16)
u2_takes bytes n fits e =
    let g = guarded (ltb (length bytes) 2) (big_number 2 bytes) n e in
    let long : 2 ≤ length bytes = ltb-false _ _ g.0 in
    let parts : bytes ≡ u2 (big_number 2 bytes) ++ drop 2 bytes = sym (ap (λ (t : List ℕ). t ++ drop 2 bytes) (back_2 bytes long fits) ∙ take-append-drop 2 bytes) in
    subst (λ (n : ℕ). Takes bytes (u2 n) 2 × (n < 2 ^ 16)) g.1 (record { parts = parts; len = refl }, big_from-lt 0 2 bytes fits)

pub u4_takes : (bytes : List ℕ) (n : ℕ) → IsBytes bytes → u4_in bytes ≡ Some n → Takes bytes (u4 n) 4 × (n < 2 ^ 32)
u4_takes bytes n fits e =
    let g = guarded (ltb (length bytes) 4) (big_number 4 bytes) n e in
    let long : 4 ≤ length bytes = ltb-false _ _ g.0 in
    let parts : bytes ≡ u4 (big_number 4 bytes) ++ drop 4 bytes = sym (ap (λ (t : List ℕ). t ++ drop 4 bytes) (back_4 bytes long fits) ∙ take-append-drop 4 bytes) in
    subst (λ (n : ℕ). Takes bytes (u4 n) 4 × (n < 2 ^ 32)) g.1 (record { parts = parts; len = refl }, big_from-lt 0 4 bytes fits)

pub u1_again : (n : ℕ) (rest : List ℕ) → u1_in ((n ∷ []) ++ rest) ≡ Some n
u1_again n rest = refl

pub u2_again : (n : ℕ) (rest : List ℕ) → n < 2 ^ 16 → u2_in (u2 n ++ rest) ≡ Some n
u2_again n rest lt =
    let long : ltb (length (u2 n ++ rest)) 2 ≡ false = le-ltb _ _ (omega (arith, length-append (u2 n) rest)) in
    rw long (ap (λ n. Some n) (big_number-reads_back 2 n rest lt))

pub u4_again : (n : ℕ) (rest : List ℕ) → n < 2 ^ 32 → u4_in (u4 n ++ rest) ≡ Some n
u4_again n rest lt =
    let long : ltb (length (u4 n ++ rest)) 4 ≡ false = le-ltb _ _ (omega (arith, length-append (u4 n) rest)) in
    rw long (ap (λ n. Some n) (big_number-reads_back 4 n rest lt))

-- ---- signed numbers

signed : {A : Type 0} (f : ℕ → A) (o : Option ℕ) (y : A) → option_map f o ≡ Some y → (x : ℕ) × (o ≡ Some x) × (f x ≡ y)
signed f None y e = absurd cc
signed f (Some x) y e = (x, refl, cc)

pub i1_takes : (bytes : List ℕ) (z : ℤ) → IsBytes bytes → i1_in bytes ≡ Some z → Takes bytes (i1 z) 1 × FitsSigned w8 z
i1_takes bytes z fits e =
    let a = signed (cast_signed w8) (u1_in bytes) z e in
    let t = u1_takes bytes a.0 fits a.1 in
    let f : Fits w8 a.0 = search rules in
    let made : Takes bytes (i1 (cast_signed w8 a.0)) 1 = subst (λ (n : ℕ). Takes bytes (n ∷ []) 1) (sym (of_z-to_z w8 a.0 t.1)) t.0 in
    subst (λ (z : ℤ). Takes bytes (i1 z) 1 × FitsSigned w8 z) a.2 (made, sfits_to_z f)

pub i2_takes : (bytes : List ℕ) (z : ℤ) → IsBytes bytes → i2_in bytes ≡ Some z → Takes bytes (i2 z) 2 × FitsSigned w16 z
i2_takes bytes z fits e =
    let a = signed (cast_signed w16) (u2_in bytes) z e in
    let t = u2_takes bytes a.0 fits a.1 in
    let f : Fits w16 a.0 = search rules in
    let made : Takes bytes (i2 (cast_signed w16 a.0)) 2 = subst (λ (n : ℕ). Takes bytes (u2 n) 2) (sym (of_z-to_z w16 a.0 t.1)) t.0 in
    subst (λ (z : ℤ). Takes bytes (i2 z) 2 × FitsSigned w16 z) a.2 (made, sfits_to_z f)

pub i4_takes : (bytes : List ℕ) (z : ℤ) → IsBytes bytes → i4_in bytes ≡ Some z → Takes bytes (i4 z) 4 × FitsSigned w32 z
i4_takes bytes z fits e =
    let a = signed (cast_signed w32) (u4_in bytes) z e in
    let t = u4_takes bytes a.0 fits a.1 in
    let f : Fits w32 a.0 = search rules in
    let made : Takes bytes (i4 (cast_signed w32 a.0)) 4 = subst (λ (n : ℕ). Takes bytes (u4 n) 4) (sym (of_z-to_z w32 a.0 t.1)) t.0 in
    subst (λ (z : ℤ). Takes bytes (i4 z) 4 × FitsSigned w32 z) a.2 (made, sfits_to_z f)

pub i1_again : (z : ℤ) (rest : List ℕ) → FitsSigned w8 z → i1_in (i1 z ++ rest) ≡ Some z
i1_again z rest fits = ap (λ z. Some z) (to_z-of_z w8 z fits)

pub i2_again : (z : ℤ) (rest : List ℕ) → FitsSigned w16 z → i2_in (i2 z ++ rest) ≡ Some z
i2_again z rest fits =
    let below : cast_unsigned w16 z < 2 ^ 16 = omega (arith, ints) in
    ap (option_map (cast_signed w16)) (u2_again (cast_unsigned w16 z) rest below) ∙ ap (λ z. Some z) (to_z-of_z w16 z fits)

pub i4_again : (z : ℤ) (rest : List ℕ) → FitsSigned w32 z → i4_in (i4 z ++ rest) ≡ Some z
i4_again z rest fits =
    let below : cast_unsigned w32 z < 2 ^ 32 = omega (arith, ints) in
    ap (option_map (cast_signed w32)) (u4_again (cast_unsigned w32 z) rest below) ∙ ap (λ z. Some z) (to_z-of_z w32 z fits)
