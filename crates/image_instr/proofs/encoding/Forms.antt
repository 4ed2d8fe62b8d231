-- What it takes that a reader's answer is right, form by form of operands.
use Rattle.std.proofs.Common.{◌≡◌, ℕ, ℤ, suc, ◌+◌, ◌-◌, ◌*◌, ◌/◌, ◌%◌, ◌^◌, ◌<◌, ◌≤◌, Bool, true, false, ◌&&◌, cond, ltb, eqb, List, [], ◌∷◌, ◌++◌, length, drop, Option, Some, None, option_map, option_and_then, refl, sym, ap, subst, ◌∙◌, arith, inl, inr, ◌⊎◌, FitsSigned, w8, w16, w32}
use Rattle.std.specs.Prelude.{nat_le}
use Rattle.std.proofs.lemmas.Bool.{eqb-true, ltb-false, le-ltb}
use Rattle.std.proofs.lemmas.Bool.Decides.{nat_tests}
use Rattle.image_instr.specs.declared.insn.SwitchRow.{SwitchRow}
use Rattle.image_instr.specs.declared.insn.MInsn.{MInsn}
use Rattle.image_instr.specs.Insn.{u2, i1, i2, i4, index, halves, insn_bytes, HasRanges, KeepsLimits, AreRowsOf, IsInsn}
use Rattle.image_instr.specs.Reading.{Found, u2_in, i1_in, i2_in, i4_in, index_in, halves_in}
use Rattle.image_instr.proofs.encoding.Bytes.{IsBytes, IsBytes-rest, Takes, u2_takes, i1_takes, i2_takes, i4_takes, u2_again}

-- the instruction of this size is encoded at the prefix, with some rows
pub record IsFound (bytes : List ℕ) (insn : MInsn) (size : ℕ) : Type 0 where
  pub rows : List SwitchRow
  pub rest : List ℕ
  pub is_insn : IsInsn insn rows
  pub size_is : size ≡ length (insn_bytes insn rows)
  pub parts : bytes ≡ insn_bytes insn rows ++ rest

-- an answer is right: what it found is encoded there
abbrev pub Sound : List ℕ → Found → Type 0
Sound bytes None = Unit {0}
Sound bytes (Some found) = IsFound bytes found.0 found.1

pub sound-map : {A : Type 0} (bytes : List ℕ) (o : Option A) (f : A → MInsn × ℕ) → ((x : A) → o ≡ Some x → IsFound bytes (f x).0 (f x).1) → Sound bytes (option_map f o)
sound-map bytes None f h = tt
sound-map bytes (Some x) f h = h x refl

pub sound-then : {A : Type 0} (bytes : List ℕ) (o : Option A) (f : A → Found) → ((x : A) → o ≡ Some x → Sound bytes (f x)) → Sound bytes (option_and_then f o)
sound-then bytes None f h = tt
sound-then bytes (Some x) f h = h x refl

pub sound-if : (bytes : List ℕ) (test : Bool) (found : MInsn × ℕ) → (test ≡ true → IsFound bytes found.0 found.1) → Sound bytes (cond test (Some found) None)
sound-if bytes true found h = h refl
sound-if bytes false found h = tt

pick : (bytes : List ℕ) (test : Bool) (first second : Found) → (test ≡ true → Sound bytes first) → Sound bytes second → Sound bytes (cond test first second)
pick bytes true first second h k = h refl
pick bytes false first second h k = k

-- a first byte of its own
pub when : (opcode : ℕ) (operands : List ℕ) (k : ℕ) (first second : Found) → Sound (k ∷ operands) first → Sound (opcode ∷ operands) second → Sound (opcode ∷ operands) (cond (eqb opcode k) first second)
when opcode operands k first second h rest =
    pick (opcode ∷ operands) (eqb opcode k) first second (λ e. subst (λ n. Sound (n ∷ operands) first) (sym (eqb-true opcode k e)) h) rest

-- a first byte up to a limit
pub up_to : (opcode : ℕ) (operands : List ℕ) (most : ℕ) (first second : Found) → Sound (opcode ∷ operands) first → Sound (opcode ∷ operands) second → Sound (opcode ∷ operands) (cond (nat_le opcode most) first second)
up_to opcode operands most first second h rest =
    pick (opcode ∷ operands) (nat_le opcode most) first second (λ _. h) rest

pub nat_le-true : (a b : ℕ) → nat_le a b ≡ true → a ≤ b
nat_le-true a b e = grind (arith, nat_tests)

pub both_true : (a b : Bool) → (a && b) ≡ true → (a ≡ true) × (b ≡ true)
both_true true b e = (refl, e)
both_true false b e = absurd cc

-- a first byte in a range
pub between : (opcode : ℕ) (operands : List ℕ) (low high : ℕ) (first second : Found) → (low ≤ opcode → opcode ≤ high → Sound (opcode ∷ operands) first) → Sound (opcode ∷ operands) second → Sound (opcode ∷ operands) (cond (nat_le low opcode && nat_le opcode high) first second)
between opcode operands low high first second h rest =
    pick (opcode ∷ operands) (nat_le low opcode && nat_le opcode high) first second
    (λ e. let p = both_true (nat_le low opcode) (nat_le opcode high) e in h (nat_le-true low opcode p.0) (nat_le-true opcode high p.1)) rest

-- ---- forms

-- an instruction without rows
pub plain : (insn : MInsn) → HasRanges insn → KeepsLimits insn → AreRowsOf insn [] → IsInsn insn []
plain insn ranges limits rows_of = record { ranges = ranges; limits = limits; rows_of = rows_of; row_ranges = tt }

pub found-from : (opcode : ℕ) (operands : List ℕ) (insn : MInsn) (rows : List SwitchRow) (text rest : List ℕ) (size : ℕ) → IsInsn insn rows → insn_bytes insn rows ≡ opcode ∷ text → operands ≡ text ++ rest → size ≡ suc (length text) → IsFound (opcode ∷ operands) insn size
found-from opcode operands insn rows text rest size is encoded parts long =
    record {
      rows = rows;
      rest = rest;
      is_insn = is;
      size_is = long ∙ ap length (sym encoded);
      parts = ap (λ (t : List ℕ). opcode ∷ t) parts ∙ ap (λ (t : List ℕ). t ++ rest) (sym encoded);
    }

pub bare-form : (opcode : ℕ) (operands : List ℕ) (insn : MInsn) → IsInsn insn [] → insn_bytes insn [] ≡ opcode ∷ [] → Sound (opcode ∷ operands) (Some (insn, 1))
bare-form opcode operands insn is encoded = found-from opcode operands insn [] [] operands 1 is encoded refl refl

pub u2-form : (opcode : ℕ) (operands : List ℕ) (make : ℕ → MInsn) → IsBytes operands → ((v : ℕ) → v < 2 ^ 16 → IsInsn (make v) []) → ((v : ℕ) → insn_bytes (make v) [] ≡ opcode ∷ u2 v) → Sound (opcode ∷ operands) (option_map (λ v. (make v, 3)) (u2_in operands))
u2-form opcode operands make fits is encoded =
    sound-map (opcode ∷ operands) (u2_in operands) (λ v. (make v, 3)) (λ v e.
    let t = u2_takes operands v fits e in
    found-from opcode operands (make v) [] (u2 v) (drop 2 operands) 3 (is v t.1) (encoded v) t.0.parts refl)

pub i1-form : (opcode : ℕ) (operands : List ℕ) (make : ℤ → MInsn) → IsBytes operands → ((v : ℤ) → FitsSigned w8 v → IsInsn (make v) []) → ((v : ℤ) → insn_bytes (make v) [] ≡ opcode ∷ i1 v) → Sound (opcode ∷ operands) (option_map (λ v. (make v, 2)) (i1_in operands))
i1-form opcode operands make fits is encoded =
    sound-map (opcode ∷ operands) (i1_in operands) (λ v. (make v, 2)) (λ v e.
    let t = i1_takes operands v fits e in
    found-from opcode operands (make v) [] (i1 v) (drop 1 operands) 2 (is v t.1) (encoded v) t.0.parts refl)

pub i2-form : (opcode : ℕ) (operands : List ℕ) (make : ℤ → MInsn) → IsBytes operands → ((v : ℤ) → FitsSigned w16 v → IsInsn (make v) []) → ((v : ℤ) → insn_bytes (make v) [] ≡ opcode ∷ i2 v) → Sound (opcode ∷ operands) (option_map (λ v. (make v, 3)) (i2_in operands))
i2-form opcode operands make fits is encoded =
    sound-map (opcode ∷ operands) (i2_in operands) (λ v. (make v, 3)) (λ v e.
    let t = i2_takes operands v fits e in
    found-from opcode operands (make v) [] (i2 v) (drop 2 operands) 3 (is v t.1) (encoded v) t.0.parts refl)

pub i4-form : (opcode : ℕ) (operands : List ℕ) (make : ℤ → MInsn) → IsBytes operands → ((v : ℤ) → FitsSigned w32 v → IsInsn (make v) []) → ((v : ℤ) → insn_bytes (make v) [] ≡ opcode ∷ i4 v) → Sound (opcode ∷ operands) (option_map (λ v. (make v, 5)) (i4_in operands))
i4-form opcode operands make fits is encoded =
    sound-map (opcode ∷ operands) (i4_in operands) (λ v. (make v, 5)) (λ v e.
    let t = i4_takes operands v fits e in
    found-from opcode operands (make v) [] (i4 v) (drop 4 operands) 5 (is v t.1) (encoded v) t.0.parts refl)

-- ---- indexes

-- what an index took, with its size counted after a first byte
pub record TakesIndex (bytes : List ℕ) (n size : ℕ) : Type 0 where
  pub parts : bytes ≡ index n ++ drop (size - 1) bytes
  pub size_is : size ≡ suc (length (index n))
  pub fits : n < 2 ^ 16

chosen : {A : Type 0} (b : Bool) (x y z : A) → cond b x y ≡ z → ((b ≡ true) × (x ≡ z)) ⊎ ((b ≡ false) × (y ≡ z))
chosen true x y z e = inl (refl, e)
chosen false x y z e = inr (refl, e)

passed : {A : Type 0} (b : Bool) (x y : A) → cond b (Some x) None ≡ Some y → (b ≡ true) × (x ≡ y)
passed true x y e = (refl, cc)
passed false x y e = absurd cc

then_some : {A B : Type 0} (o : Option A) (f : A → Option B) (y : B) → option_and_then f o ≡ Some y → (x : A) × (o ≡ Some x) × (f x ≡ Some y)
then_some None f y e = absurd cc
then_some (Some x) f y e = (x, refl, e)

abbrev some_pair : ℕ → ℕ → Option (ℕ × ℕ)
some_pair n size = Some (n, size)

short_index : (byte : ℕ) (bytes : List ℕ) → IsBytes (byte ∷ bytes) → ltb byte 255 ≡ true → TakesIndex (byte ∷ bytes) byte 2
short_index byte bytes fits short =
    let encoded : index byte ≡ byte ∷ [] = rw short refl in
    record {
      parts = ap (λ (t : List ℕ). t ++ bytes) (sym encoded);
      size_is = ap (λ (t : List ℕ). suc (length t)) (sym encoded);
      fits = omega (arith, fits 0);
    }

long_index : (byte : ℕ) (bytes : List ℕ) (n : ℕ) → IsBytes (byte ∷ bytes) → ltb byte 255 ≡ false → u2_in bytes ≡ Some n → nat_le 255 n ≡ true → TakesIndex (byte ∷ bytes) n 4
long_index byte bytes n fits long read above =
    let t = u2_takes bytes n (IsBytes-rest byte bytes fits) read in
    let top : byte ≡ 255 = omega (arith, fits 0, ltb-false byte 255 long) in
    let far : ltb n 255 ≡ false = le-ltb n 255 (nat_le-true 255 n above) in
    let encoded : index n ≡ 255 ∷ u2 n = rw far refl in
    record {
      parts = ap (λ (b : ℕ). b ∷ bytes) top ∙ ap (λ (t : List ℕ). 255 ∷ t) t.0.parts ∙ ap (λ (t : List ℕ). t ++ drop 2 bytes) (sym encoded);
      size_is = ap (λ (t : List ℕ). suc (length t)) (sym encoded);
      fits = t.1;
    }

pub index_takes : (bytes : List ℕ) (found : ℕ × ℕ) → IsBytes bytes → index_in bytes ≡ Some found → TakesIndex bytes found.0 found.1
index_takes [] found fits e = absurd cc
index_takes (byte ∷ bytes) found fits e =
    elim (chosen (ltb byte 255) (Some (byte, 2)) (option_and_then (λ n. cond (nat_le 255 n) (Some (n, 4)) None) (u2_in bytes)) (Some found) e) [
      | inl short ↦
          let same : (byte, 2) ≡ found = cc in
          subst (λ (f : ℕ × ℕ). TakesIndex (byte ∷ bytes) f.0 f.1) same (short_index byte bytes fits short.0)
      | inr long ↦
          let a = then_some (u2_in bytes) (λ n. cond (nat_le 255 n) (Some (n, 4)) None) found long.1 in
          let b = passed (nat_le 255 a.0) (a.0, 4) found a.2 in
          subst (λ (f : ℕ × ℕ). TakesIndex (byte ∷ bytes) f.0 f.1) b.1 (long_index byte bytes a.0 fits long.0 a.1 b.0)
    ]

pub index-form : (opcode : ℕ) (operands : List ℕ) (make : ℕ → MInsn) → IsBytes operands → ((v : ℕ) → v < 2 ^ 16 → IsInsn (make v) []) → ((v : ℕ) → insn_bytes (make v) [] ≡ opcode ∷ index v) → Sound (opcode ∷ operands) (option_map (λ n. (make n.0, n.1)) (index_in operands))
index-form opcode operands make fits is encoded =
    sound-map (opcode ∷ operands) (index_in operands) (λ n. (make n.0, n.1)) (λ n e.
    let t = index_takes operands n fits e in
    found-from opcode operands (make n.0) [] (index n.0) (drop (n.1 - 1) operands) n.1 (is n.0 t.fits) (encoded n.0) t.parts t.size_is)

pub index_again : (n : ℕ) (rest : List ℕ) → n < 2 ^ 16 → index_in (index n ++ rest) ≡ Some (n, suc (length (index n)))
index_again n rest lt =
    elim (ltb n 255) as (λ (b : Bool). ltb n 255 ≡ b → index_in (cond b (n ∷ []) (255 ∷ u2 n) ++ rest) ≡ Some (n, suc (length (cond b (n ∷ []) (255 ∷ u2 n))))) [
      | true ↦ λ short. rw short refl
      | false ↦ λ long.
          let above : nat_le 255 n ≡ true = grind (arith, nat_tests) in
          ap (option_and_then (λ n. cond (nat_le 255 n) (Some (n, 4)) None)) (u2_again n rest lt) ∙ rw above refl
    ] refl

-- ---- halves of a byte

pub halves_take : (bytes : List ℕ) (part : ℕ × ℕ) → IsBytes bytes → halves_in bytes ≡ Some part → Takes bytes (halves part.0 part.1) 1
halves_take [] part fits e = absurd cc
halves_take (byte ∷ bytes) part fits e =
    let same : (byte / 16, byte % 16) ≡ part = cc in
    let whole : byte ≡ byte / 16 * 16 + byte % 16 = omega arith in
    subst (λ (p : ℕ × ℕ). Takes (byte ∷ bytes) (halves p.0 p.1) 1) same (record { parts = ap (λ (b : ℕ). b ∷ bytes) whole; len = refl })

pub halves_again : (m n : ℕ) (rest : List ℕ) → n < 16 → halves_in (halves m n ++ rest) ≡ Some (m, n)
halves_again m n rest lt =
    let high : (m * 16 + n) / 16 ≡ m = omega arith in
    let low : (m * 16 + n) % 16 ≡ n = omega arith in
    rw (high, low) refl
