-- Modified UTF-8: the test says what the units say.
use Rattle.std.proofs.Common.{◌≡◌, ℕ, ◌+◌, ◌-◌, ◌*◌, ◌/◌, ◌%◌, ◌^◌, ◌<◌, ◌≤◌, true, false, ◌&&◌, ◌||◌, ltb, leb, eqb, List, [], ◌∷◌, ◌++◌, length, Some, None, refl, sym, ap, subst, ◌∙◌, arith, inl, inr, ◌⊎◌}
use Rattle.std.specs.List.{flat_map, AllByRecursion}
use Rattle.std.proofs.lemmas.Bool.{cases_Bool, cases_lt, and_parts, and_from, and_left, and_right, or_cases, or_from, or_left, or_right, ne_eqb, ltb-true, leb-true, eqb-true, lt-ltb, le-ltb, le-leb, eq-eqb}
use Rattle.std.proofs.lemmas.List.Concat.{flat_map-cons}
use Rattle.class_pool.specs.Utf8.{unit_bytes, IsModifiedUtf8}
use Rattle.class_pool.specs.PoolReading.{is_single, is_last, is_double, is_triple, is_modified_utf8, after_unit}

-- ---- unit by unit

-- what follows a unit is a text where the whole is one
pub step : (bytes rest : List ℕ) → after_unit bytes ≡ Some rest → (is_modified_utf8 bytes ≡ is_modified_utf8 rest) × (length rest < length bytes)
unfolding after_unit is_modified_utf8
step [] rest e = absurd cc
step (a ∷ []) rest e =
    elim (cases_Bool (is_single a)) [
      | inl t ↦
          let r : [] ≡ rest = let h = rw t at e in cc in
          rw (← r) (t, omega arith)
      | inr f ↦ absurd (let h = rw f at e in cc)
    ]
step (a ∷ b ∷ []) rest e =
    elim (cases_Bool (is_single a)) [
      | inl t ↦
          let r : b ∷ [] ≡ rest = let h = rw t at e in cc in
          rw (← r) (rw t refl, omega arith)
      | inr f ↦
          elim (cases_Bool (is_double a b)) [
            | inl t ↦
                let r : [] ≡ rest = let h = rw (f, t) at e in cc in
                rw (← r) (rw (f, t) refl, omega arith)
            | inr f2 ↦ absurd (let h = rw (f, f2) at e in cc)
          ]
    ]
step (a ∷ b ∷ c ∷ bytes) rest e =
    elim (cases_Bool (is_single a)) [
      | inl t ↦
          let r : b ∷ c ∷ bytes ≡ rest = let h = rw t at e in cc in
          rw (← r) (rw t refl, omega arith)
      | inr f ↦
          elim (cases_Bool (is_double a b)) [
            | inl t ↦
                let r : c ∷ bytes ≡ rest = let h = rw (f, t) at e in cc in
                rw (← r) (rw (f, t) refl, omega arith)
            | inr f2 ↦
                elim (cases_Bool (is_triple a b c)) [
                  | inl t ↦
                      let r : bytes ≡ rest = let h = rw (f, f2, t) at e in cc in
                      rw (← r) (rw (f, f2, t) refl, omega arith)
                  | inr f3 ↦ absurd (let h = rw (f, f2, f3) at e in cc)
                ]
          ]
    ]

-- where no unit is at the prefix, the bytes are no text
pub stuck : (bytes : List ℕ) → after_unit bytes ≡ None → 0 < length bytes → is_modified_utf8 bytes ≡ false
unfolding after_unit is_modified_utf8
stuck [] e some = absurd (omega arith)
stuck (a ∷ []) e some =
    elim (cases_Bool (is_single a)) [
      | inl t ↦ absurd (let h = rw t at e in cc)
      | inr f ↦ f
    ]
stuck (a ∷ b ∷ []) e some =
    elim (cases_Bool (is_single a)) [
      | inl t ↦ absurd (let h = rw t at e in cc)
      | inr f ↦
          elim (cases_Bool (is_double a b)) [
            | inl t ↦ absurd (let h = rw (f, t) at e in cc)
            | inr f2 ↦ rw (f, f2) refl
          ]
    ]
stuck (a ∷ b ∷ c ∷ bytes) e some =
    elim (cases_Bool (is_single a)) [
      | inl t ↦ absurd (let h = rw t at e in cc)
      | inr f ↦
          elim (cases_Bool (is_double a b)) [
            | inl t ↦ absurd (let h = rw (f, t) at e in cc)
            | inr f2 ↦
                elim (cases_Bool (is_triple a b c)) [
                  | inl t ↦ absurd (let h = rw (f, f2, t) at e in cc)
                  | inr f3 ↦ rw (f, f2, f3) refl
                ]
          ]
    ]

pub empty_text : (bytes : List ℕ) → length bytes ≡ 0 → is_modified_utf8 bytes ≡ true
unfolding is_modified_utf8
empty_text [] e = refl
empty_text (a ∷ bytes) e = absurd (omega arith)

-- ---- a unit is what its bytes say

single : (unit : ℕ) → 0 < unit → unit < 128 → unit_bytes unit ≡ unit ∷ []
single unit some small = rw (lt-ltb 0 unit some, lt-ltb unit 128 small) refl

double : (unit a b : ℕ) → 128 ≤ unit → unit < 2048 → a ≡ 192 + unit / 64 → b ≡ 128 + unit % 64 → unit_bytes unit ≡ a ∷ b ∷ []
double unit a b large small e h =
    let some : 0 < unit = omega arith in
    rw (lt-ltb 0 unit some, le-ltb unit 128 large, lt-ltb unit 2048 small, e, h) refl

triple : (unit a b c : ℕ) → 2048 ≤ unit → a ≡ 224 + unit / 4096 → b ≡ 128 + unit / 64 % 64 → c ≡ 128 + unit % 64 → unit_bytes unit ≡ a ∷ b ∷ c ∷ []
triple unit a b c large e h k =
    let some : 0 < unit = omega arith in
    let more : 128 ≤ unit = omega arith in
    rw (lt-ltb 0 unit some, le-ltb unit 128 more, le-ltb unit 2048 large, e, h, k) refl

-- what the tests say of the bytes
single_says : (a : ℕ) → is_single a ≡ true → (0 < a) × (a < 128)
single_says a e =
    let p = and_parts (ltb 0 a) (ltb a 128) e in
    (ltb-true 0 a p.0, ltb-true a 128 p.1)

last_says : (b : ℕ) → is_last b ≡ true → (128 ≤ b) × (b < 192)
last_says b e =
    let p = and_parts (leb 128 b) (ltb b 192) e in
    (leb-true 128 b p.0, ltb-true b 192 p.1)

-- the unit of two bytes
pub double_unit : (a b : ℕ) → is_double a b ≡ true → (unit : ℕ) × (unit < 2 ^ 16) × (unit_bytes unit ≡ a ∷ b ∷ [])
double_unit a b e =
    elim (or_cases (eqb a 192 && eqb b 128) ((leb 194 a && ltb a 224) && is_last b) e) [
      | inl zero_unit ↦
          let p = and_parts (eqb a 192) (eqb b 128) zero_unit in
          let a-is : a ≡ 192 = eqb-true a 192 p.0 in
          let b-is : b ≡ 128 = eqb-true b 128 p.1 in
          (0, omega arith, rw (a-is, b-is) refl)
      | inr other ↦
          let p = and_parts (leb 194 a && ltb a 224) (is_last b) other in
          let q = and_parts (leb 194 a) (ltb a 224) p.0 in
          let low : 194 ≤ a = leb-true 194 a q.0 in
          let high : a < 224 = ltb-true a 224 q.1 in
          let last = last_says b p.1 in
          let unit = (a - 192) * 64 + (b - 128) in
          let first : a ≡ 192 + unit / 64 = omega (arith, last.0, last.1) in
          let second : b ≡ 128 + unit % 64 = omega (arith, last.0, last.1) in
          (unit, omega (arith, last.0, last.1), double unit a b (omega (arith, last.0, last.1)) (omega (arith, last.0, last.1)) first second)
    ]

-- the unit of three bytes
pub triple_unit : (a b c : ℕ) → is_triple a b c ≡ true → (unit : ℕ) × (unit < 2 ^ 16) × (unit_bytes unit ≡ a ∷ b ∷ c ∷ [])
triple_unit a b c e =
    let p = and_parts ((eqb a 224 && leb 160 b) || (ltb 224 a && ltb a 240)) (is_last b && is_last c) e in
    let lasts = and_parts (is_last b) (is_last c) p.1 in
    let middle = last_says b lasts.0 in
    let last = last_says c lasts.1 in
    let unit = (a - 224) * 4096 + ((b - 128) * 64 + (c - 128)) in
    let bounds : (224 ≤ a) × (a < 240) × (2048 ≤ unit) =
    elim (or_cases (eqb a 224 && leb 160 b) (ltb 224 a && ltb a 240) p.0) [
      | inl lowest ↦
          let q = and_parts (eqb a 224) (leb 160 b) lowest in
          let a-is : a ≡ 224 = eqb-true a 224 q.0 in
          let high : 160 ≤ b = leb-true 160 b q.1 in
          (omega arith, omega arith, omega arith)
      | inr other ↦
          let q = and_parts (ltb 224 a) (ltb a 240) other in
          let low : 224 < a = ltb-true 224 a q.0 in
          let high : a < 240 = ltb-true a 240 q.1 in
          (omega arith, omega arith, omega arith)
    ] in
    let first : a ≡ 224 + unit / 4096 = omega (arith, middle.0, middle.1, last.0, last.1, bounds.0, bounds.1) in
    let second : b ≡ 128 + unit / 64 % 64 = omega (arith, middle.0, middle.1, last.0, last.1, bounds.0, bounds.1) in
    let third : c ≡ 128 + unit % 64 = omega (arith, middle.0, middle.1, last.0, last.1, bounds.0, bounds.1) in
    (unit, omega (arith, middle.0, middle.1, last.0, last.1, bounds.0, bounds.1), triple unit a b c bounds.2 first second third)

-- ---- the test finds texts alone

-- a unit before a text
pub in_prefix : (unit : ℕ) (bytes : List ℕ) → unit < 2 ^ 16 → IsModifiedUtf8 bytes → IsModifiedUtf8 (unit_bytes unit ++ bytes)
in_prefix unit bytes small t = record {
  units = unit ∷ t.units;
  small = (small, t.small);
  encoded = ap (λ (x : List ℕ). unit_bytes unit ++ x) t.encoded ∙ sym (flat_map-cons unit_bytes unit t.units);
}

in_prefix_as : (unit : ℕ) (text bytes : List ℕ) → unit < 2 ^ 16 → unit_bytes unit ≡ text → IsModifiedUtf8 bytes → IsModifiedUtf8 (text ++ bytes)
in_prefix_as unit text bytes small e t = subst (λ (x : List ℕ). IsModifiedUtf8 (x ++ bytes)) e (in_prefix unit bytes small t)

no_unit : IsModifiedUtf8 []
no_unit = record { units = []; small = tt; encoded = refl }

pub text_takes : (bytes : List ℕ) → is_modified_utf8 bytes ≡ true → IsModifiedUtf8 bytes
unfolding is_modified_utf8
text_takes [] e = no_unit
text_takes (a ∷ []) e =
    let s = single_says a e in
    in_prefix_as a (a ∷ []) [] (omega (arith, s.1)) (single a s.0 s.1) no_unit
text_takes (a ∷ b ∷ []) e =
    elim (cases_Bool (is_single a)) [
      | inl t ↦
          let s = single_says a t in
          in_prefix_as a (a ∷ []) (b ∷ []) (omega (arith, s.1)) (single a s.0 s.1) (text_takes (b ∷ []) (rw t at e))
      | inr f ↦
          let u = double_unit a b (rw f at e) in
          in_prefix_as u.0 (a ∷ b ∷ []) [] u.1 u.2 no_unit
    ]
text_takes (a ∷ b ∷ c ∷ bytes) e =
    elim (cases_Bool (is_single a)) [
      | inl t ↦
          let s = single_says a t in
          in_prefix_as a (a ∷ []) (b ∷ c ∷ bytes) (omega (arith, s.1)) (single a s.0 s.1) (text_takes (b ∷ c ∷ bytes) (rw t at e))
      | inr f ↦
          elim (cases_Bool (is_double a b)) [
            | inl t ↦
                let u = double_unit a b t in
                in_prefix_as u.0 (a ∷ b ∷ []) (c ∷ bytes) u.1 u.2 (text_takes (c ∷ bytes) (rw (f, t) at e))
            | inr f2 ↦
                let p = and_parts (is_triple a b c) (is_modified_utf8 bytes) (rw (f, f2) at e) in
                let u = triple_unit a b c p.0 in
                in_prefix_as u.0 (a ∷ b ∷ c ∷ []) bytes u.1 u.2 (text_takes bytes p.1)
          ]
    ]

-- ---- the test finds each text

after_single : (a : ℕ) (bytes : List ℕ) → is_single a ≡ true → after_unit (a ∷ bytes) ≡ Some bytes
unfolding after_unit
after_single a [] e = rw e refl
after_single a (b ∷ []) e = rw e refl
after_single a (b ∷ c ∷ bytes) e = rw e refl

after_double : (a b : ℕ) (bytes : List ℕ) → is_single a ≡ false → is_double a b ≡ true → after_unit (a ∷ b ∷ bytes) ≡ Some bytes
unfolding after_unit
after_double a b [] e h = rw (e, h) refl
after_double a b (c ∷ bytes) e h = rw (e, h) refl

after_triple : (a b c : ℕ) (bytes : List ℕ) → is_single a ≡ false → is_double a b ≡ false → is_triple a b c ≡ true → after_unit (a ∷ b ∷ c ∷ bytes) ≡ Some bytes
unfolding after_unit
after_triple a b c bytes e h k = rw (e, h, k) refl

-- the tests at bytes of a known size
single_not : (a : ℕ) → 128 ≤ a → is_single a ≡ false
single_not a large = and_right (ltb 0 a) (ltb a 128) (le-ltb a 128 large)

is_last_at : (b : ℕ) → 128 ≤ b → b < 192 → is_last b ≡ true
is_last_at b low high = and_from (leb 128 b) (ltb b 192) (le-leb 128 b low) (lt-ltb b 192 high)

double_at : (a b : ℕ) → 194 ≤ a → a < 224 → is_last b ≡ true → is_double a b ≡ true
double_at a b low high last =
    or_right (eqb a 192 && eqb b 128) ((leb 194 a && ltb a 224) && is_last b) (and_from (leb 194 a && ltb a 224) (is_last b) (and_from (leb 194 a) (ltb a 224) (le-leb 194 a low) (lt-ltb a 224 high)) last)

double_not : (a b : ℕ) → 224 ≤ a → is_double a b ≡ false
double_not a b high =
    or_from (eqb a 192 && eqb b 128) ((leb 194 a && ltb a 224) && is_last b) (and_left (eqb a 192) (eqb b 128) (ne_eqb a 192 (λ e. omega arith)))
    (and_left (leb 194 a && ltb a 224) (is_last b) (and_right (leb 194 a) (ltb a 224) (le-ltb a 224 high)))

triple_at : (a b c : ℕ) → (a ≡ 224) × (160 ≤ b) ⊎ (224 < a) × (a < 240) → is_last b ≡ true → is_last c ≡ true → is_triple a b c ≡ true
triple_at a b c lead middle last =
    let prefix : ((eqb a 224 && leb 160 b) || (ltb 224 a && ltb a 240)) ≡ true =
    elim lead [
      | inl lowest ↦ or_left (eqb a 224 && leb 160 b) (ltb 224 a && ltb a 240) (and_from (eqb a 224) (leb 160 b) (eq-eqb a 224 lowest.0) (le-leb 160 b lowest.1))
      | inr other ↦ or_right (eqb a 224 && leb 160 b) (ltb 224 a && ltb a 240) (and_from (ltb 224 a) (ltb a 240) (lt-ltb 224 a other.0) (lt-ltb a 240 other.1))
    ] in
    and_from ((eqb a 224 && leb 160 b) || (ltb 224 a && ltb a 240)) (is_last b && is_last c) prefix (and_from (is_last b) (is_last c) middle last)

-- the unit at the prefix is found by its size
prefix_unit : (unit : ℕ) (bytes : List ℕ) → unit < 2 ^ 16 → after_unit (unit_bytes unit ++ bytes) ≡ Some bytes
prefix_unit unit bytes small =
    elim (cases_lt 0 unit) [
      | inr none ↦
          let e : unit ≡ 0 = omega arith in
          rw e (after_double 192 128 bytes refl refl)
      | inl some ↦
          elim (cases_lt unit 128) [
            | inl one ↦ rw (single unit some one) (after_single unit bytes (and_from (ltb 0 unit) (ltb unit 128) (lt-ltb 0 unit some) (lt-ltb unit 128 one)))
            | inr more ↦
                elim (cases_lt unit 2048) [
                  | inl two ↦
                      let a = 192 + unit / 64 in
                      let b = 128 + unit % 64 in
                      let last = is_last_at b (omega arith) (omega arith) in
                      rw (double unit a b more two refl refl) (after_double a b bytes (single_not a (omega arith)) (double_at a b (omega arith) (omega arith) last))
                  | inr three ↦
                      let a = 224 + unit / 4096 in
                      let b = 128 + unit / 64 % 64 in
                      let c = 128 + unit % 64 in
                      let middle = is_last_at b (omega arith) (omega arith) in
                      let last = is_last_at c (omega arith) (omega arith) in
                      let lead : (a ≡ 224) × (160 ≤ b) ⊎ (224 < a) × (a < 240) =
                      elim (cases_lt unit 4096) [
                        | inl low ↦ inl (omega arith, omega arith)
                        | inr high ↦ inr (omega arith, omega arith)
                      ] in
                      rw (triple unit a b c three refl refl refl) (after_triple a b c bytes (single_not a (omega arith)) (double_not a b (omega arith)) (triple_at a b c lead middle last))
                ]
          ]
    ]

unit_after : (unit : ℕ) (bytes : List ℕ) → unit < 2 ^ 16 → is_modified_utf8 (unit_bytes unit ++ bytes) ≡ is_modified_utf8 bytes
unit_after unit bytes small = (step (unit_bytes unit ++ bytes) bytes (prefix_unit unit bytes small)).0

units_again : (units : List ℕ) → AllByRecursion (λ unit. unit < 2 ^ 16) units → is_modified_utf8 (flat_map unit_bytes units) ≡ true
unfolding is_modified_utf8
units_again [] small = refl
units_again (unit ∷ units) small =
    ap is_modified_utf8 (flat_map-cons unit_bytes unit units) ∙ unit_after unit (flat_map unit_bytes units) small.0 ∙ units_again units small.1

pub text_again : (bytes : List ℕ) → IsModifiedUtf8 bytes → is_modified_utf8 bytes ≡ true
text_again bytes t = ap is_modified_utf8 t.encoded ∙ units_again t.units t.small
