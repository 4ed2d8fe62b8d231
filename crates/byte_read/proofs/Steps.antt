-- What a step of reading took from the bytes, and what joins the steps.
use Rattle.std.proofs.Common.{◌≡◌, ◌⊎◌, ℕ, suc, ◌+◌, ◌^◌, ◌<◌, ◌≤◌, Bool, true, false, cond, ltb, List, [], ◌∷◌, ◌++◌, length, get_or, take, drop, Result, Ok, Err, refl, sym, ap, subst, ◌∙◌, append_assoc, arith, inl, inr}
use Rattle.std.specs.Int.{w16, w32, w64, from_be_bytes}
use Rattle.std.proofs.lemmas.Nat.{be_bytes_2, be_bytes_4, be_bytes_8}
use Rattle.std.proofs.lemmas.Bool.{cases_lt, ltb-false, ltb-true, lt-ltb, le-ltb}
use Rattle.std.proofs.lemmas.List.{take_at, drop_at, take-append-drop, length-append, length-take, get_or-drop, get_or-take, get_or_past}
use Rattle.byteorder.specs.Endian.{big_bytes, big_number}
use Rattle.byteorder.specs.Numbers.{big_number-reads_back, big_from-take, big_from-lt}
use Rattle.byte_read.specs.Reading.{◌>>=◌, u1_at, number_at, slice_at}

-- ---- lists of bytes

abbrev pub u2 : ℕ → List ℕ
u2 n = big_bytes 2 n

abbrev pub u4 : ℕ → List ℕ
u4 n = big_bytes 4 n

abbrev pub u8 : ℕ → List ℕ
u8 n = big_bytes 8 n

-- each of the numbers is a byte
abbrev pub IsBytes : List ℕ → Type 0
IsBytes bytes = (i : ℕ) → get_or bytes i 0 < 256

pub IsBytes-drop : (n : ℕ) (bytes : List ℕ) → IsBytes bytes → IsBytes (drop n bytes)
IsBytes-drop n bytes h i = rw get_or-drop (h (n + i))

pub IsBytes-take : (n : ℕ) (bytes : List ℕ) → IsBytes bytes → IsBytes (take n bytes)
IsBytes-take n bytes h i =
    elim (cases_lt i n) [
      | inl lt ↦ rw (get_or-take n bytes i 0 lt) (h i)
      | inr le ↦ rw (get_or_past (take n bytes) i 0 (omega (arith, length-take n bytes))) (omega arith)
    ]

pub IsBytes-rest : (b : ℕ) (bytes : List ℕ) → IsBytes (b ∷ bytes) → IsBytes bytes
IsBytes-rest b bytes h i = h (suc i)

pub IsBytes-prefix : (text rest : List ℕ) → IsBytes (text ++ rest) → IsBytes text
IsBytes-prefix text rest h = subst IsBytes (take_at text rest (length text) refl) (IsBytes-take (length text) (text ++ rest) h)

pub IsBytes-after : (text rest : List ℕ) → IsBytes (text ++ rest) → IsBytes rest
IsBytes-after text rest h = subst IsBytes (drop_at text rest (length text) refl) (IsBytes-drop (length text) (text ++ rest) h)

-- ---- steps

-- what follows from the value of a step that did not fail
pub bind_then : {E A B C : Type 0} (r : Result A E) (f : A → Result B E) (y : B) → (r >>= f) ≡ Ok y → ((x : A) → r ≡ Ok x → f x ≡ Ok y → C) → C
bind_then (Ok x) f y e go = go x refl e
bind_then (Err d) f y e go = absurd cc

abbrev pub done : {E A : Type 0} → A → Result A E
done x = Ok x

abbrev pub failed : {E A : Type 0} → E → Result A E
failed why = Err why

pub ok_is : {E A : Type 0} (x y : A) → done {E = E} x ≡ done y → x ≡ y
ok_is x y e = cc

pub no_failure : {E A : Type 0} (x : A) (why : E) → done x ≡ Err why → ⊥
no_failure x why e = cc

pub same_why : {E A : Type 0} (d why : E) → failed {A = A} d ≡ Err why → d ≡ why
same_why d why e = cc

-- two steps fail where the first or the second does
pub bind_fails : {E A B : Type 0} (r : Result A E) (f : A → Result B E) (why : E) → (r >>= f) ≡ Err why → (r ≡ Err why) ⊎ ((x : A) × (r ≡ Ok x) × (f x ≡ Err why))
bind_fails (Ok x) f why e = inr (x, refl, e)
bind_fails {E = E} {A = A} {B = B} (Err d) f why e = inl (ap (λ (w : E). failed {A = A} w) (same_why {A = B} d why e))

-- what follows from either
pub bind_fails_then : {E A B C : Type 0} (r : Result A E) (f : A → Result B E) (why : E) → (r >>= f) ≡ Err why → (r ≡ Err why → C) → ((x : A) → r ≡ Ok x → f x ≡ Err why → C) → C
bind_fails_then r f why e first then =
    elim (bind_fails r f why e) [
      | inl at_why ↦ first at_why
      | inr (x, at_x, e_why) ↦ then x at_x e_why
    ]

-- the value of a first step goes to the next, and its failure is that of both
pub then_ok : {E A B : Type 0} {r : Result A E} {x : A} (f : A → Result B E) (y : Result B E) → r ≡ Ok x → f x ≡ y → (r >>= f) ≡ y
then_ok f y e h = rw e h

pub then_err : {E A B : Type 0} {r : Result A E} {why : E} (f : A → Result B E) → r ≡ Err why → (r >>= f) ≡ Err why
then_err f e = rw e refl

-- steps after a step may be grouped with it
pub under : {E A B C : Type 0} (r : Result A E) (f : A → Result C E) (g : A → Result B E) (h : B → Result C E) → ((x : A) → f x ≡ (g x >>= h)) → (r >>= f) ≡ ((r >>= g) >>= h)
under (Ok x) f g h e = e x
under (Err why) f g h e = refl

-- ---- tests

pub true_false : true ≡ false → ⊥
true_false e = cc

-- the two ways of a test
pub chosen : {A C : Type 0} (b : Bool) (x y z : A) → cond b x y ≡ z → (b ≡ true → x ≡ z → C) → (b ≡ false → y ≡ z → C) → C
chosen true x y z e holds fails = holds refl e
chosen false x y z e holds fails = fails refl e

-- a test that lets a value through
pub passes : {E A : Type 0} (b : Bool) (x y : A) (why : E) → cond b (done x) (Err why) ≡ Ok y → (b ≡ true) × (x ≡ y)
passes {E = E} true x y why e = (refl, ok_is {E = E} x y e)
passes false x y why e = absurd (no_failure y why (sym e))

-- a test that refuses for this reason alone
pub stops : {E A : Type 0} (b : Bool) (x : A) (d why : E) → cond b (done x) (Err d) ≡ Err why → (b ≡ false) × (d ≡ why)
stops true x d why e = absurd (no_failure x why e)
stops {A = A} false x d why e = (refl, same_why {A = A} d why e)

-- which branch a test of room chose
pub roomy : {E A : Type 0} (b : Bool) (x y : A) (missed : E) → cond b (Err missed) (done x) ≡ Ok y → (b ≡ false) × (x ≡ y)
roomy true x y missed e = absurd (no_failure y missed (sym e))
roomy {E = E} false x y missed e = (refl, ok_is {E = E} x y e)

pub cramped : {E A : Type 0} (b : Bool) (x : A) (missed why : E) → cond b (Err missed) (done x) ≡ Err why → (b ≡ true) × (missed ≡ why)
cramped {A = A} true x missed why e = (refl, same_why {A = A} missed why e)
cramped false x missed why e = absurd (no_failure x why e)

-- ---- pairs

abbrev pub pair : {A B : Type 0} → A → B → A × B
pair a b = (a, b)

pub both : {A B : Type 0} {a a' : A} {b b' : B} → a ≡ a' → b ≡ b' → pair a b ≡ pair a' b'
both e h = cc

-- ---- what is taken from the prefix

pub record Takes (bytes text rest : List ℕ) : Type 0 where
  pub parts : bytes ≡ text ++ rest
  pub rest_fits : IsBytes rest

pub joined : {a x b y c : List ℕ} → Takes a x b → Takes b y c → Takes a (x ++ y) c
joined {a} {x} {b} {y} {c} p q = record { parts = p.parts ∙ ap (λ (t : List ℕ). x ++ t) q.parts ∙ sym (append_assoc x y c); rest_fits = q.rest_fits }

-- the bytes of the number at the prefix are those that are there
pub back_2 : (bytes : List ℕ) → 2 ≤ length bytes → IsBytes bytes → u2 (big_number 2 bytes) ≡ take 2 bytes
back_2 bytes long fits =
    let same : big_number 2 (take 2 bytes) ≡ from_be_bytes w16 (take 2 bytes) = omega arith in
    be_bytes_2 (take 2 bytes) (big_number 2 bytes) (omega (arith, length-take 2 bytes)) (IsBytes-take 2 bytes fits) (sym (big_from-take 0 2 2 bytes (omega arith)) ∙ same)

pub back_4 : (bytes : List ℕ) → 4 ≤ length bytes → IsBytes bytes → u4 (big_number 4 bytes) ≡ take 4 bytes
back_4 bytes long fits =
    let same : big_number 4 (take 4 bytes) ≡ from_be_bytes w32 (take 4 bytes) = omega arith in
    be_bytes_4 (take 4 bytes) (big_number 4 bytes) (omega (arith, length-take 4 bytes)) (IsBytes-take 4 bytes fits) (sym (big_from-take 0 4 4 bytes (omega arith)) ∙ same)

pub back_8 : (bytes : List ℕ) → 8 ≤ length bytes → IsBytes bytes → u8 (big_number 8 bytes) ≡ take 8 bytes
back_8 bytes long fits =
    let same : big_number 8 (take 8 bytes) ≡ from_be_bytes w64 (take 8 bytes) = omega arith in
    be_bytes_8 (take 8 bytes) (big_number 8 bytes) (omega (arith, length-take 8 bytes)) (IsBytes-take 8 bytes fits) (sym (big_from-take 0 8 8 bytes (omega arith)) ∙ same)

-- ---- numbers and slices

module _ {E : Type 0} (missed : E) where
  pub u1_takes : (bytes : List ℕ) (x : ℕ × List ℕ) → IsBytes bytes → u1_at missed bytes ≡ Ok x → Takes bytes (x.0 ∷ []) x.1 × (x.0 < 2 ^ 8)
  unfolding u1_at
  u1_takes [] x fits e = absurd (no_failure x missed (sym e))
  u1_takes (byte ∷ rest) x fits e =
      subst (λ (y : ℕ × List ℕ). Takes (byte ∷ rest) (y.0 ∷ []) y.1 × (y.0 < 2 ^ 8)) (ok_is {E = E} (byte, rest) x e) (record { parts = refl; rest_fits = IsBytes-rest byte rest fits }, fits 0)

  pub u1_fails : (bytes : List ℕ) (why : E) → u1_at missed bytes ≡ Err why → (length bytes < 1) × (why ≡ missed)
  unfolding u1_at
  u1_fails [] why e = (omega arith, sym (same_why {A = ℕ × List ℕ} missed why e))
  u1_fails (byte ∷ rest) why e = absurd (no_failure (byte, rest) why e)

  pub u1_again : (n : ℕ) (rest : List ℕ) → u1_at missed (n ∷ rest) ≡ Ok (n, rest)
  unfolding u1_at
  u1_again n rest = refl

  number_takes : (size : ℕ) (bytes : List ℕ) (x : ℕ × List ℕ) → IsBytes bytes → (size ≤ length bytes → big_bytes size (big_number size bytes) ≡ take size bytes) → number_at missed size bytes ≡ Ok x → Takes bytes (big_bytes size x.0) x.1 × (x.0 < 256 ^ size)
  unfolding number_at
  number_takes size bytes x fits back e =
      let g = roomy (ltb (length bytes) size) (big_number size bytes, drop size bytes) x missed e in
      let long : size ≤ length bytes = ltb-false _ _ g.0 in
      let parts : bytes ≡ big_bytes size (big_number size bytes) ++ drop size bytes = sym (ap (λ (t : List ℕ). t ++ drop size bytes) (back long) ∙ take-append-drop size bytes) in
      subst (λ (y : ℕ × List ℕ). Takes bytes (big_bytes size y.0) y.1 × (y.0 < 256 ^ size)) g.1 (record { parts = parts; rest_fits = IsBytes-drop size bytes fits }, big_from-lt 0 size bytes fits)

  pub number_fails : (size : ℕ) (bytes : List ℕ) (why : E) → number_at missed size bytes ≡ Err why → (length bytes < size) × (why ≡ missed)
  unfolding number_at
  number_fails size bytes why e =
      let g = cramped (ltb (length bytes) size) (big_number size bytes, drop size bytes) missed why e in
      (ltb-true _ _ g.0, sym g.1)

  pub number_short : (size : ℕ) (bytes : List ℕ) → length bytes < size → number_at missed size bytes ≡ Err missed
  unfolding number_at
  number_short size bytes short = rw (lt-ltb _ _ short) refl

  pub number_long : (size : ℕ) (bytes : List ℕ) → size ≤ length bytes → number_at missed size bytes ≡ Ok (big_number size bytes, drop size bytes)
  unfolding number_at
  number_long size bytes long = rw (le-ltb _ _ long) refl

  number_again : (size n : ℕ) (rest : List ℕ) → length (big_bytes size n) ≡ size → n < 256 ^ size → number_at missed size (big_bytes size n ++ rest) ≡ Ok (n, rest)
  unfolding number_at
  number_again size n rest len lt =
      let long : ltb (length (big_bytes size n ++ rest)) size ≡ false = le-ltb _ _ (omega (arith, len, length-append (big_bytes size n) rest)) in
      let number : big_number size (big_bytes size n ++ rest) ≡ n = big_number-reads_back size n rest lt in
      let suffix : drop size (big_bytes size n ++ rest) ≡ rest = drop_at (big_bytes size n) rest size len in
      rw long (ap (λ (x : ℕ × List ℕ). Ok x) (both number suffix))

  pub u2_takes : (bytes : List ℕ) (x : ℕ × List ℕ) → IsBytes bytes → number_at missed 2 bytes ≡ Ok x → Takes bytes (u2 x.0) x.1 × (x.0 < 2 ^ 16)
  u2_takes bytes x fits e = number_takes 2 bytes x fits (λ long. back_2 bytes long fits) e

  pub u2_again : (n : ℕ) (rest : List ℕ) → n < 2 ^ 16 → number_at missed 2 (u2 n ++ rest) ≡ Ok (n, rest)
  u2_again n rest lt = number_again 2 n rest refl lt

  pub u4_takes : (bytes : List ℕ) (x : ℕ × List ℕ) → IsBytes bytes → number_at missed 4 bytes ≡ Ok x → Takes bytes (u4 x.0) x.1 × (x.0 < 2 ^ 32)
  u4_takes bytes x fits e = number_takes 4 bytes x fits (λ long. back_4 bytes long fits) e

  pub u4_again : (n : ℕ) (rest : List ℕ) → n < 2 ^ 32 → number_at missed 4 (u4 n ++ rest) ≡ Ok (n, rest)
  u4_again n rest lt = number_again 4 n rest refl lt

  pub slice_takes : (size : ℕ) (bytes : List ℕ) (x : List ℕ × List ℕ) → IsBytes bytes → slice_at missed size bytes ≡ Ok x → Takes bytes x.0 x.1 × (length x.0 ≡ size) × IsBytes x.0
  unfolding slice_at
  slice_takes size bytes x fits e =
      let g = roomy (ltb (length bytes) size) (take size bytes, drop size bytes) x missed e in
      let long : size ≤ length bytes = ltb-false _ _ g.0 in
      let len : length (take size bytes) ≡ size = omega (arith, length-take size bytes) in
      subst (λ (y : List ℕ × List ℕ). Takes bytes y.0 y.1 × (length y.0 ≡ size) × IsBytes y.0) g.1 (record { parts = sym (take-append-drop size bytes); rest_fits = IsBytes-drop size bytes fits }, len, IsBytes-take size bytes fits)

  pub slice_fails : (size : ℕ) (bytes : List ℕ) (why : E) → slice_at missed size bytes ≡ Err why → (length bytes < size) × (why ≡ missed)
  unfolding slice_at
  slice_fails size bytes why e =
      let g = cramped (ltb (length bytes) size) (take size bytes, drop size bytes) missed why e in
      (ltb-true _ _ g.0, sym g.1)

  pub slice_short : (size : ℕ) (bytes : List ℕ) → length bytes < size → slice_at missed size bytes ≡ Err missed
  unfolding slice_at
  slice_short size bytes short = rw (lt-ltb _ _ short) refl

  pub slice_again : (text rest : List ℕ) (size : ℕ) → length text ≡ size → slice_at missed size (text ++ rest) ≡ Ok (text, rest)
  unfolding slice_at
  slice_again text rest size len =
      let long : ltb (length (text ++ rest)) size ≡ false = le-ltb _ _ (omega (arith, length-append text rest)) in
      rw (long, take_at text rest size len, drop_at text rest size len) refl

  pub slice_length : (size : ℕ) (bytes : List ℕ) (x : List ℕ × List ℕ) → slice_at missed size bytes ≡ Ok x → length x.0 ≡ size
  unfolding slice_at
  slice_length size bytes x e =
      let g = roomy (ltb (length bytes) size) (take size bytes, drop size bytes) x missed e in
      let long : size ≤ length bytes = ltb-false _ _ g.0 in
      ap (λ (y : List ℕ × List ℕ). length y.0) (sym g.1) ∙ length-take size bytes ∙ omega (arith, long)
