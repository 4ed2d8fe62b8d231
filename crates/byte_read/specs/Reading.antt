-- Reading as a function on lists: a part is a value and the bytes after it, or a refusal. Here is what all
-- parts are made of: numbers, slices and lists, for any refusals, of which one says that bytes are missed.
use Rattle.std.specs.Prelude.{◌≡◌, ℕ, zero, suc, nat_lt, if◌then◌else◌, List, [], ◌∷◌, ◌++◌, length, take, drop, Result, Ok, Err}
use Rattle.byteorder.specs.Endian.{big_number}

-- the value of a first step goes to the next
infixl 10 ◌>>=◌
abbrev pub ◌>>=◌ : {E A B : Type 0} → Result A E → (A → Result B E) → Result B E
(Ok x) >>= f = f x
(Err why) >>= f = Err why

-- what a function returned, seen by view, is what reading gives
abbrev pub Answers : {E X Y : Type 0} → (X → Y) → Result X E → Result Y E → Type 0
Answers view (Ok x) read = read ≡ Ok (view x)
Answers view (Err why) read = read ≡ Err why

-- ---- numbers and slices

-- a number in one byte
unfoldable pub u1_at : {E : Type 0} → E → List ℕ → Result (ℕ × List ℕ) E
u1_at missed [] = Err missed
u1_at missed (byte ∷ rest) = Ok (byte, rest)

-- a number in so many bytes, the most significant first
unfoldable pub number_at : {E : Type 0} → E → ℕ → List ℕ → Result (ℕ × List ℕ) E
number_at missed size bytes = if nat_lt (length bytes) size then Err missed else Ok (big_number size bytes, drop size bytes)

abbrev pub u2_at : {E : Type 0} → E → List ℕ → Result (ℕ × List ℕ) E
u2_at missed bytes = number_at missed 2 bytes

abbrev pub u4_at : {E : Type 0} → E → List ℕ → Result (ℕ × List ℕ) E
u4_at missed bytes = number_at missed 4 bytes

-- so many bytes
unfoldable pub slice_at : {E : Type 0} → E → ℕ → List ℕ → Result (List ℕ × List ℕ) E
slice_at missed size bytes = if nat_lt (length bytes) size then Err missed else Ok (take size bytes, drop size bytes)

-- ---- lists

-- so many steps, each of which goes on from what was read before it
unfoldable pub steps_at : {E A : Type 0} → (A → List ℕ → Result (A × List ℕ) E) → A → ℕ → List ℕ → Result (A × List ℕ) E
steps_at step before zero bytes = Ok (before, bytes)
steps_at step before (suc count) bytes = step before bytes >>= λ next. steps_at step next.0 count next.1

-- one more item after the earlier ones
abbrev pub one_more : {E A : Type 0} → (List A → List ℕ → Result (A × List ℕ) E) → List A → List ℕ → Result (List A × List ℕ) E
one_more item earlier bytes = item earlier bytes >>= λ next. Ok (earlier ++ next.0 ∷ [], next.1)
