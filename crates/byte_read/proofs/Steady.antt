-- Readers that go by the prefix: what they say of some bytes holds whatever follows these, unless they
-- missed bytes.
use Rattle.std.proofs.Common.{◌≡◌, ◌⊎◌, ℕ, zero, suc, ◌≤◌, Bool, true, false, cond, ltb, List, [], ◌∷◌, ◌++◌, length, take, drop, Result, Ok, Err, refl, arith, inl, inr, length-append}
use Rattle.std.proofs.lemmas.Bool.{ltb-false, le-ltb}
use Rattle.std.proofs.lemmas.List.{take-append-le, drop-append-le}
use Rattle.byteorder.specs.Endian.{big_number}
use Rattle.byteorder.specs.Numbers.{big_from-append}
use Rattle.byte_read.specs.Reading.{◌>>=◌, u1_at, number_at, slice_at, steps_at, one_more}

-- the second answer is the first one with these bytes more after it, unless the first one missed bytes
abbrev pub Persists : {E A : Type 0} → E → List ℕ → Result (A × List ℕ) E → Result (A × List ℕ) E → Type 0
Persists missed more (Ok x) longer = longer ≡ Ok (x.0, x.1 ++ more)
Persists missed more (Err why) longer = (why ≡ missed) ⊎ (longer ≡ Err why)

-- bytes more after the others change no answer of the reader, unless it missed bytes
pub record IsSteady {E A : Type 0} (missed : E) (read : List ℕ → Result (A × List ℕ) E) : Type 0 where
  pub persists : (bytes more : List ℕ) → Persists missed more (read bytes) (read (bytes ++ more))

-- a value that takes no bytes
pub done : {E A : Type 0} {missed : E} (value : A) → IsSteady missed (λ bytes. Ok (value, bytes))
done value = record { persists = λ bytes more. refl }

-- a refusal that looks at no bytes
pub failing : {E A : Type 0} {missed : E} (why : E) → IsSteady {A = A} missed (λ bytes. Err why)
failing why = record { persists = λ bytes more. inr refl }

-- one of two readers
pub either : {E A : Type 0} {missed : E} {read other : List ℕ → Result (A × List ℕ) E} (b : Bool) → IsSteady missed read → IsSteady missed other → IsSteady missed (λ bytes. cond b (read bytes) (other bytes))
either true one another = one
either false one another = another

holds_then : {E A B : Type 0} (missed : E) (more : List ℕ) (r longer : Result (A × List ℕ) E) (next : A → List ℕ → Result (B × List ℕ) E)
    → Persists missed more r longer → ((a : A) → IsSteady missed (next a)) → Persists missed more (r >>= λ y. next y.0 y.1) (longer >>= λ y. next y.0 y.1)
holds_then missed more (Ok x) longer next h others = rw h ((others x.0).persists x.1 more)
holds_then missed more (Err why) longer next (inl e) others = inl e
holds_then missed more (Err why) longer next (inr e) others = inr (rw e refl)

-- one reader after another
pub first : {E A B : Type 0} {missed : E} {read : List ℕ → Result (A × List ℕ) E} {next : A → List ℕ → Result (B × List ℕ) E}
    → IsSteady missed read → ((a : A) → IsSteady missed (next a)) → IsSteady missed (λ bytes. read bytes >>= λ y. next y.0 y.1)
first {missed = missed} {read = read} {next = next} one others =
    record { persists = λ bytes more. holds_then missed more (read bytes) (read (bytes ++ more)) next (one.persists bytes more) others }

-- another value of the same part
pub last : {E A B : Type 0} {missed : E} {read : List ℕ → Result (A × List ℕ) E} → IsSteady missed read → (view : A → B) → IsSteady missed (λ bytes. read bytes >>= λ y. Ok (view y.0, y.1))
last one view = first one (λ a. done (view a))

-- a test of the value
pub tested : {E A : Type 0} {missed : E} {read : List ℕ → Result (A × List ℕ) E} → IsSteady missed read → (test : A → Bool) (why : E) → IsSteady missed (λ bytes. read bytes >>= λ y. cond (test y.0) (Ok y) (Err why))
tested one test why = first one (λ a. either (test a) (done a) (failing why))

-- a step that looks at no bytes, and a reader after it
pub settled : {E A B : Type 0} {missed : E} {next : A → List ℕ → Result (B × List ℕ) E} (r : Result A E) → ((a : A) → IsSteady missed (next a)) → IsSteady missed (λ bytes. r >>= λ a. next a bytes)
settled (Ok a) others = others a
settled (Err why) others = failing why

-- a reader that does the same
pub alike : {E A : Type 0} {missed : E} {read other : List ℕ → Result (A × List ℕ) E} → IsSteady missed read → ((bytes : List ℕ) → other bytes ≡ read bytes) → IsSteady missed other
alike one same = record { persists = λ bytes more. rw (same bytes, same (bytes ++ more)) (one.persists bytes more) }

-- ---- numbers, slices and lists

sized_holds : {E A : Type 0} (missed : E) (size : ℕ) (value : List ℕ → A) → ((bytes more : List ℕ) → size ≤ length bytes → value (bytes ++ more) ≡ value bytes) → (bytes more : List ℕ) (short : Bool) → ltb (length bytes) size ≡ short
    → Persists missed more (cond short (Err missed) (Ok (value bytes, drop size bytes))) (cond (ltb (length (bytes ++ more)) size) (Err missed) (Ok (value (bytes ++ more), drop size (bytes ++ more))))
sized_holds missed size value same bytes more true e = inl refl
sized_holds missed size value same bytes more false e =
    let long : size ≤ length bytes = ltb-false _ _ e in
    let still : ltb (length (bytes ++ more)) size ≡ false = le-ltb _ _ (omega (arith, long, length-append bytes more)) in
    rw (still, same bytes more long, drop-append-le size bytes more long) refl

-- a value of so many bytes
pub sized : {E A : Type 0} {missed : E} (size : ℕ) (value : List ℕ → A) → ((bytes more : List ℕ) → size ≤ length bytes → value (bytes ++ more) ≡ value bytes) → IsSteady missed (λ bytes. cond (ltb (length bytes) size) (Err missed) (Ok (value bytes, drop size bytes)))
sized {missed = missed} size value same = record { persists = λ bytes more. sized_holds missed size value same bytes more (ltb (length bytes) size) refl }

u1_holds : {E : Type 0} (missed : E) (bytes more : List ℕ) → Persists missed more (u1_at missed bytes) (u1_at missed (bytes ++ more))
unfolding u1_at
u1_holds missed [] more = inl refl
u1_holds missed (byte ∷ rest) more = refl

pub u1_steady : {E : Type 0} {missed : E} → IsSteady missed (u1_at missed)
u1_steady {missed = missed} = record { persists = u1_holds missed }

pub number_steady : {E : Type 0} {missed : E} (size : ℕ) → IsSteady missed (number_at missed size)
unfolding number_at
number_steady size = sized size (λ bytes. big_number size bytes) (λ bytes more long. big_from-append size bytes more long)

pub slice_steady : {E : Type 0} {missed : E} (size : ℕ) → IsSteady missed (slice_at missed size)
unfolding slice_at
slice_steady size = sized size (λ bytes. take size bytes) (λ bytes more long. take-append-le size bytes more long)

-- so many steps
pub steps_steady : {E A : Type 0} {missed : E} {step : A → List ℕ → Result (A × List ℕ) E} → ((before : A) → IsSteady missed (step before)) → (before : A) (count : ℕ) → IsSteady missed (steps_at step before count)
unfolding steps_at
steps_steady one before zero = done before
steps_steady one before (suc count) = first (one before) (λ next. steps_steady one next count)

-- one more item after the earlier ones
pub one_more_steady : {E A : Type 0} {missed : E} {item : List A → List ℕ → Result (A × List ℕ) E} → ((earlier : List A) → IsSteady missed (item earlier)) → (earlier : List A) → IsSteady missed (one_more item earlier)
one_more_steady one earlier = last (one earlier) (λ a. earlier ++ a ∷ [])
