-- What readers refuse for: a reader that is made of others refuses for what these do.
use Rattle.std.proofs.Common.{◌≡◌, ℕ, zero, suc, Bool, true, false, cond, List, [], ◌∷◌, ◌++◌, Result, Ok, Err, refl, sym, subst, ◌∙◌}
use Rattle.byte_read.specs.Reading.{◌>>=◌, steps_at}
use Rattle.byte_read.proofs.Steps.{bind_fails_then, no_failure, same_why, number_fails, slice_fails}
use Rattle.class_file.specs.declared.refusal.ReadRefusal.{ReadRefusal}
use Rattle.class_file.specs.declared.refusal.ReadRefusal.TheVariants.{Truncated}
use Rattle.class_file.specs.Reading.{u2_at, u4_at, slice_at, counted_at, list_at}

-- each refusal of the reader is one of these
pub record Raises {A : Type 0} (P : ReadRefusal → Type 0) (read : List ℕ → Result (A × List ℕ) ReadRefusal) : Type 0 where
  pub fails : (bytes : List ℕ) (why : ReadRefusal) → read bytes ≡ Err why → P why

module _ {P : ReadRefusal → Type 0} where
  pub done : {A : Type 0} (value : A) → Raises P (λ bytes. Ok (value, bytes))
  done value = record { fails = λ bytes why e. absurd (no_failure (value, bytes) why e) }

  pub failing : {A : Type 0} (d : ReadRefusal) → P d → Raises {A = A} P (λ bytes. Err d)
  failing {A = A} d is = record { fails = λ bytes why e. subst P (same_why {A = A × List ℕ} d why e) is }

  pub either : {A : Type 0} {read other : List ℕ → Result (A × List ℕ) ReadRefusal} (b : Bool) → Raises P read → Raises P other → Raises P (λ bytes. cond b (read bytes) (other bytes))
  either true one another = one
  either false one another = another

  pub first : {A B : Type 0} {read : List ℕ → Result (A × List ℕ) ReadRefusal} {next : A → List ℕ → Result (B × List ℕ) ReadRefusal} → Raises P read → ((a : A) → Raises P (next a)) → Raises P (λ bytes. read bytes >>= λ y. next y.0 y.1)
  first {read = read} {next = next} one others =
      record { fails = λ bytes why e. bind_fails_then (read bytes) (λ y. next y.0 y.1) why e (λ at_why. one.fails bytes why at_why) (λ y at_y e_why. (others y.0).fails y.1 why e_why) }

  -- another value of the same part
  pub last : {A B : Type 0} {read : List ℕ → Result (A × List ℕ) ReadRefusal} → Raises P read → (view : A → B) → Raises P (λ bytes. read bytes >>= λ y. Ok (view y.0, y.1))
  last one view = first one (λ a. done (view a))

  -- a test of the value
  pub tested : {A : Type 0} {read : List ℕ → Result (A × List ℕ) ReadRefusal} → Raises P read → (test : A → Bool) (d : ReadRefusal) → P d → Raises P (λ bytes. read bytes >>= λ y. cond (test y.0) (Ok y) (Err d))
  tested one test d is = first one (λ a. either (test a) (done a) (failing d is))

  -- a step that looks at no bytes, and a reader after it
  pub settled : {A B : Type 0} {next : A → List ℕ → Result (B × List ℕ) ReadRefusal} (r : Result A ReadRefusal) → ((why : ReadRefusal) → r ≡ Err why → P why) → ((a : A) → Raises P (next a)) → Raises P (λ bytes. r >>= λ a. next a bytes)
  settled (Ok a) faults others = others a
  settled (Err d) faults others = failing d (faults d refl)

  -- a reader that does the same
  pub alike : {A : Type 0} {read other : List ℕ → Result (A × List ℕ) ReadRefusal} → Raises P read → ((bytes : List ℕ) → other bytes ≡ read bytes) → Raises P other
  alike one same = record { fails = λ bytes why e. one.fails bytes why (sym (same bytes) ∙ e) }

  -- so many steps
  pub steps_raise : {A : Type 0} {step : A → List ℕ → Result (A × List ℕ) ReadRefusal} → ((before : A) → Raises P (step before)) → (before : A) (count : ℕ) → Raises P (steps_at step before count)
  unfolding steps_at
  steps_raise one before zero = done before
  steps_raise one before (suc count) = first (one before) (λ next. steps_raise one next count)

module _ {P : ReadRefusal → Type 0} (cut : P Truncated) where
  pub u2_raises : Raises P u2_at
  u2_raises = record { fails = λ bytes why e. subst P (sym (number_fails Truncated 2 bytes why e).1) cut }

  pub u4_raises : Raises P u4_at
  u4_raises = record { fails = λ bytes why e. subst P (sym (number_fails Truncated 4 bytes why e).1) cut }

  pub slice_raises : (size : ℕ) → Raises P (slice_at size)
  slice_raises size = record { fails = λ bytes why e. subst P (sym (slice_fails Truncated size bytes why e).1) cut }

  pub counted_raises : {A : Type 0} {step : A → List ℕ → Result (A × List ℕ) ReadRefusal} → ((before : A) → Raises P (step before)) → (before : A) → Raises P (counted_at step before)
  unfolding counted_at
  counted_raises one before = first u2_raises (λ count. steps_raise one before count)

  pub list_raises : {A : Type 0} {item : List A → List ℕ → Result (A × List ℕ) ReadRefusal} → ((earlier : List A) → Raises P (item earlier)) → Raises P (list_at item)
  list_raises one = counted_raises (λ earlier. last (one earlier) (λ a. earlier ++ a ∷ [])) []
