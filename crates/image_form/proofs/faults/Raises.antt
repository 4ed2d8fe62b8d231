-- What readers refuse for: a reader that is made of others refuses for what these do.
use Rattle.std.proofs.Common.{◌≡◌, ℕ, zero, suc, Bool, true, false, cond, List, [], ◌∷◌, ◌++◌, Result, Ok, Err, refl, sym, subst, ◌∙◌}
use Rattle.byte_read.specs.Reading.{◌>>=◌, steps_at}
use Rattle.byte_read.proofs.Steps.{bind_fails_then, no_failure, same_why, u1_fails, number_fails, slice_fails}
use Rattle.image_form.specs.declared.refusal.FormRefusal.{FormRefusal}
use Rattle.image_form.specs.declared.refusal.FormRefusal.TheVariants.{Truncated}
use Rattle.image_form.specs.Reading.{u1_at, u2_at, slice_at, items_at}

-- each refusal of the reader is one of these
pub record Raises {A : Type 0} (P : FormRefusal → Type 0) (read : List ℕ → Result (A × List ℕ) FormRefusal) : Type 0 where
  pub fails : (bytes : List ℕ) (why : FormRefusal) → read bytes ≡ Err why → P why

module _ {P : FormRefusal → Type 0} where
  pub done : {A : Type 0} (value : A) → Raises P (λ bytes. Ok (value, bytes))
  done value = record { fails = λ bytes why e. absurd (no_failure (value, bytes) why e) }

  pub failing : {A : Type 0} (d : FormRefusal) → P d → Raises {A = A} P (λ bytes. Err d)
  failing {A = A} d is = record { fails = λ bytes why e. subst P (same_why {A = A × List ℕ} d why e) is }

  pub either : {A : Type 0} {read other : List ℕ → Result (A × List ℕ) FormRefusal} (b : Bool) → Raises P read → Raises P other → Raises P (λ bytes. cond b (read bytes) (other bytes))
  either true one another = one
  either false one another = another

  pub first : {A B : Type 0} {read : List ℕ → Result (A × List ℕ) FormRefusal} {next : A → List ℕ → Result (B × List ℕ) FormRefusal} → Raises P read → ((a : A) → Raises P (next a)) → Raises P (λ bytes. read bytes >>= λ y. next y.0 y.1)
  first {read = read} {next = next} one others =
      record { fails = λ bytes why e. bind_fails_then (read bytes) (λ y. next y.0 y.1) why e (λ at_why. one.fails bytes why at_why) (λ y at_y e_why. (others y.0).fails y.1 why e_why) }

  -- another value of the same part
  pub last : {A B : Type 0} {read : List ℕ → Result (A × List ℕ) FormRefusal} → Raises P read → (view : A → B) → Raises P (λ bytes. read bytes >>= λ y. Ok (view y.0, y.1))
  last one view = first one (λ a. done (view a))

  -- a test of the value
  pub tested : {A : Type 0} {read : List ℕ → Result (A × List ℕ) FormRefusal} → Raises P read → (test : A → Bool) (d : FormRefusal) → P d → Raises P (λ bytes. read bytes >>= λ y. cond (test y.0) (Ok y) (Err d))
  tested one test d is = first one (λ a. either (test a) (done a) (failing d is))

  -- a step that looks at no bytes, and a reader after it
  pub settled : {A B : Type 0} {next : A → List ℕ → Result (B × List ℕ) FormRefusal} (r : Result A FormRefusal) → ((why : FormRefusal) → r ≡ Err why → P why) → ((a : A) → Raises P (next a)) → Raises P (λ bytes. r >>= λ a. next a bytes)
  settled (Ok a) faults others = others a
  settled (Err d) faults others = failing d (faults d refl)

  -- a reader that does the same
  pub alike : {A : Type 0} {read other : List ℕ → Result (A × List ℕ) FormRefusal} → Raises P read → ((bytes : List ℕ) → other bytes ≡ read bytes) → Raises P other
  alike one same = record { fails = λ bytes why e. one.fails bytes why (sym (same bytes) ∙ e) }

  -- so many steps
  pub steps_raise : {A : Type 0} {step : A → List ℕ → Result (A × List ℕ) FormRefusal} → ((before : A) → Raises P (step before)) → (before : A) (count : ℕ) → Raises P (steps_at step before count)
  unfolding steps_at
  steps_raise one before zero = done before
  steps_raise one before (suc count) = first (one before) (λ next. steps_raise one next count)

module _ {P : FormRefusal → Type 0} (cut : P Truncated) where
  pub u1_raises : Raises P u1_at
  u1_raises = record { fails = λ bytes why e. subst P (sym (u1_fails Truncated bytes why e).1) cut }

  pub u2_raises : Raises P u2_at
  u2_raises = record { fails = λ bytes why e. subst P (sym (number_fails Truncated 2 bytes why e).1) cut }

  pub slice_raises : (size : ℕ) → Raises P (slice_at size)
  slice_raises size = record { fails = λ bytes why e. subst P (sym (slice_fails Truncated size bytes why e).1) cut }

-- so many items
pub items_raise : {P : FormRefusal → Type 0} {A : Type 0} {item_at : List A → List ℕ → Result (A × List ℕ) FormRefusal} → ((before : List A) → Raises P (item_at before)) → (room : ℕ) (before : List A) → Raises P (items_at item_at room before)
items_raise one room before = steps_raise (λ earlier. last (one earlier) (λ a. earlier ++ a ∷ [])) before room
