-- A refusal in one of the steps that a loop does.
use Rattle.std.proofs.Common.{◌≡◌, ℕ, ◌-◌, ◌+◌, ◌<◌, List, [], ◌∷◌, ◌++◌, Result, Ok, Err, refl, sym, subst, ◌∙◌}
use Rattle.class_file.specs.declared.refusal.ReadRefusal.{ReadRefusal}
use Rattle.class_file.specs.declared.refusal.ReadRefusal.TheVariants.{NotClass, Version, Truncated, TrailingBytes, BadPool, BadShape, BadDescriptor, TooLarge, Memory}
use Rattle.byte_read.specs.Reading.{◌>>=◌, steps_at, one_more}
use Rattle.byte_read.proofs.Loop.{one_left}
use Rattle.class_file.specs.Reading.{Gives}

-- a refusal of a first step is that of the whole
pub passed : {A B : Type 0} (why : ReadRefusal) (read : Result A ReadRefusal) (f : A → Result B ReadRefusal) → Gives (λ x. x) (Err why) read → Gives (λ x. x) (Err why) (read >>= f)
passed Memory read f e = tt
passed NotClass read f e = rw e refl
passed (Version major) read f e = rw e refl
passed Truncated read f e = rw e refl
passed (TrailingBytes count) read f e = rw e refl
passed (BadPool index) read f e = rw e refl
passed BadShape read f e = rw e refl
passed (BadDescriptor index) read f e = rw e refl
passed (TooLarge size) read f e = rw e refl

-- ---- steps

pub ends : {A : Type 0} (why : ReadRefusal) (step : A → List ℕ → Result (A × List ℕ) ReadRefusal) (before : A) (count i : ℕ) (bytes : List ℕ) (total : Result (A × List ℕ) ReadRefusal) → i < count
    → Gives (λ x. x) (Err why) (step before bytes) → steps_at step before (count - i) bytes ≡ total → Gives (λ x. x) (Err why) total
ends why step before count i bytes total lt given so_far =
    subst (Gives (λ x. x) (Err why)) (sym (one_left step before count i bytes lt) ∙ so_far) (passed why (step before bytes) (λ next. steps_at step next.0 (count - (i + 1)) next.1) given)

-- ---- items

pub item_ends : {A : Type 0} (why : ReadRefusal) (item : List A → List ℕ → Result (A × List ℕ) ReadRefusal) (earlier : List A) (count i : ℕ) (bytes : List ℕ) (total : Result (List A × List ℕ) ReadRefusal) → i < count
    → Gives (λ x. x) (Err why) (item earlier bytes) → steps_at (one_more item) earlier (count - i) bytes ≡ total → Gives (λ x. x) (Err why) total
item_ends why item earlier count i bytes total lt given so_far =
    ends why (one_more item) earlier count i bytes total lt (passed why (item earlier bytes) (λ next. Ok (earlier ++ next.0 ∷ [], next.1)) given) so_far
