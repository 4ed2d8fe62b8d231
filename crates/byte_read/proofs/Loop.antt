-- Steps one after the other, as a loop does them: what was read so far, and what the rest gives, is the whole.
use Rattle.std.proofs.Common.{◌≡◌, ℕ, suc, ◌-◌, ◌+◌, ◌≤◌, ◌<◌, List, [], ◌∷◌, ◌++◌, Result, Ok, refl, sym, ◌∙◌, arith}
use Rattle.byte_read.specs.Reading.{◌>>=◌, steps_at, one_more}
use Rattle.byte_read.proofs.Steps.{under}

module _ {E A : Type 0} (step : A → List ℕ → Result (A × List ℕ) E) (before : A) (count i : ℕ) (bytes : List ℕ) where
  -- the first of the steps that are left
  pub one_left : i < count → steps_at step before (count - i) bytes ≡ (step before bytes >>= λ next. steps_at step next.0 (count - (i + 1)) next.1)
  unfolding steps_at
  one_left lt =
      let k : count - i ≡ suc (count - (i + 1)) = omega arith in
      rw k refl

  pub goes_on : (next : A) (after : List ℕ) (total : Result (A × List ℕ) E) → i < count → step before bytes ≡ Ok (next, after) → steps_at step before (count - i) bytes ≡ total → steps_at step next (count - (i + 1)) after ≡ total
  goes_on next after total lt e so_far =
      let one : steps_at step before (count - i) bytes ≡ steps_at step next (count - (i + 1)) after = one_left lt ∙ rw e refl in
      sym one ∙ so_far

  pub is_done : (total : Result (A × List ℕ) E) → count ≤ i → steps_at step before (count - i) bytes ≡ total → total ≡ Ok (before, bytes)
  unfolding steps_at
  is_done total le so_far =
      let k : count - i ≡ 0 = omega arith in
      let one : steps_at step before (count - i) bytes ≡ Ok (before, bytes) = rw k refl in
      sym so_far ∙ one

-- ---- items

module _ {E A : Type 0} (item : List A → List ℕ → Result (A × List ℕ) E) (earlier : List A) where
  -- an item, and so many after it
  pub items_step : (room : ℕ) (bytes : List ℕ) → steps_at (one_more item) earlier (suc room) bytes ≡ (item earlier bytes >>= λ next. steps_at (one_more item) (earlier ++ next.0 ∷ []) room next.1)
  unfolding steps_at
  items_step room bytes = sym (under (item earlier bytes) _ _ _ (λ next. refl))

  pub item_goes_on : (count i : ℕ) (bytes : List ℕ) (next : A) (after : List ℕ) (total : Result (List A × List ℕ) E) → i < count
      → item earlier bytes ≡ Ok (next, after) → steps_at (one_more item) earlier (count - i) bytes ≡ total → steps_at (one_more item) (earlier ++ next ∷ []) (count - (i + 1)) after ≡ total
  item_goes_on count i bytes next after total lt e so_far =
      goes_on (one_more item) earlier count i bytes (earlier ++ next ∷ []) after total lt (rw e refl) so_far
