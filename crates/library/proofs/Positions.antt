-- The first position of a list at which a test passes.
use Rattle.std.proofs.Common.{◌≡◌, ℕ, ◌<◌, ◌+◌, Bool, true, false, nat_lt, cond, List, length, get_or, Option, Some, None, position, ◌∙◌, ap, arith, inl, inr}
use Rattle.std.proofs.lemmas.Bool.{lt-ltb, le-ltb, cases_lt}
use Rattle.std.proofs.lemmas.List.{get_or_default}
use Rattle.std.proofs.lemmas.List.Sums.{position_or_len_is}

module _ {X : Type 0} (p : X → Bool) (xs : List X) (d : X) where
  -- the position that is found where the test first passes at n
  found : ℕ → Option ℕ
  found n = cond (nat_lt n (length xs)) (Some n) None

  pub position_here : (i : ℕ) → i < length xs → ((k : ℕ) → k < i → p (get_or xs k d) ≡ false) → p (get_or xs i d) ≡ true → position p xs ≡ Some i
  unfolding found
  position_here i lt none here =
      ap found (position_or_len_is p xs i d (omega (arith, lt)) none (λ _. here)) ∙ ap (λ b. cond b (Some i) None) (lt-ltb i (length xs) lt)

  pub position_absent : ((k : ℕ) → k < length xs → p (get_or xs k d) ≡ false) → position p xs ≡ None
  unfolding found
  position_absent none =
      ap found (position_or_len_is p xs (length xs) d (omega arith) none (λ lt. absurd (omega (arith, lt))))
      ∙ ap (λ b. cond b (Some (length xs)) None) (le-ltb (length xs) (length xs) (omega arith))

  -- the test fails up to a position, and there
  pub fails_more : (e : X) (n : ℕ) → n < length xs → ((k : ℕ) → k < n → p (get_or xs k d) ≡ false) → p (get_or xs n e) ≡ false → (k : ℕ) → k < n + 1 → p (get_or xs k d) ≡ false
  fails_more e n within earlier here k lt =
      elim (cases_lt k n) [
        | inl less ↦ earlier k less
        | inr more ↦ ap (λ j. p (get_or xs j d)) (omega (arith, lt, more)) ∙ ap p (get_or_default xs n d e within) ∙ here
      ]
