-- The table of what leads where over all numbers is that of what leads where.
use Rattle.std.proofs.Common.{◌≡◌, ℕ, zero, suc, ◌+◌, ◌<◌, Bool, true, false, ◌||◌, ◌&&◌, ◌⊎◌, inl, inr, refl, sym, ◌∙◌, ap, subst, arith, add-one}
use Rattle.class_tree.specs.Closure.{Edges, StaysBelow, Leads, AtOnce, Over, Rows, at, IsSquare, IsClosure, leads_over, AreOver, IsRound}
use Rattle.std.proofs.lemmas.Bool.{cases_lt}

-- ---- truth values

pub or_cases : (a b : Bool) → (a || b) ≡ true → (a ≡ true) ⊎ (b ≡ true)
or_cases true b e = inl refl
or_cases false b e = inr e

pub or_left : (a b : Bool) → a ≡ true → (a || b) ≡ true
or_left a b e = ap (λ x. x || b) e

pub or_right : (a b : Bool) → b ≡ true → (a || b) ≡ true
or_right true b e = refl
or_right false b e = e

pub and_both : (a b : Bool) → a ≡ true → b ≡ true → (a && b) ≡ true
and_both a b e f = ap (λ x. x && b) e ∙ f

pub and_cases : (a b : Bool) → (a && b) ≡ true → (a ≡ true) × (b ≡ true)
and_cases true b e = (refl, e)
and_cases false b e = cc

-- ---- numbers

pub below : (k n : ℕ) → n < suc k → (n < k) ⊎ (n ≡ k)
below k n lt = elim (cases_lt n k) [ inl fewer ↦ inl fewer | inr more ↦ inr (omega (arith, lt, more)) ]

-- ---- what leads where

-- a round keeps the square
pub rounds_square : (count k : ℕ) (old new : Rows) → IsSquare count old → IsRound k old new → IsSquare count new
rounds_square count k old new o r =
    record {
      many = r.same_length ∙ o.many;
      long = λ from within. (r.steps from (subst (λ n. from < n) (sym o.many) within)).same_length ∙ o.long from within;
    }

module _ (edge : Edges) where
  abbrev over : ℕ → ℕ → ℕ → Type 0
  over k from to = leads_over edge k from to ≡ true

  pub over_zero : (from to : ℕ) → leads_over edge zero from to ≡ edge from to
  unfolding leads_over
  over_zero from to = refl

  pub over_suc : (k from to : ℕ) → leads_over edge (suc k) from to ≡ (leads_over edge k from to || (leads_over edge k from k && leads_over edge k k to))
  unfolding leads_over
  over_suc k from to = refl

  -- a way over k goes on, or is one to k and one from it
  splits : (k from to : ℕ) → over (suc k) from to → over k from to ⊎ (over k from k × over k k to)
  splits k from to e =
      elim (or_cases (leads_over edge k from to) (leads_over edge k from k && leads_over edge k k to) (sym (over_suc k from to) ∙ e)) [
        | inl left ↦ inl left
        | inr right ↦ inr (and_cases (leads_over edge k from k) (leads_over edge k k to) right)
      ]

  goes_on : (k from to : ℕ) → over k from to → over (suc k) from to
  goes_on k from to e = over_suc k from to ∙ or_left (leads_over edge k from to) (leads_over edge k from k && leads_over edge k k to) e

  joins : (k from to : ℕ) → over k from k → over k k to → over (suc k) from to
  joins k from to e f =
      over_suc k from to ∙ or_right (leads_over edge k from to) (leads_over edge k from k && leads_over edge k k to) (and_both (leads_over edge k from k) (leads_over edge k k to) e f)

  -- ways after one another
  pub follows : (from by to : ℕ) → Leads edge from by → Leads edge by to → Leads edge from to
  follows from by to (AtOnce e) q = Over by e q
  follows from by to (Over m e p) q = Over m e (follows m by to p q)

  -- a way over some numbers is a way
  pub sound : (k from to : ℕ) → over k from to → Leads edge from to
  sound zero from to e = AtOnce (sym (over_zero from to) ∙ e)
  sound (suc k) from to e =
      elim (splits k from to e) [
        | inl here ↦ sound k from to here
        | inr (first, second) ↦ follows from k to (sound k from k first) (sound k k to second)
      ]

  from_zero : (k from to : ℕ) → edge from to ≡ true → over k from to
  from_zero zero from to e = over_zero from to ∙ e
  from_zero (suc k) from to e = goes_on k from to (from_zero k from to e)

  -- to k itself, and from k itself, nothing more is met
  to_last : (k from : ℕ) → over (suc k) from k → over k from k
  to_last k from e = elim (splits k from k e) [ inl here ↦ here | inr (first, second) ↦ first ]

  from_last : (k to : ℕ) → over (suc k) k to → over k k to
  from_last k to e = elim (splits k k to e) [ inl here ↦ here | inr (first, second) ↦ second ]

  -- ways by a number below k, where two ways over fewer numbers join
  by_fewer : (k from by to : ℕ) → ((first last : ℕ) → over k first by → over k by last → over k first last)
      → over (suc k) from by → over (suc k) by to → over (suc k) from to
  by_fewer k from by to join e f =
      elim (splits k from by e) [
        | inl a ↦ elim (splits k by to f) [
          | inl b ↦ goes_on k from to (join from to a b)
          | inr (b, last) ↦ joins k from to (join from k a b) last
        ]
        | inr (first, a) ↦ elim (splits k by to f) [
          | inl b ↦ joins k from to first (join k to a b)
          | inr (b, last) ↦ joins k from to first last
        ]
      ]

  by_last : (k from by to : ℕ) → by ≡ k → over (suc k) from by → over (suc k) by to → over (suc k) from to
  by_last k from by to is e f =
      joins k from to (to_last k from (subst (λ n. over (suc k) from n) is e)) (from_last k to (subst (λ n. over (suc k) n to) is f))

  through : (k from by to : ℕ) → by < k → over k from by → over k by to → over k from to
  through zero from by to lt e f = absurd (omega (arith, lt))
  through (suc k) from by to lt e f =
      elim (below k by lt) [
        | inl fewer ↦ by_fewer k from by to (λ first last. through k first by last fewer) e f
        | inr is ↦ by_last k from by to is e f
      ]

  -- a way is one over all numbers, where all that is led to is among them
  pub complete : (count from to : ℕ) → StaysBelow count edge → Leads edge from to → over count from to
  complete count from to stays (AtOnce e) = from_zero count from to e
  complete count from to stays (Over by e p) =
      through count from by to (stays from by e) (from_zero count from by e) (complete count by to stays p)

  -- ---- the table

  -- one round more
  pub rounds : (count k : ℕ) (old new : Rows) → k < count → AreOver edge count k old → IsRound k old new → AreOver edge count (k + 1) new
  rounds count k old new lt o r =
      record {
        square = rounds_square count k old new o.square r;
        says = λ from to is_from is_to.
            let step = r.steps from (subst (λ n. from < n) (sym o.square.many) is_from) in
            step.says to
            ∙ ap (λ x. x || (at old from k && at old k to)) (o.says from to is_from is_to)
            ∙ ap (λ x. leads_over edge k from to || (x && at old k to)) (o.says from k is_from lt)
            ∙ ap (λ x. leads_over edge k from to || (leads_over edge k from k && x)) (o.says k to lt is_to)
            ∙ sym (over_suc k from to) ∙ ap (λ n. leads_over edge n from to) (sym (add-one k));
      }

  -- after all rounds the table says what leads where
  pub closed : (count : ℕ) (rows : Rows) → StaysBelow count edge → AreOver edge count count rows → IsClosure edge count rows
  closed count rows stays o =
      record {
        square = o.square;
        says = λ from to is_from is_to.
            (λ e. sound count from to (sym (o.says from to is_from is_to) ∙ e), λ p. o.says from to is_from is_to ∙ complete count from to stays p);
      }
