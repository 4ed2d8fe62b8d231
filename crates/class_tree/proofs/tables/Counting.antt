-- How many numbers pass a test.
use Rattle.std.proofs.Common.{◌≡◌, ℕ, zero, suc, ◌+◌, ◌<◌, ◌≤◌, Bool, true, false, cond, inl, inr, refl, sym, ◌∙◌, ap, arith, add-one}
use Rattle.class_tree.specs.Ranks.{how_many}
use Rattle.class_tree.proofs.ancestors.Leading.{below}

one : Bool → ℕ
one test = cond test 1 0

counted : (f : ℕ → Bool) (n : ℕ) → how_many f (suc n) ≡ how_many f n + one (f n)
unfolding how_many one
counted f n = refl

none_at_zero : (f : ℕ → Bool) → how_many f zero ≡ 0
unfolding how_many
none_at_zero f = refl

pub counted_more : (f : ℕ → Bool) (n : ℕ) → how_many f (n + 1) ≡ how_many f n + cond (f n) 1 0
unfolding one
counted_more f n = ap (how_many f) (add-one n) ∙ counted f n

pub counted_none : (f : ℕ → Bool) → how_many f 0 ≡ 0
counted_none f = none_at_zero f

one_most : (a : Bool) → one a ≤ 1
unfolding one
one_most true = omega arith
one_most false = omega arith

one_grows : (a b : Bool) → (a ≡ true → b ≡ true) → one a ≤ one b
unfolding one
one_grows false b h = omega arith
one_grows true true h = omega arith
one_grows true false h = cc (h refl)

one_false : (a : Bool) → a ≡ false → one a ≡ 0
unfolding one
one_false a e = ap (λ b. cond b 1 0) e

one_true : (a : Bool) → a ≡ true → one a ≡ 1
unfolding one
one_true a e = ap (λ b. cond b 1 0) e

-- where one test passes whenever the other does, it passes at least as often
grows : (f g : ℕ → Bool) (n : ℕ) → ((k : ℕ) → k < n → f k ≡ true → g k ≡ true) → how_many f n ≤ how_many g n
grows f g zero h = omega (arith, none_at_zero f, none_at_zero g)
grows f g (suc n) h =
    omega (arith, counted f n, counted g n, grows f g n (λ k lt. h k (omega (arith, lt))), one_grows (f n) (g n) (h n (omega arith)))

-- and more often, where it alone passes somewhere
pub grows_more : (f g : ℕ → Bool) (n s : ℕ) → s < n → ((k : ℕ) → k < n → f k ≡ true → g k ≡ true) → f s ≡ false → g s ≡ true → how_many f n < how_many g n
grows_more f g zero s lt h fails passes = absurd (omega (arith, lt))
grows_more f g (suc n) s lt h fails passes =
    let one_more = one_grows (f n) (g n) (h n (omega arith)) in
    elim (below n s lt) [
      | inl fewer ↦ omega (arith, counted f n, counted g n, one_more, grows_more f g n s fewer (λ k less. h k (omega (arith, less))) fails passes)
      | inr is ↦ omega (arith, counted f n, counted g n, grows f g n (λ k less. h k (omega (arith, less))), one_false (f n) (ap f (sym is) ∙ fails), one_true (g n) (ap g (sym is) ∙ passes))
    ]

pub at_most : (f : ℕ → Bool) (n : ℕ) → how_many f n ≤ n
at_most f zero = omega (arith, none_at_zero f)
at_most f (suc n) = omega (arith, counted f n, at_most f n, one_most (f n))

-- not all pass
pub not_all : (f : ℕ → Bool) (n s : ℕ) → s < n → f s ≡ false → how_many f n < n
not_all f zero s lt fails = absurd (omega (arith, lt))
not_all f (suc n) s lt fails =
    elim (below n s lt) [
      | inl fewer ↦ omega (arith, counted f n, one_most (f n), not_all f n s fewer fails)
      | inr is ↦ omega (arith, counted f n, at_most f n, one_false (f n) (ap f (sym is) ∙ fails))
    ]
