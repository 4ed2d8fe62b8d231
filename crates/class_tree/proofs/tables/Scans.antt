-- A scan of a list for the first refusal: how it is at each position.
use Rattle.std.proofs.Common.{◌≡◌, ℕ, zero, suc, arith, ◌+◌, ◌<◌, ◌≤◌, List, [], ◌∷◌, length, drop, take, ◌++◌, get_or, drop-cons, add-one, Option, Some, None, refl, sym, ap, ◌∙◌}
use Rattle.std.specs.Option.{option_or}
use Rattle.std.proofs.lemmas.List.{drop_all}
use Rattle.class_tree.specs.Scan.{first_refusal}

module _ {X R : Type 0} (test : ℕ → X → Option R) where
  finished : (position : ℕ) → first_refusal test position [] ≡ None
  unfolding first_refusal
  finished position = refl

  goes : (position : ℕ) (x : X) (xs : List X) → first_refusal test position (x ∷ xs) ≡ option_or (test position x) (first_refusal test (suc position) xs)
  unfolding first_refusal
  goes position x xs = refl

  -- the items from a position on
  at_hand : (xs : List X) (i : ℕ) (x : X) → i < length xs → x ≡ get_or xs i x → drop i xs ≡ x ∷ drop (suc i) xs
  at_hand xs i x lt is = drop-cons xs i x lt ∙ ap (λ y. y ∷ drop (suc i) xs) (sym is)

  here : (xs : List X) (i : ℕ) (x : X) → i < length xs → x ≡ get_or xs i x
      → first_refusal test i (drop i xs) ≡ option_or (test i x) (first_refusal test (i + 1) (drop (i + 1) xs))
  here xs i x lt is = ap (first_refusal test i) (at_hand xs i x lt is) ∙ goes i x (drop (suc i) xs) ∙ ap (λ n. option_or (test i x) (first_refusal test n (drop n xs))) (sym (add-one i))

  -- where the item at a position passes, those after it decide
  pub scan_more : (xs : List X) (i : ℕ) (x : X) → i < length xs → x ≡ get_or xs i x → test i x ≡ None
      → first_refusal test (i + 1) (drop (i + 1) xs) ≡ first_refusal test i (drop i xs)
  scan_more xs i x lt is e = sym (here xs i x lt is ∙ ap (λ o. option_or o (first_refusal test (i + 1) (drop (i + 1) xs))) e)

  -- where it does not pass, it decides
  pub scan_here : (xs : List X) (i : ℕ) (x : X) (why : R) → i < length xs → x ≡ get_or xs i x → test i x ≡ Some why
      → first_refusal test i (drop i xs) ≡ Some why
  scan_here xs i x why lt is e = here xs i x lt is ∙ ap (λ o. option_or o (first_refusal test (i + 1) (drop (i + 1) xs))) e

  -- after the last item there is none
  pub scan_end : (xs : List X) (i : ℕ) → length xs ≤ i → first_refusal test i (drop i xs) ≡ None
  scan_end xs i le = ap (first_refusal test i) (drop_all i xs le) ∙ finished i

-- the items up to and with that at a position
taken_suc : {X : Type 0} (xs : List X) (i : ℕ) (x : X) → i < length xs → x ≡ get_or xs i x → take (suc i) xs ≡ take i xs ++ x ∷ []
taken_suc [] i x lt is = absurd (omega (arith, lt))
taken_suc (y ∷ xs) zero x lt is = ap (λ z. z ∷ []) (sym is)
taken_suc (y ∷ xs) (suc i) x lt is = ap (λ zs. y ∷ zs) (taken_suc xs i x (omega (arith, lt)) is)

pub taken : {X : Type 0} (xs : List X) (i : ℕ) (x : X) → i < length xs → x ≡ get_or xs i x → take (i + 1) xs ≡ take i xs ++ x ∷ []
taken xs i x lt is = ap (λ n. take n xs) (add-one i) ∙ taken_suc xs i x lt is

-- tests that answer alike find the same
pub scan_same : {X R : Type 0} (first second : ℕ → X → Option R) → ((i : ℕ) (x : X) → first i x ≡ second i x) → (i : ℕ) (xs : List X) → first_refusal first i xs ≡ first_refusal second i xs
unfolding first_refusal
scan_same first second same i [] = refl
scan_same first second same i (x ∷ xs) =
    ap (λ o. option_or o (first_refusal first (suc i) xs)) (same i x) ∙ ap (option_or (second i x)) (scan_same first second same (suc i) xs)
