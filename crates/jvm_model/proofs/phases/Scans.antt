-- A scan of a list for the first refusal, item by item: of tests, and of what each item has.
use Rattle.std.proofs.Common.{◌≡◌, inl, inr, ℕ, suc, ◌+◌, ◌<◌, ◌≤◌, List, [], ◌∷◌, length, drop, get_or, drop-cons, add-one, Option, Some, None, refl, sym, ap, subst, ◌∙◌}
use Rattle.std.specs.Option.{option_or}
use Rattle.std.proofs.lemmas.List.{drop_all}
use Rattle.jvm_model.specs.declared.refusal.Refusal.{Refusal}
use Rattle.jvm_model.specs.Phases.{first_refusal}
use Rattle.jvm_model.specs.FirstOf.{FirstOf}

-- the items from a position on
from_position : {X : Type 0} (xs : List X) (i : ℕ) (x : X) → i < length xs → x ≡ get_or xs i x → drop i xs ≡ x ∷ drop (suc i) xs
from_position xs i x lt is = drop-cons xs i x lt ∙ ap (λ y. y ∷ drop (suc i) xs) (sym is)

-- ---- tests

module _ {X : Type 0} (test : ℕ → X → Option Refusal) where
  none_left : (position : ℕ) → first_refusal test position [] ≡ None
  unfolding first_refusal
  none_left position = refl

  goes : (position : ℕ) (x : X) (xs : List X) → first_refusal test position (x ∷ xs) ≡ option_or (test position x) (first_refusal test (suc position) xs)
  unfolding first_refusal
  goes position x xs = refl

  at_hand : (xs : List X) (i : ℕ) (x : X) → i < length xs → x ≡ get_or xs i x
      → first_refusal test i (drop i xs) ≡ option_or (test i x) (first_refusal test (i + 1) (drop (i + 1) xs))
  at_hand xs i x lt is =
      ap (first_refusal test i) (from_position xs i x lt is) ∙ goes i x (drop (suc i) xs)
      ∙ ap (λ n. option_or (test i x) (first_refusal test n (drop n xs))) (sym (add-one i))

  -- where the item at a position passes, those after it decide
  pub scan_more : (xs : List X) (i : ℕ) (x : X) → i < length xs → x ≡ get_or xs i x → test i x ≡ None → first_refusal test (i + 1) (drop (i + 1) xs) ≡ first_refusal test i (drop i xs)
  scan_more xs i x lt is e = sym (at_hand xs i x lt is ∙ ap (λ o. option_or o (first_refusal test (i + 1) (drop (i + 1) xs))) e)

  -- where it does not pass, it decides
  pub scan_here : (xs : List X) (i : ℕ) (x : X) (why : Refusal) → i < length xs → x ≡ get_or xs i x → test i x ≡ Some why → first_refusal test i (drop i xs) ≡ Some why
  scan_here xs i x why lt is e = at_hand xs i x lt is ∙ ap (λ o. option_or o (first_refusal test (i + 1) (drop (i + 1) xs))) e

  -- after the last item there is none
  pub scan_end : (xs : List X) (i : ℕ) → length xs ≤ i → first_refusal test i (drop i xs) ≡ None
  scan_end xs i le = ap (first_refusal test i) (drop_all i xs le) ∙ none_left i

-- ---- what each item has

module _ {X : Type 0} (Has : ℕ → X → Option Refusal → Type 0) where
  -- one that has no refusal leaves it to those after it
  pub first_passed : (position : ℕ) (x : X) (xs : List X) (found : Option Refusal) → Has position x None → FirstOf Has (suc position) xs found → FirstOf Has position (x ∷ xs) found
  first_passed position x xs None none first = (none, first)
  first_passed position x xs (Some why) none first = inr (none, first)

  pub found_more : (xs : List X) (i : ℕ) (x : X) → i < length xs → x ≡ get_or xs i x → Has i x None → (found : Option Refusal) → FirstOf Has (i + 1) (drop (i + 1) xs) found → FirstOf Has i (drop i xs) found
  found_more xs i x lt is none found first =
      subst (λ (ys : List X). FirstOf Has i ys found) (sym (from_position xs i x lt is)) (first_passed i x (drop (suc i) xs) found none (subst (λ n. FirstOf Has n (drop n xs) found) (add-one i) first))

  pub found_here : (xs : List X) (i : ℕ) (x : X) (why : Refusal) → i < length xs → x ≡ get_or xs i x → Has i x (Some why) → FirstOf Has i (drop i xs) (Some why)
  found_here xs i x why lt is has = subst (λ (ys : List X). FirstOf Has i ys (Some why)) (sym (from_position xs i x lt is)) (inl has)

  pub found_none : (xs : List X) (i : ℕ) → length xs ≤ i → FirstOf Has i (drop i xs) None
  found_none xs i le = subst (λ (ys : List X). FirstOf Has i ys None) (sym (drop_all i xs le)) tt

  -- what is found in those that are left is found in all
  abbrev pub Decides : List X → ℕ → Type 0
  Decides xs i = (found : Option Refusal) → FirstOf Has i (drop i xs) found → FirstOf Has 0 xs found

  pub decides_more : (xs : List X) (i : ℕ) (x : X) → i < length xs → x ≡ get_or xs i x → Has i x None → Decides xs i → Decides xs (i + 1)
  decides_more xs i x lt is none decides = λ found first. decides found (found_more xs i x lt is none found first)

  pub decides_here : (xs : List X) (i : ℕ) (x : X) (why : Refusal) → i < length xs → x ≡ get_or xs i x → Has i x (Some why) → Decides xs i → FirstOf Has 0 xs (Some why)
  decides_here xs i x why lt is has decides = decides (Some why) (found_here xs i x why lt is has)

  pub decides_end : (xs : List X) (i : ℕ) → length xs ≤ i → Decides xs i → FirstOf Has 0 xs None
  decides_end xs i le decides = decides None (found_none xs i le)
