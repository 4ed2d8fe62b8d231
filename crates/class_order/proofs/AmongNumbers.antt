-- Numbers among others, and lists that end in one.
use Rattle.std.proofs.Common.{◌≡◌, ◌⊎◌, ℕ, Bool, true, false, ◌||◌, nat_eq, inl, inr, List, [], ◌∷◌, ◌++◌, refl, sym, ◌∙◌}
use Rattle.std.proofs.lemmas.Bool.{eqb-true}
use Rattle.std.proofs.lemmas.Bool.Decides.{Decides-eqb}
use Rattle.std.proofs.lemmas.List.Folds.{list_any-append}
use Rattle.class_tree.proofs.ancestors.Leading.{or_cases, or_left, or_right}
use Rattle.jvm_model.specs.ImageNumbering.{is_among}

-- ---- numbers among others

among_append : (n : ℕ) (xs ys : List ℕ) → is_among n (xs ++ ys) ≡ (is_among n xs || is_among n ys)
among_append n xs ys = list_any-append (nat_eq n) xs ys

pub among_left : (n : ℕ) (xs ys : List ℕ) → is_among n xs ≡ true → is_among n (xs ++ ys) ≡ true
among_left n xs ys e = among_append n xs ys ∙ or_left (is_among n xs) (is_among n ys) e

pub among_right : (n : ℕ) (xs ys : List ℕ) → is_among n ys ≡ true → is_among n (xs ++ ys) ≡ true
among_right n xs ys e = among_append n xs ys ∙ or_right (is_among n xs) (is_among n ys) e

pub among_cases : (n : ℕ) (xs ys : List ℕ) → is_among n (xs ++ ys) ≡ true → (is_among n xs ≡ true) ⊎ (is_among n ys ≡ true)
among_cases n xs ys e = or_cases (is_among n xs) (is_among n ys) (sym (among_append n xs ys) ∙ e)

pub among_here : (n : ℕ) (xs : List ℕ) → is_among n (n ∷ xs) ≡ true
among_here n xs = or_left (nat_eq n n) (is_among n xs) ((Decides-eqb n n).1 refl)

pub among_one : (n m : ℕ) → is_among n (m ∷ []) ≡ true → n ≡ m
among_one n m e =
    elim (or_cases (nat_eq n m) false e) [
      | inl same ↦ eqb-true n m same
      | inr other ↦ cc
    ]

pub not_true : (b : Bool) → (b ≡ true → ⊥) → b ≡ false
not_true false h = refl
not_true true h = absurd (h refl)

-- ---- a list that ends in a number

abbrev pub IsLast : List ℕ → ℕ → List ℕ → ℕ → List ℕ → Type 0
IsLast order c before class after = (order ≡ before) × (c ≡ class) × (after ≡ [])

abbrev pub IsEarlier : List ℕ → ℕ → List ℕ → ℕ → List ℕ → Type 0
IsEarlier order c before class after = (rest : List ℕ) × (order ≡ before ++ class ∷ rest) × (after ≡ rest ++ c ∷ [])

pub no_split : (before after : List ℕ) (class : ℕ) → [] ≡ before ++ class ∷ after → ⊥
no_split [] after class e = cc
no_split (x ∷ before) after class e = cc

pub split : (order : List ℕ) (c : ℕ) (before : List ℕ) (class : ℕ) (after : List ℕ) → order ++ c ∷ [] ≡ before ++ class ∷ after
    → IsLast order c before class after ⊎ IsEarlier order c before class after
split [] c [] class after e = inl (refl, cc, cc)
split [] c (x ∷ before) class after e = absurd (no_split before after class (cc))
split (x ∷ order) c [] class after e = inr (order, cc, cc)
split (x ∷ order) c (y ∷ before) class after e =
    let rest : order ++ c ∷ [] ≡ before ++ class ∷ after = cc in
    let same : x ≡ y = cc in
    elim (split order c before class after rest) [
      | inl last ↦ let here = last.0 in inl (cc, last.1, last.2)
      | inr earlier ↦ let there = earlier.1 in inr (earlier.0, cc, earlier.2)
    ]
