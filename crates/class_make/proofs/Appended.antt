-- Bytes that are appended piece by piece.
use Rattle.std.proofs.Common.{◌≡◌, ℕ, ◌+◌, ◌<◌, ◌≤◌, Bool, true, inl, inr, List, [], ◌∷◌, ◌++◌, map, length, get_or, take, refl, sym, ap, ◌∙◌}
use Rattle.std.specs.List.{flat_map, list_all}
use Rattle.std.proofs.lemmas.Bool.{cases_Bool, false≢true}
use Rattle.std.proofs.lemmas.List.Folds.{list_all_at}
use Rattle.std.proofs.lemmas.List.{take_all, take_more, flat_map_more}

-- the pieces of the items so far, and one more
pub goes_on : {X : Type 0} (f : X → List ℕ) (xs : List X) (i : ℕ) (x : X) (start before after : List ℕ) → i < length xs → x ≡ get_or xs i x
    → before ≡ start ++ flat_map f (take i xs) → after ≡ before ++ f x → after ≡ start ++ flat_map f (take (i + 1) xs)
goes_on f xs i x start before after lt is so_far more =
    let taken : take (i + 1) xs ≡ take i xs ++ x ∷ [] = take_more xs i x lt ∙ ap (λ y. take i xs ++ y ∷ []) (sym is) in
    more ∙ ap (λ (bytes : List ℕ). bytes ++ f x) so_far ∙ flat_map_more f start (take i xs) x ∙ ap (λ ys. start ++ flat_map f ys) (sym taken)

-- the pieces of all items
pub ends : {X : Type 0} (f : X → List ℕ) (xs : List X) (i : ℕ) (start now : List ℕ) → length xs ≤ i → now ≡ start ++ flat_map f (take i xs) → now ≡ start ++ flat_map f xs
ends f xs i start now le so_far = so_far ∙ ap (λ ys. start ++ flat_map f ys) (take_all i xs le)

-- the pieces of items that were mapped
pub flat_map-map : {X Y : Type 0} (f : Y → List ℕ) (g : X → Y) (xs : List X) → flat_map f (map g xs) ≡ flat_map (λ x. f (g x)) xs
flat_map-map f g [] = refl
flat_map-map f g (x ∷ xs) = ap (λ (bytes : List ℕ). f (g x) ++ bytes) (flat_map-map f g xs)

-- the test of all items is that of each
pub all_at : {X : Type 0} (p : X → Bool) (xs : List X) (i : ℕ) (x : X) → list_all p xs ≡ true → i < length xs → x ≡ get_or xs i x → p x ≡ true
all_at p xs i x all lt is =
    elim (cases_Bool (p x)) [
      | inl t ↦ t
      | inr f ↦ absurd (false≢true (sym (list_all_at p xs i x lt (ap p (sym is) ∙ f)) ∙ all))
    ]
