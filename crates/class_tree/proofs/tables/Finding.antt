-- Finding an item of a list, seen by a view.
use Rattle.std.proofs.Common.{◌≡◌, ◌+◌, Bool, not, ◌||◌, cond, nat_lt, List, [], ◌∷◌, map, length, Some, None, position, refl, ◌∙◌, ap}
use Rattle.std.specs.List.{position_or_len, list_any}
use Rattle.std.proofs.lemmas.List.{length-map}

module _ {X Y : Type 0} (view : X → Y) (p : Y → Bool) where
  abbrev seen : X → Bool
  seen x = p (view x)

  pub first_map : (xs : List X) → position_or_len p (map view xs) ≡ position_or_len seen xs
  first_map [] = refl
  first_map (x ∷ xs) = ap (λ n. cond (not (seen x)) (1 + n) 0) (first_map xs)

  pub position_map : (xs : List X) → position p (map view xs) ≡ position (λ x. p (view x)) xs
  position_map xs =
      ap (λ n. cond (nat_lt n (length (map view xs))) (Some n) None) (first_map xs)
      ∙ ap (λ n. cond (nat_lt (position_or_len seen xs) n) (Some (position_or_len seen xs)) None) (length-map xs view)

  pub list_any_map : (xs : List X) → list_any p (map view xs) ≡ list_any (λ x. p (view x)) xs
  list_any_map [] = refl
  list_any_map (x ∷ xs) = ap (λ b. seen x || b) (list_any_map xs)
