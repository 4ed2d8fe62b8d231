-- Lists that grow by what one item gives, as many items as are passed.
use Rattle.std.proofs.Common.{◌≡◌, ℕ, ◌+◌, ◌<◌, List, [], ◌∷◌, ◌++◌, length, map, take, get_or, append-nil, append_assoc, sym, ap, subst, ◌∙◌}
use Rattle.std.specs.List.{AllByRecursion, flat_map}
use Rattle.std.proofs.lemmas.Grind.{flat_map-append}
use Rattle.std.proofs.lemmas.List.{map-append, take_more}
use Rattle.type_rounds.proofs.tables.Lists.{all_append}

module _ {X : Type 0} (xs : List X) (i : ℕ) (x : X) (lt : i < length xs) (is : x ≡ get_or xs i x) where
  -- the items so far, with the next one
  taken : take (i + 1) xs ≡ take i xs ++ x ∷ []
  taken = take_more xs i x lt ∙ ap (λ y. take i xs ++ y ∷ []) (sym is)

  -- what holds of the items so far and of the next one
  pub all_more : (P : X → Type 0) → AllByRecursion P (take i xs) → P x → AllByRecursion P (take (i + 1) xs)
  all_more P all next = subst (AllByRecursion P) (sym taken) (all_append P (take i xs) (x ∷ []) all (next, tt))

  -- what they give, behind what was there
  pub mapped_more : {Y : Type 0} (f : X → Y) (start before after : List Y) → before ≡ start ++ map f (take i xs) → after ≡ before ++ f x ∷ []
      → after ≡ start ++ map f (take (i + 1) xs)
  mapped_more f start before after so_far next =
      next
      ∙ ap (λ ys. ys ++ f x ∷ []) so_far
      ∙ append_assoc start (map f (take i xs)) (f x ∷ [])
      ∙ ap (λ ys. start ++ ys) (sym (map-append f (take i xs) (x ∷ [])))
      ∙ ap (λ ys. start ++ map f ys) (sym taken)

  -- the lists that they give, one behind the other
  pub joined_more : {Y : Type 0} (f : X → List Y) (before after : List Y) → before ≡ flat_map f (take i xs) → after ≡ before ++ f x → after ≡ flat_map f (take (i + 1) xs)
  joined_more f before after so_far next =
      next
      ∙ ap (λ ys. ys ++ f x) so_far
      ∙ ap (λ ys. flat_map f (take i xs) ++ ys) (sym (append-nil (f x)))
      ∙ sym (flat_map-append f (take i xs) (x ∷ []))
      ∙ ap (flat_map f) (sym taken)
