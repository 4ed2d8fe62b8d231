-- Lists of which each item is so: their parts, and what is made of them.
use Rattle.std.proofs.Common.{◌≡◌, ℕ, zero, suc, List, [], ◌∷◌, ◌++◌, reverse, take, drop, replicate, slice_get, Some, sym, subst}
use Rattle.std.specs.List.{AllByRecursion}
use Rattle.std.proofs.lemmas.List.{reverse-append}
use Rattle.std.proofs.lemmas.Option.{none-some}
use Rattle.image_form.specs.Grammar.{EachAfter}

module _ {X : Type 0} (P : X → Type 0) where
  pub all_append : (xs ys : List X) → AllByRecursion P xs → AllByRecursion P ys → AllByRecursion P (xs ++ ys)
  all_append [] ys all more = more
  all_append (x ∷ xs) ys all more = (all.0, all_append xs ys all.1 more)

  pub all_left : (xs ys : List X) → AllByRecursion P (xs ++ ys) → AllByRecursion P xs
  all_left [] ys all = tt
  all_left (x ∷ xs) ys all = (all.0, all_left xs ys all.1)

  pub all_right : (xs ys : List X) → AllByRecursion P (xs ++ ys) → AllByRecursion P ys
  all_right [] ys all = all
  all_right (x ∷ xs) ys all = all_right xs ys all.1

  pub all_drop : (n : ℕ) (xs : List X) → AllByRecursion P xs → AllByRecursion P (drop n xs)
  all_drop zero xs all = all
  all_drop (suc n) [] all = tt
  all_drop (suc n) (x ∷ xs) all = all_drop n xs all.1

  pub all_take : (n : ℕ) (xs : List X) → AllByRecursion P xs → AllByRecursion P (take n xs)
  all_take zero xs all = tt
  all_take (suc n) [] all = tt
  all_take (suc n) (x ∷ xs) all = (all.0, all_take n xs all.1)

  pub all_reverse : (xs : List X) → AllByRecursion P xs → AllByRecursion P (reverse xs)
  all_reverse [] all = tt
  all_reverse (x ∷ xs) all =
      subst (AllByRecursion P) (sym (reverse-append (x ∷ []) xs)) (all_append (reverse xs) (x ∷ []) (all_reverse xs all.1) (all.0, tt))

  pub all_unreverse : (xs : List X) → AllByRecursion P (reverse xs) → AllByRecursion P xs
  all_unreverse [] all = tt
  all_unreverse (x ∷ xs) all =
      let parts = subst (AllByRecursion P) (reverse-append (x ∷ []) xs) all in
      ((all_right (reverse xs) (x ∷ []) parts).0, all_unreverse xs (all_left (reverse xs) (x ∷ []) parts))

  pub all_replicate : (n : ℕ) (x : X) → P x → AllByRecursion P (replicate n x)
  all_replicate zero x is = tt
  all_replicate (suc n) x is = (is, all_replicate n x is)

  pub all_get : (xs : List X) (k : ℕ) (x : X) → AllByRecursion P xs → slice_get xs k ≡ Some x → P x
  all_get [] k x all e = absurd (none-some x e)
  all_get (y ∷ xs) zero x all e = let same : y ≡ x = cc in subst P same all.0
  all_get (y ∷ xs) (suc k) x all e = all_get xs k x all.1 e

-- what the grammar says of each
pub all_of_each : {X : Type 0} (P : X → Type 0) (before xs : List X) → EachAfter (λ before x. P x) before xs → AllByRecursion P xs
all_of_each P before [] each = tt
all_of_each P before (x ∷ xs) each = (each.0, all_of_each P (before ++ x ∷ []) xs each.1)
