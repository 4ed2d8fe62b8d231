-- The first item that passes a test, and its place in a list that is seen by a view.
use Rattle.std.proofs.Common.{◌≡◌, ℕ, zero, suc, ◌+◌, ◌≤◌, Bool, true, false, ◌||◌, not, cond, nat_lt, List, [], ◌∷◌, ◌++◌, map, filter, length, slice_get, position, Option, Some, None, option_map, unwrap_or, refl, sym, ap, ◌∙◌, arith}
use Rattle.std.specs.List.{AllByRecursion, find, flat_map, list_any, position_or_len}
use Rattle.std.proofs.lemmas.Bool.{false≢true, ltb-false}
use Rattle.std.proofs.lemmas.Option.{none-some, same_Some, slice_get-map}
use Rattle.std.proofs.lemmas.List.Folds.{find_at, list_any-append}

module _ {X : Type 0} (p : X → Bool) where
  -- what passes is found, where all that passes is the same
  pub found_only : (item : X) (items : List X) → list_any p items ≡ true → AllByRecursion (λ x. p x ≡ true → x ≡ item) items → find p items ≡ Some item
  found_only item [] some all = absurd (false≢true some)
  found_only item (x ∷ items) some all = by (p x) refl some (λ any. found_only item items any all.1)
    where
      by : (b : Bool) → p x ≡ b → (b || list_any p items) ≡ true → (list_any p items ≡ true → find p items ≡ Some item) → cond b (Some x) (find p items) ≡ Some item
      by true is any rest = ap (λ y. Some y) (all.0 is)
      by false is any rest = rest any

  -- what is found stands at its place
  pub placed : (items : List X) (item : X) → find p items ≡ Some item → slice_get items (unwrap_or (position p items) 0) ≡ Some item
  placed items item is =
      let at : slice_get items (position_or_len p items) ≡ Some item = sym (find_at p items) ∙ is in
      by (nat_lt (position_or_len p items) (length items)) refl at
    where
      none_at : (n : ℕ) (xs : List X) → length xs ≤ n → slice_get xs n ≡ None
      none_at n [] le = refl
      none_at zero (x ∷ xs) le = absurd (omega (arith, le))
      none_at (suc n) (x ∷ xs) le = none_at n xs (omega (arith, le))

      by : (b : Bool) → nat_lt (position_or_len p items) (length items) ≡ b → slice_get items (position_or_len p items) ≡ Some item
          → slice_get items (unwrap_or (cond b (Some (position_or_len p items)) None) 0) ≡ Some item
      by true e at = at
      by false e at = absurd (none-some item (sym (none_at (position_or_len p items) items (ltb-false (position_or_len p items) (length items) e)) ∙ at))

-- what is found is among all, by another test that it passes
pub any_found : {X : Type 0} (p q : X → Bool) (items : List X) (item : X) → find p items ≡ Some item → q item ≡ true → list_any q items ≡ true
any_found p q [] item is holds = absurd (none-some item is)
any_found {X} p q (x ∷ items) item is holds = by (p x) is (λ later. any_found p q items item later holds)
  where
    first : (a b : Bool) → a ≡ true → (a || b) ≡ true
    first true b e = refl
    first false b e = absurd (false≢true e)

    second : (a b : Bool) → b ≡ true → (a || b) ≡ true
    second true b e = refl
    second false b e = e

    by : (b : Bool) → cond b (Some x) (find p items) ≡ Some item → (find p items ≡ Some item → list_any q items ≡ true) → (q x || list_any q items) ≡ true
    by true found rest = first (q x) (list_any q items) (ap q (same_Some x item found) ∙ holds)
    by false found rest = second (q x) (list_any q items) (rest found)

-- the place of what passes is the same in a list that is seen by a view
module _ {X Y : Type 0} (view : X → Y) (p : Y → Bool) where
  prefix_seen : (xs : List X) → position_or_len p (map view xs) ≡ position_or_len (λ x. p (view x)) xs
  prefix_seen [] = refl
  prefix_seen (x ∷ xs) = ap (λ n. cond (not (p (view x))) (1 + n) 0) (prefix_seen xs)

  length_seen : (xs : List X) → length (map view xs) ≡ length xs
  length_seen [] = refl
  length_seen (x ∷ xs) = ap suc (length_seen xs)

  pub position_seen : (items : List X) → position p (map view items) ≡ position (λ x. p (view x)) items
  position_seen items =
      ap (λ m. cond (nat_lt m (length (map view items))) (Some m) None) (prefix_seen items)
      ∙ ap (λ l. cond (nat_lt (position_or_len (λ x. p (view x)) items) l) (Some (position_or_len (λ x. p (view x)) items)) None) (length_seen items)

-- the item that is found stands at its place in a list that is seen by two views
pub placed_seen : {X Y Z : Type 0} (view : X → Y) (other : X → Z) (p : Y → Bool) (items : List X) (item : X) → find (λ x. p (view x)) items ≡ Some item
    → slice_get (map other items) (unwrap_or (position p (map view items)) 0) ≡ Some (other item)
placed_seen view other p items item is =
    ap (λ (at : Option ℕ). slice_get (map other items) (unwrap_or at 0)) (position_seen view p items)
    ∙ slice_get-map other items (unwrap_or (position (λ x. p (view x)) items) 0)
    ∙ ap (option_map other) (placed (λ x. p (view x)) items item is)

-- what all items have, those that pass have
pub all_filtered : {X : Type 0} (P : X → Type 0) (q : X → Bool) (items : List X) → AllByRecursion P items → AllByRecursion P (filter q items)
all_filtered P q [] all = tt
all_filtered {X} P q (x ∷ items) all = by (q x) (all_filtered P q items all.1)
  where
    by : (b : Bool) → AllByRecursion P (filter q items) → AllByRecursion P (cond b (x ∷ filter q items) (filter q items))
    by true rest = (all.0, rest)
    by false rest = rest

all_joined : {X : Type 0} (P : X → Type 0) (first second : List X) → AllByRecursion P first → AllByRecursion P second → AllByRecursion P (first ++ second)
all_joined P [] second one two = two
all_joined P (x ∷ first) second one two = (one.0, all_joined P first second one.1 two)

pub all_flat : {X A : Type 0} (P : A → Type 0) (f : X → List A) → ((x : X) → AllByRecursion P (f x)) → (xs : List X) → AllByRecursion P (flat_map f xs)
all_flat P f each [] = tt
all_flat P f each (x ∷ xs) = all_joined P (f x) (flat_map f xs) (each x) (all_flat P f each xs)

-- what is among those of one item is among all
pub any_flat : {X A : Type 0} (p : A → Bool) (q : X → Bool) (f : X → List A) → ((x : X) → q x ≡ true → list_any p (f x) ≡ true) → (xs : List X) → list_any q xs ≡ true → list_any p (flat_map f xs) ≡ true
any_flat p q f has [] some = absurd (false≢true some)
any_flat {X} p q f has (x ∷ xs) some =
    list_any-append p (f x) (flat_map f xs) ∙ by (q x) refl some (any_flat p q f has xs)
  where
    with_first : (a b : Bool) → a ≡ true → (a || b) ≡ true
    with_first true b e = refl
    with_first false b e = absurd (false≢true e)

    with_second : (a b : Bool) → b ≡ true → (a || b) ≡ true
    with_second true b e = refl
    with_second false b e = e

    by : (b : Bool) → q x ≡ b → (b || list_any q xs) ≡ true → (list_any q xs ≡ true → list_any p (flat_map f xs) ≡ true) → (list_any p (f x) || list_any p (flat_map f xs)) ≡ true
    by true is any rest = with_first (list_any p (f x)) (list_any p (flat_map f xs)) (has x is)
    by false is any rest = with_second (list_any p (f x)) (list_any p (flat_map f xs)) (rest any)

-- an item that passes both tests is among those that pass one
pub any_filtered : {X : Type 0} (p q : X → Bool) (items : List X) → list_any (λ x. cond (q x) (p x) false) items ≡ true → list_any p (filter q items) ≡ true
any_filtered p q [] some = absurd (false≢true some)
any_filtered {X} p q (x ∷ items) some = by (q x) some (any_filtered p q items)
  where
    later : (a b c : Bool) → (a || b) ≡ true → (b ≡ true → c ≡ true) → (a || c) ≡ true
    later true b c e more = refl
    later false b c e more = more e

    by : (b : Bool) → (cond b (p x) false || list_any (λ x. cond (q x) (p x) false) items) ≡ true → (list_any (λ x. cond (q x) (p x) false) items ≡ true → list_any p (filter q items) ≡ true)
        → list_any p (cond b (x ∷ filter q items) (filter q items)) ≡ true
    by true any rest = later (p x) (list_any (λ x. cond (q x) (p x) false) items) (list_any p (filter q items)) any rest
    by false any rest = rest any
