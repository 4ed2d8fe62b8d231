-- Folds over what some items give.
use Rattle.std.proofs.Common.{◌≡◌, ℕ, ◌+◌, ◌<◌, Bool, true, false, cond, List, [], ◌∷◌, ◌++◌, length, take, get_or, filter, map, refl, sym, ap, ◌∙◌, Option, Some, None}
use Rattle.std.specs.List.{fold, filter_map, flat_map}
use Rattle.std.specs.Option.{option_to_list}
use Rattle.std.proofs.lemmas.List.{take_more, map-append, append-nil, append_assoc}
use Rattle.std.proofs.lemmas.List.Sums.{fold-append}
use Rattle.std.proofs.lemmas.List.Elements.{filter_map-append, filter-append}
use Rattle.std.proofs.lemmas.Grind.{flat_map-append}

-- the first items, with the next
pub taken : {X : Type 0} (xs : List X) (i : ℕ) (x : X) → i < length xs → x ≡ get_or xs i x → take (i + 1) xs ≡ take i xs ++ x ∷ []
taken xs i x lt is = take_more xs i x lt ∙ ap (λ y. take i xs ++ y ∷ []) (sym is)

module _ {X Y B : Type 0} (f : B → Y → B) (h : X → Option Y) (start : B) where
  one_some : (b : B) (x : X) (y : Y) → h x ≡ Some y → fold f b (filter_map h (x ∷ [])) ≡ f b y
  one_some b x y e = ap (λ o. fold f b (filter_map (λ (z : X). o) (x ∷ []))) e

  one_none : (b : B) (x : X) → h x ≡ None → fold f b (filter_map h (x ∷ [])) ≡ b
  one_none b x e = ap (λ o. fold f b (filter_map (λ (z : X). o) (x ∷ []))) e

  split : (xs : List X) (i : ℕ) (x : X) → i < length xs → x ≡ get_or xs i x → fold f start (filter_map h (take (i + 1) xs)) ≡ fold f (fold f start (filter_map h (take i xs))) (filter_map h (x ∷ []))
  split xs i x lt is =
      ap (λ ys. fold f start (filter_map h ys)) (taken xs i x lt is)
      ∙ ap (fold f start) (filter_map-append h (take i xs) (x ∷ []))
      ∙ fold-append f start (filter_map h (take i xs)) (filter_map h (x ∷ []))

  -- the next item gives something
  pub some_more : (xs : List X) (i : ℕ) (x : X) (y : Y) → i < length xs → x ≡ get_or xs i x → h x ≡ Some y → f (fold f start (filter_map h (take i xs))) y ≡ fold f start (filter_map h (take (i + 1) xs))
  some_more xs i x y lt is e = sym (split xs i x lt is ∙ one_some (fold f start (filter_map h (take i xs))) x y e)

  -- the next item gives nothing
  pub none_more : (xs : List X) (i : ℕ) (x : X) → i < length xs → x ≡ get_or xs i x → h x ≡ None → fold f start (filter_map h (take i xs)) ≡ fold f start (filter_map h (take (i + 1) xs))
  none_more xs i x lt is e = sym (split xs i x lt is ∙ one_none (fold f start (filter_map h (take i xs))) x e)

module _ {Y B : Type 0} (f : B → Y → B) (start : B) (p : Y → Bool) where
  one_kept : (b : B) (y : Y) → p y ≡ true → fold f b (filter p (y ∷ [])) ≡ f b y
  one_kept b y e = ap (λ is. fold f b (cond is (y ∷ []) [])) e

  one_left : (b : B) (y : Y) → p y ≡ false → fold f b (filter p (y ∷ [])) ≡ b
  one_left b y e = ap (λ is. fold f b (cond is (y ∷ []) [])) e

  next : (before after : List Y) → fold f start (filter p (before ++ after)) ≡ fold f (fold f start (filter p before)) (filter p after)
  next before after = ap (fold f start) (filter-append p before after) ∙ fold-append f start (filter p before) (filter p after)

  module _ {X : Type 0} (view : X → Y) (xs : List X) (i : ℕ) (x : X) (lt : i < length xs) (is : x ≡ get_or xs i x) where
    mapped : map view (take (i + 1) xs) ≡ map view (take i xs) ++ view x ∷ []
    mapped = ap (map view) (taken xs i x lt is) ∙ map-append view (take i xs) (x ∷ [])

    -- the next item passes the test
    pub kept_more : p (view x) ≡ true → f (fold f start (filter p (map view (take i xs)))) (view x) ≡ fold f start (filter p (map view (take (i + 1) xs)))
    kept_more e =
        sym (
        ap (λ ys. fold f start (filter p ys)) mapped ∙ next (map view (take i xs)) (view x ∷ [])
        ∙ one_kept (fold f start (filter p (map view (take i xs)))) (view x) e
        )

    -- the next item does not
    pub left_more : p (view x) ≡ false → fold f start (filter p (map view (take i xs))) ≡ fold f start (filter p (map view (take (i + 1) xs)))
    left_more e =
        sym (
        ap (λ ys. fold f start (filter p ys)) mapped ∙ next (map view (take i xs)) (view x ∷ [])
        ∙ one_left (fold f start (filter p (map view (take i xs)))) (view x) e
        )

  -- what the next item gives comes behind
  pub given_more : {X : Type 0} (g : X → List Y) (xs : List X) (i : ℕ) (x : X) → i < length xs → x ≡ get_or xs i x
      → fold f (fold f start (filter p (flat_map g (take i xs)))) (filter p (g x)) ≡ fold f start (filter p (flat_map g (take (i + 1) xs)))
  given_more g xs i x lt is =
      sym (
      ap (λ ys. fold f start (filter p (flat_map g ys))) (taken xs i x lt is)
      ∙ ap (λ ys. fold f start (filter p ys)) (flat_map-append g (take i xs) (x ∷ []) ∙ ap (λ zs. flat_map g (take i xs) ++ zs) (append-nil (g x)))
      ∙ next (flat_map g (take i xs)) (g x)
      )

-- what the next item gives, where it gives something, comes behind
module _ {X Y : Type 0} (h : X → Option Y) where
  one_found : (x : X) (o : Option Y) → h x ≡ o → filter_map h (x ∷ []) ≡ option_to_list o
  one_found x None e = ap (λ o. filter_map (λ (z : X). o) (x ∷ [])) e
  one_found x (Some y) e = ap (λ o. filter_map (λ (z : X). o) (x ∷ [])) e

  pub found_more : (before : List Y) (xs : List X) (i : ℕ) (d : X) → i < length xs
      → (before ++ filter_map h (take i xs)) ++ option_to_list (h (get_or xs i d)) ≡ before ++ filter_map h (take (i + 1) xs)
  found_more before xs i d lt =
      append_assoc before (filter_map h (take i xs)) (option_to_list (h (get_or xs i d)))
      ∙ ap (λ ys. before ++ ys) (
      ap (λ ys. filter_map h (take i xs) ++ ys) (sym (one_found (get_or xs i d) (h (get_or xs i d)) refl))
      ∙ sym (filter_map-append h (take i xs) (get_or xs i d ∷ []))
      ∙ ap (filter_map h) (sym (take_more xs i d lt))
      )
