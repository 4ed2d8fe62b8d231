-- Lists whose items match one by one: what is the same of both.
use Rattle.std.proofs.Common.{◌≡◌, ℕ, zero, suc, ◌+◌, List, [], ◌∷◌, ◌++◌, map, reverse, length, slice_get, refl, sym, ap, ◌∙◌}
use Rattle.std.specs.List.{AllByRecursion, flat_map, sum_by}
use Rattle.std.specs.Option.{option_map_or}
use Rattle.std.proofs.lemmas.List.{append-nil, reverse-append, map-append}
use Rattle.std.proofs.lemmas.List.Concat.{flat_map-append}
use Rattle.std.proofs.lemmas.List.Sums.{sum_by-cons}
use Rattle.jvm_model.specs.Bodies.{AreEach}

-- there are as many of both
pub each_count : {X Y : Type 0} (R : X → Y → Type 0) (xs : List X) (ys : List Y) → AreEach R xs ys → length xs ≡ length ys
each_count R [] [] each = refl
each_count R [] (y ∷ ys) each = absurd each
each_count R (x ∷ xs) [] each = absurd each
each_count R (x ∷ xs) (y ∷ ys) each = ap suc (each_count R xs ys each.1)

-- items that match have another relation, where those of the first list have what it asks for
pub each_so : {X Y : Type 0} (P : X → Type 0) (R S : X → Y → Type 0) → ((x : X) (y : Y) → P x → R x y → S x y) → (xs : List X) (ys : List Y) → AllByRecursion P xs → AreEach R xs ys → AreEach S xs ys
each_so P R S so [] [] all each = tt
each_so P R S so [] (y ∷ ys) all each = absurd each
each_so P R S so (x ∷ xs) [] all each = absurd each
each_so P R S so (x ∷ xs) (y ∷ ys) all each = (so x y all.0 each.0, each_so P R S so xs ys all.1 each.1)

-- all items have what each item has
pub all_so : {X : Type 0} (P : X → Type 0) → ((x : X) → P x) → (xs : List X) → AllByRecursion P xs
all_so P so [] = tt
all_so P so (x ∷ xs) = (so x, all_so P so xs)

module _ {X Y Z : Type 0} (f : X → Z) (g : Y → Z) where
  -- a function of the one is the other function of the other
  abbrev pub AreSame : List X → List Y → Type 0
  AreSame xs ys = AreEach (λ x y. f x ≡ g y) xs ys

  pub same_at : (none : Z) (xs : List X) (ys : List Y) → AreSame xs ys → (i : ℕ) → option_map_or f (slice_get xs i) none ≡ option_map_or g (slice_get ys i) none
  same_at none [] [] each i = refl
  same_at none [] (y ∷ ys) each i = absurd each
  same_at none (x ∷ xs) [] each i = absurd each
  same_at none (x ∷ xs) (y ∷ ys) each zero = each.0
  same_at none (x ∷ xs) (y ∷ ys) each (suc i) = same_at none xs ys each.1 i

pub same_sum : {X Y : Type 0} (f : X → ℕ) (g : Y → ℕ) (xs : List X) (ys : List Y) → AreSame f g xs ys → sum_by f xs ≡ sum_by g ys
same_sum f g [] [] each = refl
same_sum f g [] (y ∷ ys) each = absurd each
same_sum f g (x ∷ xs) [] each = absurd each
same_sum f g (x ∷ xs) (y ∷ ys) each =
    sum_by-cons f x xs ∙ ap (λ first. first + sum_by f xs) each.0 ∙ ap (λ rest. g y + rest) (same_sum f g xs ys each.1) ∙ sym (sum_by-cons g y ys)

-- what a list turned around gives, one after the other
flat_turned : {X A : Type 0} (f : X → List A) (x : X) (xs : List X) → flat_map f (reverse (x ∷ xs)) ≡ flat_map f (reverse xs) ++ f x
flat_turned f x xs =
    ap (flat_map f) (reverse-append (x ∷ []) xs) ∙ flat_map-append f (reverse xs) (x ∷ []) ∙ ap (λ last. flat_map f (reverse xs) ++ last) (append-nil (f x))

pub same_turned : {X Y A : Type 0} (f : X → List A) (g : Y → List A) (xs : List X) (ys : List Y) → AreSame f g xs ys → flat_map f (reverse xs) ≡ flat_map g (reverse ys)
same_turned f g [] [] each = refl
same_turned f g [] (y ∷ ys) each = absurd each
same_turned f g (x ∷ xs) [] each = absurd each
same_turned f g (x ∷ xs) (y ∷ ys) each =
    flat_turned f x xs ∙ ap (λ last. flat_map f (reverse xs) ++ last) each.0 ∙ ap (λ before. before ++ g y) (same_turned f g xs ys each.1) ∙ sym (flat_turned g y ys)

-- items that are mapped, turned around
pub map-reverse : {X Y : Type 0} (f : X → Y) (xs : List X) → map f (reverse xs) ≡ reverse (map f xs)
map-reverse f [] = refl
map-reverse f (x ∷ xs) =
    ap (map f) (reverse-append (x ∷ []) xs) ∙ map-append f (reverse xs) (x ∷ []) ∙ ap (λ before. before ++ f x ∷ []) (map-reverse f xs) ∙ sym (reverse-append (f x ∷ []) (map f xs))
