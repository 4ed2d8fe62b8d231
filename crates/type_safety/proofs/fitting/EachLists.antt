-- Lists whose items are so one by one: their parts, and their items turned around or mapped.
use Rattle.std.proofs.Common.{◌≡◌, ℕ, zero, suc, List, [], ◌∷◌, ◌++◌, map, reverse, length, replicate, drop, Some, slice_get, refl, sym, subst, arith}
use Rattle.std.specs.List.{AllByRecursion, Contains}
use Rattle.std.proofs.lemmas.List.{reverse-append}
use Rattle.std.proofs.lemmas.List.Elements.{All-from_recursion}
use Rattle.jvm_model.specs.Bodies.{AreEach}

module _ {X Y : Type 0} (R : X → Y → Type 0) where
  pub each_length : (xs : List X) (ys : List Y) → AreEach R xs ys → length xs ≡ length ys
  each_length [] [] each = refl
  each_length [] (y ∷ ys) each = absurd each
  each_length (x ∷ xs) [] each = absurd each
  each_length (x ∷ xs) (y ∷ ys) each = let rest = each_length xs ys each.1 in omega arith

  pub each_drop : (n : ℕ) (xs : List X) (ys : List Y) → AreEach R xs ys → AreEach R (drop n xs) (drop n ys)
  each_drop zero xs ys each = each
  each_drop (suc n) [] [] each = tt
  each_drop (suc n) [] (y ∷ ys) each = absurd each
  each_drop (suc n) (x ∷ xs) [] each = absurd each
  each_drop (suc n) (x ∷ xs) (y ∷ ys) each = each_drop n xs ys each.1

  pub each_append : (xs : List X) (ys : List Y) (us : List X) (vs : List Y) → AreEach R xs ys → AreEach R us vs → AreEach R (xs ++ us) (ys ++ vs)
  each_append [] [] us vs first second = second
  each_append [] (y ∷ ys) us vs first second = absurd first
  each_append (x ∷ xs) [] us vs first second = absurd first
  each_append (x ∷ xs) (y ∷ ys) us vs first second = (first.0, each_append xs ys us vs first.1 second)

  pub each_reverse : (xs : List X) (ys : List Y) → AreEach R xs ys → AreEach R (reverse xs) (reverse ys)
  each_reverse [] [] each = tt
  each_reverse [] (y ∷ ys) each = absurd each
  each_reverse (x ∷ xs) [] each = absurd each
  each_reverse (x ∷ xs) (y ∷ ys) each =
      let joined = each_append (reverse xs) (reverse ys) (x ∷ []) (y ∷ []) (each_reverse xs ys each.1) (each.0, tt) in
      subst (λ us. AreEach R us (reverse (y ∷ ys))) (sym (reverse-append (x ∷ []) xs))
      (subst (λ vs. AreEach R (reverse xs ++ (x ∷ [])) vs) (sym (reverse-append (y ∷ []) ys)) joined)

  pub each_replicate : (n : ℕ) (x : X) (y : Y) → R x y → AreEach R (replicate n x) (replicate n y)
  each_replicate zero x y is = tt
  each_replicate (suc n) x y is = (is, each_replicate n x y is)

  -- with what holds of each item of the second
  pub each_with : (P : Y → Type 0) (xs : List X) (ys : List Y) → AreEach R xs ys → AllByRecursion P ys → AreEach (λ x y. R x y × P y) xs ys
  each_with P [] [] each all = tt
  each_with P [] (y ∷ ys) each all = absurd each
  each_with P (x ∷ xs) [] each all = absurd each
  each_with P (x ∷ xs) (y ∷ ys) each all = ((each.0, all.0), each_with P xs ys each.1 all.1)

-- from a list that is mapped
pub each_of_map : {X Y Z : Type 0} (f : Z → X) (R : X → Y → Type 0) (zs : List Z) (ys : List Y) → AreEach R (map f zs) ys → AreEach (λ z y. R (f z) y) zs ys
each_of_map f R [] [] each = tt
each_of_map f R [] (y ∷ ys) each = absurd each
each_of_map f R (z ∷ zs) [] each = absurd each
each_of_map f R (z ∷ zs) (y ∷ ys) each = (each.0, each_of_map f R zs ys each.1)

-- each item becomes another one
pub each_to : {X Y U V : Type 0} (f : X → U) (g : Y → V) (R : X → Y → Type 0) (S : U → V → Type 0) → ((x : X) (y : Y) → R x y → S (f x) (g y)) → (xs : List X) (ys : List Y)
    → AreEach R xs ys → AreEach S (map f xs) (map g ys)
each_to f g R S goes [] [] each = tt
each_to f g R S goes [] (y ∷ ys) each = absurd each
each_to f g R S goes (x ∷ xs) [] each = absurd each
each_to f g R S goes (x ∷ xs) (y ∷ ys) each = (goes x y each.0, each_to f g R S goes xs ys each.1)

-- ---- lists

-- what holds of each item
pub of_each : {X : Type 0} (P : X → Type 0) (xs : List X) (x : X) → AllByRecursion P xs → Contains xs x → P x
of_each P xs x all has = subst P has.2 (All-from_recursion P xs all has.0 x has.1)

pub of_place : {X : Type 0} (P : X → Type 0) (xs : List X) (i : ℕ) (x : X) → AllByRecursion P xs → slice_get xs i ≡ Some x → P x
of_place P [] i x all e = cc
of_place P (y ∷ ys) zero x all e = let same : y ≡ x = cc in subst P same all.0
of_place P (y ∷ ys) (suc i) x all e = of_place P ys i x all.1 e

-- each item of the second becomes another one
pub each_right : {X Y V : Type 0} (g : Y → V) (R : X → Y → Type 0) (S : X → V → Type 0) → ((x : X) (y : Y) → R x y → S x (g y)) → (xs : List X) (ys : List Y) → AreEach R xs ys → AreEach S xs (map g ys)
each_right g R S goes [] [] each = tt
each_right g R S goes [] (y ∷ ys) each = absurd each
each_right g R S goes (x ∷ xs) [] each = absurd each
each_right g R S goes (x ∷ xs) (y ∷ ys) each = (goes x y each.0, each_right g R S goes xs ys each.1)
