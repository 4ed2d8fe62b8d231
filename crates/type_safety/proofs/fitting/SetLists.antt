-- Lists whose items are so one by one, and what they contain.
use Rattle.std.proofs.Common.{◌≡◌, ◌⊎◌, inl, inr, ℕ, zero, suc, Bool, true, false, not, List, [], ◌∷◌, ◌++◌, slice_get, Option, Some, None, refl, subst, arith}
use Rattle.std.specs.List.{AllByRecursion, Contains}
use Rattle.std.specs.Option.{option_or}
use Rattle.jvm_model.specs.Bodies.{AreEach}

-- ---- truth values

pub not_true_is : (b : Bool) → not b ≡ true → b ≡ false
not_true_is true e = cc
not_true_is false e = refl

pub true_or_false : (b : Bool) → (b ≡ true) ⊎ (b ≡ false)
true_or_false true = inl refl
true_or_false false = inr refl

pub false_is_true : {C : Type 0} (b : Bool) → b ≡ true → b ≡ false → C
false_is_true true e f = absurd (let bad : true ≡ false = f in cc)
false_is_true false e f = absurd (let bad : false ≡ true = e in cc)

-- ---- options

pub none_some : {C X : Type 0} (x : X) → None ≡ Some x → C
none_some x e = absurd cc

pub same_some : {X : Type 0} (x y : X) → Some x ≡ Some y → x ≡ y
same_some x y e = cc

pub no_first : {R : Type 0} (first second : Option R) → option_or first second ≡ None → first ≡ None
no_first None second e = refl
no_first (Some x) second e = cc

pub no_second : {R : Type 0} (first second : Option R) → option_or first second ≡ None → second ≡ None
no_second None second e = e
no_second (Some x) second e = cc

-- ---- all of a list

module _ {X : Type 0} where
  pub all_at : (P : X → Type 0) (xs : List X) → AllByRecursion P xs → (i : ℕ) (x : X) → slice_get xs i ≡ Some x → P x
  all_at P [] all i x e = none_some x e
  all_at P (y ∷ xs) all zero x e = subst P (same_some y x e) all.0
  all_at P (y ∷ xs) all (suc i) x e = all_at P xs all.1 i x e

  all_in : (P : X → Type 0) (xs : List X) → AllByRecursion P xs → (x : X) → Contains xs x → P x
  all_in P [] all x (k, within, is) = absurd (omega (arith, within))
  all_in P (y ∷ xs) all x (zero, within, is) = subst P is all.0
  all_in P (y ∷ xs) all x (suc k, within, is) = all_in P xs all.1 x (k, omega (arith, within), is)

  pub all_contained : (P : X → Type 0) (xs : List X) → AllByRecursion P xs → (x : X) → Contains xs x → P x
  all_contained P xs all x h = all_in P xs all x h

  pub all_joined : (P : X → Type 0) (xs ys : List X) → AllByRecursion P xs → AllByRecursion P ys → AllByRecursion P (xs ++ ys)
  all_joined P [] ys p q = q
  all_joined P (x ∷ xs) ys p q = (p.0, all_joined P xs ys p.1 q)

  pub in_tail : (y x : X) (xs : List X) → Contains xs x → Contains (y ∷ xs) x
  in_tail y x xs (k, within, is) = (suc k, omega (arith, within), is)

  pub in_head : (x : X) (xs : List X) → Contains (x ∷ xs) x
  in_head x xs = (0, omega arith, refl)

  pub all_from : (P : X → Type 0) (xs : List X) → ((x : X) → Contains xs x → P x) → AllByRecursion P xs
  all_from P [] h = tt
  all_from P (x ∷ xs) h = (h x (in_head x xs), all_from P xs (λ y c. h y (in_tail x y xs c)))

  -- each item of a list is contained in it
  pub contains_all : (xs : List X) → AllByRecursion (Contains xs) xs
  contains_all xs = all_from (Contains xs) xs (λ x c. c)

  pub contains_at : (xs : List X) (i : ℕ) (x : X) → slice_get xs i ≡ Some x → Contains xs x
  contains_at [] i x e = none_some x e
  contains_at (y ∷ xs) zero x e = (0, omega arith, same_some y x e)
  contains_at (y ∷ xs) (suc i) x e = in_tail y x xs (contains_at xs i x e)

-- ---- one by one

module _ {X Y : Type 0} (Is : X → Y → Type 0) where
  -- what an item of the second list stands for
  pub each_back : (P : X → Type 0) (xs : List X) (ys : List Y) → AllByRecursion P xs → AreEach Is xs ys → (y : Y) → Contains ys y → (x : X) × P x × Is x y
  each_back P [] [] all each y (k, within, is) = absurd (omega (arith, within))
  each_back P [] (z ∷ ys) all each y h = absurd each
  each_back P (x ∷ xs) [] all each y h = absurd each
  each_back P (x ∷ xs) (z ∷ ys) all each y (zero, within, is) = (x, all.0, subst (Is x) is each.0)
  each_back P (x ∷ xs) (z ∷ ys) all each y (suc k, within, is) = each_back P xs ys all.1 each.1 y (k, omega (arith, within), is)

  -- what stands for an item of the first list
  pub each_on : (xs : List X) (ys : List Y) → AreEach Is xs ys → (x : X) → Contains xs x → (y : Y) × Contains ys y × Is x y
  each_on [] ys each x (k, within, is) = absurd (omega (arith, within))
  each_on (z ∷ xs) [] each x h = absurd each
  each_on (z ∷ xs) (y ∷ ys) each x (zero, within, is) = (y, in_head y ys, subst (λ (w : X). Is w y) is each.0)
  each_on (z ∷ xs) (y ∷ ys) each x (suc k, within, is) =
      let rest = each_on xs ys each.1 x (k, omega (arith, within), is) in
      (rest.0, in_tail y rest.0 ys rest.1, rest.2)
