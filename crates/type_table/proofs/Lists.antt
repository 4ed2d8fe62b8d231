-- Lists read from a place, and by a list that is left.
use Rattle.std.proofs.Common.{◌≡◌, ℕ, zero, suc, ◌+◌, ◌-◌, ◌<◌, ◌≤◌, List, [], ◌∷◌, ◌++◌, length, slice_get, slice_set, Some, take, drop, refl, ap, ◌∙◌, arith, zero-add, suc-add}

pub get_drop : {X : Type 0} (xs : List X) (i : ℕ) → slice_get xs i ≡ slice_get (drop i xs) 0
get_drop xs zero = refl
get_drop [] (suc i) = refl
get_drop (x ∷ xs) (suc i) = get_drop xs i

pub get_push : {X : Type 0} (xs : List X) (x : X) → slice_get (xs ++ x ∷ []) (length xs) ≡ Some x
get_push [] x = refl
get_push (y ∷ ys) x = get_push ys x

pub record OneMore {X : Type 0} (xs ys : List X) (x : X) (i : ℕ) : Type 0 where
  pub taken : take (suc i) xs ≡ take i xs ++ x ∷ []
  pub rest : drop (suc i) xs ≡ ys

-- where an element comes next, and what is after it
pub one_more : {X : Type 0} (xs ys : List X) (x : X) (i : ℕ) → drop i xs ≡ x ∷ ys → OneMore xs ys x i
one_more [] ys x zero is = let none : [] ≡ x ∷ ys = is in absurd (cc)
one_more [] ys x (suc i) is = let none : [] ≡ x ∷ ys = is in absurd (cc)
one_more (y ∷ rest) ys x zero is = let same : y ∷ rest ≡ x ∷ ys = is in record { taken = ap (λ v. v ∷ []) (cc); rest = cc }
one_more (y ∷ rest) ys x (suc i) is =
    let more = one_more rest ys x i is in
    record { taken = ap (λ list. y ∷ list) more.taken; rest = more.rest }

-- ---- two lists in a row

pub get_left : {X : Type 0} (xs ys : List X) (i : ℕ) → i < length xs → slice_get (xs ++ ys) i ≡ slice_get xs i
get_left [] ys i within = absurd (omega arith)
get_left (x ∷ xs) ys zero within = refl
get_left (x ∷ xs) ys (suc i) within = get_left xs ys i (omega arith)

pub get_right : {X : Type 0} (xs ys : List X) (i : ℕ) → slice_get (xs ++ ys) (length xs + i) ≡ slice_get ys i
get_right [] ys i = ap (slice_get ys) (zero-add i)
get_right (x ∷ xs) ys i = ap (slice_get (x ∷ (xs ++ ys))) (suc-add (length xs) i) ∙ get_right xs ys i

pub take_set : {X : Type 0} (n : ℕ) (xs : List X) (i : ℕ) (x : X) → take n (slice_set xs i x) ≡ slice_set (take n xs) i x
take_set zero xs i x = refl
take_set (suc n) [] i x = refl
take_set (suc n) (y ∷ ys) zero x = refl
take_set (suc n) (y ∷ ys) (suc i) x = ap (λ list. y ∷ list) (take_set n ys i x)

pub get_beyond : {X : Type 0} (xs ys : List X) (n i : ℕ) → length xs ≡ n → n ≤ i → slice_get (xs ++ ys) i ≡ slice_get ys (i - n)
get_beyond xs ys n i long beyond =
    let at : i ≡ length xs + (i - n) = omega arith in
    ap (slice_get (xs ++ ys)) at ∙ get_right xs ys (i - n)
