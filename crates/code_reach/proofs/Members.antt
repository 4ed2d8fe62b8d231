-- Numbers in lists.
use Rattle.std.proofs.Common.{inl, inr, ◌⊎◌, ◌≡◌, ℕ, Bool, true, false, ◌||◌, eqb, List, [], ◌∷◌, ◌++◌, length, refl, sym, ap, ◌∙◌, subst, arith}
use Rattle.std.specs.Prelude.{Result, Ok, Err, OnOk}
use Rattle.std.proofs.lemmas.List.Folds.{list_any-append}
use Rattle.std.proofs.lemmas.Bool.{false≢true}
use Rattle.std.proofs.lemmas.Bool.Decides.{Decides-eqb}
use Rattle.code_reach.specs.Visits.{IsIn}

or_parts : (a b : Bool) → (a || b) ≡ true → (a ≡ true) ⊎ (b ≡ true)
or_parts true b e = inl refl
or_parts false b e = inr e

or_left : (a b : Bool) → a ≡ true → (a || b) ≡ true
or_left a b e = ap (λ c. c || b) e

or_right : (a b : Bool) → b ≡ true → (a || b) ≡ true
or_right true b e = refl
or_right false b e = e

pub in_none : (n : ℕ) → IsIn [] n → ⊥
in_none n e = false≢true e

-- ---- one number, and more

pub in_cons : (x : ℕ) (xs : List ℕ) (n : ℕ) → IsIn (x ∷ xs) n → (x ≡ n) ⊎ IsIn xs n
in_cons x xs n e = elim (or_parts (eqb x n) _ e) [ inl here ↦ inl ((Decides-eqb x n).0 here) | inr suffix ↦ inr suffix ]

pub in_here : (x : ℕ) (xs : List ℕ) (n : ℕ) → x ≡ n → IsIn (x ∷ xs) n
in_here x xs n e = or_left (eqb x n) _ ((Decides-eqb x n).1 e)

pub in_rest : (x : ℕ) (xs : List ℕ) (n : ℕ) → IsIn xs n → IsIn (x ∷ xs) n
in_rest x xs n e = or_right (eqb x n) _ e

-- ---- two lists

in_append : (xs ys : List ℕ) (n : ℕ) → IsIn (xs ++ ys) n → IsIn xs n ⊎ IsIn ys n
in_append xs ys n e = or_parts _ _ (sym (list_any-append (λ other. eqb other n) xs ys) ∙ e)

pub in_both : (xs ys : List ℕ) (n : ℕ) → IsIn (xs ++ ys) n → IsIn xs n ⊎ IsIn ys n
in_both = in_append

pub in_left : (xs ys : List ℕ) (n : ℕ) → IsIn xs n → IsIn (xs ++ ys) n
in_left xs ys n e = list_any-append (λ other. eqb other n) xs ys ∙ or_left _ _ e

pub in_right : (xs ys : List ℕ) (n : ℕ) → IsIn ys n → IsIn (xs ++ ys) n
in_right xs ys n e = list_any-append (λ other. eqb other n) xs ys ∙ or_right _ _ e

-- ---- one number more at the end

pub in_pushed : (xs ys : List ℕ) (x n : ℕ) → ys ≡ xs ++ x ∷ [] → IsIn ys n → IsIn xs n ⊎ (x ≡ n)
in_pushed xs ys x n is e =
    elim (in_both xs (x ∷ []) n (subst (λ list. IsIn list n) is e)) [
      | inl old ↦ inl old
      | inr new ↦ elim (in_cons x [] n new) [ inl here ↦ inr here | inr none ↦ absurd (in_none n none) ]
    ]

pub in_old : (xs ys : List ℕ) (x n : ℕ) → ys ≡ xs ++ x ∷ [] → IsIn xs n → IsIn ys n
in_old xs ys x n is e = subst (λ list. IsIn list n) (sym is) (in_left xs (x ∷ []) n e)

pub in_new : (xs ys : List ℕ) (x n : ℕ) → ys ≡ xs ++ x ∷ [] → x ≡ n → IsIn ys n
in_new xs ys x n is e = subst (λ list. IsIn list n) (sym is) (in_right xs (x ∷ []) n (in_here x [] n e))

-- ---- what a call that did not fail says

pub then_ok : {A E : Type 0} {P Q : Type 0} (r : Result A E) → (P → Q) → OnOk r P → OnOk r Q
then_ok (Ok x) f h = f h
then_ok (Err e) f h = tt

pub both_ok : {A E : Type 0} (P Q : Type 0) (r : Result A E) → OnOk r P → OnOk r Q → OnOk r (P × Q)
both_ok P Q (Ok x) p q = (p, q)
both_ok P Q (Err e) p q = tt

-- ---- lists

pub empty : {X : Type 0} (xs : List X) → length xs ≡ 0 → xs ≡ []
empty [] e = refl
empty (x ∷ xs) e = absurd (omega (arith, e))
