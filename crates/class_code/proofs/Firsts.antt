-- The first of a list that does not pass a test.
use Rattle.std.proofs.Common.{◌≡◌, ℕ, Bool, true, false, cond, List, [], ◌∷◌, ◌++◌, drop, get_or, length, ◌<◌, ◌≤◌, ◌+◌, suc, Some, None, ◌↔◌, refl, sym, ap, ◌∙◌, add-one}
use Rattle.std.proofs.Math.Seq.{drop-cons}
use Rattle.std.proofs.lemmas.List.{drop_all}
use Rattle.std.specs.List.{AllByRecursion}
use Rattle.std.proofs.lemmas.Bool.{false≢true}
use Rattle.class_code.specs.Code.{IsFirstOther, first_other}

-- the test says whether the fact holds
pub record Tells (b : Bool) (P : Type 0) : Type 0 where
  pub holds : b ≡ true → P
  pub passes : P → b ≡ true

pub fails : (b : Bool) (P : Type 0) → Tells b P → ¬ P → b ≡ false
fails true P tells not = absurd (not (tells.holds refl))
fails false P tells not = refl

pub not_so : (b : Bool) (P : Type 0) → Tells b P → b ≡ false → ¬ P
not_so b P tells e p = false≢true (sym e ∙ tells.passes p)

some_is_none : {X : Type 0} (x : X) → Some x ≡ None → ⊥
some_is_none x e = cc

-- ---- by steps

pub other-passed : {X : Type 0} (test : X → Bool) (x : X) (xs : List X) → test x ≡ true → first_other test (x ∷ xs) ≡ first_other test xs
unfolding first_other
other-passed test x xs e = ap (λ b. cond b (first_other test xs) (Some x)) e

pub other-here : {X : Type 0} (test : X → Bool) (x : X) (xs : List X) → test x ≡ false → first_other test (x ∷ xs) ≡ Some x
unfolding first_other
other-here test x xs e = ap (λ b. cond b (first_other test xs) (Some x)) e

pub other-none : {X : Type 0} (test : X → Bool) → first_other test [] ≡ None
unfolding first_other
other-none test = refl

-- ---- the test of all

module _ {X : Type 0} (test : X → Bool) (P : X → Type 0) (tells : (x : X) → Tells (test x) (P x)) where
  none-are : (xs : List X) → AllByRecursion P xs → first_other test xs ≡ None
  none-are [] all = other-none test
  none-are (x ∷ xs) all = other-passed test x xs ((tells x).passes all.0) ∙ none-are xs all.1

  are-none : (xs : List X) → first_other test xs ≡ None → AllByRecursion P xs
  are-none [] e = tt
  are-none (x ∷ xs) e =
      elim (test x) as (λ b. (test x ≡ b → AllByRecursion P (x ∷ xs))) [
        | true ↦ λ passed. ((tells x).holds passed, are-none xs (sym (other-passed test x xs passed) ∙ e))
        | false ↦ λ failed. absurd (some_is_none x (sym (other-here test x xs failed) ∙ e))
      ] refl

  pub none_exactly : (xs : List X) → (first_other test xs ≡ None) ↔ AllByRecursion P xs
  none_exactly xs = (are-none xs, none-are xs)

  -- what was found is the first
  pub found-first : (xs : List X) (y : X) → first_other test xs ≡ Some y → IsFirstOther P xs y
  found-first [] y e = absurd (some_is_none y (sym e ∙ other-none test))
  found-first (x ∷ xs) y e =
      elim (test x) as (λ b. (test x ≡ b → IsFirstOther P (x ∷ xs) y)) [
        | true ↦ λ passed.
            let rest = found-first xs y (sym (other-passed test x xs passed) ∙ e) in
            record { before = x ∷ rest.before; after = rest.after; stands = ap (λ (others : List X). x ∷ others) rest.stands; are = ((tells x).holds passed, rest.are); is_not = rest.is_not }
        | false ↦ λ failed.
            let same : x ≡ y = cc (other-here test x xs failed, e) in
            record { before = []; after = xs; stands = ap (λ (z : X). z ∷ xs) same; are = tt; is_not = λ p. false≢true (sym failed ∙ ap test same ∙ (tells y).passes p) }
      ] refl

  passes-all : (before : List X) (y : X) (after : List X) → AllByRecursion P before → ¬ P y → first_other test (before ++ y ∷ after) ≡ Some y
  passes-all [] y after are is_not = other-here test y after (fails (test y) (P y) (tells y) is_not)
  passes-all (x ∷ before) y after are is_not = other-passed test x (before ++ y ∷ after) ((tells x).passes are.0) ∙ passes-all before y after are.1 is_not

  -- the first is found
  pub first-found : (xs : List X) (y : X) → IsFirstOther P xs y → first_other test xs ≡ Some y
  first-found xs y first = ap (first_other test) first.stands ∙ passes-all first.before y first.after first.are first.is_not

-- ---- the loop

pub loop-more : {X : Type 0} (test : X → Bool) (xs : List X) (i : ℕ) (d : X) → i < length xs → test (get_or xs i d) ≡ true → first_other test (drop (i + 1) xs) ≡ first_other test (drop i xs)
loop-more test xs i d lt e = sym (ap (first_other test) (drop-cons xs i d lt) ∙ other-passed test (get_or xs i d) (drop (suc i) xs) e ∙ ap (λ n. first_other test (drop n xs)) (sym (add-one i)))

pub loop-here : {X : Type 0} (test : X → Bool) (xs : List X) (i : ℕ) (d : X) → i < length xs → test (get_or xs i d) ≡ false → first_other test (drop i xs) ≡ Some (get_or xs i d)
loop-here test xs i d lt e = ap (first_other test) (drop-cons xs i d lt) ∙ other-here test (get_or xs i d) (drop (suc i) xs) e

pub loop-end : {X : Type 0} (test : X → Bool) (xs : List X) (i : ℕ) → length xs ≤ i → first_other test (drop i xs) ≡ None
loop-end test xs i le = ap (first_other test) (drop_all i xs le) ∙ other-none test
