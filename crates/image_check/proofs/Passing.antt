-- Tests of each element of a list, by steps.
use Rattle.std.proofs.Common.{◌≡◌, ℕ, ◌+◌, ◌<◌, ◌≤◌, Bool, true, false, ◌&&◌, List, length, drop, take, get_or, All, MatchBool, sym, ap, subst, ◌∙◌}
use Rattle.std.specs.List.{list_all, Contains, AllByRecursion}
use Rattle.std.proofs.lemmas.Bool.{false≢true}
use Rattle.std.proofs.lemmas.List.{drop_more, drop_all, take_all}
use Rattle.std.proofs.lemmas.List.Elements.{Contains-get_or, recursion_from_All, All-from_recursion, All-contains}

-- ---- the answer of a test

pub yes : (b : Bool) (P Q : Type 0) → b ≡ true → MatchBool b P Q → P
yes true P Q e h = h
yes false P Q e h = absurd (false≢true e)

pub no : (b : Bool) (P Q : Type 0) → b ≡ false → MatchBool b P Q → Q
no true P Q e h = absurd (false≢true (sym e))
no false P Q e h = h

-- ---- all of a list

pub all-here : (test : ℕ → Bool) (xs : List ℕ) (i d : ℕ) → i < length xs → test (get_or xs i d) ≡ false → list_all test (drop i xs) ≡ false
all-here test xs i d lt e = ap (list_all test) (drop_more xs i d lt) ∙ ap (λ b. b && list_all test (drop (i + 1) xs)) e

pub all-more : (test : ℕ → Bool) (xs : List ℕ) (i d : ℕ) → i < length xs → test (get_or xs i d) ≡ true → list_all test (drop (i + 1) xs) ≡ list_all test (drop i xs)
all-more test xs i d lt e = sym (ap (list_all test) (drop_more xs i d lt) ∙ ap (λ b. b && list_all test (drop (i + 1) xs)) e)

pub all-end : (test : ℕ → Bool) (xs : List ℕ) (i : ℕ) → length xs ≤ i → list_all test (drop i xs) ≡ true
all-end test xs i le = ap (list_all test) (drop_all i xs le)

-- ---- each of a list

pub all-kept : {X : Type 0} (P : X → Type 0) (xs : List X) (i : ℕ) → length xs ≤ i → All P (take i xs) → AllByRecursion P xs
all-kept P xs i le all = recursion_from_All P xs (subst (All P) (take_all i xs le) all)

pub each-of : {X : Type 0} (P : X → Type 0) (xs : List X) (x : X) → AllByRecursion P xs → Contains xs x → P x
each-of P xs x all has = All-contains P xs x (All-from_recursion P xs all) has

-- what a loop reads stands in the list
pub read-is_there : {X : Type 0} (xs : List X) (i : ℕ) (x : X) → i < length xs → x ≡ get_or xs i x → Contains xs x
read-is_there xs i x lt e = subst (Contains xs) (sym e) (Contains-get_or xs i x lt)
