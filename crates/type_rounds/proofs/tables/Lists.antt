-- Lists each element of which has a property.
use Rattle.std.proofs.Common.{suc, Bool, true, false, cond, List, [], ◌∷◌, ◌++◌, map, filter, refl, arith}
use Rattle.std.specs.List.{AllByRecursion, Contains}

pub all_map : {X : Type 0} (P Q : X → Type 0) → ((x : X) → P x → Q x) → (xs : List X) → AllByRecursion P xs → AllByRecursion Q xs
all_map P Q h [] all = tt
all_map P Q h (x ∷ xs) all = (h x all.0, all_map P Q h xs all.1)

pub all_both : {X : Type 0} (P Q R : X → Type 0) → ((x : X) → P x → Q x → R x) → (xs : List X) → AllByRecursion P xs → AllByRecursion Q xs → AllByRecursion R xs
all_both P Q R h [] first second = tt
all_both P Q R h (x ∷ xs) first second = (h x first.0 second.0, all_both P Q R h xs first.1 second.1)

pub all_each : {X : Type 0} (P : X → Type 0) → ((x : X) → P x) → (xs : List X) → AllByRecursion P xs
all_each P h [] = tt
all_each P h (x ∷ xs) = (h x, all_each P h xs)

pub all_elements : {X : Type 0} (P : X → Type 0) (xs : List X) → ((x : X) → Contains xs x → P x) → AllByRecursion P xs
all_elements P [] h = tt
all_elements P (x ∷ xs) h = (h x (0, omega arith, refl), all_elements P xs (λ y there. let within = there.1 in h y (suc there.0, omega (arith, within), there.2)))

-- ---- parts

pub all_append : {X : Type 0} (P : X → Type 0) (xs ys : List X) → AllByRecursion P xs → AllByRecursion P ys → AllByRecursion P (xs ++ ys)
all_append P [] ys first second = second
all_append P (x ∷ xs) ys first second = (first.0, all_append P xs ys first.1 second)

pub all_prefix : {X : Type 0} (P : X → Type 0) (xs ys : List X) → AllByRecursion P (xs ++ ys) → AllByRecursion P xs
all_prefix P [] ys all = tt
all_prefix P (x ∷ xs) ys all = (all.0, all_prefix P xs ys all.1)

pub all_suffix : {X : Type 0} (P : X → Type 0) (xs ys : List X) → AllByRecursion P (xs ++ ys) → AllByRecursion P ys
all_suffix P [] ys all = all
all_suffix P (x ∷ xs) ys all = all_suffix P xs ys all.1

kept : {X : Type 0} (P : X → Type 0) (passes : Bool) (x : X) (xs : List X) → P x → AllByRecursion P xs → AllByRecursion P (cond passes (x ∷ xs) xs)
kept P true x xs is all = (is, all)
kept P false x xs is all = all

pub all_filter : {X : Type 0} (P : X → Type 0) (test : X → Bool) (xs : List X) → AllByRecursion P xs → AllByRecursion P (filter test xs)
all_filter P test [] all = tt
all_filter P test (x ∷ xs) all = kept P (test x) x (filter test xs) all.0 (all_filter P test xs all.1)

-- ---- lists of what a function gives

pub all_given : {X Y : Type 0} (P : Y → Type 0) (f : X → Y) (xs : List X) → AllByRecursion (λ x. P (f x)) xs → AllByRecursion P (map f xs)
all_given P f [] all = tt
all_given P f (x ∷ xs) all = (all.0, all_given P f xs all.1)

pub all_from : {X Y : Type 0} (P : Y → Type 0) (f : X → Y) (xs : List X) → AllByRecursion P (map f xs) → AllByRecursion (λ x. P (f x)) xs
all_from P f [] all = tt
all_from P f (x ∷ xs) all = (all.0, all_from P f xs all.1)
