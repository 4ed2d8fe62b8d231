-- The numbers of classes stay below those of the library and of the files.
use Rattle.std.proofs.Common.{◌≡◌, ℕ, zero, suc, ◌+◌, ◌-◌, ◌<◌, Bool, true, false, nat_lt, cond, inl, inr, List, [], ◌∷◌, length, slice_get, Option, Some, None, option_map, option_and_then, position, refl, sym, ap, subst, arith, unwrap_or}
use Rattle.std.specs.Option.{option_or, option_map_or}
use Rattle.std.specs.List.{list_any, AllByRecursion}
use Rattle.std.specs.Str.{bytes_eq}
use Rattle.std.proofs.lemmas.Bool.{eqb-true}
use Rattle.std.proofs.lemmas.List.Quantifiers.{position-Some}
use Rattle.library.specs.Classes.{first_own, class_names, superclasses}
use Rattle.class_pool.specs.Pool.{class_name_at}
use Rattle.class_file.specs.declared.record.ClassFile.{ClassFile}
use Rattle.class_tree.specs.Set.{number_among, named_among, is_number, library_superclass, names_super, is_directly_below}
use Rattle.class_tree.proofs.ancestors.Leading.{or_cases}

pub same_some : (m n : ℕ) → Some m ≡ Some n → m ≡ n
same_some m n e = ap (λ o. unwrap_or o 0) e

-- ---- numbers of names

after_library : (most : ℕ) (o : Option ℕ) (n : ℕ) → ((k : ℕ) → o ≡ Some k → first_own + k < most) → option_map (λ file. first_own + file) o ≡ Some n → n < most
after_library most None n bound e = cc
after_library most (Some k) n bound e = subst (λ m. m < most) (same_some (first_own + k) n e) (bound k refl)

either : (most : ℕ) (first second : Option ℕ) (n : ℕ) → ((k : ℕ) → first ≡ Some k → k < most) → (second ≡ Some n → n < most) → option_or first second ≡ Some n → n < most
either most None second n bound other e = other e
either most (Some k) second n bound other e = bound n e

pub among_within : (names : List (List ℕ)) (name : List ℕ) (n : ℕ) → number_among names name ≡ Some n → n < 32 + length names
among_within names name n e =
    either (32 + length names) (position (bytes_eq name) class_names) (option_map (λ file. first_own + file) (position (bytes_eq name) names)) n
    (λ k is. omega (arith, (position-Some (bytes_eq name) class_names k [] is).0))
    (λ is. after_library (32 + length names) (position (bytes_eq name) names) n (λ k here. omega (arith, (position-Some (bytes_eq name) names k [] here).0)) is)
    e

named_in : (names : List (List ℕ)) (o : Option (List ℕ)) (n : ℕ) → option_and_then (number_among names) o ≡ Some n → n < 32 + length names
named_in names None n e = cc
named_in names (Some name) n e = among_within names name n e

-- ---- what stands directly above

pub is_number_same : (number : ℕ) (found : Option ℕ) → is_number number found ≡ true → found ≡ Some number
is_number_same number None e = cc
is_number_same number (Some other) e = ap Some (sym (eqb-true number other e))

any_within : (names : List (List ℕ)) (file : ClassFile) (to : ℕ) (indexes : List ℕ) → list_any (λ index. is_number to (named_among names file index)) indexes ≡ true → to < 32 + length names
any_within names file to [] e = cc
any_within names file to (index ∷ indexes) e =
    elim (or_cases (is_number to (named_among names file index)) (list_any (λ i. is_number to (named_among names file i)) indexes) e) [
      | inl here ↦ named_in names (class_name_at file.pool index) to (is_number_same to (named_among names file index) here)
      | inr later ↦ any_within names file to indexes later
    ]

file_within : (names : List (List ℕ)) (o : Option ClassFile) (to : ℕ) → option_map_or (names_super names to) o false ≡ true → to < 32 + length names
file_within names None to e = cc
file_within names (Some file) to e = any_within names file to (file.super_class ∷ file.interfaces) e

-- a number, where there is one, is small
abbrev IsSmall : Option ℕ → Type 0
IsSmall o = (n : ℕ) → o ≡ Some n → n < 15

no_superclass : IsSmall None
no_superclass n e = cc

a_superclass : (k : ℕ) → k < 15 → IsSmall (Some k)
a_superclass k lt n e = subst (λ m. m < 15) (same_some k n e) lt

small_at : (xs : List (Option ℕ)) → AllByRecursion IsSmall xs → (i : ℕ) → IsSmall (option_and_then (λ above. above) (slice_get xs i))
small_at [] all i n e = cc
small_at (x ∷ xs) all zero n e = all.0 n e
small_at (x ∷ xs) all (suc i) n e = small_at xs all.1 i n e

-- the superclasses of the library have small numbers
all_small : (lower : ℕ) → IsSmall (library_superclass lower)
all_small lower = small_at superclasses (no_superclass, (a_superclass 0 (omega arith), (a_superclass 1 (omega arith), (a_superclass 2 (omega arith), (a_superclass 3 (omega arith), (a_superclass 3 (omega arith), (a_superclass 3 (omega arith), (a_superclass 3 (omega arith), (a_superclass 3 (omega arith), (a_superclass 3 (omega arith), (a_superclass 9 (omega arith), (a_superclass 1 (omega arith), (a_superclass 11 (omega arith), (a_superclass 12 (omega arith), (a_superclass 0 (omega arith), tt))))))))))))))) lower

cases : (b : Bool) (x y : Bool) (P : Type 0) → (x ≡ true → P) → (y ≡ true → P) → cond b x y ≡ true → P
cases true x y P first second e = first e
cases false x y P first second e = second e

-- what stands directly above a class is a class
pub stays_below : (names : List (List ℕ)) (files : List ClassFile) (from to : ℕ) → is_directly_below names files from to ≡ true → to < 32 + length names
stays_below names files from to e =
    cases (nat_lt from first_own) (is_number to (library_superclass from)) (option_map_or (names_super names to) (slice_get files (from - first_own)) false) (to < 32 + length names)
    (λ here. omega (arith, all_small from to (is_number_same to (library_superclass from) here)))
    (λ there. file_within names (slice_get files (from - first_own)) to there)
    e
