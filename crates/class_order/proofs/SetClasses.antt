-- What stands above a class are classes of the set, and which classes have a file.
use Rattle.std.proofs.Common.{◌≡◌, ℕ, zero, suc, ◌-◌, ◌<◌, ◌≤◌, Bool, true, false, cond, inl, inr, List, [], ◌∷◌, ◌++◌, map, length, slice_get, Option, Some, None, is_some, option_and_then, refl, sym, ap, ◌∙◌, arith}
use Rattle.std.specs.List.{AllByRecursion, filter_map, cons_option}
use Rattle.std.specs.Option.{option_map_or, option_to_list}
use Rattle.std.proofs.lemmas.Bool.{lt-ltb, le-ltb, cases_lt}
use Rattle.library.specs.Classes.{first_own}
use Rattle.class_pool.specs.Pool.{class_name_at}
use Rattle.class_file.specs.declared.record.ClassFile.{ClassFile}
use Rattle.class_tree.specs.DirectSupers.{superclass_of, superinterfaces_of}
use Rattle.class_tree.specs.Set.{IsClass, own_name, file_of, named_among}
use Rattle.class_tree.proofs.ancestors.Superclasses.{named_class, super_by_file}
use Rattle.class_tree.proofs.lookups.Climbing.{all_append}

module _ (files : List ClassFile) where
  abbrev pub uppers : ℕ → List ℕ
  uppers class = option_to_list (superclass_of files class) ++ superinterfaces_of files class

  -- the class has a file
  abbrev pub is_own : ℕ → Bool
  is_own class = is_some (file_of files class)

  -- ---- what stands above a class are classes of the set

  abbrev names : List (List ℕ)
  names = map own_name files

  named_more : (o : Option ℕ) (rest : List ℕ) → ((n : ℕ) → o ≡ Some n → IsClass files n) → AllByRecursion (IsClass files) rest → AllByRecursion (IsClass files) (cons_option o rest)
  named_more None rest h all = all
  named_more (Some n) rest h all = (h n refl, all)

  named_all : (file : ClassFile) (indexes : List ℕ) → AllByRecursion (IsClass files) (filter_map (named_among names file) indexes)
  named_all file [] = tt
  named_all file (index ∷ indexes) =
      named_more (named_among names file index) (filter_map (named_among names file) indexes) (λ n e. named_class files (class_name_at file.pool index) n e) (named_all file indexes)

  interfaces_in : (o : Option ClassFile) → AllByRecursion (IsClass files) (option_map_or (λ (file : ClassFile). filter_map (named_among names file) file.interfaces) o [])
  interfaces_in None = tt
  interfaces_in (Some file) = named_all file file.interfaces

  super_in : (o : Option ClassFile) (n : ℕ) → option_and_then (λ (file : ClassFile). named_among names file file.super_class) o ≡ Some n → IsClass files n
  super_in None n e = cc
  super_in (Some file) n e = named_class files (class_name_at file.pool file.super_class) n e

  listed : (o : Option ℕ) → ((n : ℕ) → o ≡ Some n → IsClass files n) → AllByRecursion (IsClass files) (option_to_list o)
  listed None h = tt
  listed (Some n) h = (h n refl, tt)

  pub uppers_in : (class : ℕ) → first_own ≤ class → AllByRecursion (IsClass files) (uppers class)
  uppers_in class own =
      all_append (IsClass files) (option_to_list (superclass_of files class)) (superinterfaces_of files class)
      (listed (superclass_of files class) (λ n e. super_in (slice_get files (class - first_own)) n (sym (super_by_file files class own) ∙ e)))
      (interfaces_in (file_of files class))

  -- ---- classes that have a file

  pub file_there : (class : ℕ) → first_own ≤ class → file_of files class ≡ slice_get files (class - first_own)
  file_there class le = ap (λ b. cond b None (slice_get files (class - first_own))) (le-ltb class first_own le)

  within_some : {X : Type 0} (xs : List X) (i : ℕ) → i < length xs → is_some (slice_get xs i) ≡ true
  within_some [] i lt = absurd (omega (arith, lt))
  within_some (x ∷ xs) zero lt = refl
  within_some (x ∷ xs) (suc i) lt = within_some xs i (omega (arith, lt))

  some_within : {X : Type 0} (xs : List X) (i : ℕ) → is_some (slice_get xs i) ≡ true → i < length xs
  some_within [] i e = cc
  some_within (x ∷ xs) zero e = omega arith
  some_within (x ∷ xs) (suc i) e = omega (arith, some_within xs i e)

  pub has_file : (class : ℕ) → IsClass files class → first_own ≤ class → is_own class ≡ true
  has_file class (inl library) own = absurd (omega (arith, library, own))
  has_file class (inr there) own = ap (λ (o : Option ClassFile). is_some o) (file_there class own) ∙ within_some files (class - first_own) there.1

  pub is_file : (class : ℕ) → is_own class ≡ true → first_own ≤ class
  is_file class own =
      elim (cases_lt class first_own) [
        | inl library ↦
            let none : is_own class ≡ false = ap (λ b. is_some (cond b None (slice_get files (class - first_own)))) (lt-ltb class first_own library) in cc
        | inr le ↦ le
      ]

  pub file_within : (class : ℕ) → is_own class ≡ true → class - first_own < length files
  file_within class own = some_within files (class - first_own) (ap (λ (o : Option ClassFile). is_some o) (sym (file_there class (is_file class own))) ∙ own)
