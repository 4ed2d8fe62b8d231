-- The superclass and the superinterfaces of a class stand directly above it.
use Rattle.std.proofs.Common.{◌≡◌, ℕ, ◌-◌, ◌<◌, ◌≤◌, true, false, cond, inl, inr, List, [], ◌∷◌, ◌++◌, slice_get, Option, Some, None, option_and_then, eq-eqb, refl, sym, ap, subst, ◌∙◌}
use Rattle.std.specs.Option.{option_map_or, option_to_list}
use Rattle.std.specs.List.{AllByRecursion, list_any, filter_map, cons_option}
use Rattle.std.proofs.lemmas.Bool.{lt-ltb, le-ltb, cases_lt}
use Rattle.library.specs.Classes.{first_own}
use Rattle.class_file.specs.declared.record.ClassFile.{ClassFile}
use Rattle.class_tree.specs.Set.{named_among, is_number, library_superclass, is_directly_below, file_of}
use Rattle.class_tree.specs.DirectSupers.{superclass_among, superinterfaces_among}
use Rattle.class_tree.proofs.ancestors.Leading.{or_left, or_right}
use Rattle.class_tree.proofs.lookups.Climbing.{all_map, all_append}
use Rattle.class_tree.proofs.ancestors.Acyclic.{by_library, by_file}
use Rattle.class_tree.specs.Ranks.{AreRanks}

number_same : (n : ℕ) (o : Option ℕ) → o ≡ Some n → is_number n o ≡ true
number_same n o e = ap (is_number n) e ∙ eq-eqb n n refl

-- ---- lists that are filtered

kept : (P : ℕ → Type 0) (o : Option ℕ) (ns : List ℕ) → ((n : ℕ) → o ≡ Some n → P n) → AllByRecursion P ns → AllByRecursion P (cons_option o ns)
kept P None ns h all = all
kept P (Some n) ns h all = (h n refl, all)

all_kept : (P : ℕ → Type 0) (name : ℕ → Option ℕ) (indexes : List ℕ) → ((n : ℕ) → list_any (λ index. is_number n (name index)) indexes ≡ true → P n) → AllByRecursion P (filter_map name indexes)
all_kept P name [] h = tt
all_kept P name (index ∷ indexes) h =
    kept P (name index) (filter_map name indexes)
    (λ n e. h n (or_left (is_number n (name index)) (list_any (λ i. is_number n (name i)) indexes) (number_same n (name index) e)))
    (all_kept P name indexes (λ n any. h n (or_right (is_number n (name index)) (list_any (λ i. is_number n (name i)) indexes) any)))

-- ---- classes

module _ (names : List (List ℕ)) (files : List ClassFile) where
  abbrev pub IsAbove : ℕ → ℕ → Type 0
  IsAbove class upper = is_directly_below names files class upper ≡ true

  -- the file of a class of a number that is not the library's
  pub file_there : (class : ℕ) → first_own ≤ class → file_of files class ≡ slice_get files (class - first_own)
  file_there class le = ap (λ b. cond b None (slice_get files (class - first_own))) (le-ltb class first_own le)

  pub no_file_there : (class : ℕ) → class < first_own → file_of files class ≡ None
  no_file_there class lt = ap (λ b. cond b None (slice_get files (class - first_own))) (lt-ltb class first_own lt)

  super_by_library : (class : ℕ) → class < first_own → superclass_among names files class ≡ library_superclass class
  super_by_library class lt = ap (λ b. cond b (library_superclass class) (option_and_then (λ (file : ClassFile). named_among names file file.super_class) (file_of files class))) (lt-ltb class first_own lt)

  super_by_file : (class : ℕ) → first_own ≤ class → superclass_among names files class ≡ option_and_then (λ (file : ClassFile). named_among names file file.super_class) (slice_get files (class - first_own))
  super_by_file class le =
      ap (λ b. cond b (library_superclass class) (option_and_then (λ (file : ClassFile). named_among names file file.super_class) (file_of files class))) (le-ltb class first_own le)
      ∙ ap (option_and_then (λ (file : ClassFile). named_among names file file.super_class)) (file_there class le)

  -- what a file names is directly above its class
  file_super : (class : ℕ) → first_own ≤ class → (o : Option ClassFile) → slice_get files (class - first_own) ≡ o → (upper : ℕ)
      → option_and_then (λ (file : ClassFile). named_among names file file.super_class) o ≡ Some upper → IsAbove class upper
  file_super class le None is upper e = cc
  file_super class le (Some file) is upper e =
      by_file names files class upper le
      ∙ ap (λ (o : Option ClassFile). option_map_or (λ f. list_any (λ index. is_number upper (named_among names f index)) (f.super_class ∷ f.interfaces)) o false) is
      ∙ or_left (is_number upper (named_among names file file.super_class)) (list_any (λ index. is_number upper (named_among names file index)) file.interfaces)
      (number_same upper (named_among names file file.super_class) e)

  superclass_above : (class upper : ℕ) → superclass_among names files class ≡ Some upper → IsAbove class upper
  superclass_above class upper e =
      elim (cases_lt class first_own) [
        | inl library ↦ by_library names files class upper library ∙ number_same upper (library_superclass class) (sym (super_by_library class library) ∙ e)
        | inr own ↦ file_super class own (slice_get files (class - first_own)) refl upper (sym (super_by_file class own) ∙ e)
      ]

  listed : (P : ℕ → Type 0) (o : Option ℕ) → ((n : ℕ) → o ≡ Some n → P n) → AllByRecursion P (option_to_list o)
  listed P None h = tt
  listed P (Some n) h = (h n refl, tt)

  pub superclasses_above : (class : ℕ) → AllByRecursion (IsAbove class) (option_to_list (superclass_among names files class))
  superclasses_above class = listed (IsAbove class) (superclass_among names files class) (superclass_above class)

  file_interfaces : (class : ℕ) → first_own ≤ class → (o : Option ClassFile) → slice_get files (class - first_own) ≡ o
      → AllByRecursion (IsAbove class) (option_map_or (λ (file : ClassFile). filter_map (named_among names file) file.interfaces) o [])
  file_interfaces class le None is = tt
  file_interfaces class le (Some file) is =
      all_kept (IsAbove class) (named_among names file) file.interfaces
      (λ upper any. by_file names files class upper le
      ∙ ap (λ (o : Option ClassFile). option_map_or (λ f. list_any (λ index. is_number upper (named_among names f index)) (f.super_class ∷ f.interfaces)) o false) is
      ∙ or_right (is_number upper (named_among names file file.super_class)) (list_any (λ index. is_number upper (named_among names file index)) file.interfaces) any)

  pub superinterfaces_above : (class : ℕ) → AllByRecursion (IsAbove class) (superinterfaces_among names files class)
  superinterfaces_above class =
      let interfaces : Option ClassFile → List ℕ = λ o. option_map_or (λ (file : ClassFile). filter_map (named_among names file) file.interfaces) o [] in
      let P : List ℕ → Type 0 = λ uppers. AllByRecursion (IsAbove class) uppers in
      elim (cases_lt class first_own) [
        | inl library ↦ subst P (sym (ap interfaces (no_file_there class library))) tt
        | inr own ↦ subst P (sym (ap interfaces (file_there class own))) (file_interfaces class own (slice_get files (class - first_own)) refl)
      ]

  -- ---- a rank falls to each of them

  module _ (rank : ℕ → ℕ) (ranks : AreRanks names files rank) where
    falls_to : (class : ℕ) (uppers : List ℕ) → AllByRecursion (IsAbove class) uppers → AllByRecursion (λ upper. rank upper < rank class) uppers
    falls_to class uppers all = all_map (IsAbove class) (λ upper. rank upper < rank class) (λ upper e. ranks.falls class upper e) uppers all

    pub superclasses_fall : (class : ℕ) → AllByRecursion (λ upper. rank upper < rank class) (option_to_list (superclass_among names files class))
    superclasses_fall class = falls_to class (option_to_list (superclass_among names files class)) (superclasses_above class)

    pub superinterfaces_fall : (class : ℕ) → AllByRecursion (λ upper. rank upper < rank class) (superinterfaces_among names files class)
    superinterfaces_fall class = falls_to class (superinterfaces_among names files class) (superinterfaces_above class)

    pub all_fall : (class : ℕ) → AllByRecursion (λ upper. rank upper < rank class) (superinterfaces_among names files class ++ option_to_list (superclass_among names files class))
    all_fall class =
        all_append (λ upper. rank upper < rank class) (superinterfaces_among names files class) (option_to_list (superclass_among names files class)) (superinterfaces_fall class) (superclasses_fall class)
