-- A class is below another one where it is the same, or where one that stands directly above it is below that.
use Rattle.std.proofs.Common.{◌≡◌, ℕ, ◌-◌, Bool, true, false, ◌||◌, nat_eq, nat_lt, if◌then◌else◌, inl, inr, List, [], ◌∷◌, ◌++◌, map, slice_get, Option, Some, None, option_and_then, refl, sym, subst, eq-eqb, eqb-true}
use Rattle.std.specs.List.{AllByRecursion, list_any, filter_map, cons_option}
use Rattle.std.specs.Option.{option_map_or, option_to_list}
use Rattle.library.specs.Classes.{first_own}
use Rattle.class_file.specs.declared.record.ClassFile.{ClassFile}
use Rattle.class_tree.specs.AccessTests.{is_subclass}
use Rattle.class_tree.specs.Closure.{Leads, AtOnce, Over}
use Rattle.class_tree.specs.DirectSupers.{superclass_of, superinterfaces_of}
use Rattle.class_tree.specs.Set.{own_name, named_among, names_super, is_number, library_superclass}
use Rattle.class_tree.specs.Subtypes.{directly_below, IsSubclass}
use Rattle.class_tree.proofs.ancestors.Leading.{or_cases, or_left, or_right}
use Rattle.class_tree.proofs.ancestors.SupersAbove.{IsAbove, superclasses_above, superinterfaces_above}
use Rattle.class_tree.proofs.lookups.Climbing.{all_append}
use Rattle.class_tree.proofs.lookups.TestedAccess.{subclass_says}
use Rattle.jvm_model.specs.ImageNumbering.{is_among}

-- what stands directly above a class: its superclass, and then its superinterfaces
abbrev pub supers_of : List ClassFile → ℕ → List ℕ
supers_of files class = option_to_list (superclass_of files class) ++ superinterfaces_of files class

-- ---- lists

pub among_first : (upper : ℕ) (found : Option ℕ) (rest : List ℕ) → is_number upper found ≡ true → is_among upper (option_to_list found ++ rest) ≡ true
among_first upper None rest e = cc
among_first upper (Some other) rest e = or_left (nat_eq upper other) (is_among upper rest) e

among_rest : (upper : ℕ) (found : Option ℕ) (rest : List ℕ) → is_among upper rest ≡ true → is_among upper (option_to_list found ++ rest) ≡ true
among_rest upper None rest e = e
among_rest upper (Some other) rest e = or_right (nat_eq upper other) (is_among upper rest) e

kept_first : (upper : ℕ) (found : Option ℕ) (rest : List ℕ) → is_number upper found ≡ true → is_among upper (cons_option found rest) ≡ true
kept_first upper None rest e = cc
kept_first upper (Some other) rest e = or_left (nat_eq upper other) (is_among upper rest) e

kept_rest : (upper : ℕ) (found : Option ℕ) (rest : List ℕ) → is_among upper rest ≡ true → is_among upper (cons_option found rest) ≡ true
kept_rest upper None rest e = e
kept_rest upper (Some other) rest e = or_right (nat_eq upper other) (is_among upper rest) e

kept_among : (upper : ℕ) (name : ℕ → Option ℕ) (indexes : List ℕ) → list_any (λ index. is_number upper (name index)) indexes ≡ true → is_among upper (filter_map name indexes) ≡ true
kept_among upper name [] e = cc
kept_among upper name (index ∷ indexes) e =
    elim (or_cases (is_number upper (name index)) (list_any (λ index. is_number upper (name index)) indexes) e) [
      | inl here ↦ kept_first upper (name index) (filter_map name indexes) here
      | inr later ↦ kept_rest upper (name index) (filter_map name indexes) (kept_among upper name indexes later)
    ]

pub any_of : (test : ℕ → Bool) (number : ℕ) (numbers : List ℕ) → is_among number numbers ≡ true → test number ≡ true → list_any test numbers ≡ true
any_of test number [] among passes = cc
any_of test number (other ∷ numbers) among passes =
    elim (or_cases (nat_eq number other) (is_among number numbers) among) [
      | inl same ↦ or_left (test other) (list_any test numbers) (subst (λ n. test n ≡ true) (eqb-true number other same) passes)
      | inr later ↦ or_right (test other) (list_any test numbers) (any_of test number numbers later passes)
    ]

-- ---- what is directly above

above_among : (names : List (List ℕ)) (library : Option ℕ) (found : Option ClassFile) (upper : ℕ) (own : Bool)
    → (if own then is_number upper library else option_map_or (names_super names upper) found false) ≡ true
    → is_among upper (option_to_list (if own then library else option_and_then (λ (file : ClassFile). named_among names file file.super_class) (if own then None else found))
    ++ option_map_or (λ (file : ClassFile). filter_map (named_among names file) file.interfaces) (if own then None else found) []) ≡ true
above_among names library found upper true e = among_first upper library [] e
above_among names library None upper false e = cc
above_among names library (Some file) upper false e =
    let interfaces = filter_map (named_among names file) file.interfaces in
    elim (or_cases (is_number upper (named_among names file file.super_class)) (list_any (λ index. is_number upper (named_among names file index)) file.interfaces) e) [
      | inl super ↦ among_first upper (named_among names file file.super_class) interfaces super
      | inr interface ↦ among_rest upper (named_among names file file.super_class) interfaces (kept_among upper (named_among names file) file.interfaces interface)
    ]

directly_among : (files : List ClassFile) (class upper : ℕ) → directly_below files class upper ≡ true → is_among upper (supers_of files class) ≡ true
directly_among files class upper e = above_among (map own_name files) (library_superclass class) (slice_get files (class - first_own)) upper (nat_lt class first_own) e

-- ---- one step up

module _ (files : List ClassFile) (class upper : ℕ) where
  goes_up : Leads (directly_below files) class upper → list_any (λ by. is_subclass files by upper) (supers_of files class) ≡ true
  goes_up (AtOnce e) = any_of (λ by. is_subclass files by upper) upper (supers_of files class) (directly_among files class upper e) ((subclass_says files upper upper).1 (inl refl))
  goes_up (Over by e later) = any_of (λ by. is_subclass files by upper) by (supers_of files class) (directly_among files class by e) ((subclass_says files by upper).1 (inr later))

  steps_over : (by : ℕ) → directly_below files class by ≡ true → IsSubclass files by upper → Leads (directly_below files) class upper
  steps_over by e (inl same) = AtOnce (subst (λ n. directly_below files class n ≡ true) same e)
  steps_over by e (inr later) = Over by e later

  comes_down : (numbers : List ℕ) → AllByRecursion (IsAbove (map own_name files) files class) numbers → list_any (λ by. is_subclass files by upper) numbers ≡ true → Leads (directly_below files) class upper
  comes_down [] all e = cc
  comes_down (by ∷ numbers) all e =
      elim (or_cases (is_subclass files by upper) (list_any (λ by. is_subclass files by upper) numbers) e) [
        | inl here ↦ steps_over by all.0 ((subclass_says files by upper).0 here)
        | inr later ↦ comes_down numbers all.1 later
      ]

  all_above : AllByRecursion (IsAbove (map own_name files) files class) (supers_of files class)
  all_above =
      all_append (IsAbove (map own_name files) files class) (option_to_list (superclass_of files class)) (superinterfaces_of files class) (superclasses_above (map own_name files) files class)
      (superinterfaces_above (map own_name files) files class)

  up : is_subclass files class upper ≡ true → (nat_eq class upper || list_any (λ by. is_subclass files by upper) (supers_of files class)) ≡ true
  up e =
      elim ((subclass_says files class upper).0 e) [
        | inl same ↦ or_left (nat_eq class upper) (list_any (λ by. is_subclass files by upper) (supers_of files class)) (eq-eqb class upper same)
        | inr leads ↦ or_right (nat_eq class upper) (list_any (λ by. is_subclass files by upper) (supers_of files class)) (goes_up leads)
      ]

  down : (nat_eq class upper || list_any (λ by. is_subclass files by upper) (supers_of files class)) ≡ true → is_subclass files class upper ≡ true
  down e =
      elim (or_cases (nat_eq class upper) (list_any (λ by. is_subclass files by upper) (supers_of files class)) e) [
        | inl same ↦ (subclass_says files class upper).1 (inl (eqb-true class upper same))
        | inr above ↦ (subclass_says files class upper).1 (inr (comes_down (supers_of files class) all_above above))
      ]

pub same_test : (a b : Bool) → (a ≡ true → b ≡ true) → (b ≡ true → a ≡ true) → a ≡ b
same_test true b there back = sym (there refl)
same_test false true there back = back refl
same_test false false there back = refl

pub subclass_up : (files : List ClassFile) (class upper : ℕ) → is_subclass files class upper ≡ (nat_eq class upper || list_any (λ by. is_subclass files by upper) (supers_of files class))
subclass_up files class upper =
    same_test (is_subclass files class upper) (nat_eq class upper || list_any (λ by. is_subclass files by upper) (supers_of files class)) (up files class upper) (down files class upper)
