-- What stands directly above a class of a closed set is a class of the set.
use Rattle.std.proofs.Common.{◌≡◌, ◌⊎◌, ℕ, true, nat_eq, inl, inr, List, [], ◌∷◌, ◌++◌, map, Option, Some, None, sym, ap, subst, ◌∙◌, eqb-true}
use Rattle.std.specs.List.{filter_map, cons_option}
use Rattle.std.specs.Option.{option_map_or, option_to_list}
use Rattle.std.proofs.lemmas.Option.{same_Some}
use Rattle.class_pool.specs.Pool.{class_name_at}
use Rattle.class_file.specs.declared.record.ClassFile.{ClassFile}
use Rattle.class_tree.specs.DirectSupers.{superclass_of, superinterfaces_of}
use Rattle.class_tree.specs.Set.{own_name, named_among, file_of, IsClass}
use Rattle.class_tree.specs.Tree.{Gathers}
use Rattle.class_tree.proofs.ancestors.Leading.{or_cases}
use Rattle.class_tree.proofs.ancestors.Superclasses.{named_class, next_class}
use Rattle.jvm_model.specs.ImageNumbering.{is_among}
use Rattle.follow_numbers.proofs.ClassesUp.{supers_of}

pub among_either : (number : ℕ) (found : Option ℕ) (rest : List ℕ) → is_among number (option_to_list found ++ rest) ≡ true → (found ≡ Some number) ⊎ (is_among number rest ≡ true)
among_either number None rest e = inr e
among_either number (Some other) rest e =
    elim (or_cases (nat_eq number other) (is_among number rest) e) [
      | inl same ↦ inl (ap (λ (n : ℕ). Some n) (sym (eqb-true number other same)))
      | inr later ↦ inr later
    ]

kept_either : (number : ℕ) (found : Option ℕ) (rest : List ℕ) → is_among number (cons_option found rest) ≡ true → (found ≡ Some number) ⊎ (is_among number rest ≡ true)
kept_either number None rest e = inr e
kept_either number (Some other) rest e =
    elim (or_cases (nat_eq number other) (is_among number rest) e) [
      | inl same ↦ inl (ap (λ (n : ℕ). Some n) (sym (eqb-true number other same)))
      | inr later ↦ inr later
    ]

kept_index : (number : ℕ) (name : ℕ → Option ℕ) (indexes : List ℕ) → is_among number (filter_map name indexes) ≡ true → (index : ℕ) × (name index ≡ Some number)
kept_index number name [] e = cc
kept_index number name (index ∷ indexes) e =
    elim (kept_either number (name index) (filter_map name indexes) e) [
      | inl here ↦ (index, here)
      | inr later ↦ kept_index number name indexes later
    ]

module _ (files : List ClassFile) (closed : Gathers files None) (by : ℕ) where
  interface_inside : (found : Option ClassFile) → is_among by (option_map_or (λ (file : ClassFile). filter_map (named_among (map own_name files) file) file.interfaces) found []) ≡ true → IsClass files by
  interface_inside None e = cc
  interface_inside (Some file) e =
      let kept = kept_index by (named_among (map own_name files) file) file.interfaces e in
      named_class files (class_name_at file.pool kept.0) by kept.1

  no_super : superclass_of files 0 ≡ Some by → IsClass files by
  no_super e = cc

  pub super_inside : (class : ℕ) → IsClass files class → is_among by (supers_of files class) ≡ true → IsClass files by
  super_inside class is e =
      elim (among_either by (superclass_of files class) (superinterfaces_of files class) e) [
        | inl super ↦
            elim (next_class files closed class is) [
              | inl object ↦ no_super (ap (superclass_of files) (sym object) ∙ super)
              | inr next ↦ subst (IsClass files) (same_Some next.0 by (sym next.1 ∙ super)) next.2
            ]
        | inr interface ↦ interface_inside (file_of files class) interface
      ]
