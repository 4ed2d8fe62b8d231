-- The classes that get numbers are those of files.
use Rattle.std.proofs.Common.{ℕ, zero, suc, ◌≤◌, Bool, true, false, ◌||◌, nat_lt, cond, inl, inr, List, [], ◌∷◌, ◌++◌, length, sym, subst}
use Rattle.std.specs.List.{fold, range_with_len, AllByRecursion}
use Rattle.std.specs.Option.{option_to_list}
use Rattle.std.proofs.lemmas.Bool.{lt-ltb, cases_lt}
use Rattle.library.specs.Classes.{first_own}
use Rattle.class_file.specs.declared.record.ClassFile.{ClassFile}
use Rattle.class_tree.specs.DirectSupers.{class_count, superclass_of, superinterfaces_of}
use Rattle.jvm_model.specs.ImageNumbering.{is_among, number_class, class_order}

abbrev pub AreOwn : List ℕ → Type 0
AreOwn order = AllByRecursion (λ (class : ℕ). first_own ≤ class) order

own_more : (order : List ℕ) (class : ℕ) → AreOwn order → first_own ≤ class → AreOwn (order ++ class ∷ [])
own_more [] class all le = (le, tt)
own_more (other ∷ order) class all le = (all.0, own_more order class all.1 le)

abbrev Keeps : (List ℕ → ℕ → List ℕ) → Type 0
Keeps step = (order : List ℕ) (class : ℕ) → AreOwn order → AreOwn (step order class)

fold_keeps : (step : List ℕ → ℕ → List ℕ) → Keeps step → (classes order : List ℕ) → AreOwn order → AreOwn (fold step order classes)
fold_keeps step keeps [] order all = all
fold_keeps step keeps (class ∷ classes) order all = fold_keeps step keeps classes (step order class) (keeps order class all)

module _ (files : List ClassFile) where
  numbered_keeps : (levels : ℕ) → Keeps (number_class files levels)
  unfolding number_class
  numbered_keeps zero order class all = all
  numbered_keeps (suc levels) order class all =
      let uppers = option_to_list (superclass_of files class) ++ superinterfaces_of files class in
      let new = fold (number_class files levels) order uppers ++ class ∷ [] in
      let kept = fold_keeps (number_class files levels) (numbered_keeps levels) uppers order all in
      elim (cases_lt class first_own) [
        | inl lower ↦ subst (λ (is : Bool). AreOwn (cond (is || is_among class order) order new)) (sym (lt-ltb class first_own lower)) all
        | inr own ↦ either (nat_lt class first_own || is_among class order) order new all (own_more (fold (number_class files levels) order uppers) class kept own)
      ]
    where
      either : (is : Bool) (old new : List ℕ) → AreOwn old → AreOwn new → AreOwn (cond is old new)
      either true old new first second = first
      either false old new first second = second

  pub all_own : AreOwn (class_order files)
  all_own = fold_keeps (number_class files (class_count files)) (numbered_keeps (class_count files)) (range_with_len first_own (length files)) [] tt
