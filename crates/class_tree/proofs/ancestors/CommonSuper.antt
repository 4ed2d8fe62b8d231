-- The first common superclass of two classes is the least class above both.
use Rattle.std.proofs.Common.{◌≡◌, ℕ, zero, suc, ◌<◌, Bool, true, false, ◌||◌, cond, inl, inr, List, Option, Some, None, nat_eq, is_some, unwrap_or, refl, sym, subst, arith}
use Rattle.std.specs.Option.{option_map_or}
use Rattle.std.proofs.lemmas.Bool.{eqb-true}
use Rattle.std.proofs.lemmas.Bool.Decides.{Decides-eqb}
use Rattle.class_file.specs.declared.record.ClassFile.{ClassFile}
use Rattle.class_tree.specs.Set.{IsClass}
use Rattle.class_tree.specs.Tree.{Gathers}
use Rattle.class_tree.specs.DirectSupers.{class_count, superclass_of, superclasses_of}
use Rattle.class_tree.specs.InterfaceLookup.{object}
use Rattle.class_tree.specs.Merge.{first_passing, is_class_or_super, common_super}
use Rattle.class_tree.specs.MergeLaws.{IsLeastAbove}
use Rattle.class_tree.proofs.lookups.Climbing.{ruled}
use Rattle.class_tree.proofs.ancestors.Forest.{Up, Same, Over, step, last, both_ways, IsFound, is_found}
use Rattle.class_tree.proofs.ancestors.Leading.{or_cases, or_left, or_right}
use Rattle.class_tree.proofs.merging.RefParts.{same_test}
use Rattle.class_tree.proofs.ancestors.Superclasses.{IsRanked, falls_to, next_class}

module _ (files : List ClassFile) where
  -- one class is another one, or the other one is among its superclasses
  abbrev pub Above : ℕ → ℕ → Type 0
  Above class upper = Up (superclass_of files) class upper

  -- a class is above both of two, and below each other that is
  pub record IsLeast (a b least : ℕ) : Type 0 where
    pub left : Above a least
    pub right : Above b least
    pub below : (other : ℕ) → Above a other → Above b other → Above least other

  module _ (rank : ℕ → ℕ) (is : IsRanked files rank) where
    falls : (class by : ℕ) → superclass_of files class ≡ Some by → rank by < rank class
    falls = falls_to files rank is

    found : (test : ℕ → Bool) (class : ℕ) → IsFound (superclass_of files) rank falls test class (first_passing files test class)
    found test class =
        is_found (superclass_of files) rank falls test (first_passing files test)
        (ruled (superclasses_of files) rank is.falls (λ other. cond (test other) (Some other) None) (class_count files) is.bound) class

    pub same : (a b : ℕ) → Above a b → Above b a → a ≡ b
    same a b first second = both_ways (superclass_of files) rank falls a b first second

    -- ---- the test

    sound_with : (class upper : ℕ) (o : Option ℕ) → IsFound (superclass_of files) rank falls (nat_eq upper) class o → is_some o ≡ true → Above class upper
    sound_with class upper None f e = cc
    sound_with class upper (Some there) f e = subst (Above class) (sym (eqb-true upper there f.passes)) f.up

    pub sound : (class upper : ℕ) → is_class_or_super files class upper ≡ true → Above class upper
    sound class upper e = sound_with class upper (first_passing files (nat_eq upper) class) (found (nat_eq upper) class) e

    complete_with : (class upper : ℕ) (o : Option ℕ) → IsFound (superclass_of files) rank falls (nat_eq upper) class o → Above class upper → is_some o ≡ true
    complete_with class upper None f way = absurd (f upper way ((Decides-eqb upper upper).1 refl))
    complete_with class upper (Some there) f way = refl

    pub complete : (class upper : ℕ) → Above class upper → is_class_or_super files class upper ≡ true
    complete class upper way = complete_with class upper (first_passing files (nat_eq upper) class) (found (nat_eq upper) class) way

    -- ---- the common superclass

    least_with : (a b common : ℕ) → Above a common → Above b common → (o : Option ℕ) → IsFound (superclass_of files) rank falls (is_class_or_super files b) a o → IsLeast a b (unwrap_or o object)
    least_with a b common first second None f = absurd (f common first (complete b common second))
    least_with a b common first second (Some there) f =
        record { left = f.up; right = sound b there f.passes; below = λ other way way_b. f.first other way (complete b other way_b) }

    pub least : (a b common : ℕ) → Above a common → Above b common → IsLeast a b (common_super files a b)
    least a b common first second = least_with a b common first second (first_passing files (is_class_or_super files b) a) (found (is_class_or_super files b) a)

    pub one_least : (a b i j : ℕ) → IsLeast a b i → IsLeast b a j → i ≡ j
    one_least a b i j first second = same i j (first.below j second.right second.left) (second.below i first.right first.left)

    pub with_itself : (a : ℕ) → common_super files a a ≡ a
    with_itself a =
        let joined = least a a a Same Same in
        same (common_super files a a) a (joined.below a Same Same) joined.left

    -- ---- java/lang/Object is above each class of the set

    module _ (gathers : Gathers files None) where
      topped : (n class : ℕ) → rank class < n → IsClass files class → Above class object
      topped zero class lt inside = absurd (omega (arith, lt))
      topped (suc n) class lt inside =
          elim (next_class files gathers class inside) [
            | inl zero_is ↦ subst (λ c. Above c object) (sym zero_is) Same
            | inr next ↦ let less = falls class next.0 next.1 in Over next.0 next.1 (topped n next.0 (omega (arith, lt, less)) next.2)
          ]

      pub top : (class : ℕ) → IsClass files class → Above class object
      top class inside = topped (suc (rank class)) class (omega arith) inside

      pub joined : (a b : ℕ) → IsClass files a → IsClass files b → IsLeast a b (common_super files a b)
      joined a b first second = least a b object (top a first) (top b second)

      pub commutes : (a b : ℕ) → IsClass files a → IsClass files b → common_super files a b ≡ common_super files b a
      commutes a b first second = one_least a b (common_super files a b) (common_super files b a) (joined a b first second) (joined b a second first)

      pub least_above : (a b : ℕ) → IsClass files a → IsClass files b → IsLeastAbove files a b (common_super files a b)
      least_above a b first second =
          let is_least = joined a b first second in
          record {
            left = complete a (common_super files a b) is_least.left;
            right = complete b (common_super files a b) is_least.right;
            below = λ other way_a way_b. complete (common_super files a b) other (is_least.below other (sound a other way_a) (sound b other way_b));
          }

    -- ---- the rule of the test

    equal : (m n : ℕ) → m ≡ n → nat_eq m n ≡ true
    equal m n e = (Decides-eqb m n).1 e

    itself : (class upper : ℕ) → nat_eq upper class ≡ true → is_class_or_super files class upper ≡ true
    itself class upper e = complete class upper (subst (Above class) (sym (eqb-true upper class e)) Same)

    ruled_with : (class upper : ℕ) (o : Option ℕ) → superclass_of files class ≡ o → is_class_or_super files class upper ≡ (nat_eq upper class || option_map_or (λ by. is_class_or_super files by upper) o false)
    ruled_with class upper None none =
        same_test (is_class_or_super files class upper) (nat_eq upper class || false)
        (λ e. or_left (nat_eq upper class) false (equal upper class (sym (last (superclass_of files) class upper none (sound class upper e)))))
        (λ e. elim (or_cases (nat_eq upper class) false e) [ inl here ↦ itself class upper here | inr never ↦ cc ])
    ruled_with class upper (Some by) some =
        same_test (is_class_or_super files class upper) (nat_eq upper class || is_class_or_super files by upper)
        (λ e. elim (step (superclass_of files) class by upper some (sound class upper e)) [
          | inl same_class ↦ or_left (nat_eq upper class) (is_class_or_super files by upper) (equal upper class (sym same_class))
          | inr way ↦ or_right (nat_eq upper class) (is_class_or_super files by upper) (complete by upper way)
        ])
        (λ e. elim (or_cases (nat_eq upper class) (is_class_or_super files by upper) e) [
          | inl here ↦ itself class upper here
          | inr there ↦ complete class upper (Over by some (sound by upper there))
        ])

    pub supers_ruled : (class upper : ℕ) → is_class_or_super files class upper ≡ (nat_eq upper class || option_map_or (λ by. is_class_or_super files by upper) (superclass_of files class) false)
    supers_ruled class upper = ruled_with class upper (superclass_of files class) refl
