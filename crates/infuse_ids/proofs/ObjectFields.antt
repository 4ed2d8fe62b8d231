-- The fields of objects do not hang on how many levels are looked up, where there are enough.
use Rattle.std.proofs.Common.{◌≡◌, ℕ, zero, suc, ◌<◌, List, [], ◌++◌, Option, Some, None, refl, ap, ◌∙◌, arith}
use Rattle.std.specs.Option.{option_map_or}
use Rattle.class_file.specs.declared.record.ClassFile.{ClassFile}
use Rattle.class_tree.specs.DirectSupers.{class_count, superclass_of}
use Rattle.class_tree.proofs.ancestors.Superclasses.{IsRanked, ranked, falls_to}
use Rattle.jvm_model.specs.ImageNumbering.{Field, object_fields, fields_of_object}
use Rattle.infuse_ids.specs.Layouts.{own_fields, FieldsBySuperclass}

same_above : (upper : Option ℕ) (first second : ℕ → List Field) → ((by : ℕ) → upper ≡ Some by → first by ≡ second by) → option_map_or first upper [] ≡ option_map_or second upper []
same_above None first second same = refl
same_above (Some by) first second same = same by refl

module _ (files : List ClassFile) (rank : ℕ → ℕ) (is : IsRanked files rank) where
  stable : (levels more class : ℕ) → rank class < levels → rank class < more → object_fields files levels class ≡ object_fields files more class
  unfolding object_fields
  stable zero more class lt lt_more = absurd (omega (arith, lt))
  stable (suc levels) zero class lt lt_more = absurd (omega (arith, lt_more))
  stable (suc levels) (suc more) class lt lt_more =
      ap (λ (above : List Field). above ++ own_fields files class) (
      same_above (superclass_of files class) (object_fields files levels) (object_fields files more)
      (λ upper e. let falls = falls_to files rank is class upper e in stable levels more upper (omega (arith, falls, lt)) (omega (arith, falls, lt_more)))
      )

  one_up : (class : ℕ) → object_fields files (suc (class_count files)) class ≡ option_map_or (fields_of_object files) (superclass_of files class) [] ++ own_fields files class
  unfolding object_fields
  one_up class = refl

  pub by_super : (class : ℕ) → fields_of_object files class ≡ option_map_or (fields_of_object files) (superclass_of files class) [] ++ own_fields files class
  by_super class =
      let bound = is.bound class in
      stable (class_count files) (suc (class_count files)) class bound (omega (arith, bound)) ∙ one_up class

pub fields_by_superclass : FieldsBySuperclass
fields_by_superclass files gathers class =
    let found = ranked files gathers in
    by_super files found.0 found.1 class
