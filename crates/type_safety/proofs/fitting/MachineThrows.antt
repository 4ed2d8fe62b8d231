-- The classes that the machine throws are concrete, and Throwable is above them.
use Rattle.std.proofs.Common.{◌≡◌, ℕ, ◌<◌, inl, List, Some, None, refl, ◌∙◌, arith}
use Rattle.library.specs.Classes.{first_own}
use Rattle.class_file.specs.declared.record.ClassFile.{ClassFile}
use Rattle.class_tree.specs.Set.{library_superclass}
use Rattle.class_tree.specs.Tree.{Gathers}
use Rattle.class_tree.proofs.ancestors.CommonSuper.{Above}
use Rattle.class_tree.proofs.ancestors.Forest.{Same, Over}
use Rattle.class_tree.proofs.ancestors.Superclasses.{super_by_library}
use Rattle.typed_machine.specs.TypedWorld.{World}
use Rattle.type_safety.specs.Facts.{IsConcrete, ClassFits}
use Rattle.type_safety.proofs.fitting.FitsOver.{class_fits_above}

-- ---- up to Throwable

module _ (files : List ClassFile) where
  up_from : (class by : ℕ) → class < first_own → library_superclass class ≡ Some by → Above files by 1 → Above files class 1
  up_from class by small super rest = Over by (super_by_library files class small ∙ super) rest

  exception_up : Above files 2 1
  exception_up = up_from 2 1 (omega arith) refl Same

  runtime_up : Above files 3 1
  runtime_up = up_from 3 2 (omega arith) refl exception_up

  index_up : Above files 9 1
  index_up = up_from 9 3 (omega arith) refl runtime_up

  linkage_up : Above files 12 1
  linkage_up = up_from 12 11 (omega arith) refl (up_from 11 1 (omega arith) refl Same)

-- ---- what the machine throws

-- a class that the machine may throw
pub record IsThrowable (world : World) (class : ℕ) : Type 0 where
  pub concrete : IsConcrete world class
  pub throwable : ClassFits world class 1

module _ (world : World) (gathers : Gathers world.files None) where
  above_fits : (class : ℕ) → Above world.files class 1 → ClassFits world class 1
  above_fits class way = class_fits_above world.files gathers class 1 way

  runtime_fits : (class : ℕ) → class < first_own → library_superclass class ≡ Some 3 → ClassFits world class 1
  runtime_fits class small super = above_fits class (up_from world.files class 3 small super (runtime_up world.files))

  pub arithmetic_thrown : IsThrowable world 4
  arithmetic_thrown = record { concrete = (inl (omega arith), refl, refl); throwable = runtime_fits 4 (omega arith) refl }

  pub null_thrown : IsThrowable world 5
  null_thrown = record { concrete = (inl (omega arith), refl, refl); throwable = runtime_fits 5 (omega arith) refl }

  pub cast_thrown : IsThrowable world 6
  cast_thrown = record { concrete = (inl (omega arith), refl, refl); throwable = runtime_fits 6 (omega arith) refl }

  pub store_thrown : IsThrowable world 7
  store_thrown = record { concrete = (inl (omega arith), refl, refl); throwable = runtime_fits 7 (omega arith) refl }

  pub size_thrown : IsThrowable world 8
  size_thrown = record { concrete = (inl (omega arith), refl, refl); throwable = runtime_fits 8 (omega arith) refl }

  pub index_thrown : IsThrowable world 10
  index_thrown = record { concrete = (inl (omega arith), refl, refl); throwable = above_fits 10 (up_from world.files 10 9 (omega arith) refl (index_up world.files)) }

  pub change_thrown : IsThrowable world 13
  change_thrown = record { concrete = (inl (omega arith), refl, refl); throwable = above_fits 13 (up_from world.files 13 12 (omega arith) refl (linkage_up world.files)) }
