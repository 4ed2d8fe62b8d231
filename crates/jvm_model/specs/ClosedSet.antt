-- The phases between classes: names, what stands directly above a class, circles, and declared descriptors. They
-- are those of a closed set of classes, over the records of the files.
use Rattle.std.specs.Prelude.{◌≡◌, ℕ, List, [], ◌∷◌, Option, Some, None, option_map, option_and_then}
use Rattle.class_file.specs.declared.record.ClassFile.{ClassFile}
use Rattle.class_file.specs.ReadingClass.{class_of}
use Rattle.class_tree.specs.declared.refusal.TreeRefusal.{TreeRefusal}
use Rattle.class_tree.specs.declared.refusal.TreeRefusal.TheVariants as tree
use Rattle.class_tree.specs.Tree.{Gathers}
use Rattle.jvm_model.specs.declared.refusal.Cause.{Cause}
use Rattle.jvm_model.specs.declared.refusal.Cause.TheVariants as cause
use Rattle.jvm_model.specs.declared.refusal.Refusal.{Refusal}
use Rattle.jvm_model.specs.Phases.{too_many, record_in}
use Rattle.jvm_model.specs.FirstOf.{IfThere}

-- the records of the files, where each of them is read
abbrev pub records_of : List (List ℕ) → Option (List ClassFile)
records_of [] = Some []
records_of (bytes ∷ files) = option_and_then (λ class. option_map (λ classes. class ∷ classes) (records_of files)) (record_in (class_of bytes))

-- a refusal of a class, and of a declared member or of what stands above a class
abbrev pub refusal_of_class : Cause → ℕ → Refusal
refusal_of_class why file = record { cause = why; file = file; member = 0; pc = 0; value = 0 }

abbrev pub refusal_of_declared : Cause → ℕ → ℕ → ℕ → Refusal
refusal_of_declared why file member value = record { cause = why; file = file; member = member; pc = 0; value = value }

-- the refusal of a set whose classes are no closed set for this reason
abbrev pub refusal_of_tree : TreeRefusal → Refusal
refusal_of_tree (tree.Duplicate file) = refusal_of_class cause.Duplicate file
refusal_of_tree (tree.Reserved file) = refusal_of_class cause.Reserved file
refusal_of_tree (tree.MissingClass file member value) = refusal_of_declared cause.MissingClass file member value
refusal_of_tree (tree.BadSuper file) = refusal_of_class cause.BadSuper file
refusal_of_tree (tree.Circular file) = refusal_of_class cause.Circular file
refusal_of_tree (tree.WideType file member value) = refusal_of_declared cause.WideType file member value
refusal_of_tree (tree.TooMany count) = too_many 0 count
refusal_of_tree tree.Memory = refusal_of_class cause.Memory 0

-- these classes are a closed set, or the refusal is that for which they are none
abbrev pub ClosedClasses : List ClassFile → Option Refusal → Type 0
ClosedClasses classes None = Gathers classes None
ClosedClasses classes (Some refusal) = (why : TreeRefusal) × Gathers classes (Some why) × (refusal ≡ refusal_of_tree why)

-- the phase; a set with a file that is not read, which an earlier phase refuses, has no refusal here
abbrev pub ClosedSet : List (List ℕ) → Option Refusal → Type 0
ClosedSet files found = IfThere ClosedClasses (records_of files) found
