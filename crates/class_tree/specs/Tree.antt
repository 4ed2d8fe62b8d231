-- When files are a closed set of classes, and what they are refused for else: the first refusal in a list of
-- phases.
use Rattle.std.specs.Prelude.{◌≡◌, ◌⊎◌, ℕ, nat_lt, if◌then◌else◌, List, [], ◌∷◌, length, map, Option, Some, None}
use Rattle.class_file.specs.declared.record.ClassFile.{ClassFile}
use Rattle.class_tree.specs.declared.refusal.TreeRefusal.{TreeRefusal}
use Rattle.class_tree.specs.declared.refusal.TreeRefusal.TheVariants.{TooMany}
use Rattle.class_tree.specs.Scan.{saturated}
use Rattle.class_tree.specs.Set.{own_name}
use Rattle.class_tree.specs.Names.{names_refusal}
use Rattle.class_tree.specs.Supers.{supers_refusal}
use Rattle.class_tree.specs.Circles.{Circles}
use Rattle.class_tree.specs.Descriptors.{declared_refusal}

-- the most files of a set
abbrev pub most_files : ℕ
most_files = 512

-- what a phase answers for files: a refusal, or none
abbrev pub Phase : Type 1
Phase = List ClassFile → Option TreeRefusal → Type 0

-- there are too many files
abbrev pub Count : Phase
Count files found = found ≡ (if nat_lt most_files (length files) then Some (TooMany (saturated (length files))) else None)

-- names are each once, and none is reserved
abbrev pub Names : Phase
Names files found = found ≡ names_refusal files

-- what stands directly above a class is there, and may stand there
abbrev pub Supers : Phase
Supers files found = found ≡ supers_refusal (map own_name files) files

-- no class is above itself
abbrev pub NoCircles : Phase
NoCircles files found = Circles (map own_name files) files found

-- the classes that declared descriptors name are there, and no type is wide
abbrev pub Declared : Phase
Declared files found = found ≡ declared_refusal (map own_name files) files

abbrev pub phases : List Phase
phases = Count ∷ Names ∷ Supers ∷ NoCircles ∷ Declared ∷ []

-- the refusal of the first of these phases that has one; none where none of them has one
abbrev pub FirstRefusal : List Phase → List ClassFile → Option TreeRefusal → Type 0
FirstRefusal [] files found = found ≡ None
FirstRefusal (phase ∷ rest) files None = phase files None × FirstRefusal rest files None
FirstRefusal (phase ∷ rest) files (Some why) = phase files (Some why) ⊎ (phase files None × FirstRefusal rest files (Some why))

-- what files are refused for, or that they are a closed set
abbrev pub Gathers : List ClassFile → Option TreeRefusal → Type 0
Gathers files found = FirstRefusal phases files found
