-- The records of the files of a set, and what the parts of the infuser answer, as the set says it.
use Rattle.std.specs.Prelude.{ℕ, List, [], ◌∷◌, Option, Some, None, Result, Ok, Err}
use Rattle.class_file.specs.declared.record.ClassFile.{ClassFile}
use Rattle.class_file.specs.Relation.{IsClassFile}
use Rattle.class_file.specs.declared.refusal.ReadRefusal.{ReadRefusal}
use Rattle.class_code.specs.declared.refusal.CodeRefusal.{CodeRefusal}
use Rattle.class_code.specs.declared.refusal.CodeRefusal.TheVariants.{BadCode}
use Rattle.jvm_model.specs.declared.refusal.Refusal.{Refusal}
use Rattle.jvm_model.specs.Phases.{refusal_of_reading, refusal_of_code}

-- the files are class files with these records, one by one
abbrev pub AreRead : List (List ℕ) → List ClassFile → Type 0
AreRead [] [] = Unit {0}
AreRead (bytes ∷ files) (class ∷ classes) = IsClassFile bytes class × AreRead files classes
AreRead _ _ = ⊥

-- ---- what the parts answer, as the set says it

abbrev pub reading_said : ℕ → ℕ → Result ClassFile ReadRefusal → Result ClassFile Refusal
reading_said file size (Ok class) = Ok class
reading_said file size (Err why) = Err (refusal_of_reading file size why)

abbrev pub testing_said : ℕ → ℕ → Result (Unit {0}) CodeRefusal → Result (Unit {0}) Refusal
testing_said file member (Ok done) = Ok done
testing_said file member (Err why) = Err (refusal_of_code file member why)

abbrev pub handlers_said : Option ℕ → Result (Unit {0}) CodeRefusal
handlers_said None = Ok tt
handlers_said (Some pc) = Err (BadCode pc)
