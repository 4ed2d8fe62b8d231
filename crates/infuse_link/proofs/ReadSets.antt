-- Sets whose files are read: what the records say is what the files say.
use Rattle.std.proofs.Common.{◌≡◌, ℕ, suc, List, [], ◌∷◌, ◌++◌, length, Option, Some, None, option_map, option_and_then, Result, refl, sym, ap, subst, ◌∙◌}
use Rattle.std.specs.Option.{option_or}
use Rattle.class_file.specs.declared.record.ClassFile.{ClassFile}
use Rattle.class_file.specs.declared.refusal.ReadRefusal.{ReadRefusal}
use Rattle.class_file.specs.Relation.{IsClassFile}
use Rattle.class_file.specs.ReadingClass.{class_of}
use Rattle.class_file.proofs.layout.Whole.{file_again}
use Rattle.jvm_model.specs.declared.refusal.Refusal.{Refusal}
use Rattle.jvm_model.specs.Phases.{first_refusal, unless_read, reading_refusal, record_in}
use Rattle.jvm_model.specs.FirstOf.{IfThere}
use Rattle.jvm_model.specs.ClosedSet.{records_of}
use Rattle.infuse_link.specs.Sets.{AreRead}

-- one more file, and its record
pub one_more : (files : List (List ℕ)) (classes : List ClassFile) (bytes : List ℕ) (class : ClassFile) → AreRead files classes → IsClassFile bytes class → AreRead (files ++ bytes ∷ []) (classes ++ class ∷ [])
one_more [] [] bytes class all is = (is, tt)
one_more [] (other ∷ classes) bytes class all is = absurd all
one_more (first ∷ files) [] bytes class all is = absurd all
one_more (first ∷ files) (other ∷ classes) bytes class all is = (all.0, one_more files classes bytes class all.1 is)

-- a class file passes
pub read_passes : (place : ℕ) (bytes : List ℕ) (class : ClassFile) → IsClassFile bytes class → reading_refusal place bytes ≡ None
read_passes place bytes class is = ap (unless_read place (length bytes)) (file_again bytes class is)

-- a scan of the records is one of the files
pub scan_same : (test : ℕ → ClassFile → Option Refusal) (place : ℕ) (files : List (List ℕ)) (classes : List ClassFile) → AreRead files classes
    → first_refusal (λ at bytes. option_and_then (test at) (record_in (class_of bytes))) place files ≡ first_refusal test place classes
unfolding first_refusal
scan_same test place [] [] all = refl
scan_same test place [] (class ∷ classes) all = absurd all
scan_same test place (bytes ∷ files) [] all = absurd all
scan_same test place (bytes ∷ files) (class ∷ classes) all =
    ap (λ (r : Result ClassFile ReadRefusal). option_or (option_and_then (test place) (record_in r)) (first_refusal (λ at bs. option_and_then (test at) (record_in (class_of bs))) (suc place) files)) (file_again bytes class all.0)
    ∙ ap (option_or (test place class)) (scan_same test (suc place) files classes all.1)

-- no file is refused
pub none_unread : (place : ℕ) (files : List (List ℕ)) (classes : List ClassFile) → AreRead files classes → first_refusal reading_refusal place files ≡ None
unfolding first_refusal
none_unread place [] [] all = refl
none_unread place [] (class ∷ classes) all = absurd all
none_unread place (bytes ∷ files) [] all = absurd all
none_unread place (bytes ∷ files) (class ∷ classes) all =
    ap (λ (r : Option Refusal). option_or r (first_refusal reading_refusal (suc place) files)) (read_passes place bytes class all.0) ∙ none_unread (suc place) files classes all.1

-- the records of the files are these
pub records_are : (files : List (List ℕ)) (classes : List ClassFile) → AreRead files classes → records_of files ≡ Some classes
records_are [] [] all = refl
records_are [] (class ∷ classes) all = absurd all
records_are (bytes ∷ files) [] all = absurd all
records_are (bytes ∷ files) (class ∷ classes) all =
    ap (λ (r : Result ClassFile ReadRefusal). option_and_then (λ file. option_map (λ more. file ∷ more) (records_of files)) (record_in r)) (file_again bytes class all.0)
    ∙ ap (option_map (λ (more : List ClassFile). class ∷ more)) (records_are files classes all.1)

-- what the records are refused for is what the files are refused for
pub classes_read : (Has : List ClassFile → Option Refusal → Type 0) (files : List (List ℕ)) (classes : List ClassFile) (found : Option Refusal) → AreRead files classes → Has classes found → IfThere Has (records_of files) found
classes_read Has files classes found all is = subst (λ (o : Option (List ClassFile)). IfThere Has o found) (sym (records_are files classes all)) is
