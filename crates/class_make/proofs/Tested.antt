-- What reading says of a record that was written.
use Rattle.std.proofs.Common.{◌≡◌, ℕ, false, List, Result, Ok, Err, refl, sym, ◌∙◌, subst, inl, inr}
use Rattle.std.proofs.lemmas.Bool.{false≢true}
use Rattle.class_file.specs.declared.record.ClassFile.{ClassFile}
use Rattle.class_file.specs.declared.refusal.ReadRefusal.{ReadRefusal}
use Rattle.class_file.specs.declared.refusal.ReadRefusal.TheVariants.{NotClass, Version, Truncated, TrailingBytes, BadPool, BadShape as ReadBadShape, BadDescriptor, TooLarge, Memory as ReadMemory}
use Rattle.class_file.specs.Layout.{encoding}
use Rattle.class_file.specs.Relation.{IsClassFile}
use Rattle.class_file.specs.Reading.{Gives}
use Rattle.class_make.specs.declared.refusal.DraftRefusal.TheVariants.{BadShape}
use Rattle.class_file.specs.Relation.{IsRecord}
use Rattle.class_make.specs.Written.{layout_of, fits}
use Rattle.class_make.specs.Draft.{refusal_of, IsInvalid}
use Rattle.class_make.proofs.Validity.{written_again, record_fits}

abbrev Read : Type 0
Read = Result ClassFile ReadRefusal

abbrev read_ok : ClassFile → Read
read_ok file = Ok file

abbrev read_err : ReadRefusal → Read
read_err why = Err why

abbrev GivesRead : Read → Read → Type 0
GivesRead result read = Gives {X = ClassFile} {Y = ClassFile} (λ x. x) result read

-- a class file is read as its record
abbrev pub ReadsAll : List ℕ → Read → Type 0
ReadsAll bytes result = (file : ClassFile) → IsClassFile bytes file → GivesRead result (Ok file)

same_file : (a b : ClassFile) → read_ok a ≡ read_ok b → a ≡ b
same_file a b e = cc

no_refusal : (file : ClassFile) (why : ReadRefusal) → read_ok file ≡ read_err why → ⊥
no_refusal file why e = cc

-- the bytes of a valid record are a class file with it
pub valid_bytes : (bytes : List ℕ) (file : ClassFile) → bytes ≡ encoding (layout_of file) → IsRecord file → IsClassFile bytes file
valid_bytes bytes file is valid = subst (λ (b : List ℕ). IsClassFile b file) (sym is) (written_again file valid)

-- its lengths and counts fit
pub not_fitting : (file : ClassFile) → fits file ≡ false → IsInvalid file BadShape
not_fitting file misfit = inr (refl, λ valid. false≢true (sym misfit ∙ record_fits file valid))

pub read_same : (bytes : List ℕ) (file read : ClassFile) → IsClassFile bytes read → read ≡ file → IsRecord file
read_same bytes file read class same = (bytes, subst (IsClassFile bytes) same class)

pub read_other : (bytes : List ℕ) (file read : ClassFile) → bytes ≡ encoding (layout_of file) → ReadsAll bytes (Ok read) → (read ≡ file → ⊥) → IsInvalid file BadShape
read_other bytes file read is only differ = inr (refl, λ valid. differ (sym (same_file file read (only file (valid_bytes bytes file is valid)))))

not_read : (bytes : List ℕ) (file : ClassFile) (why : ReadRefusal) → bytes ≡ encoding (layout_of file) → ((file : ClassFile) → IsClassFile bytes file → read_ok file ≡ read_err why) → IsInvalid file BadShape
not_read bytes file why is only = inr (refl, λ valid. no_refusal file why (only file (valid_bytes bytes file is valid)))

pub read_refused : (bytes : List ℕ) (file : ClassFile) (why : ReadRefusal) → bytes ≡ encoding (layout_of file) → ReadsAll bytes (Err why) → IsInvalid file (refusal_of why)
read_refused bytes file ReadMemory is only = inl refl
read_refused bytes file NotClass is only = not_read bytes file NotClass is only
read_refused bytes file (Version major) is only = not_read bytes file (Version major) is only
read_refused bytes file Truncated is only = not_read bytes file Truncated is only
read_refused bytes file (TrailingBytes count) is only = not_read bytes file (TrailingBytes count) is only
read_refused bytes file (BadPool index) is only = not_read bytes file (BadPool index) is only
read_refused bytes file ReadBadShape is only = not_read bytes file ReadBadShape is only
read_refused bytes file (BadDescriptor index) is only = not_read bytes file (BadDescriptor index) is only
read_refused bytes file (TooLarge size) is only = not_read bytes file (TooLarge size) is only
