-- What a call answers, where reading gives each class file its record, and other bytes their refusal.
use Rattle.std.proofs.Common.{◌≡◌, ◌⊎◌, List, ℕ, Result, Ok, Err, refl, subst, inl, inr}
use Rattle.std.specs.Prelude.{IfOk, IfErr}
use Rattle.byte_read.proofs.Steps.{IsBytes}
use Rattle.class_file.specs.declared.record.ClassFile.{ClassFile}
use Rattle.class_file.specs.declared.refusal.ReadRefusal.{ReadRefusal}
use Rattle.class_file.specs.declared.refusal.ReadRefusal.TheVariants.{NotClass, Version, Truncated, TrailingBytes, BadPool, BadShape, BadDescriptor, TooLarge, Memory}
use Rattle.class_file.specs.Relation.{IsClassFile}
use Rattle.class_file.specs.Reading.{Gives}
use Rattle.class_file.specs.ReadingClass.{class_of}
use Rattle.class_file.specs.Refused.{IsRefused}
use Rattle.class_file.proofs.layout.Whole.{file_is, file_again, refused_is, refused_so}

-- a refusal that is answered is that of reading, or want of memory
says : {X Y : Type 0} (view : X → Y) (why : ReadRefusal) (read : Result Y ReadRefusal) → Gives view (Err why) read → (why ≡ Memory) ⊎ (read ≡ Err why)
says view Memory read e = inl refl
says view NotClass read e = inr e
says view (Version major) read e = inr e
says view Truncated read e = inr e
says view (TrailingBytes count) read e = inr e
says view (BadPool index) read e = inr e
says view BadShape read e = inr e
says view (BadDescriptor index) read e = inr e
says view (TooLarge size) read e = inr e

pub is_found : (bytes : List ℕ) (result : Result ClassFile ReadRefusal) → IsBytes bytes → Gives (λ x. x) result (class_of bytes) → IfOk result (λ file. IsClassFile bytes file)
is_found bytes (Ok file) fits e = file_is bytes file fits e
is_found bytes (Err why) fits e = tt

pub is_read : (bytes : List ℕ) (result : Result ClassFile ReadRefusal) → Gives (λ x. x) result (class_of bytes) → (file : ClassFile) → IsClassFile bytes file → Gives (λ x. x) result (Ok file)
is_read bytes result e file is = subst (Gives (λ x. x) result) (file_again bytes file is) e

pub is_refused : (bytes : List ℕ) (result : Result ClassFile ReadRefusal) → IsBytes bytes → Gives (λ x. x) result (class_of bytes) → IfErr result (λ why. (why ≡ Memory) ⊎ IsRefused bytes why)
is_refused bytes (Ok file) fits e = tt
is_refused bytes (Err why) fits e =
    elim (says (λ x. x) why (class_of bytes) e) [
      | inl memory ↦ inl memory
      | inr is ↦ inr (refused_is bytes why fits is)
    ]

pub is_answered : (bytes : List ℕ) (result : Result ClassFile ReadRefusal) → Gives (λ x. x) result (class_of bytes) → (why : ReadRefusal) → IsRefused bytes why → Gives (λ x. x) result (Err why)
is_answered bytes result e why r = subst (Gives (λ x. x) result) (refused_so bytes why r) e
