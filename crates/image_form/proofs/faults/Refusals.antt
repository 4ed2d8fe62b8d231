-- What a function that gives reading's answer, unless memory ran out, says of the bytes.
use Rattle.std.proofs.Common.{◌≡◌, ◌⊎◌, List, ℕ, Result, Ok, Err, refl, subst, inl, inr}
use Rattle.std.specs.Prelude.{IfOk, IfErr}
use Rattle.image_form.specs.declared.record.Image.{Image}
use Rattle.image_form.specs.declared.refusal.FormRefusal.{FormRefusal}
use Rattle.image_form.specs.declared.refusal.FormRefusal.TheVariants.{NotInfusion, FormVersion, Truncated, TrailingBytes, BadTable, Memory}
use Rattle.image_form.specs.Grammar.{IsEncoded}
use Rattle.image_form.specs.Reading.{image_of}
use Rattle.image_form.specs.Refused.{IsRefused, Gives}
use Rattle.byte_read.proofs.Steps.{IsBytes}
use Rattle.image_form.proofs.format.Whole.{encoding_reads, read_is_encoding, refused_reads, read_is_refused}

pub is_found : (bytes : List ℕ) (result : Result Image FormRefusal) → IsBytes bytes → Gives result (image_of bytes) → IfOk result (λ image. IsEncoded bytes image)
is_found bytes (Ok image) fits g = read_is_encoding bytes image fits g
is_found bytes (Err why) fits g = tt

pub is_read : (bytes : List ℕ) (result : Result Image FormRefusal) → Gives result (image_of bytes) → (image : Image) → IsEncoded bytes image → Gives result (Ok image)
is_read bytes result g image s = subst (Gives result) (encoding_reads bytes image s) g

pub is_refused : (bytes : List ℕ) (result : Result Image FormRefusal) → IsBytes bytes → Gives result (image_of bytes) → IfErr result (λ why. (why ≡ Memory) ⊎ IsRefused bytes why)
is_refused bytes (Ok image) fits g = tt
is_refused bytes (Err NotInfusion) fits g = inr (read_is_refused bytes NotInfusion fits g)
is_refused bytes (Err (FormVersion version)) fits g = inr (read_is_refused bytes (FormVersion version) fits g)
is_refused bytes (Err Truncated) fits g = inr (read_is_refused bytes Truncated fits g)
is_refused bytes (Err TrailingBytes) fits g = inr (read_is_refused bytes TrailingBytes fits g)
is_refused bytes (Err (BadTable table index)) fits g = inr (read_is_refused bytes (BadTable table index) fits g)
is_refused bytes (Err Memory) fits g = inl refl

pub is_answered : (bytes : List ℕ) (result : Result Image FormRefusal) → Gives result (image_of bytes) → (why : FormRefusal) → IsRefused bytes why → Gives result (Err why)
is_answered bytes result g why refused = subst (Gives result) (refused_reads bytes why refused) g
