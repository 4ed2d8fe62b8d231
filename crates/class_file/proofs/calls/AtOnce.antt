-- What is refused before any memory is asked for: the length, the magic and the version.
use Rattle.std.proofs.Common.{◌≡◌, ◌≢◌, ℕ, ◌<◌, ◌≤◌, true, false, ltb, List, ◌++◌, length, take, drop, Err, refl, sym, ap, ◌∙◌, append_assoc, arith, length-drop}
use Rattle.std.proofs.lemmas.Bool.{lt-ltb, le-ltb, false_from_ne_true}
use Rattle.std.proofs.lemmas.List.{take_at, drop_at}
use Rattle.std.specs.Str.{bytes_eq}
use Rattle.std.proofs.lemmas.Slice.Eq.{bytes_eq-Decides}
use Rattle.byte_read.proofs.Steps.{failed}
use Rattle.class_file.specs.declared.refusal.ReadRefusal.{ReadRefusal}
use Rattle.class_file.specs.declared.refusal.ReadRefusal.TheVariants.{NotClass, Version, Truncated, TrailingBytes, BadPool, BadShape, BadDescriptor, TooLarge, Memory}
use Rattle.class_file.specs.Layout.{u2, magic}
use Rattle.class_file.specs.Relation.{largest}
use Rattle.class_file.specs.ReadingClass.{capped, version_at, start_of}
use Rattle.class_file.specs.Refused.{HasOtherVersion, IsStartRefused}
use Rattle.class_file.proofs.layout.ClassParts.{IsOther, version_refused}
use Rattle.class_file.proofs.layout.Whole.{IsBegun, is_magic}
use Rattle.class_file.proofs.faults.Prefixes.{version_short}

start_large : (bytes : List ℕ) → largest < length bytes → start_of bytes ≡ Err (TooLarge (capped (length bytes)))
unfolding start_of
start_large bytes many = rw (lt-ltb _ _ many) refl

start_foreign : (bytes : List ℕ) → length bytes ≤ largest → take 4 bytes ≢ magic → start_of bytes ≡ Err NotClass
unfolding start_of
start_foreign bytes size other =
    let few : ltb largest (length bytes) ≡ false = le-ltb _ _ size in
    let differs : bytes_eq (take 4 bytes) magic ≡ false = false_from_ne_true (bytes_eq (take 4 bytes) magic) (λ same. other (is_magic bytes same)) in
    rw (few, differs) refl

start_rest : (bytes : List ℕ) → IsBegun bytes → start_of bytes ≡ version_at (drop 4 bytes)
unfolding start_of
start_rest bytes is =
    let few : ltb largest (length bytes) ≡ false = le-ltb _ _ is.size in
    let same : bytes_eq (take 4 bytes) magic ≡ true = (bytes_eq-Decides (take 4 bytes) magic).1 is.begins in
    rw (few, same) refl

start_version : (bytes : List ℕ) (major : ℕ) → length bytes ≤ largest → HasOtherVersion bytes major → start_of bytes ≡ Err (Version major)
start_version bytes major size is =
    let rest : List ℕ = u2 is.minor ++ (u2 major ++ is.more) in
    let other : IsOther (u2 is.minor ++ (u2 major ++ is.more)) major =
    record { minor = is.minor; more = is.more; fits = (is.minor_fits, is.major_fits); encoded = sym (append_assoc (u2 is.minor) (u2 major) is.more); other = is.other } in
    let begun : IsBegun bytes = record { size = size; begins = ap (take 4) is.encoded ∙ take_at magic rest 4 refl } in
    start_rest bytes begun ∙ ap (λ (all : List ℕ). version_at (drop 4 all)) is.encoded ∙ ap version_at (drop_at magic rest 4 refl) ∙ version_refused rest major other

start_cut : (bytes : List ℕ) → length bytes < 8 → take 4 bytes ≡ magic → start_of bytes ≡ Err Truncated
start_cut bytes short begins = start_rest bytes (record { size = omega (arith, short); begins = begins }) ∙ version_short (drop 4 bytes) (omega (arith, short, length-drop 4 bytes))

pub at_once : (bytes : List ℕ) (why : ReadRefusal) → IsStartRefused bytes why → start_of bytes ≡ Err why
at_once bytes (TooLarge size) r = start_large bytes r.0 ∙ ap (λ (n : ℕ). failed {A = (ℕ × ℕ) × List ℕ} (TooLarge n)) (sym r.1)
at_once bytes NotClass r = start_foreign bytes r.0 r.1
at_once bytes (Version major) r = start_version bytes major r.0 r.1
at_once bytes Truncated r = start_cut bytes r.0 r.1
at_once bytes (TrailingBytes count) r = absurd r
at_once bytes (BadPool index) r = absurd r
at_once bytes BadShape r = absurd r
at_once bytes (BadDescriptor index) r = absurd r
at_once bytes Memory r = absurd r
