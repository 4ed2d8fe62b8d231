-- Prefixes of bytes: what reading says of a prefix, and what it says of the whole.
use Rattle.std.proofs.Common.{◌≡◌, ◌⊎◌, ℕ, ◌<◌, ◌≤◌, Bool, true, false, cond, eqb, List, ◌++◌, length, take, drop, Result, Ok, Err, refl, sym, ap, subst, ◌∙◌, append_assoc, arith, inl, inr, length-append, length-take, length-drop}
use Rattle.std.proofs.lemmas.Bool.{cases_lt, ne_eqb}
use Rattle.std.proofs.lemmas.List.{take-append-le, take-append-drop, take_at, drop-append-le}
use Rattle.byte_read.proofs.Steady.{Persists}
use Rattle.class_file.specs.declared.record.ClassFile.{ClassFile}
use Rattle.class_file.specs.declared.refusal.ReadRefusal.{ReadRefusal}
use Rattle.class_file.specs.declared.refusal.ReadRefusal.TheVariants.{NotClass, Version, Truncated, TrailingBytes, BadPool, BadShape, BadDescriptor, TooLarge, Memory}
use Rattle.class_file.specs.Layout.{u2, magic}
use Rattle.class_file.specs.Relation.{largest, IsClassFile}
use Rattle.class_file.specs.ReadingClass.{capped, version_at, body_of, class_of}
use Rattle.class_file.specs.Refused.{HasOtherVersion, IsRefused}
use Rattle.class_file.specs.Prefixes.{IsFault}
use Rattle.byte_read.proofs.Steps.{number_short, number_long, no_failure, same_why, failed, then_ok, then_err}
use Rattle.class_file.proofs.layout.Body.{parts_of, ended, body_is}
use Rattle.class_file.proofs.layout.Whole.{IsBegun, class_rest, ways, file_again, refused_so}
use Rattle.class_file.proofs.faults.PrefixesReaders.{parts_steady}

-- ---- after the magic

-- what is said of a prefix: it is truncated, it has a fault that the whole has, or all parts stand in it
data Prefix (prefix rest : List ℕ) : Type 0 where
  cut : body_of prefix ≡ Err Truncated → Prefix prefix rest
  faulty : (why : ReadRefusal) → body_of prefix ≡ Err why → body_of (prefix ++ rest) ≡ Err why → Prefix prefix rest
  full : (x : ClassFile × List ℕ) → body_of prefix ≡ ended x → body_of (prefix ++ rest) ≡ ended (x.0, x.1 ++ rest) → Prefix prefix rest

prefix_by : (prefix rest : List ℕ) (r longer : Result (ClassFile × List ℕ) ReadRefusal) → parts_of prefix ≡ r → parts_of (prefix ++ rest) ≡ longer → Persists Truncated rest r longer → Prefix prefix rest
prefix_by prefix rest (Ok x) longer e h stands =
    full x (body_is prefix ∙ then_ok ended (ended x) e refl) (body_is (prefix ++ rest) ∙ then_ok ended (ended (x.0, x.1 ++ rest)) (h ∙ stands) refl)
prefix_by prefix rest (Err why) longer e h (inl missed) =
    cut (body_is prefix ∙ then_err ended e ∙ ap (λ (d : ReadRefusal). failed {A = ClassFile} d) missed)
prefix_by prefix rest (Err why) longer e h (inr same) =
    faulty why (body_is prefix ∙ then_err ended e) (body_is (prefix ++ rest) ∙ then_err ended (h ∙ same))

prefix_is : (prefix rest : List ℕ) → Prefix prefix rest
prefix_is prefix rest = prefix_by prefix rest (parts_of prefix) (parts_of (prefix ++ rest)) refl refl (parts_steady.persists prefix rest)

-- ---- what is said after the magic

-- the bytes are truncated, or have a fault
abbrev pub IsWithin : ReadRefusal → Type 0
IsWithin why = (why ≡ Truncated) ⊎ IsFault why

-- a refusal of the bytes as a whole is none of these
abbrev IsOfWhole : ReadRefusal → Type 0
IsOfWhole why = IsWithin why → ⊥

large_is : (size : ℕ) → IsOfWhole (TooLarge size)
large_is size (inl e) = absurd cc
large_is size (inr fault) = fault

foreign_is : IsOfWhole NotClass
foreign_is (inl e) = absurd cc
foreign_is (inr fault) = fault

tail_is : (count : ℕ) → IsOfWhole (TrailingBytes count)
tail_is count (inl e) = absurd cc
tail_is count (inr fault) = fault

not_same : (d why : ReadRefusal) → IsOfWhole d → IsWithin why → failed {A = ClassFile} d ≡ Err why → ⊥
not_same d why whole within e = whole (subst IsWithin (sym (same_why {A = ClassFile} d why e)) within)

pub not_ended : (x : ClassFile × List ℕ) (why : ReadRefusal) (none : Bool) → IsWithin why → cond none (Ok x.0) (Err (TrailingBytes (capped (length x.1)))) ≡ Err why → ⊥
not_ended x why true within e = no_failure x.0 why e
not_ended x why false within e = not_same (TrailingBytes (capped (length x.1))) why (tail_is (capped (length x.1))) within e

-- what is not refused as a whole begins with the magic
begun_by : (bytes : List ℕ) (r : Result ClassFile ReadRefusal) → ((d : ReadRefusal) → IsOfWhole d → failed {A = ClassFile} d ≡ r → ⊥) → class_of bytes ≡ r → IsBegun bytes × (body_of (drop 4 bytes) ≡ r)
begun_by bytes r other e =
    ways (IsBegun bytes × (body_of (drop 4 bytes) ≡ r)) bytes r e
    (λ many is. absurd (other (TooLarge (capped (length bytes))) (large_is (capped (length bytes))) is))
    (λ size differs is. absurd (other NotClass foreign_is is))
    (λ begun is. (begun, is))

pub begun_within : (bytes : List ℕ) (why : ReadRefusal) → IsWithin why → class_of bytes ≡ Err why → IsBegun bytes × (body_of (drop 4 bytes) ≡ Err why)
begun_within bytes why within e = begun_by bytes (Err why) (λ d whole is. not_same d why whole within is) e

-- a prefix and the whole, after the magic of both
record AreBegun (prefix rest : List ℕ) : Type 0 where
  of_prefix : class_of prefix ≡ body_of (drop 4 prefix)
  of_whole : class_of (prefix ++ rest) ≡ body_of (drop 4 prefix ++ rest)

are_begun : (prefix rest : List ℕ) → 4 ≤ length prefix → length (prefix ++ rest) ≤ largest → take 4 prefix ≡ magic → AreBegun prefix rest
are_begun prefix rest long size begins =
    let short : length prefix ≤ largest = omega (arith, size, length-append prefix rest) in
    record {
      of_prefix = class_rest prefix (record { size = short; begins = begins });
      of_whole = class_rest (prefix ++ rest) (record { size = size; begins = take-append-le 4 prefix rest long ∙ begins }) ∙ ap body_of (drop-append-le 4 prefix rest long);
    }

from_whole : (prefix rest : List ℕ) → 4 ≤ length prefix → IsBegun (prefix ++ rest) → AreBegun prefix rest
from_whole prefix rest long begun = are_begun prefix rest long begun.size (sym (take-append-le 4 prefix rest long) ∙ begun.begins)

-- ---- prefixes of class files

some_tail : (x : ClassFile × List ℕ) (file : ClassFile) (rest : List ℕ) → 0 < length rest → ended (x.0, x.1 ++ rest) ≡ Ok file → ⊥
some_tail x file rest some e =
    let more : eqb (length (x.1 ++ rest)) 0 ≡ false = ne_eqb (length (x.1 ++ rest)) 0 (λ none. omega (arith, none, some, length-append x.1 rest)) in
    let tailed : ended (x.0, x.1 ++ rest) ≡ Err (TrailingBytes (capped (length (x.1 ++ rest)))) = rw more refl in
    no_failure file (TrailingBytes (capped (length (x.1 ++ rest)))) (sym e ∙ tailed)

cut_file : (prefix rest : List ℕ) (file : ClassFile) → 0 < length rest → body_of (prefix ++ rest) ≡ Ok file → Prefix prefix rest → body_of prefix ≡ Err Truncated
cut_file prefix rest file some e (cut is) = is
cut_file prefix rest file some e (faulty why is whole) = absurd (no_failure file why (sym e ∙ whole))
cut_file prefix rest file some e (full x is whole) = absurd (some_tail x file rest some (sym whole ∙ e))

pub prefixes_are_truncated : (prefix rest : List ℕ) (file : ClassFile) → IsClassFile (prefix ++ rest) file → 4 ≤ length prefix → 0 < length rest → IsRefused prefix Truncated
prefixes_are_truncated prefix rest file is long some =
    let read : class_of (prefix ++ rest) ≡ Ok file = file_again (prefix ++ rest) file is in
    let begun = begun_by (prefix ++ rest) (Ok file) (λ d whole e. no_failure file d (sym e)) read in
    let both = from_whole prefix rest long begun.0 in
    both.of_prefix ∙ cut_file (drop 4 prefix) rest file some (sym both.of_whole ∙ read) (prefix_is (drop 4 prefix) rest)

-- ---- prefixes of bytes that are refused

cut_why : (prefix rest : List ℕ) (why : ReadRefusal) → IsWithin why → body_of (prefix ++ rest) ≡ Err why → Prefix prefix rest → (body_of prefix ≡ Err Truncated) ⊎ (body_of prefix ≡ Err why)
cut_why prefix rest why within e (cut is) = inl is
cut_why prefix rest why within e (faulty d is whole) =
    let same : d ≡ why = same_why {A = ClassFile} d why (sym whole ∙ e) in
    inr (is ∙ ap (λ (w : ReadRefusal). failed {A = ClassFile} w) same)
cut_why prefix rest why within e (full x is whole) = absurd (not_ended (x.0, x.1 ++ rest) why (eqb (length (x.1 ++ rest)) 0) within (sym whole ∙ e))

-- a prefix of refused bytes is truncated, or refused as they are
prefix_refused : (prefix rest : List ℕ) (why : ReadRefusal) → IsWithin why → class_of (prefix ++ rest) ≡ Err why → 4 ≤ length prefix → (class_of prefix ≡ Err Truncated) ⊎ (class_of prefix ≡ Err why)
prefix_refused prefix rest why within e long =
    let begun = begun_within (prefix ++ rest) why within e in
    let both = from_whole prefix rest long begun.0 in
    elim (cut_why (drop 4 prefix) rest why within (sym both.of_whole ∙ e) (prefix_is (drop 4 prefix) rest)) [
      | inl is ↦ inl (both.of_prefix ∙ is)
      | inr is ↦ inr (both.of_prefix ∙ is)
    ]

pub prefixes_of_truncated : (prefix rest : List ℕ) → IsRefused (prefix ++ rest) Truncated → 4 ≤ length prefix → IsRefused prefix Truncated
prefixes_of_truncated prefix rest e long =
    elim (prefix_refused prefix rest Truncated (inl refl) e long) [
      | inl is ↦ is
      | inr is ↦ is
    ]

-- ---- versions

-- bytes that end within the version
pub version_short : (bytes : List ℕ) → length bytes < 4 → version_at bytes ≡ Err Truncated
unfolding version_at
version_short bytes short =
    elim (cases_lt (length bytes) 2) [
      | inl none ↦ then_err _ (number_short Truncated 2 bytes none)
      | inr some ↦ then_ok _ (Err Truncated) (number_long Truncated 2 bytes some) (then_err _ (number_short Truncated 2 (drop 2 bytes) (omega (arith, short, length-drop 2 bytes))))
    ]

body_short : (bytes : List ℕ) → length bytes < 4 → body_of bytes ≡ Err Truncated
body_short bytes short = body_is bytes ∙ then_err ended (then_err _ (version_short bytes short))

version_follows : (bytes more : List ℕ) (major : ℕ) → HasOtherVersion bytes major → HasOtherVersion (bytes ++ more) major
version_follows bytes more major is =
    record {
      minor = is.minor;
      more = is.more ++ more;
      minor_fits = is.minor_fits;
      major_fits = is.major_fits;
      encoded = ap (λ (prefix : List ℕ). prefix ++ more) is.encoded ∙ simp append_assoc;
      other = is.other;
    }

-- the first eight bytes say the version
version_prefix : (prefix rest : List ℕ) (major : ℕ) → HasOtherVersion (prefix ++ rest) major → 8 ≤ length prefix → HasOtherVersion prefix major
version_prefix prefix rest major is long =
    let head : List ℕ = magic ++ (u2 is.minor ++ u2 major) in
    let encoded : prefix ++ rest ≡ head ++ is.more = is.encoded ∙ simp append_assoc in
    let begins : take 8 prefix ≡ head = sym (take-append-le 8 prefix rest long) ∙ ap (take 8) encoded ∙ take_at head is.more 8 refl in
    record {
      minor = is.minor;
      more = drop 8 prefix;
      minor_fits = is.minor_fits;
      major_fits = is.major_fits;
      encoded = sym (take-append-drop 8 prefix) ∙ ap (λ (text : List ℕ). text ++ drop 8 prefix) begins ∙ simp append_assoc;
      other = is.other;
    }

prefix_version : (prefix rest : List ℕ) (major : ℕ) → IsRefused (prefix ++ rest) (Version major) → 4 ≤ length prefix → IsRefused prefix Truncated ⊎ IsRefused prefix (Version major)
prefix_version prefix rest major r long =
    elim (cases_lt (length prefix) 8) [
      | inl short ↦
          let begun = begun_within (prefix ++ rest) (Version major) (inr tt) (refused_so (prefix ++ rest) (Version major) r) in
          let both = from_whole prefix rest long begun.0 in
          inl (both.of_prefix ∙ body_short (drop 4 prefix) (omega (arith, short, long, length-drop 4 prefix)))
      | inr whole ↦ inr (omega (arith, r.0, length-append prefix rest), version_prefix prefix rest major r.1 whole)
    ]

-- ---- faults

pub prefixes_of_faults : (prefix rest : List ℕ) (why : ReadRefusal) → IsFault why → IsRefused (prefix ++ rest) why → 4 ≤ length prefix → IsRefused prefix Truncated ⊎ IsRefused prefix why
prefixes_of_faults prefix rest (Version major) is r long = prefix_version prefix rest major r long
prefixes_of_faults prefix rest (BadPool index) is r long = prefix_refused prefix rest (BadPool index) (inr tt) r long
prefixes_of_faults prefix rest BadShape is r long = prefix_refused prefix rest BadShape (inr tt) r long
prefixes_of_faults prefix rest (BadDescriptor index) is r long = prefix_refused prefix rest (BadDescriptor index) (inr tt) r long
prefixes_of_faults prefix rest NotClass is r long = absurd is
prefixes_of_faults prefix rest Truncated is r long = absurd is
prefixes_of_faults prefix rest (TrailingBytes count) is r long = absurd is
prefixes_of_faults prefix rest (TooLarge size) is r long = absurd is
prefixes_of_faults prefix rest Memory is r long = absurd is

fault_follows : (bytes more : List ℕ) (why : ReadRefusal) → IsFault why → body_of bytes ≡ Err why → Prefix bytes more → body_of (bytes ++ more) ≡ Err why
fault_follows bytes more why is e (cut missed) = absurd (subst IsFault (same_why {A = ClassFile} why Truncated (sym e ∙ missed)) is)
fault_follows bytes more why is e (faulty d found whole) = whole ∙ sym found ∙ e
fault_follows bytes more why is e (full x found whole) = absurd (not_ended x why (eqb (length x.1) 0) (inr is) (sym found ∙ e))

-- the magic is there where reading came past it
magic_long : (bytes : List ℕ) → take 4 bytes ≡ magic → 4 ≤ length bytes
magic_long bytes begins = omega (arith, length-take 4 bytes, ap length begins)

fault_holds : (bytes more : List ℕ) (why : ReadRefusal) → IsFault why → class_of bytes ≡ Err why → length (bytes ++ more) ≤ largest → class_of (bytes ++ more) ≡ Err why
fault_holds bytes more why is e size =
    let begun = begun_within bytes why (inr is) e in
    let both = are_begun bytes more (magic_long bytes begun.0.begins) size begun.0.begins in
    both.of_whole ∙ fault_follows (drop 4 bytes) more why is begun.1 (prefix_is (drop 4 bytes) more)

pub faults_hold : (bytes more : List ℕ) (why : ReadRefusal) → IsFault why → IsRefused bytes why → length (bytes ++ more) ≤ largest → IsRefused (bytes ++ more) why
faults_hold bytes more (Version major) is r size = (size, version_follows bytes more major r.1)
faults_hold bytes more (BadPool index) is r size = fault_holds bytes more (BadPool index) tt r size
faults_hold bytes more BadShape is r size = fault_holds bytes more BadShape tt r size
faults_hold bytes more (BadDescriptor index) is r size = fault_holds bytes more (BadDescriptor index) tt r size
faults_hold bytes more NotClass is r size = absurd is
faults_hold bytes more Truncated is r size = absurd is
faults_hold bytes more (TrailingBytes count) is r size = absurd is
faults_hold bytes more (TooLarge size) is r few = absurd is
faults_hold bytes more Memory is r size = absurd is

pub none_begins : (bytes more : List ℕ) (why : ReadRefusal) (file : ClassFile) → IsFault why → IsRefused bytes why → IsClassFile (bytes ++ more) file → ⊥
none_begins bytes more why file is r class_file =
    no_failure file why (sym (file_again (bytes ++ more) file class_file) ∙ refused_so (bytes ++ more) why (faults_hold bytes more why is r class_file.1.size))
