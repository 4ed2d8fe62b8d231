-- What is read is a class file, each class file is read, and other bytes are refused for what is wrong first.
use Rattle.std.proofs.Common.{◌≡◌, ◌≢◌, ℕ, ◌+◌, ◌<◌, ◌≤◌, true, false, ltb, eqb, List, [], ◌++◌, length, take, drop, Result, Ok, Err, ◌↔◌, refl, sym, ap, subst, ◌∙◌, append_assoc, arith, length-append}
use Rattle.std.specs.Str.{bytes_eq}
use Rattle.std.proofs.Math.Nat.{min-eq_left}
use Rattle.std.proofs.lemmas.Bool.{ltb-true, ltb-false, lt-ltb, le-ltb, ne_eqb, false_from_ne_true}
use Rattle.std.proofs.lemmas.List.{append-nil, take-append-drop, take_at, drop_at}
use Rattle.std.proofs.lemmas.Slice.Eq.{bytes_eq-Decides}
use Rattle.byte_read.proofs.Steps.{IsBytes, IsBytes-drop, ok_is, no_failure, same_why, failed, chosen}
use Rattle.class_file.specs.declared.record.ClassFile.{ClassFile}
use Rattle.class_file.specs.declared.refusal.ReadRefusal.{ReadRefusal}
use Rattle.class_file.specs.declared.refusal.ReadRefusal.TheVariants.{NotClass, Version, Truncated, TrailingBytes, BadPool, BadShape, BadDescriptor, TooLarge, Memory}
use Rattle.class_file.specs.Layout.{u2, magic, Layout}
use Rattle.class_file.specs.Relation.{largest, IsLaidOut, IsClassFile}
use Rattle.class_file.specs.ReadingClass.{capped, body_of, class_of}
use Rattle.class_file.specs.Refused.{HasOtherVersion, HasTail, IsRefused}
use Rattle.class_file.proofs.readers.Steps.{IsPartFault}
use Rattle.class_file.proofs.layout.ClassParts.{IsOther}
use Rattle.class_file.proofs.layout.Body.{body_bytes, ended, body_again, body_taken, IsTailed, body_fails, body_refused}

-- ---- the size and the magic

-- the bytes are few enough, and begin as a class file does
pub record IsBegun (bytes : List ℕ) : Type 0 where
  pub size : length bytes ≤ largest
  pub begins : take 4 bytes ≡ magic

pub is_magic : (bytes : List ℕ) → bytes_eq (take 4 bytes) magic ≡ true → take 4 bytes ≡ magic
is_magic bytes e = (bytes_eq-Decides (take 4 bytes) magic).0 e

pub class_rest : (bytes : List ℕ) → IsBegun bytes → class_of bytes ≡ body_of (drop 4 bytes)
unfolding class_of
class_rest bytes is =
    let few : ltb largest (length bytes) ≡ false = le-ltb _ _ is.size in
    let same : bytes_eq (take 4 bytes) magic ≡ true = (bytes_eq-Decides (take 4 bytes) magic).1 is.begins in
    rw (few, same) refl

too_large : (bytes : List ℕ) → largest < length bytes → class_of bytes ≡ Err (TooLarge (capped (length bytes)))
unfolding class_of
too_large bytes many = rw (lt-ltb _ _ many) refl

not_class : (bytes : List ℕ) → length bytes ≤ largest → take 4 bytes ≢ magic → class_of bytes ≡ Err NotClass
unfolding class_of
not_class bytes size other =
    let few : ltb largest (length bytes) ≡ false = le-ltb _ _ size in
    let differs : bytes_eq (take 4 bytes) magic ≡ false = false_from_ne_true (bytes_eq (take 4 bytes) magic) (λ same. other (is_magic bytes same)) in
    rw (few, differs) refl

-- the three ways of reading
pub ways : (C : Type 0) (bytes : List ℕ) (r : Result ClassFile ReadRefusal) → class_of bytes ≡ r → (largest < length bytes → Err (TooLarge (capped (length bytes))) ≡ r → C) → (length bytes ≤ largest → take 4 bytes ≢ magic → Err NotClass ≡ r → C)
    → (IsBegun bytes → body_of (drop 4 bytes) ≡ r → C) → C
unfolding class_of
ways C bytes r e large other begun =
    chosen (ltb largest (length bytes)) _ _ r e (λ many is. large (ltb-true _ _ many) is) (λ few e_rest.
    let size : length bytes ≤ largest = ltb-false _ _ few in
    chosen (bytes_eq (take 4 bytes) magic) _ _ r e_rest (λ same is. begun (record { size = size; begins = is_magic bytes same }) is)
    (λ differs is. other size (λ same. true_is_false (sym ((bytes_eq-Decides (take 4 bytes) magic).1 same) ∙ differs)) is))
  where
    true_is_false : true ≡ false → ⊥
    true_is_false e = cc

begun_of : (rest : List ℕ) → length (magic ++ rest) ≤ largest → IsBegun (magic ++ rest)
begun_of rest size = record { size = size; begins = take_at magic rest 4 refl }

pub class_after : (rest : List ℕ) → length (magic ++ rest) ≤ largest → class_of (magic ++ rest) ≡ body_of rest
class_after rest size = class_rest (magic ++ rest) (begun_of rest size) ∙ ap body_of (drop_at magic rest 4 refl)

pub parts_are : (bytes body : List ℕ) → IsBegun bytes → drop 4 bytes ≡ body → bytes ≡ magic ++ body
parts_are bytes body is e = sym (take-append-drop 4 bytes) ∙ ap (λ (prefix : List ℕ). prefix ++ drop 4 bytes) is.begins ∙ ap (λ (rest : List ℕ). magic ++ rest) e

-- ---- records

-- what is read is a class file with this record
pub file_is : (bytes : List ℕ) (file : ClassFile) → IsBytes bytes → class_of bytes ≡ Ok file → IsClassFile bytes file
file_is bytes file fits e =
    ways (IsClassFile bytes file) bytes (Ok file) e (λ many is. absurd (no_failure file (TooLarge (capped (length bytes))) (sym is))) (λ size other is. absurd (no_failure file NotClass (sym is))) (λ begun e_file.
    let b = body_taken (drop 4 bytes) file (IsBytes-drop 4 bytes fits) e_file in (
      b.layout,
      record { encoded = parts_are bytes (body_bytes b.layout) begun (b.encoded ∙ append-nil (body_bytes b.layout)); size = begun.size; fits = b.sound.fits; regular = b.sound.regular; stands = b.stands },
    ))

-- a class file is read up to its end, and what is after it is told
read_with : (class tail : List ℕ) (l : Layout) (file : ClassFile) → IsLaidOut class l file → length (class ++ tail) ≤ largest → class_of (class ++ tail) ≡ ended (file, tail)
read_with class tail l file is size =
    let whole : class ++ tail ≡ magic ++ (body_bytes l ++ tail) = ap (λ (prefix : List ℕ). prefix ++ tail) is.encoded ∙ append_assoc magic (body_bytes l) tail in
    ap class_of whole ∙ class_after (body_bytes l ++ tail) (subst (λ (bytes : List ℕ). length bytes ≤ largest) whole size) ∙ body_again l tail (record { fits = is.fits; regular = is.regular })
    ∙ ap (λ (f : ClassFile). ended (f, tail)) (sym is.stands)

-- each class file is read
pub file_again : (bytes : List ℕ) (file : ClassFile) → IsClassFile bytes file → class_of bytes ≡ Ok file
file_again bytes file is =
    let same : bytes ++ [] ≡ bytes = append-nil bytes in
    sym (ap class_of same) ∙ read_with bytes [] is.0 file is.1 (subst (λ (all : List ℕ). length all ≤ largest) (sym same) is.1.size)

-- bytes are the class file of at most one record
pub one_record : (bytes : List ℕ) (first second : ClassFile) → IsClassFile bytes first → IsClassFile bytes second → first ≡ second
one_record bytes first second one other = ok_is first second (sym (file_again bytes first one) ∙ file_again bytes second other)

-- ---- refusals

capped_is : (n : ℕ) → n ≤ largest → capped n ≡ n
capped_is n le = min-eq_left (omega (arith, le))

-- a version other than 45 to 52
other_is : (bytes : List ℕ) (major : ℕ) → IsBegun bytes → IsOther (drop 4 bytes) major → HasOtherVersion bytes major
other_is bytes major begun is =
    record {
      minor = is.minor;
      more = is.more;
      minor_fits = is.fits.0;
      major_fits = is.fits.1;
      encoded = parts_are bytes (u2 is.minor ++ (u2 major ++ is.more)) begun (is.encoded ∙ append_assoc (u2 is.minor) (u2 major) is.more);
      other = is.other;
    }

version_so : (bytes : List ℕ) (major : ℕ) → length bytes ≤ largest → HasOtherVersion bytes major → class_of bytes ≡ Err (Version major)
version_so bytes major size is =
    let rest : List ℕ = u2 is.minor ++ (u2 major ++ is.more) in
    let other : IsOther (u2 is.minor ++ (u2 major ++ is.more)) major =
    record { minor = is.minor; more = is.more; fits = (is.minor_fits, is.major_fits); encoded = sym (append_assoc (u2 is.minor) (u2 major) is.more); other = is.other } in
    ap class_of is.encoded ∙ class_after rest (subst (λ (all : List ℕ). length all ≤ largest) is.encoded size) ∙ body_refused rest major other

-- bytes after a class file
tail_is : (bytes : List ℕ) (why : ReadRefusal) → IsBegun bytes → IsTailed (drop 4 bytes) why → IsRefused bytes why
tail_is bytes why begun is =
    let l : Layout = is.body.layout in
    let whole : bytes ≡ (magic ++ body_bytes l) ++ is.tail = parts_are bytes (body_bytes l ++ is.tail) begun is.body.encoded ∙ sym (append_assoc magic (body_bytes l) is.tail) in
    let long : length bytes ≡ length (magic ++ body_bytes l) + length is.tail = ap length whole ∙ length-append (magic ++ body_bytes l) is.tail in
    let small : length is.tail ≤ largest = omega (arith, long, begun.size) in
    let small_class : length (magic ++ body_bytes l) ≤ largest = omega (arith, long, begun.size) in
    let laid : IsLaidOut (magic ++ body_bytes l) l is.file = record { encoded = refl; size = small_class; fits = is.body.sound.fits; regular = is.body.sound.regular; stands = is.body.stands } in
    let count_is : capped (length is.tail) ≡ length is.tail = capped_is (length is.tail) small in
    let some : 0 < capped (length is.tail) = omega (arith, count_is, is.some) in
    let has : HasTail bytes (capped (length is.tail)) = record { class = magic ++ body_bytes l; tail = is.tail; file = is.file; encoded = whole; class_file = (l, laid); size = sym count_is; some = some } in
    subst (IsRefused bytes) is.why_is (begun.size, has)

tail_so : (bytes : List ℕ) (count : ℕ) → length bytes ≤ largest → HasTail bytes count → class_of bytes ≡ Err (TrailingBytes count)
tail_so bytes count size has =
    let whole_size : length (has.class ++ has.tail) ≤ largest = subst (λ (all : List ℕ). length all ≤ largest) has.encoded size in
    let small : length has.tail ≤ largest = omega (arith, whole_size, length-append has.class has.tail) in
    let not_none : eqb (length has.tail) 0 ≡ false = ne_eqb (length has.tail) 0 (λ none. omega (arith, none, has.size, has.some)) in
    let told : ended (has.file, has.tail) ≡ Err (TrailingBytes count) =
    rw not_none (ap (λ (n : ℕ). failed {A = ClassFile} (TrailingBytes n)) (capped_is (length has.tail) small ∙ has.size)) in
    ap class_of has.encoded ∙ read_with has.class has.tail has.class_file.0 has.file has.class_file.1 whole_size ∙ told

part_refused : (bytes : List ℕ) (why : ReadRefusal) → IsPartFault why → class_of bytes ≡ Err why → IsRefused bytes why
part_refused bytes Truncated is e = e
part_refused bytes (BadPool index) is e = e
part_refused bytes BadShape is e = e
part_refused bytes (BadDescriptor index) is e = e
part_refused bytes NotClass is e = absurd is
part_refused bytes (Version major) is e = absurd is
part_refused bytes (TrailingBytes count) is e = absurd is
part_refused bytes (TooLarge size) is e = absurd is
part_refused bytes Memory is e = absurd is

-- what is refused is refused for what is wrong first
pub refused_is : (bytes : List ℕ) (why : ReadRefusal) → IsBytes bytes → class_of bytes ≡ Err why → IsRefused bytes why
refused_is bytes why fits e =
    ways (IsRefused bytes why) bytes (Err why) e (λ many is. subst (IsRefused bytes) (same_why {A = ClassFile} (TooLarge (capped (length bytes))) why is) (many, refl))
    (λ size other is. subst (IsRefused bytes) (same_why {A = ClassFile} NotClass why is) (size, other))
    (λ begun e_why.
    body_fails (IsRefused bytes why) (drop 4 bytes) why (IsBytes-drop 4 bytes fits) e_why (λ part. part_refused bytes why part e)
    (λ major is other. subst (IsRefused bytes) is (begun.size, other_is bytes major begun other))
    (λ tail. tail_is bytes why begun tail))

-- what is wrong first is what bytes are refused for
pub refused_so : (bytes : List ℕ) (why : ReadRefusal) → IsRefused bytes why → class_of bytes ≡ Err why
refused_so bytes (TooLarge size) r = too_large bytes r.0 ∙ ap (λ (n : ℕ). failed {A = ClassFile} (TooLarge n)) (sym r.1)
refused_so bytes NotClass r = not_class bytes r.0 r.1
refused_so bytes (Version major) r = version_so bytes major r.0 r.1
refused_so bytes (TrailingBytes count) r = tail_so bytes count r.0 r.1
refused_so bytes Truncated r = r
refused_so bytes (BadPool index) r = r
refused_so bytes BadShape r = r
refused_so bytes (BadDescriptor index) r = r
refused_so bytes Memory r = absurd r

-- reading never fails for want of memory
pub no_memory : (bytes : List ℕ) → IsBytes bytes → class_of bytes ≡ Err Memory → ⊥
no_memory bytes fits e = refused_is bytes Memory fits e

-- ---- both ways

pub file_exactly : (bytes : List ℕ) (file : ClassFile) → IsBytes bytes → (class_of bytes ≡ Ok file) ↔ IsClassFile bytes file
file_exactly bytes file fits = (file_is bytes file fits, file_again bytes file)

pub refused_exactly : (bytes : List ℕ) (why : ReadRefusal) → IsBytes bytes → (class_of bytes ≡ Err why) ↔ IsRefused bytes why
refused_exactly bytes why fits = (refused_is bytes why fits, refused_so bytes why)
