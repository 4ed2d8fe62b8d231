-- What truncated bytes and a bad pool are, in words of the format.
use Rattle.std.proofs.Common.{◌≡◌, ◌↔◌, ℕ, zero, suc, ◌≤◌, List, [], ◌∷◌, ◌++◌, length, drop, Result, Ok, Err, refl, sym, ap, subst, ◌∙◌, append_assoc, arith, inl, inr}
use Rattle.std.proofs.lemmas.List.{append-nil}
use Rattle.class_pool.specs.declared.refusal.PoolRefusal.{PoolRefusal}
use Rattle.class_pool.specs.declared.refusal.PoolRefusal.TheVariants.{Truncated as PoolTruncated, BadTag, BadIndex, BadUtf8, Memory as PoolMemory}
use Rattle.class_pool.specs.PoolRefused.{IsRefused as IsPoolRefused}
use Rattle.class_pool.specs.Pool.{Slots}
use Rattle.class_pool.specs.PoolReading.{pool_from}
use Rattle.class_pool.proofs.constant_pool.Pools.{from_fails, from_refused}
use Rattle.byte_read.proofs.Steps.{IsBytes, IsBytes-drop, bind_fails_then, no_failure, same_why, failed, then_ok, then_err}
use Rattle.class_file.specs.declared.record.ClassFile.{ClassFile}
use Rattle.class_file.specs.declared.refusal.ReadRefusal.{ReadRefusal}
use Rattle.class_file.specs.declared.refusal.ReadRefusal.TheVariants.{NotClass, Version, Truncated, TrailingBytes, BadPool, BadShape, BadDescriptor, TooLarge, Memory}
use Rattle.class_file.specs.Layout.{u2, magic}
use Rattle.class_file.specs.Relation.{largest, IsClassFile}
use Rattle.class_file.specs.ReadingClass.{of_pool, after_pool, pool_at, class_of}
use Rattle.class_file.specs.Refused.{HasTail, IsRefused}
use Rattle.class_file.specs.Prefixes.{IsFault}
use Rattle.class_file.specs.Faults.{AreBytes, IsUnfinished, HasVersionThen, IsBadEntry, HasBadEntry}
use Rattle.class_file.proofs.layout.ClassParts.{Numbers, numbers_bytes, IsVersion, version_taken, version_again, after_version}
use Rattle.class_file.proofs.layout.Body.{parts_of, ended, body_is}
use Rattle.class_file.proofs.layout.Whole.{class_after, parts_are, file_is, file_again, refused_is, refused_so}
use Rattle.class_file.proofs.faults.Prefixes.{begun_within, not_ended, faults_hold}
use Rattle.class_file.proofs.faults.PlainParts.{version_raises, class_head_raises, members_raise}

-- numbers below 256 are bytes, index by index
pub bytes_are : (bytes : List ℕ) → AreBytes bytes → IsBytes bytes
bytes_are [] all i = omega arith
bytes_are (byte ∷ bytes) all zero = all.0
bytes_are (byte ∷ bytes) all (suc i) = bytes_are bytes all.1 i

-- ---- bytes that are cut off

file_or_tail : (bytes prefix rest : List ℕ) (file : ClassFile) → bytes ≡ prefix ++ rest → length bytes ≤ largest → IsClassFile prefix file → class_of bytes ≡ Err Truncated → ⊥
file_or_tail bytes prefix [] file whole size is e =
    no_failure file Truncated (sym (file_again prefix file is) ∙ ap class_of (sym (whole ∙ append-nil prefix)) ∙ e)
file_or_tail bytes prefix (byte ∷ rest) file whole size is e =
    let tail : HasTail bytes (length (byte ∷ rest)) = record { class = prefix; tail = byte ∷ rest; file = file; encoded = whole; class_file = is; size = refl; some = omega arith } in
    other (same_why {A = ClassFile} (TrailingBytes (length (byte ∷ rest))) Truncated (sym (refused_so bytes (TrailingBytes (length (byte ∷ rest))) (size, tail)) ∙ e))
  where
    other : TrailingBytes (length (byte ∷ rest)) ≡ Truncated → ⊥
    other same = absurd cc

no_other_fault : (bytes prefix rest : List ℕ) (why : ReadRefusal) → bytes ≡ prefix ++ rest → length bytes ≤ largest → IsFault why → IsRefused prefix why → class_of bytes ≡ Err Truncated → ⊥
no_other_fault bytes prefix rest why whole size fault refused e =
    let holds = faults_hold prefix rest why fault refused (subst (λ (all : List ℕ). length all ≤ largest) whole size) in
    let same : why ≡ Truncated = same_why {A = ClassFile} why Truncated (sym (refused_so (prefix ++ rest) why holds) ∙ ap class_of (sym whole) ∙ e) in
    subst IsFault same fault

unfinished : (bytes : List ℕ) → class_of bytes ≡ Err Truncated → IsUnfinished bytes
unfinished bytes e =
    let begun = (begun_within bytes Truncated (inl refl) e).0 in
    record {
      size = begun.size;
      begins = begun.begins;
      no_file = λ prefix rest file whole is. file_or_tail bytes prefix rest file whole begun.size is e;
      no_fault = λ prefix rest why whole fault refused. no_other_fault bytes prefix rest why whole begun.size fault refused e;
    }

all_of : (bytes : List ℕ) → bytes ≡ bytes ++ []
all_of bytes = sym (append-nil bytes)

only_cut : (bytes : List ℕ) (why : ReadRefusal) → IsUnfinished bytes → IsRefused bytes why → class_of bytes ≡ Err why → class_of bytes ≡ Err Truncated
only_cut bytes Truncated is r e = e
only_cut bytes NotClass is r e = absurd (r.1 is.begins)
only_cut bytes (TooLarge size) is r e = absurd (omega (arith, r.0, is.size))
only_cut bytes (TrailingBytes count) is r e = absurd (is.no_file r.1.class r.1.tail r.1.file r.1.encoded r.1.class_file)
only_cut bytes (Version major) is r e = absurd (is.no_fault bytes [] (Version major) (all_of bytes) tt r)
only_cut bytes (BadPool index) is r e = absurd (is.no_fault bytes [] (BadPool index) (all_of bytes) tt r)
only_cut bytes BadShape is r e = absurd (is.no_fault bytes [] BadShape (all_of bytes) tt r)
only_cut bytes (BadDescriptor index) is r e = absurd (is.no_fault bytes [] (BadDescriptor index) (all_of bytes) tt r)
only_cut bytes Memory is r e = absurd r

truncated_by : (bytes : List ℕ) (r : Result ClassFile ReadRefusal) → IsBytes bytes → IsUnfinished bytes → class_of bytes ≡ r → class_of bytes ≡ Err Truncated
truncated_by bytes (Ok file) fits is e = absurd (is.no_file bytes [] file (all_of bytes) (file_is bytes file fits e))
truncated_by bytes (Err why) fits is e = only_cut bytes why is (refused_is bytes why fits e) e

pub truncated_is : (bytes : List ℕ) → AreBytes bytes → IsRefused bytes Truncated ↔ IsUnfinished bytes
truncated_is bytes are = (unfinished bytes, λ is. truncated_by bytes (class_of bytes) (bytes_are bytes are) is refl)

-- ---- the version

-- what a version and these bytes after it are refused for, where what follows is
pub version_first : (bytes : List ℕ) (why : ReadRefusal) → IsBytes bytes → IsFault why → class_of bytes ≡ Err why → ((major : ℕ) → why ≡ Version major → ⊥) → (why ≡ Truncated → ⊥)
    → (v : Numbers) × (rest : List ℕ) × IsBytes rest × HasVersionThen bytes rest × (length bytes ≤ largest) × (after_version v rest ≡ Err why)
version_first bytes why fits fault e other not_cut =
    let begun = begun_within bytes why (inr fault) e in
    let body = drop 4 bytes in
    bind_fails_then (parts_of body) ended why (sym (body_is body) ∙ begun.1)
    (λ at_parts.
    bind_fails_then _ (λ version. after_version version.0 version.1) why at_parts
    (λ at_version. absurd ((version_raises (λ w. w ≡ why → ⊥) (λ same. not_cut (sym same)) (λ major same. other major (sym same))).fails body why at_version refl))
    (λ v at_v e_why.
    let t = version_taken body v (IsBytes-drop 4 bytes fits) at_v in
    let encoded : bytes ≡ magic ++ (u2 t.part.0 ++ (u2 t.part.1 ++ v.1)) = parts_are bytes (numbers_bytes t.part ++ v.1) begun.0 t.takes.parts ∙ ap (λ (rest : List ℕ). magic ++ rest) (append_assoc (u2 t.part.0) (u2 t.part.1) v.1) in (
      v.0,
      v.1,
      t.takes.rest_fits,
      record { minor = t.part.0; major = t.part.1; minor_fits = t.good.0.0; first_version = t.good.1.0; last_version = t.good.1.1; encoded = encoded },
      begun.0.size,
      e_why,
    )))
    (λ x at_x e_why. absurd (not_ended x why _ (inr fault) e_why))

-- after a version that is read the rest decides
pub version_then : (bytes rest : List ℕ) (why : ReadRefusal) → length bytes ≤ largest → HasVersionThen bytes rest → ((v : Numbers) → after_version v rest ≡ Err why) → class_of bytes ≡ Err why
version_then bytes rest why size is after =
    let v : Numbers = (is.minor, is.major) in
    let text : List ℕ = u2 is.minor ++ (u2 is.major ++ rest) in
    let good : IsVersion v = ((is.minor_fits, omega (arith, is.last_version)), (is.first_version, is.last_version)) in
    let parts : parts_of text ≡ Err why = ap parts_of (sym (append_assoc (u2 is.minor) (u2 is.major) rest)) ∙ then_ok (λ version. after_version version.0 version.1) (Err why) (version_again v rest good) (after v) in
    ap class_of is.encoded ∙ class_after text (subst (λ (all : List ℕ). length all ≤ largest) is.encoded size) ∙ body_is text ∙ then_err ended parts

-- ---- the pool

abbrev NotPool : ReadRefusal → Type 0
NotPool why = (index : ℕ) → why ≡ BadPool index → ⊥

cut_apart : NotPool Truncated
cut_apart index e = absurd cc

shape_apart : NotPool BadShape
shape_apart index e = absurd cc

descriptor_apart : (other : ℕ) → NotPool (BadDescriptor other)
descriptor_apart other index e = absurd cc

same_index : (first second : ℕ) → BadPool first ≡ BadPool second → first ≡ second
same_index first second e = cc

of_entry : (bytes : List ℕ) (d : PoolRefusal) (index : ℕ) → IsPoolRefused bytes d → of_pool d ≡ BadPool index → IsBadEntry bytes index
of_entry bytes PoolTruncated index r e = absurd (cut_apart index e)
of_entry bytes (BadTag bad) index r e = inl (subst (λ (n : ℕ). IsPoolRefused bytes (BadTag n)) (same_index bad index e) r)
of_entry bytes (BadUtf8 bad) index r e = inr (inl (subst (λ (n : ℕ). IsPoolRefused bytes (BadUtf8 n)) (same_index bad index e) r))
of_entry bytes (BadIndex bad) index r e = inr (inr (subst (λ (n : ℕ). IsPoolRefused bytes (BadIndex n)) (same_index bad index e) r))
of_entry bytes PoolMemory index r e = absurd r

entry_by : (bytes : List ℕ) (index : ℕ) (r : Result (Slots × ℕ) PoolRefusal) → IsBytes bytes → pool_from bytes 0 ≡ r → after_pool bytes r ≡ Err (BadPool index) → IsBadEntry bytes index
entry_by bytes index (Ok pool) fits from e = absurd (no_failure (pool.0, drop pool.1 bytes) (BadPool index) e)
entry_by bytes index (Err d) fits from e = of_entry bytes d index (from_fails bytes 0 d fits from) (same_why {A = Slots × List ℕ} (of_pool d) (BadPool index) e)

entry_is : (bytes : List ℕ) (index : ℕ) → IsBytes bytes → pool_at bytes ≡ Err (BadPool index) → IsBadEntry bytes index
unfolding pool_at
entry_is bytes index fits e = entry_by bytes index (pool_from bytes 0) fits refl e

pool_first : (v : Numbers) (bytes : List ℕ) (index : ℕ) → IsBytes bytes → after_version v bytes ≡ Err (BadPool index) → IsBadEntry bytes index
pool_first v bytes index fits e =
    bind_fails_then (pool_at bytes) _ (BadPool index) e (λ at_pool. entry_is bytes index fits at_pool) (λ pool at_pool e_head.
    bind_fails_then _ _ (BadPool index) e_head (λ at_head. absurd ((class_head_raises NotPool cut_apart shape_apart pool.0).fails pool.1 (BadPool index) at_head index refl)) (λ head at_head e_members.
    bind_fails_then _ _ (BadPool index) e_members (λ at_members. absurd ((members_raise NotPool cut_apart shape_apart descriptor_apart head.0.flags pool.0).fails head.1 (BadPool index) at_members index refl))
    (λ members at_members e_file. absurd (no_failure _ (BadPool index) e_file))))

bad_entry : (bytes : List ℕ) (index : ℕ) → IsBytes bytes → class_of bytes ≡ Err (BadPool index) → HasBadEntry bytes index
bad_entry bytes index fits e =
    let f = version_first bytes (BadPool index) fits tt e (λ major same. absurd cc) (λ same. absurd cc) in
    record { rest = f.1; size = f.4; version = f.3; entry = pool_first f.0 f.1 index f.2 f.5 }

refused_pool : (bytes : List ℕ) (d : PoolRefusal) (why : ReadRefusal) (v : Numbers) → IsPoolRefused bytes d → of_pool d ≡ why → after_version v bytes ≡ Err why
unfolding pool_at
refused_pool bytes d why v r is = then_err _ (ap (after_pool bytes) (from_refused bytes 0 d r) ∙ ap (λ (w : ReadRefusal). failed {A = Slots × List ℕ} w) is)

pool_again : (bytes : List ℕ) (index : ℕ) (v : Numbers) → IsBadEntry bytes index → after_version v bytes ≡ Err (BadPool index)
pool_again bytes index v (inl tag) = refused_pool bytes (BadTag index) (BadPool index) v tag refl
pool_again bytes index v (inr (inl text)) = refused_pool bytes (BadUtf8 index) (BadPool index) v text refl
pool_again bytes index v (inr (inr named)) = refused_pool bytes (BadIndex index) (BadPool index) v named refl

pub bad_pool_is : (bytes : List ℕ) (index : ℕ) → AreBytes bytes → IsRefused bytes (BadPool index) ↔ HasBadEntry bytes index
bad_pool_is bytes index are = (bad_entry bytes index (bytes_are bytes are), λ is. version_then bytes is.rest (BadPool index) is.size is.version (λ v. pool_again is.rest index v is.entry))
