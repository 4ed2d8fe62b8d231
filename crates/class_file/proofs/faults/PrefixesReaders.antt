-- Each part of a class file is read by the prefix: what is read, and a fault, stand whatever follows.
use Rattle.std.proofs.Common.{◌≡◌, ℕ, ◌-◌, ◌≤◌, Bool, ◌&&◌, ◌||◌, not, eqb, leb, List, [], ◌++◌, length, Option, Some, None, Result, Ok, Err, refl, sym, ap, arith, inl, inr, length-append}
use Rattle.std.specs.Prelude.{is_some, codes}
use Rattle.std.proofs.lemmas.List.{drop-append-le}
use Rattle.byteorder.specs.Endian.{big_number}
use Rattle.class_pool.specs.declared.refusal.PoolRefusal.{PoolRefusal}
use Rattle.class_pool.specs.declared.refusal.PoolRefusal.TheVariants.{Truncated as PoolTruncated}
use Rattle.class_pool.specs.Pool.{Slots, utf8_at, is_utf8_at}
use Rattle.class_pool.specs.PoolReading.{pool_at as slots_at, pool_from}
use Rattle.byte_read.proofs.Steady.{Persists, IsSteady, done, failing, either, first, last, tested, settled, alike, number_steady, slice_steady, steps_steady, one_more_steady}
use Rattle.class_pool.proofs.constant_pool.Steady.{pool_steady as slots_steady}
use Rattle.class_file.specs.declared.refusal.ReadRefusal.{ReadRefusal}
use Rattle.class_file.specs.declared.refusal.ReadRefusal.TheVariants.{Version, Truncated, BadShape}
use Rattle.class_file.specs.declared.record.Member.{Member}
use Rattle.class_file.specs.Rules.{is_abstract, is_named, are_class_flags, names_class}
use Rattle.byte_read.specs.Reading.{◌>>=◌}
use Rattle.class_file.specs.Reading.{counted_at, list_at}
use Rattle.class_file.specs.ReadingMembers.{text_at, info_at, skip_at, skipped, skip_all_at, code_parts, as_shape, code_at, value_at, field_attribute_at, method_attribute_at, field_attributes_at, method_attributes_at, head_at, field_type, method_type, is_declared, is_field_head, is_method_head, field_head_at, method_head_at, field_at, method_at, fields_at, methods_at}
use Rattle.class_file.specs.ReadingClass.{version_at, of_pool, after_pool, pool_at, class_flags_at, class_index_at, interfaces_at, class_head_at, members_at}
use Rattle.byte_read.proofs.Steps.{under}
use Rattle.class_file.proofs.layout.ClassParts.{a_class_head, Numbers, a_file, after_version}
use Rattle.class_file.proofs.layout.Body.{parts_of}

-- ---- lists

counted_steady : {A : Type 0} {step : A → List ℕ → Result (A × List ℕ) ReadRefusal} → ((before : A) → IsSteady Truncated (step before)) → (before : A) → IsSteady Truncated (counted_at step before)
unfolding counted_at
counted_steady one before = first (number_steady 2) (λ count. steps_steady one before count)

list_steady : {A : Type 0} {item : List A → List ℕ → Result (A × List ℕ) ReadRefusal} → ((earlier : List A) → IsSteady Truncated (item earlier)) → IsSteady Truncated (list_at item)
list_steady one = counted_steady (one_more_steady one) []

-- ---- attributes as such

text_steady : (pool : Slots) → IsSteady Truncated (text_at pool)
unfolding text_at
text_steady pool = tested (number_steady 2) (λ index. is_utf8_at pool index) BadShape

info_steady : IsSteady Truncated info_at
unfolding info_at
info_steady = first (number_steady 4) (λ size. slice_steady size)

skip_steady : {A : Type 0} (pool : Slots) (value : A) → IsSteady Truncated (λ bytes. skip_at pool bytes >>= λ rest. Ok (value, rest))
unfolding skip_at
skip_steady pool value =
    alike (first (text_steady pool) (λ name. last info_steady (λ info. value)))
    (λ bytes. sym (under (text_at pool bytes) _ _ _ (λ name. under (info_at name.1) _ _ _ (λ info. refl))))

pub skip_all_steady : {A : Type 0} (pool : Slots) (value : A) → IsSteady Truncated (λ bytes. skip_all_at pool bytes >>= λ rest. Ok (value, rest))
unfolding skip_all_at
skip_all_steady pool value =
    alike (last (counted_steady (λ (before : Unit {0}). skip_steady pool tt) tt) (λ before. value)) (λ bytes. sym (under (counted_at (skipped pool) tt bytes) _ _ _ (λ x. refl)))

-- ---- attributes of members

-- Code is cut out by its length, so that nothing in it depends on what follows
code_steady : (pool : Slots) → IsSteady Truncated (code_at pool)
unfolding code_at
code_steady pool = first info_steady (λ info. settled (as_shape (code_parts pool info)) (λ code. done code))

value_steady : IsSteady Truncated value_at
unfolding value_at
value_steady = first info_steady (λ info. either (eqb (length info) 2) (done (big_number 2 info)) (failing BadShape))

field_attribute_steady : (pool : Slots) (found : Option ℕ) → IsSteady Truncated (field_attribute_at pool found)
unfolding field_attribute_at
field_attribute_steady pool found =
    first (text_steady pool) (λ name.
    either (is_named (codes "ConstantValue") (utf8_at pool name)) (either (is_some found) (failing BadShape) (last value_steady (λ value. Some value))) (last info_steady (λ info. found)))

method_attribute_steady : (pool : Slots) (abstract : Bool) (found : Option _) → IsSteady Truncated (method_attribute_at pool abstract found)
unfolding method_attribute_at
method_attribute_steady pool abstract found =
    first (text_steady pool) (λ name.
    either (is_named (codes "Code") (utf8_at pool name)) (either (abstract || is_some found) (failing BadShape) (last (code_steady pool) (λ code. Some code))) (last info_steady (λ info. found)))

field_attributes_steady : (pool : Slots) → IsSteady Truncated (field_attributes_at pool)
unfolding field_attributes_at
field_attributes_steady pool = counted_steady (field_attribute_steady pool) None

method_attributes_steady : (pool : Slots) (abstract : Bool) → IsSteady Truncated (method_attributes_at pool abstract)
unfolding method_attributes_at
method_attributes_steady pool abstract = tested (counted_steady (method_attribute_steady pool abstract) None) (λ code. abstract || is_some code) BadShape

-- ---- fields and methods

head_steady : (pool : Slots) → IsSteady Truncated (head_at pool)
unfolding head_at
head_steady pool =
    first (number_steady 2) (λ flags. first (text_steady pool) (λ name. last (text_steady pool) (λ descriptor. record { flags = flags; name = name; descriptor = descriptor })))

field_head_steady : (class_flags : ℕ) (pool : Slots) (earlier : List Member) → IsSteady Truncated (field_head_at class_flags pool earlier)
unfolding field_head_at
field_head_steady class_flags pool earlier =
    first (head_steady pool) (λ head. settled (field_type pool head.descriptor) (λ type.
    either (is_field_head class_flags head && not (is_declared pool earlier head)) (done head) (failing BadShape)))

method_head_steady : (class_flags : ℕ) (pool : Slots) (earlier : List Member) → IsSteady Truncated (method_head_at class_flags pool earlier)
unfolding method_head_at
method_head_steady class_flags pool earlier =
    first (head_steady pool) (λ head. settled (method_type pool head.descriptor) (λ type.
    either (is_method_head class_flags pool head type && not (is_declared pool earlier head)) (done head) (failing BadShape)))

pub field_steady : (class_flags : ℕ) (pool : Slots) (earlier : List Member) → IsSteady Truncated (field_at class_flags pool earlier)
unfolding field_at
field_steady class_flags pool earlier =
    first (field_head_steady class_flags pool earlier) (λ head. last (field_attributes_steady pool) (λ value.
    record { flags = head.flags; name = head.name; descriptor = head.descriptor; constant = value; code = None }))

pub method_steady : (class_flags : ℕ) (pool : Slots) (earlier : List Member) → IsSteady Truncated (method_at class_flags pool earlier)
unfolding method_at
method_steady class_flags pool earlier =
    first (method_head_steady class_flags pool earlier) (λ head. last (method_attributes_steady pool (is_abstract head.flags)) (λ code.
    record { flags = head.flags; name = head.name; descriptor = head.descriptor; constant = None; code = code }))

fields_steady : (class_flags : ℕ) (pool : Slots) → IsSteady Truncated (fields_at class_flags pool)
unfolding fields_at
fields_steady class_flags pool = list_steady (field_steady class_flags pool)

methods_steady : (class_flags : ℕ) (pool : Slots) → IsSteady Truncated (methods_at class_flags pool)
unfolding methods_at
methods_steady class_flags pool = list_steady (method_steady class_flags pool)

-- ---- the parts of the class

version_steady : IsSteady Truncated version_at
unfolding version_at
version_steady =
    first (number_steady 2) (λ minor. first (number_steady 2) (λ major. either (leb 45 major && leb major 52) (done (minor, major)) (failing (Version major))))

-- where the pool ends is told as a place in the bytes
pool_holds : (bytes more : List ℕ) (r longer : Result (Slots × List ℕ) PoolRefusal) → Persists PoolTruncated more r longer
    → Persists Truncated more (after_pool bytes (r >>= λ pool. Ok (pool.0, length bytes - length pool.1))) (after_pool (bytes ++ more) (longer >>= λ pool. Ok (pool.0, length (bytes ++ more) - length pool.1)))
pool_holds bytes more (Ok x) longer h =
    let offset : length (bytes ++ more) - length (x.1 ++ more) ≡ length bytes - length x.1 = omega (arith, length-append bytes more, length-append x.1 more) in
    let within : length bytes - length x.1 ≤ length bytes = omega arith in
    rw (h, offset, drop-append-le (length bytes - length x.1) bytes more within) refl
pool_holds bytes more (Err why) longer (inl e) = inl (ap of_pool e)
pool_holds bytes more (Err why) longer (inr e) = inr (rw e refl)

pool_steady : IsSteady Truncated pool_at
unfolding pool_at pool_from
pool_steady = record { persists = λ bytes more. pool_holds bytes more (slots_at bytes) (slots_at (bytes ++ more)) (slots_steady.persists bytes more) }

class_flags_steady : IsSteady Truncated class_flags_at
unfolding class_flags_at
class_flags_steady = tested (number_steady 2) (λ flags. are_class_flags flags) BadShape

class_index_steady : (pool : Slots) → IsSteady Truncated (class_index_at pool)
unfolding class_index_at
class_index_steady pool = tested (number_steady 2) (λ index. names_class pool index) BadShape

interfaces_steady : (pool : Slots) → IsSteady Truncated (interfaces_at pool)
unfolding interfaces_at
interfaces_steady pool = list_steady (λ earlier. class_index_steady pool)

pub class_head_steady : (pool : Slots) → IsSteady Truncated (class_head_at pool)
unfolding class_head_at
class_head_steady pool =
    first class_flags_steady (λ flags. first (class_index_steady pool) (λ this_class. first (class_index_steady pool) (λ super_class.
    last (interfaces_steady pool) (λ interfaces. a_class_head flags this_class super_class interfaces))))

members_steady : (class_flags : ℕ) (pool : Slots) → IsSteady Truncated (members_at class_flags pool)
unfolding members_at
members_steady class_flags pool =
    first (fields_steady class_flags pool) (λ fields. first (methods_steady class_flags pool) (λ methods. skip_all_steady pool (fields, methods)))

after_steady : (version : Numbers) → IsSteady Truncated (after_version version)
after_steady version =
    first pool_steady (λ pool. first (class_head_steady pool) (λ head. last (members_steady head.flags pool) (λ members. a_file version pool head members)))

-- all that persists between the magic and the end
pub parts_steady : IsSteady Truncated parts_of
parts_steady = first version_steady after_steady
