-- What the parts of a class file refuse for: but for the pool and the descriptors, that bytes are missed or
-- that a rule of the shape fails.
use Rattle.std.proofs.Common.{◌≡◌, ℕ, Bool, ◌&&◌, ◌||◌, not, eqb, leb, List, length, drop, Option, Some, None, Result, Ok, Err, refl, sym, subst}
use Rattle.std.specs.Prelude.{is_some, codes}
use Rattle.byteorder.specs.Endian.{big_number}
use Rattle.class_pool.specs.declared.refusal.PoolRefusal.{PoolRefusal}
use Rattle.class_pool.specs.PoolReading.{pool_from}
use Rattle.class_pool.specs.Pool.{Slots, utf8_at, is_utf8_at}
use Rattle.byte_read.specs.Reading.{◌>>=◌}
use Rattle.byte_read.proofs.Steps.{under, no_failure, same_why}
use Rattle.class_file.specs.declared.record.CodeAttr.{CodeAttr}
use Rattle.class_file.specs.declared.record.Member.{Member}
use Rattle.class_file.specs.declared.refusal.ReadRefusal.{ReadRefusal}
use Rattle.class_file.specs.declared.refusal.ReadRefusal.TheVariants.{Version, Truncated, BadShape, BadDescriptor}
use Rattle.class_file.specs.Rules.{is_abstract, is_named, are_class_flags, names_class}
use Rattle.class_file.specs.Reading.{counted_at}
use Rattle.class_file.specs.ReadingMembers.{text_at, info_at, skip_at, skipped, skip_all_at, code_parts, as_shape, code_at, value_at, field_attribute_at, method_attribute_at, field_attributes_at, method_attributes_at, head_at, described, field_type, method_type, is_declared, is_field_head, is_method_head, field_head_at, method_head_at, field_at, method_at, fields_at, methods_at}
use Rattle.class_file.specs.ReadingClass.{version_at, of_pool, after_pool, pool_at, class_flags_at, class_index_at, interfaces_at, class_head_at, members_at}
use Rattle.class_file.proofs.layout.ClassParts.{a_class_head}
use Rattle.class_file.proofs.faults.Raises.{Raises, done, failing, either, first, last, tested, settled, alike, u2_raises, u4_raises, slice_raises, counted_raises, list_raises}

-- these hold of bytes that are missed and of a rule of the shape that fails
module _ (P : ReadRefusal → Type 0) (cut : P Truncated) (shape : P BadShape) where
  -- ---- attributes

  text_raises : (pool : Slots) → Raises P (text_at pool)
  unfolding text_at
  text_raises pool = tested (u2_raises cut) (λ index. is_utf8_at pool index) BadShape shape

  info_raises : Raises P info_at
  unfolding info_at
  info_raises = first (u4_raises cut) (λ size. slice_raises cut size)

  skip_raises : {A : Type 0} (pool : Slots) (value : A) → Raises P (λ bytes. skip_at pool bytes >>= λ rest. Ok (value, rest))
  unfolding skip_at
  skip_raises pool value =
      alike (first (text_raises pool) (λ name. last info_raises (λ info. value)))
      (λ bytes. sym (under (text_at pool bytes) _ _ _ (λ name. under (info_at name.1) _ _ _ (λ info. refl))))

  pub skip_all_raises : {A : Type 0} (pool : Slots) (value : A) → Raises P (λ bytes. skip_all_at pool bytes >>= λ rest. Ok (value, rest))
  unfolding skip_all_at
  skip_all_raises pool value =
      alike (last (counted_raises cut (λ (before : Unit {0}). skip_raises pool tt) tt) (λ before. value)) (λ bytes. sym (under (counted_at (skipped pool) tt bytes) _ _ _ (λ x. refl)))

  shape_only : {A : Type 0} (r : Result A ReadRefusal) (why : ReadRefusal) → as_shape r ≡ Err why → P why
  shape_only (Ok x) why e = absurd (no_failure x why e)
  shape_only {A = A} (Err d) why e = subst P (same_why {A = A} BadShape why e) shape

  code_raises : (pool : Slots) → Raises P (code_at pool)
  unfolding code_at
  code_raises pool = first info_raises (λ info. settled (as_shape (code_parts pool info)) (shape_only (code_parts pool info)) (λ code. done code))

  value_raises : Raises P value_at
  unfolding value_at
  value_raises = first info_raises (λ info. either (eqb (length info) 2) (done (big_number 2 info)) (failing BadShape shape))

  field_attribute_raises : (pool : Slots) (found : Option ℕ) → Raises P (field_attribute_at pool found)
  unfolding field_attribute_at
  field_attribute_raises pool found =
      first (text_raises pool) (λ name.
      either (is_named (codes "ConstantValue") (utf8_at pool name)) (either (is_some found) (failing BadShape shape) (last value_raises (λ value. Some value))) (last info_raises (λ info. found)))

  method_attribute_raises : (pool : Slots) (abstract : Bool) (found : Option CodeAttr) → Raises P (method_attribute_at pool abstract found)
  unfolding method_attribute_at
  method_attribute_raises pool abstract found =
      first (text_raises pool) (λ name.
      either (is_named (codes "Code") (utf8_at pool name)) (either (abstract || is_some found) (failing BadShape shape) (last (code_raises pool) (λ code. Some code))) (last info_raises (λ info. found)))

  pub field_attributes_raise : (pool : Slots) → Raises P (field_attributes_at pool)
  unfolding field_attributes_at
  field_attributes_raise pool = counted_raises cut (field_attribute_raises pool) None

  pub method_attributes_raise : (pool : Slots) (abstract : Bool) → Raises P (method_attributes_at pool abstract)
  unfolding method_attributes_at
  method_attributes_raise pool abstract = tested (counted_raises cut (method_attribute_raises pool abstract) None) (λ code. abstract || is_some code) BadShape shape

  -- ---- flags, name and descriptor

  pub head_raises : (pool : Slots) → Raises P (head_at pool)
  unfolding head_at
  head_raises pool =
      first (u2_raises cut) (λ flags. first (text_raises pool) (λ name. last (text_raises pool) (λ descriptor. record { flags = flags; name = name; descriptor = descriptor })))

  -- ---- from the flags of the class to its interfaces

  class_flags_raise : Raises P class_flags_at
  unfolding class_flags_at
  class_flags_raise = tested (u2_raises cut) (λ flags. are_class_flags flags) BadShape shape

  class_index_raises : (pool : Slots) → Raises P (class_index_at pool)
  unfolding class_index_at
  class_index_raises pool = tested (u2_raises cut) (λ index. names_class pool index) BadShape shape

  interfaces_raise : (pool : Slots) → Raises P (interfaces_at pool)
  unfolding interfaces_at
  interfaces_raise pool = list_raises cut (λ earlier. class_index_raises pool)

  pub class_head_raises : (pool : Slots) → Raises P (class_head_at pool)
  unfolding class_head_at
  class_head_raises pool =
      first class_flags_raise (λ flags. first (class_index_raises pool) (λ this_class. first (class_index_raises pool) (λ super_class.
      last (interfaces_raise pool) (λ interfaces. a_class_head flags this_class super_class interfaces))))

-- these hold of a descriptor that is none too
module _ (P : ReadRefusal → Type 0) (cut : P Truncated) (shape : P BadShape) (descriptor : (index : ℕ) → P (BadDescriptor index)) where
  none_described : {A : Type 0} (index : ℕ) (found : Option A) (why : ReadRefusal) → described index found ≡ Err why → P why
  none_described {A = A} index None why e = subst P (same_why {A = A} (BadDescriptor index) why e) (descriptor index)
  none_described index (Some type) why e = absurd (no_failure type why e)

  no_field_type : (pool : Slots) (index : ℕ) (why : ReadRefusal) → field_type pool index ≡ Err why → P why
  unfolding field_type
  no_field_type pool index why e = none_described index _ why e

  no_method_type : (pool : Slots) (index : ℕ) (why : ReadRefusal) → method_type pool index ≡ Err why → P why
  unfolding method_type
  no_method_type pool index why e = none_described index _ why e

  field_raises : (class_flags : ℕ) (pool : Slots) (earlier : List Member) → Raises P (field_at class_flags pool earlier)
  unfolding field_at field_head_at
  field_raises class_flags pool earlier =
      first (first (head_raises P cut shape pool) (λ head. settled (field_type pool head.descriptor) (no_field_type pool head.descriptor) (λ type.
      either (is_field_head class_flags head && not (is_declared pool earlier head)) (done head) (failing BadShape shape)))) (λ head.
      last (field_attributes_raise P cut shape pool) (λ value. record { flags = head.flags; name = head.name; descriptor = head.descriptor; constant = value; code = None }))

  method_raises : (class_flags : ℕ) (pool : Slots) (earlier : List Member) → Raises P (method_at class_flags pool earlier)
  unfolding method_at method_head_at
  method_raises class_flags pool earlier =
      first (first (head_raises P cut shape pool) (λ head. settled (method_type pool head.descriptor) (no_method_type pool head.descriptor) (λ type.
      either (is_method_head class_flags pool head type && not (is_declared pool earlier head)) (done head) (failing BadShape shape)))) (λ head.
      last (method_attributes_raise P cut shape pool (is_abstract head.flags)) (λ code. record { flags = head.flags; name = head.name; descriptor = head.descriptor; constant = None; code = code }))

  pub members_raise : (class_flags : ℕ) (pool : Slots) → Raises P (members_at class_flags pool)
  unfolding members_at fields_at methods_at
  members_raise class_flags pool =
      first (list_raises cut (field_raises class_flags pool)) (λ fields. first (list_raises cut (method_raises class_flags pool)) (λ methods. skip_all_raises P cut shape pool (fields, methods)))

-- the version
pub version_raises : (P : ReadRefusal → Type 0) → P Truncated → ((major : ℕ) → P (Version major)) → Raises P version_at
unfolding version_at
version_raises P cut version =
    first (u2_raises cut) (λ minor. first (u2_raises cut) (λ major. either (leb 45 major && leb major 52) (done (minor, major)) (failing (Version major) (version major))))

-- the pool
pool_by : (P : ReadRefusal → Type 0) → ((d : PoolRefusal) → P (of_pool d)) → (bytes : List ℕ) (r : Result (Slots × ℕ) PoolRefusal) (why : ReadRefusal) → after_pool bytes r ≡ Err why → P why
pool_by P each bytes (Ok pool) why e = absurd (no_failure (pool.0, drop pool.1 bytes) why e)
pool_by P each bytes (Err d) why e = subst P (same_why {A = Slots × List ℕ} (of_pool d) why e) (each d)

pub pool_raises : (P : ReadRefusal → Type 0) → ((d : PoolRefusal) → P (of_pool d)) → Raises P pool_at
unfolding pool_at
pool_raises P each = record { fails = λ bytes why e. pool_by P each bytes (pool_from bytes 0) why e }
