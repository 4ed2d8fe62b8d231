-- What a bad descriptor is, in words of the format.
use Rattle.std.proofs.Common.{◌≡◌, ◌⊎◌, ◌↔◌, ℕ, ◌≤◌, List, ◌++◌, length, Err, refl, ap, subst, ◌∙◌, inl, inr}
use Rattle.class_pool.specs.declared.refusal.PoolRefusal.{PoolRefusal}
use Rattle.class_pool.specs.declared.refusal.PoolRefusal.TheVariants.{Truncated as PoolTruncated, BadTag, BadIndex, BadUtf8, Memory as PoolMemory}
use Rattle.class_pool.specs.Pool.{Slots, pool_bytes, IsPool}
use Rattle.byte_read.proofs.Steps.{IsBytes, bind_fails_then, no_failure, then_ok, then_err}
use Rattle.class_file.specs.declared.class.ClassHead.{ClassHead}
use Rattle.class_file.specs.declared.record.Member.{Member}
use Rattle.class_file.specs.declared.refusal.ReadRefusal.{ReadRefusal}
use Rattle.class_file.specs.declared.refusal.ReadRefusal.TheVariants.{Truncated, BadDescriptor}
use Rattle.class_file.specs.Layout.{counted, MemberLayout, member_bytes}
use Rattle.class_file.specs.Relation.{IsRegularField, IsRegularMethod, largest}
use Rattle.class_file.specs.ReadingMembers.{field_at, method_at, fields_at, methods_at}
use Rattle.class_file.specs.ReadingClass.{of_pool, pool_at, class_head_at, members_at, class_of}
use Rattle.class_file.specs.Refused.{IsRefused}
use Rattle.class_file.specs.Faults.{AreBytes, HasVersionThen, IsClassHead, class_head_bytes, HasClassThen, HasMembersThen, HasBadField, HasBadMethod}
use Rattle.class_file.proofs.layout.Members.{AreFields, fields_read, field_reads, method_reads}
use Rattle.class_file.proofs.layout.ClassParts.{Numbers, pool_reads, class_head_reads, after_version}
use Rattle.class_file.proofs.text_table.Told.{no_field, no_method}
use Rattle.class_file.proofs.faults.PlainParts.{class_head_raises, skip_all_raises, pool_raises}
use Rattle.class_file.proofs.faults.MembersStop.{StopsAt, list_stops, list_stopped, NotDescriptor, cut_other, shape_other, field_stops, method_stops, field_stopped, method_stopped}
use Rattle.class_file.proofs.faults.FaultsSay.{bytes_are, version_first, version_then}

pool_other : (d : PoolRefusal) → NotDescriptor (of_pool d)
pool_other PoolTruncated index e = absurd cc
pool_other (BadTag bad) index e = absurd cc
pool_other (BadIndex bad) index e = absurd cc
pool_other (BadUtf8 bad) index e = absurd cc
pool_other PoolMemory index e = absurd cc

not_cut : (index : ℕ) → BadDescriptor index ≡ Truncated → ⊥
not_cut index e = absurd cc

-- ---- fields

module _ (class_flags : ℕ) (pool : Slots) (index : ℕ) where
  fields_stop : (bytes : List ℕ) → IsBytes bytes → fields_at class_flags pool bytes ≡ Err (BadDescriptor index) → StopsAt pool (IsRegularField class_flags pool) (field_at class_flags pool) bytes (BadDescriptor index)
  unfolding fields_at
  fields_stop bytes fits e = list_stops pool (IsRegularField class_flags pool) (field_at class_flags pool) (field_reads class_flags pool) bytes (BadDescriptor index) fits (not_cut index) e

  methods_stop : (bytes : List ℕ) → IsBytes bytes → methods_at class_flags pool bytes ≡ Err (BadDescriptor index) → StopsAt pool (IsRegularMethod class_flags pool) (method_at class_flags pool) bytes (BadDescriptor index)
  unfolding methods_at
  methods_stop bytes fits e = list_stops pool (IsRegularMethod class_flags pool) (method_at class_flags pool) (method_reads class_flags pool) bytes (BadDescriptor index) fits (not_cut index) e

  fields_stopped : (bytes rest : List ℕ) → HasMembersThen pool (IsRegularField class_flags pool) bytes rest → ((earlier : List Member) → field_at class_flags pool earlier rest ≡ Err (BadDescriptor index)) → fields_at class_flags pool bytes ≡ Err (BadDescriptor index)
  unfolding fields_at
  fields_stopped bytes rest has e = list_stopped pool (IsRegularField class_flags pool) (field_at class_flags pool) (field_reads class_flags pool) bytes rest (BadDescriptor index) has e

  methods_stopped : (bytes rest : List ℕ) → HasMembersThen pool (IsRegularMethod class_flags pool) bytes rest → ((earlier : List Member) → method_at class_flags pool earlier rest ≡ Err (BadDescriptor index)) → methods_at class_flags pool bytes ≡ Err (BadDescriptor index)
  unfolding methods_at
  methods_stopped bytes rest has e = list_stopped pool (IsRegularMethod class_flags pool) (method_at class_flags pool) (method_reads class_flags pool) bytes rest (BadDescriptor index) has e

-- ---- what was refused has such a member

abbrev IsBad : List ℕ → ℕ → Type 0
IsBad bytes index = HasBadField bytes index ⊎ HasBadMethod bytes index

bad_field : (bytes : List ℕ) (index : ℕ) (pool : Slots) (head : ClassHead) (rest : List ℕ) → HasClassThen bytes pool head rest → IsBytes rest → fields_at head.flags pool rest ≡ Err (BadDescriptor index) → HasBadField bytes index
bad_field bytes index pool head rest class fits e =
    let s = fields_stop head.flags pool index rest fits e in
    let u = field_stops head.flags pool s.earlier s.rest index s.rest_fits s.fails in
    record { pool = pool; head = head; after_head = rest; rest = s.rest; text = u.0; class = class; fields = s.members; field = u.1; no_type = no_field u.0 u.2 }

bad_method : (bytes : List ℕ) (index : ℕ) (pool : Slots) (head : ClassHead) (fields : List MemberLayout) (rest : List ℕ) → HasClassThen bytes pool head (counted member_bytes fields ++ rest) → AreFields head.flags pool fields → IsBytes rest
    → methods_at head.flags pool rest ≡ Err (BadDescriptor index) → HasBadMethod bytes index
bad_method bytes index pool head fields rest class are fits e =
    let s = methods_stop head.flags pool index rest fits e in
    let u = method_stops head.flags pool s.earlier s.rest index s.rest_fits s.fails in
    record {
      pool = pool;
      head = head;
      fields = fields;
      after_fields = rest;
      rest = s.rest;
      text = u.0;
      class = class;
      field_count = are.0;
      are_fields = record { fit = are.1; regular = are.2; different = are.3 };
      methods = s.members;
      method = u.1;
      no_descriptor = no_method u.0 u.2;
    }

in_members : (bytes : List ℕ) (index : ℕ) (pool : Slots) (head : ClassHead) (rest : List ℕ) → HasClassThen bytes pool head rest → IsBytes rest → members_at head.flags pool rest ≡ Err (BadDescriptor index) → IsBad bytes index
unfolding members_at
in_members bytes index pool head rest class fits e =
    bind_fails_then (fields_at head.flags pool rest) _ (BadDescriptor index) e (λ at_fields. inl (bad_field bytes index pool head rest class fits at_fields)) (λ fields at_fields e_methods.
    let t = (fields_read head.flags pool).taken rest fields fits at_fields in
    let class_fields : HasClassThen bytes pool head (counted member_bytes t.part ++ fields.1) = subst (HasClassThen bytes pool head) t.takes.parts class in
    bind_fails_then (methods_at head.flags pool fields.1) _ (BadDescriptor index) e_methods (λ at_methods. inr (bad_method bytes index pool head t.part fields.1 class_fields t.good t.takes.rest_fits at_methods)) (λ methods at_methods e_rest.
    absurd ((skip_all_raises NotDescriptor cut_other shape_other pool (fields.0, methods.0)).fails methods.1 (BadDescriptor index) e_rest index refl)))

in_parts : (bytes : List ℕ) (index : ℕ) (v : Numbers) (rest : List ℕ) → HasVersionThen bytes rest → IsBytes rest → after_version v rest ≡ Err (BadDescriptor index) → IsBad bytes index
in_parts bytes index v rest version fits e =
    bind_fails_then (pool_at rest) _ (BadDescriptor index) e (λ at_pool. absurd ((pool_raises NotDescriptor pool_other).fails rest (BadDescriptor index) at_pool index refl)) (λ pool at_pool e_head.
    let p = pool_reads.taken rest pool fits at_pool in
    bind_fails_then (class_head_at pool.0 pool.1) _ (BadDescriptor index) e_head (λ at_head. absurd ((class_head_raises NotDescriptor cut_other shape_other pool.0).fails pool.1 (BadDescriptor index) at_head index refl)) (λ head at_head e_members.
    let h = (class_head_reads pool.0).taken pool.1 head p.takes.rest_fits at_head in
    let is_pool : IsPool pool.0 = subst IsPool p.value_is p.good in
    let is_head : IsClassHead pool.0 head.0 = subst (IsClassHead pool.0) h.value_is h.good in
    let pool_parts : rest ≡ pool_bytes pool.0 ++ pool.1 = p.takes.parts ∙ ap (λ (slots : Slots). pool_bytes slots ++ pool.1) p.value_is in
    let head_parts : pool.1 ≡ class_head_bytes head.0 ++ head.1 = h.takes.parts ∙ ap (λ (c : ClassHead). class_head_bytes c ++ head.1) h.value_is in
    let class : HasClassThen bytes pool.0 head.0 head.1 =
    record { after_version = rest; version = version; is_pool = is_pool; is_head = is_head; encoded = pool_parts ∙ ap (λ (more : List ℕ). pool_bytes pool.0 ++ more) head_parts } in
    bind_fails_then (members_at head.0.flags pool.0 head.1) _ (BadDescriptor index) e_members (λ at_members. in_members bytes index pool.0 head.0 head.1 class h.takes.rest_fits at_members)
    (λ members at_members e_file. absurd (no_failure _ (BadDescriptor index) e_file))))

named : (bytes : List ℕ) (index : ℕ) → IsBytes bytes → class_of bytes ≡ Err (BadDescriptor index) → (length bytes ≤ largest) × IsBad bytes index
named bytes index fits e =
    let f = version_first bytes (BadDescriptor index) fits tt e (λ major same. absurd cc) (not_cut index) in
    (f.4, in_parts bytes index f.0 f.1 f.3 f.2 f.5)

-- ---- bytes with such a member are refused

class_then : (bytes : List ℕ) (pool : Slots) (head : ClassHead) (rest : List ℕ) (why : ReadRefusal) → length bytes ≤ largest → HasClassThen bytes pool head rest → members_at head.flags pool rest ≡ Err why → class_of bytes ≡ Err why
class_then bytes pool head rest why size class e =
    version_then bytes class.after_version why size class.version (λ v.
    ap (after_version v) class.encoded
    ∙ then_ok _ (Err why) (pool_reads.again pool (class_head_bytes head ++ rest) class.is_pool) (then_ok _ (Err why) ((class_head_reads pool).again head rest class.is_head) (then_err _ e)))

field_refused : (bytes : List ℕ) (index : ℕ) → length bytes ≤ largest → HasBadField bytes index → class_of bytes ≡ Err (BadDescriptor index)
unfolding members_at
field_refused bytes index size bad =
    let flags = bad.head.flags in
    class_then bytes bad.pool bad.head bad.after_head (BadDescriptor index) size bad.class
    (then_err _ (fields_stopped flags bad.pool index bad.after_head bad.rest bad.fields (λ earlier. field_stopped flags bad.pool earlier bad.rest index bad.text bad.field bad.no_type)))

method_refused : (bytes : List ℕ) (index : ℕ) → length bytes ≤ largest → HasBadMethod bytes index → class_of bytes ≡ Err (BadDescriptor index)
unfolding members_at
method_refused bytes index size bad =
    let flags = bad.head.flags in
    let fields : AreFields flags bad.pool bad.fields = (bad.field_count, bad.are_fields.fit, bad.are_fields.regular, bad.are_fields.different) in
    class_then bytes bad.pool bad.head (counted member_bytes bad.fields ++ bad.after_fields) (BadDescriptor index) size bad.class
    (then_ok _ (Err (BadDescriptor index)) ((fields_read flags bad.pool).again bad.fields bad.after_fields fields)
    (then_err _ (methods_stopped flags bad.pool index bad.after_fields bad.rest bad.methods (λ earlier. method_stopped flags bad.pool earlier bad.rest index bad.text bad.method bad.no_descriptor))))

refused : (bytes : List ℕ) (index : ℕ) → (length bytes ≤ largest) × IsBad bytes index → class_of bytes ≡ Err (BadDescriptor index)
refused bytes index (size, inl field) = field_refused bytes index size field
refused bytes index (size, inr method) = method_refused bytes index size method

pub bad_descriptor_is : (bytes : List ℕ) (index : ℕ) → AreBytes bytes → IsRefused bytes (BadDescriptor index) ↔ ((length bytes ≤ largest) × (HasBadField bytes index ⊎ HasBadMethod bytes index))
bad_descriptor_is bytes index are = (named bytes index (bytes_are bytes are), refused bytes index)
