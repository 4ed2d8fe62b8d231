-- What a bad shape is, in words of the format: the part that is not there by the rules, after good ones.
use Rattle.std.proofs.Common.{◌≡◌, ℕ, List, ◌++◌, Err, ap, subst, ◌∙◌, refl}
use Rattle.class_pool.specs.declared.refusal.PoolRefusal.{PoolRefusal}
use Rattle.class_pool.specs.declared.refusal.PoolRefusal.TheVariants.{Truncated as PoolTruncated, BadTag, BadIndex, BadUtf8, Memory as PoolMemory}
use Rattle.class_pool.specs.Pool.{Slots, pool_bytes, IsPool}
use Rattle.byte_read.proofs.Steps.{IsBytes, bind_fails_then, no_failure}
use Rattle.class_file.specs.declared.class.ClassHead.{ClassHead}
use Rattle.class_file.specs.declared.record.Member.{Member}
use Rattle.class_file.specs.declared.refusal.ReadRefusal.TheVariants.{Truncated, BadShape}
use Rattle.class_file.specs.Layout.{attribute_bytes, counted, MemberLayout, member_bytes}
use Rattle.class_file.specs.Relation.{IsRegularField, IsRegularMethod}
use Rattle.class_file.specs.ReadingMembers.{field_at, method_at, fields_at, methods_at}
use Rattle.class_file.specs.ReadingClass.{of_pool, pool_at, class_head_at, members_at}
use Rattle.class_file.specs.Refused.{IsRefused}
use Rattle.class_file.specs.Faults.{AreBytes, HasVersionThen, IsClassHead, class_head_bytes, HasClassThen, BeginsNone, HasNoField, HasNoMethod, AreAttributes, IsMisshaped, head, field, method, attributes}
use Rattle.class_file.proofs.layout.Members.{AreFields, fields_read, field_reads, methods_read, method_reads}
use Rattle.class_file.proofs.layout.Attributes.{skip_after}
use Rattle.class_file.proofs.layout.ClassParts.{Numbers, pool_reads, class_head_reads, after_version}
use Rattle.class_file.proofs.faults.PlainParts.{pool_raises}
use Rattle.class_file.proofs.faults.PrefixesReaders.{field_steady, method_steady, class_head_steady, skip_all_steady}
use Rattle.class_file.proofs.faults.BeginsNone.{begins_none}
use Rattle.class_file.proofs.faults.MembersStop.{StopsAt, list_stops, none_begins}
use Rattle.class_file.proofs.faults.FaultsSay.{bytes_are, version_first}

not_cut : BadShape ≡ Truncated → ⊥
not_cut e = absurd cc

pool_apart : (d : PoolRefusal) → of_pool d ≡ BadShape → ⊥
pool_apart PoolTruncated e = absurd cc
pool_apart (BadTag bad) e = absurd cc
pool_apart (BadIndex bad) e = absurd cc
pool_apart (BadUtf8 bad) e = absurd cc
pool_apart PoolMemory e = absurd cc

-- ---- members and attributes

module _ (class_flags : ℕ) (pool : Slots) where
  fields_stop : (bytes : List ℕ) → IsBytes bytes → fields_at class_flags pool bytes ≡ Err BadShape → StopsAt pool (IsRegularField class_flags pool) (field_at class_flags pool) bytes BadShape
  unfolding fields_at
  fields_stop bytes fits e = list_stops pool (IsRegularField class_flags pool) (field_at class_flags pool) (field_reads class_flags pool) bytes BadShape fits not_cut e

  methods_stop : (bytes : List ℕ) → IsBytes bytes → methods_at class_flags pool bytes ≡ Err BadShape → StopsAt pool (IsRegularMethod class_flags pool) (method_at class_flags pool) bytes BadShape
  unfolding methods_at
  methods_stop bytes fits e = list_stops pool (IsRegularMethod class_flags pool) (method_at class_flags pool) (method_reads class_flags pool) bytes BadShape fits not_cut e

no_field : (bytes : List ℕ) (pool : Slots) (class_head : ClassHead) (rest : List ℕ) → HasClassThen bytes pool class_head rest → IsBytes rest → fields_at class_head.flags pool rest ≡ Err BadShape → HasNoField bytes
no_field bytes pool class_head rest class fits e =
    let flags = class_head.flags in
    let s = fields_stop flags pool rest fits e in
    record { pool = pool; head = class_head; after_head = rest; rest = s.rest; class = class; fields = s.members; none = none_begins pool (IsRegularField flags pool) (field_at flags pool) (field_reads flags pool) (field_steady flags pool) rest BadShape s not_cut }

no_method : (bytes : List ℕ) (pool : Slots) (class_head : ClassHead) (fields : List MemberLayout) (rest : List ℕ) → HasClassThen bytes pool class_head (counted member_bytes fields ++ rest) → AreFields class_head.flags pool fields → IsBytes rest
    → methods_at class_head.flags pool rest ≡ Err BadShape → HasNoMethod bytes
no_method bytes pool class_head fields rest class are fits e =
    let flags = class_head.flags in
    let s = methods_stop flags pool rest fits e in
    record {
      pool = pool;
      head = class_head;
      fields = fields;
      after_fields = rest;
      rest = s.rest;
      class = class;
      field_count = are.0;
      are_fields = record { fit = are.1; regular = are.2; different = are.3 };
      methods = s.members;
      none = none_begins pool (IsRegularMethod flags pool) (method_at flags pool) (method_reads flags pool) (method_steady flags pool) rest BadShape s not_cut;
    }

in_members : (bytes : List ℕ) (pool : Slots) (class_head : ClassHead) (rest : List ℕ) → HasClassThen bytes pool class_head rest → IsBytes rest → members_at class_head.flags pool rest ≡ Err BadShape → IsMisshaped bytes
unfolding members_at
in_members bytes pool class_head rest class fits e =
    let flags = class_head.flags in
    bind_fails_then (fields_at flags pool rest) _ BadShape e (λ at_fields. field (no_field bytes pool class_head rest class fits at_fields)) (λ fields at_fields e_methods.
    let f = (fields_read flags pool).taken rest fields fits at_fields in
    let after_fields : HasClassThen bytes pool class_head (counted member_bytes f.part ++ fields.1) = subst (HasClassThen bytes pool class_head) f.takes.parts class in
    bind_fails_then (methods_at flags pool fields.1) _ BadShape e_methods (λ at_methods. method (no_method bytes pool class_head f.part fields.1 after_fields f.good f.takes.rest_fits at_methods)) (λ methods at_methods e_rest.
    let m = (methods_read flags pool).taken fields.1 methods f.takes.rest_fits at_methods in
    let parts = ap (λ (more : List ℕ). counted member_bytes f.part ++ more) m.takes.parts in
    let after_methods : HasClassThen bytes pool class_head (counted member_bytes f.part ++ (counted member_bytes m.part ++ methods.1)) = subst (HasClassThen bytes pool class_head) parts after_fields in
    let values : List Member × List Member = (fields.0, methods.0) in
    let none : BeginsNone (counted attribute_bytes) (AreAttributes pool) methods.1 =
    λ list more suffix are whole. begins_none (skip_after pool values) (skip_all_steady pool values) methods.1 BadShape e_rest not_cut list more suffix (are.count, are.fit, are.named) whole in
    attributes (record {
      pool = pool;
      head = class_head;
      fields = f.part;
      methods = m.part;
      rest = methods.1;
      class = after_methods;
      field_count = f.good.0;
      are_fields = record { fit = f.good.1; regular = f.good.2; different = f.good.3 };
      method_count = m.good.0;
      are_methods = record { fit = m.good.1; regular = m.good.2; different = m.good.3 };
      none = none;
    })))

-- ---- the whole

in_parts : (bytes : List ℕ) (v : Numbers) (rest : List ℕ) → HasVersionThen bytes rest → IsBytes rest → after_version v rest ≡ Err BadShape → IsMisshaped bytes
in_parts bytes v rest version fits e =
    bind_fails_then (pool_at rest) _ BadShape e (λ at_pool. absurd ((pool_raises (λ why. why ≡ BadShape → ⊥) pool_apart).fails rest BadShape at_pool refl)) (λ pool at_pool e_head.
    let p = pool_reads.taken rest pool fits at_pool in
    let is_pool : IsPool pool.0 = subst IsPool p.value_is p.good in
    let pool_parts : rest ≡ pool_bytes pool.0 ++ pool.1 = p.takes.parts ∙ ap (λ (slots : Slots). pool_bytes slots ++ pool.1) p.value_is in
    bind_fails_then (class_head_at pool.0 pool.1) _ BadShape e_head
    (λ at_head.
    head (record {
      pool = pool.0;
      after_version = rest;
      rest = pool.1;
      version = version;
      is_pool = is_pool;
      encoded = pool_parts;
      none = begins_none (class_head_reads pool.0) (class_head_steady pool.0) pool.1 BadShape at_head not_cut;
    }))
    (λ class_head at_head e_members.
    let h = (class_head_reads pool.0).taken pool.1 class_head p.takes.rest_fits at_head in
    let is_head : IsClassHead pool.0 class_head.0 = subst (IsClassHead pool.0) h.value_is h.good in
    let head_parts : pool.1 ≡ class_head_bytes class_head.0 ++ class_head.1 = h.takes.parts ∙ ap (λ (c : ClassHead). class_head_bytes c ++ class_head.1) h.value_is in
    let class : HasClassThen bytes pool.0 class_head.0 class_head.1 =
    record { after_version = rest; version = version; is_pool = is_pool; is_head = is_head; encoded = pool_parts ∙ ap (λ (more : List ℕ). pool_bytes pool.0 ++ more) head_parts } in
    bind_fails_then (members_at class_head.0.flags pool.0 class_head.1) _ BadShape e_members (λ at_members. in_members bytes pool.0 class_head.0 class_head.1 class h.takes.rest_fits at_members)
    (λ members at_members e_file. absurd (no_failure _ BadShape e_file))))

pub bad_shape_is : (bytes : List ℕ) → AreBytes bytes → IsRefused bytes BadShape → IsMisshaped bytes
bad_shape_is bytes are e =
    let f = version_first bytes BadShape (bytes_are bytes are) tt e (λ major same. absurd cc) not_cut in
    in_parts bytes f.0 f.1 f.3 f.2 f.5
