-- Fields and methods (JVMS 4.5, 4.6).
use Rattle.std.proofs.Common.{◌≡◌, ℕ, Bool, true, false, not, ◌&&◌, List, [], ◌++◌, length, map, Option, Some, None, Result, Ok, Err, refl, sym, ap}
use Rattle.std.specs.Prelude.{IsTrue, IsSome, IsSomeAnd, option_and_then}
use Rattle.std.specs.List.{AllByRecursion, IsDistinct}
use Rattle.std.proofs.lemmas.Bool.{and_parts, and_from, not-true, not_from_false}
use Rattle.class_pool.specs.declared.descriptor.Kind.{Kind}
use Rattle.class_pool.specs.declared.descriptor.Descriptor.{Descriptor}
use Rattle.class_pool.specs.Pool.{Slots, utf8_at}
use Rattle.class_pool.specs.Descriptors.{IsFieldText, IsMethodText}
use Rattle.class_pool.specs.DescriptorReading.{field_of, method_of}
use Rattle.class_pool.proofs.descriptors.FieldTypes.{field_taken, field_read}
use Rattle.class_pool.proofs.descriptors.Parameters.{method_taken, method_read}
use Rattle.class_file.specs.declared.head.Head.{Head}
use Rattle.class_file.specs.declared.record.CodeAttr.{CodeAttr}
use Rattle.class_file.specs.declared.record.Member.{Member}
use Rattle.class_file.specs.declared.refusal.ReadRefusal.{ReadRefusal}
use Rattle.class_file.specs.declared.refusal.ReadRefusal.TheVariants.{BadShape, BadDescriptor}
use Rattle.class_file.specs.Layout.{u2, counted, MemberAttribute, MemberLayout, member_bytes, head_of, member_of, codes_in, values_in, first as first_item}
use Rattle.class_file.specs.Relation.{FitsU2, FitsMember, IsRegularField, IsRegularMethod}
use Rattle.class_file.specs.Rules.{is_native, is_abstract, has_one_access, fits_interface_field, fits_interface_method, fits_abstract, fits_special_name, fits_constructor, fits_initialiser, fits_slots, is_same_member}
use Rattle.class_file.specs.Reading.{list_at}
use Rattle.class_file.specs.ReadingMembers.{head_at, described, field_type, method_type, is_declared, is_field_head, is_method_head, field_head_at, method_head_at, field_at, method_at, fields_at, methods_at}
use Rattle.byte_read.proofs.Steps.{no_failure, ok_is}
use Rattle.class_file.proofs.readers.Steps.{is_fault, IsPartFault}
use Rattle.class_file.proofs.readers.Parts.{Reads, itself, u2_reads, first, last, checked, reshaped}
use Rattle.class_file.proofs.readers.Lists.{pushed, list_reads, split_off, merged_with, unzipped, zipped}
use Rattle.class_file.proofs.layout.Attributes.{text_reads}
use Rattle.class_file.proofs.layout.MemberAttributes.{AreFieldAttributes, field_attributes_read, AreMethodAttributes, method_attributes_read, no_code, no_value}
use Rattle.class_file.proofs.layout.Distinct.{IsNew, new_distinct, distinct_new}

-- ---- flags, name and descriptor

abbrev pub head_bytes : Head → List ℕ
head_bytes head = u2 head.flags ++ (u2 head.name ++ u2 head.descriptor)

abbrev pub a_head : ℕ → ℕ → ℕ → Head
a_head flags name descriptor = record { flags = flags; name = name; descriptor = descriptor }

pub record IsHead (pool : Slots) (head : Head) : Type 0 where
  pub flags : FitsU2 head.flags
  pub name : FitsU2 head.name
  pub name_is : IsSome (utf8_at pool head.name)
  pub descriptor : FitsU2 head.descriptor
  pub descriptor_is : IsSome (utf8_at pool head.descriptor)

pub head_reads : (pool : Slots) → Reads (head_at pool) head_bytes itself (IsHead pool)
unfolding head_at
head_reads pool =
    reshaped (first u2_reads (λ flags. first (text_reads pool) (λ name. last (text_reads pool) (λ descriptor. a_head flags name descriptor)))) (λ p. a_head p.0 p.1.0 p.1.1)
    (λ p good. (refl, refl, record { flags = good.0; name = good.1.0.0; name_is = good.1.0.1; descriptor = good.1.1.0; descriptor_is = good.1.1.1 }))
    (λ head. (head.flags, (head.name, head.descriptor)))
    (λ head good. (refl, refl, (good.flags, ((good.name, good.name_is), (good.descriptor, good.descriptor_is)))))

-- ---- what the descriptor says

said_some : {A : Type 0} (index : ℕ) (found : Option A) (type : A) → described index found ≡ Ok type → found ≡ Some type
said_some index None type e = absurd (no_failure type (BadDescriptor index) (sym e))
said_some index (Some other) type e = ap (λ (a : _). Some a) (ok_is other type e)

said_fault : {A : Type 0} (index : ℕ) (found : Option A) (why : ReadRefusal) → described index found ≡ Err why → IsPartFault why
said_fault {A = A} index None why e = is_fault {A = A} (BadDescriptor index) why tt e
said_fault index (Some other) why e = absurd (no_failure other why e)

-- the text at an index, where each text says at most one type
module _ {A : Type 0} (read : List ℕ → Option A) (IsText : List ℕ → A → Type 0) (takes : (text : List ℕ) (type : A) → read text ≡ Some type → IsText text type) (reads : (text : List ℕ) (type : A) → IsText text type → read text ≡ Some type) where
  text_says : (index : ℕ) (found : Option (List ℕ)) (type : A) → described index (option_and_then read found) ≡ Ok type → IsSomeAnd found (λ text. IsText text type)
  text_says index None type e = absurd (no_failure type (BadDescriptor index) (sym e))
  text_says index (Some text) type e = takes text type (said_some index (read text) type e)

  says_text : (index : ℕ) (found : Option (List ℕ)) (type : A) → IsSomeAnd found (λ text. IsText text type) → described index (option_and_then read found) ≡ Ok type
  says_text index None type is = absurd is
  says_text index (Some text) type is = ap (described index) (reads text type is)

some_text : (P : List ℕ → Type 0) (found : Option (List ℕ)) → IsSomeAnd found P → IsSome found
some_text P None is = absurd is
some_text P (Some text) is = refl

type_faults : (pool : Slots) (head : Head) (why : ReadRefusal) → field_type pool head.descriptor ≡ Err why → IsPartFault why
unfolding field_type
type_faults pool head why e = said_fault head.descriptor (option_and_then field_of (utf8_at pool head.descriptor)) why e

method_faults : (pool : Slots) (head : Head) (why : ReadRefusal) → method_type pool head.descriptor ≡ Err why → IsPartFault why
unfolding method_type
method_faults pool head why e = said_fault head.descriptor (option_and_then method_of (utf8_at pool head.descriptor)) why e

field_type_says : (pool : Slots) (index : ℕ) (type : Kind) → field_type pool index ≡ Ok type → IsSomeAnd (utf8_at pool index) (λ text. IsFieldText text type)
unfolding field_type
field_type_says pool index type e = text_says field_of IsFieldText field_taken field_read index (utf8_at pool index) type e

says_field_type : (pool : Slots) (index : ℕ) (type : Kind) → IsSomeAnd (utf8_at pool index) (λ text. IsFieldText text type) → field_type pool index ≡ Ok type
unfolding field_type
says_field_type pool index type is = says_text field_of IsFieldText field_taken field_read index (utf8_at pool index) type is

method_type_says : (pool : Slots) (index : ℕ) (type : Descriptor) → method_type pool index ≡ Ok type → IsSomeAnd (utf8_at pool index) (λ text. IsMethodText text type)
unfolding method_type
method_type_says pool index type e = text_says method_of IsMethodText method_taken method_read index (utf8_at pool index) type e

says_method_type : (pool : Slots) (index : ℕ) (type : Descriptor) → IsSomeAnd (utf8_at pool index) (λ text. IsMethodText text type) → method_type pool index ≡ Ok type
unfolding method_type
says_method_type pool index type is = says_text method_of IsMethodText method_taken method_read index (utf8_at pool index) type is

-- ---- a member

abbrev a_layout : Head → List MemberAttribute → MemberLayout
a_layout head attributes = record { flags = head.flags; name = head.name; descriptor = head.descriptor; attributes = attributes }

abbrev a_member : Head → Option ℕ → Option CodeAttr → Member
a_member head constant code = record { flags = head.flags; name = head.name; descriptor = head.descriptor; constant = constant; code = code }

-- a test of the head that is not new
new_parts : (rules declared : Bool) → (rules && not declared) ≡ true → (rules ≡ true) × (declared ≡ false)
new_parts rules declared e =
    let p = and_parts rules (not declared) e in
    (p.0, not-true declared p.1)

new_from : (rules declared : Bool) → rules ≡ true → declared ≡ false → (rules && not declared) ≡ true
new_from rules declared rules_hold none = and_from rules (not declared) rules_hold (not_from_false declared none)

-- ---- fields

abbrev IsFieldHead : ℕ → Slots → List Member → Head → Type 0
IsFieldHead class_flags pool earlier head = IsHead pool head × (type : Kind) × (field_type pool head.descriptor ≡ Ok type) × IsTrue (is_field_head class_flags head && not (is_declared pool earlier head))

field_head_reads : (class_flags : ℕ) (pool : Slots) (earlier : List Member) → Reads (field_head_at class_flags pool earlier) head_bytes itself (IsFieldHead class_flags pool earlier)
unfolding field_head_at
field_head_reads class_flags pool earlier =
    checked (head_reads pool) (λ head. field_type pool head.descriptor) (type_faults pool) (λ head type. is_field_head class_flags head && not (is_declared pool earlier head)) BadShape tt

abbrev IsField : ℕ → Slots → List Member → MemberLayout → Type 0
IsField class_flags pool earlier m = (FitsMember m × IsRegularField class_flags pool m) × IsNew pool earlier m

field_made : (class_flags : ℕ) (pool : Slots) (earlier : List Member) (head : Head) (attributes : List MemberAttribute) → IsFieldHead class_flags pool earlier head → AreFieldAttributes pool attributes
    → IsField class_flags pool earlier (a_layout head attributes)
field_made class_flags pool earlier head attributes is are =
    let new = new_parts (is_field_head class_flags head) (is_declared pool earlier head) is.3 in
    let rules = and_parts (has_one_access head.flags) (fits_interface_field class_flags head.flags) new.0 in (
      (
        record { flags = is.0.flags; name = is.0.name; descriptor = is.0.descriptor; count = are.0; attributes = are.1 },
        record { type = is.1; name = is.0.name_is; descriptor = field_type_says pool head.descriptor is.1 is.2; access = rules.0; of_interface = rules.1; attributes = are.2; one_value = are.3 },
      ),
      new.1,
    )

field_unmade : (class_flags : ℕ) (pool : Slots) (earlier : List Member) (m : MemberLayout) → IsField class_flags pool earlier m → IsFieldHead class_flags pool earlier (head_of m) × AreFieldAttributes pool m.attributes
field_unmade class_flags pool earlier m good =
    let fits = good.0.0 in
    let rules = good.0.1 in
    let head : IsHead pool (head_of m) =
    record { flags = fits.flags; name = fits.name; name_is = rules.name; descriptor = fits.descriptor; descriptor_is = some_text (λ text. IsFieldText text rules.type) (utf8_at pool m.descriptor) rules.descriptor } in
    let test : IsTrue (is_field_head class_flags (head_of m) && not (is_declared pool earlier (head_of m))) =
    new_from (is_field_head class_flags (head_of m)) (is_declared pool earlier (head_of m)) (and_from (has_one_access m.flags) (fits_interface_field class_flags m.flags) rules.access rules.of_interface) good.1 in
    ((head, rules.type, says_field_type pool m.descriptor rules.type rules.descriptor, test), (fits.count, fits.attributes, rules.attributes, rules.one_value))

pub field_reads : (class_flags : ℕ) (pool : Slots) (earlier : List Member) → Reads (field_at class_flags pool earlier) member_bytes member_of (IsField class_flags pool earlier)
unfolding field_at
field_reads class_flags pool earlier =
    reshaped (first (field_head_reads class_flags pool earlier) (λ head. last (field_attributes_read pool) (λ value. a_member head value None))) (λ p. a_layout p.0 p.1)
    (λ p good. (refl, ap (λ (code : Option CodeAttr). a_member p.0 (first_item (values_in p.1)) code) (no_code pool p.1 good.1.2), field_made class_flags pool earlier p.0 p.1 good.0 good.1))
    (λ m. (head_of m, m.attributes))
    (λ m good.
    let parts = field_unmade class_flags pool earlier m good in
    (refl, ap (λ (code : Option CodeAttr). a_member (head_of m) (first_item (values_in m.attributes)) code) (sym (no_code pool m.attributes parts.1.2)), parts))

-- ---- methods

abbrev IsMethodHead : ℕ → Slots → List Member → Head → Type 0
IsMethodHead class_flags pool earlier head =
    IsHead pool head × (type : Descriptor) × (method_type pool head.descriptor ≡ Ok type) × IsTrue (is_method_head class_flags pool head type && not (is_declared pool earlier head))

method_head_reads : (class_flags : ℕ) (pool : Slots) (earlier : List Member) → Reads (method_head_at class_flags pool earlier) head_bytes itself (IsMethodHead class_flags pool earlier)
unfolding method_head_at
method_head_reads class_flags pool earlier =
    checked (head_reads pool) (λ head. method_type pool head.descriptor) (method_faults pool) (λ head type. is_method_head class_flags pool head type && not (is_declared pool earlier head)) BadShape tt

-- the rules of a method's head, one by one
record KeepsRules (class_flags : ℕ) (pool : Slots) (head : Head) (type : Descriptor) : Type 0 where
  access : IsTrue (has_one_access head.flags)
  of_interface : IsTrue (fits_interface_method class_flags pool head)
  not_native : IsTrue (not (is_native head.flags))
  abstract_flags : IsTrue (fits_abstract pool head)
  special_name : IsTrue (fits_special_name pool head)
  constructor : IsTrue (fits_constructor pool head type)
  initialiser : IsTrue (fits_initialiser pool head)
  slots : IsTrue (fits_slots pool head type)

rules_kept : (class_flags : ℕ) (pool : Slots) (head : Head) (type : Descriptor) → is_method_head class_flags pool head type ≡ true → KeepsRules class_flags pool head type
rules_kept class_flags pool head type e =
    let p = and_parts _ _ e in
    let flags = and_parts _ _ p.0 in
    let of_interface = and_parts _ _ flags.1 in
    let names = and_parts _ _ p.1 in
    let abstract_name = and_parts _ _ names.0 in
    let typed = and_parts _ _ names.1 in
    let last_two = and_parts _ _ typed.1 in
    record { access = flags.0; of_interface = of_interface.0; not_native = of_interface.1; abstract_flags = abstract_name.0; special_name = abstract_name.1; constructor = typed.0; initialiser = last_two.0; slots = last_two.1 }

rules_hold : (class_flags : ℕ) (pool : Slots) (head : Head) (type : Descriptor) → KeepsRules class_flags pool head type → is_method_head class_flags pool head type ≡ true
rules_hold class_flags pool head type keeps =
    and_from _ _ (and_from _ _ keeps.access (and_from _ _ keeps.of_interface keeps.not_native))
    (and_from _ _ (and_from _ _ keeps.abstract_flags keeps.special_name) (and_from _ _ keeps.constructor (and_from _ _ keeps.initialiser keeps.slots)))

abbrev IsMethod : ℕ → Slots → List Member → MemberLayout → Type 0
IsMethod class_flags pool earlier m = (FitsMember m × IsRegularMethod class_flags pool m) × IsNew pool earlier m

method_made : (class_flags : ℕ) (pool : Slots) (earlier : List Member) (head : Head) (attributes : List MemberAttribute) → IsMethodHead class_flags pool earlier head → AreMethodAttributes pool (is_abstract head.flags) attributes
    → IsMethod class_flags pool earlier (a_layout head attributes)
method_made class_flags pool earlier head attributes is are =
    let new = new_parts (is_method_head class_flags pool head is.1) (is_declared pool earlier head) is.3 in
    let keeps = rules_kept class_flags pool head is.1 new.0 in (
      (
        record { flags = is.0.flags; name = is.0.name; descriptor = is.0.descriptor; count = are.0; attributes = are.1 },
        record {
          type = is.1;
          name = is.0.name_is;
          descriptor = method_type_says pool head.descriptor is.1 is.2;
          access = keeps.access;
          of_interface = keeps.of_interface;
          not_native = keeps.not_native;
          abstract_flags = keeps.abstract_flags;
          special_name = keeps.special_name;
          constructor = keeps.constructor;
          initialiser = keeps.initialiser;
          slots = keeps.slots;
          attributes = are.2;
          one_code = are.3;
        },
      ),
      new.1,
    )

method_unmade : (class_flags : ℕ) (pool : Slots) (earlier : List Member) (m : MemberLayout) → IsMethod class_flags pool earlier m
    → IsMethodHead class_flags pool earlier (head_of m) × AreMethodAttributes pool (is_abstract m.flags) m.attributes
method_unmade class_flags pool earlier m good =
    let fits = good.0.0 in
    let rules = good.0.1 in
    let head : IsHead pool (head_of m) =
    record { flags = fits.flags; name = fits.name; name_is = rules.name; descriptor = fits.descriptor; descriptor_is = some_text (λ text. IsMethodText text rules.type) (utf8_at pool m.descriptor) rules.descriptor } in
    let keeps : KeepsRules class_flags pool (head_of m) rules.type =
    record {
      access = rules.access;
      of_interface = rules.of_interface;
      not_native = rules.not_native;
      abstract_flags = rules.abstract_flags;
      special_name = rules.special_name;
      constructor = rules.constructor;
      initialiser = rules.initialiser;
      slots = rules.slots;
    } in
    let test : IsTrue (is_method_head class_flags pool (head_of m) rules.type && not (is_declared pool earlier (head_of m))) =
    new_from (is_method_head class_flags pool (head_of m) rules.type) (is_declared pool earlier (head_of m)) (rules_hold class_flags pool (head_of m) rules.type keeps) good.1 in
    ((head, rules.type, says_method_type pool m.descriptor rules.type rules.descriptor, test), (fits.count, fits.attributes, rules.attributes, rules.one_code))

pub method_reads : (class_flags : ℕ) (pool : Slots) (earlier : List Member) → Reads (method_at class_flags pool earlier) member_bytes member_of (IsMethod class_flags pool earlier)
unfolding method_at
method_reads class_flags pool earlier =
    reshaped (first (method_head_reads class_flags pool earlier) (λ head. last (method_attributes_read pool (is_abstract head.flags)) (λ code. a_member head None code))) (λ p. a_layout p.0 p.1)
    (λ p good. (refl, ap (λ (constant : Option ℕ). a_member p.0 constant (first_item (codes_in p.1))) (no_value pool p.1 good.1.2), method_made class_flags pool earlier p.0 p.1 good.0 good.1))
    (λ m. (head_of m, m.attributes))
    (λ m good.
    let parts = method_unmade class_flags pool earlier m good in
    (refl, ap (λ (constant : Option ℕ). a_member (head_of m) constant (first_item (codes_in m.attributes))) (sym (no_value pool m.attributes parts.1.2)), parts))

-- ---- the lists

abbrev AreMembers : Slots → (MemberLayout → Type 0) → List MemberLayout → Type 0
AreMembers pool Regular parts = FitsU2 (length parts) × AllByRecursion FitsMember parts × AllByRecursion Regular parts × IsDistinct (is_same_member pool) (map head_of parts)

members_read : (pool : Slots) (Regular : MemberLayout → Type 0) (item : List Member → List ℕ → Result (Member × List ℕ) ReadRefusal)
    → ((earlier : List Member) → Reads (item earlier) member_bytes member_of (λ m. (FitsMember m × Regular m) × IsNew pool earlier m))
    → Reads (list_at item) (counted member_bytes) (map member_of) (AreMembers pool Regular)
members_read pool Regular item one =
    reshaped (list_reads one) (λ parts. parts)
    (λ parts good.
    let all = split_off (λ m. FitsMember m × Regular m) (IsNew pool) (pushed member_of) [] parts good.1 in
    let each = unzipped FitsMember Regular parts all.0 in
    (refl, refl, (good.0, each.0, each.1, new_distinct pool parts all.1)))
    (λ parts. parts)
    (λ parts good.
    (refl, refl, (good.0, merged_with (λ m. FitsMember m × Regular m) (IsNew pool) (pushed member_of) [] parts (zipped FitsMember Regular parts good.1 good.2) (distinct_new pool parts good.3))))

abbrev pub AreFields : ℕ → Slots → List MemberLayout → Type 0
AreFields class_flags pool parts = AreMembers pool (IsRegularField class_flags pool) parts

pub fields_read : (class_flags : ℕ) (pool : Slots) → Reads (fields_at class_flags pool) (counted member_bytes) (map member_of) (AreFields class_flags pool)
unfolding fields_at
fields_read class_flags pool = members_read pool (IsRegularField class_flags pool) (field_at class_flags pool) (field_reads class_flags pool)

abbrev pub AreMethods : ℕ → Slots → List MemberLayout → Type 0
AreMethods class_flags pool parts = AreMembers pool (IsRegularMethod class_flags pool) parts

pub methods_read : (class_flags : ℕ) (pool : Slots) → Reads (methods_at class_flags pool) (counted member_bytes) (map member_of) (AreMethods class_flags pool)
unfolding methods_at
methods_read class_flags pool = members_read pool (IsRegularMethod class_flags pool) (method_at class_flags pool) (method_reads class_flags pool)
