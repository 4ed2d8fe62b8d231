-- A list of members is refused for one of them, after good ones; and where a descriptor is none.
use Rattle.std.proofs.Common.{◌≡◌, ℕ, ◌&&◌, not, List, [], ◌∷◌, ◌++◌, Option, Some, None, Result, Ok, Err, refl, sym, ap, subst, ◌∙◌, append_assoc}
use Rattle.std.specs.Prelude.{IsSome, option_and_then}
use Rattle.std.specs.List.{flat_map}
use Rattle.class_pool.specs.declared.descriptor.Kind.{Kind}
use Rattle.class_pool.specs.declared.descriptor.Descriptor.{Descriptor}
use Rattle.class_pool.specs.Pool.{Slots, utf8_at}
use Rattle.class_pool.specs.Descriptors.{IsFieldText, IsMethodText}
use Rattle.class_pool.specs.DescriptorReading.{field_of, method_of}
use Rattle.class_pool.proofs.descriptors.FieldTypes.{field_taken}
use Rattle.class_pool.proofs.descriptors.Parameters.{method_taken}
use Rattle.byte_read.specs.Reading.{steps_at, one_more}
use Rattle.byte_read.proofs.Steps.{IsBytes, Takes, bind_fails_then, no_failure, same_why, stops, number_fails, u2_takes, u2_again, then_ok, then_err}
use Rattle.class_file.specs.declared.head.Head.{Head}
use Rattle.class_file.specs.declared.record.Member.{Member}
use Rattle.class_file.specs.declared.refusal.ReadRefusal.{ReadRefusal}
use Rattle.class_file.specs.declared.refusal.ReadRefusal.TheVariants.{Truncated, BadShape, BadDescriptor}
use Rattle.class_file.specs.Layout.{u2, MemberLayout, member_bytes, member_of}
use Rattle.class_file.specs.Relation.{FitsU2, FitsMember}
use Rattle.class_file.specs.Rules.{is_abstract}
use Rattle.class_file.specs.Reading.{u2_at, counted_at, list_at}
use Rattle.class_file.specs.ReadingMembers.{head_at, described, field_type, method_type, is_declared, is_field_head, is_method_head, method_attributes_at, field_head_at, method_head_at, field_at, method_at}
use Rattle.class_file.specs.Faults.{AreMembers, HasMembersThen, BeginsMember, BeginsNone}
use Rattle.class_file.proofs.readers.Parts.{Reads, last}
use Rattle.class_file.proofs.readers.Lists.{AllFrom, after, last_from, pushed, Stops, steps_stop, stops_again, split_off, merged_with, unzipped, zipped}
use Rattle.byte_read.proofs.Steady.{IsSteady}
use Rattle.class_file.proofs.faults.BeginsNone.{begins_none}
use Rattle.class_file.proofs.layout.Distinct.{IsNew, new_distinct, distinct_new}
use Rattle.class_file.proofs.layout.Members.{head_bytes, a_head, IsHead, head_reads}
use Rattle.class_file.proofs.faults.PlainParts.{head_raises, field_attributes_raise, method_attributes_raise}

-- ---- lists

-- a list stops at a member, after good ones
pub record StopsAt (pool : Slots) (Regular : MemberLayout → Type 0) (item : List Member → List ℕ → Result (Member × List ℕ) ReadRefusal) (bytes : List ℕ) (why : ReadRefusal) : Type 0 where
  pub rest : List ℕ
  pub earlier : List Member
  pub members : HasMembersThen pool Regular bytes rest
  pub earlier_is : earlier ≡ after (pushed member_of) [] members.members
  pub rest_fits : IsBytes rest
  pub fails : item earlier rest ≡ Err why

module _ (pool : Slots) (Regular : MemberLayout → Type 0) (item : List Member → List ℕ → Result (Member × List ℕ) ReadRefusal) (one : (earlier : List Member) → Reads (item earlier) member_bytes member_of (λ m. (FitsMember m × Regular m) × IsNew pool earlier m)) where
  abbrev Good : List Member → MemberLayout → Type 0
  Good earlier m = (FitsMember m × Regular m) × IsNew pool earlier m

  steps : (earlier : List Member) → Reads (one_more item earlier) member_bytes (pushed member_of earlier) (Good earlier)
  steps earlier = last (one earlier) (λ a. earlier ++ a ∷ [])

  good_members : (parts : List MemberLayout) → AllFrom Good (pushed member_of) [] parts → AreMembers pool Regular parts
  good_members parts good =
      let all = split_off (λ m. FitsMember m × Regular m) (IsNew pool) (pushed member_of) [] parts good in
      let each = unzipped FitsMember Regular parts all.0 in
      record { fit = each.0; regular = each.1; different = new_distinct pool parts all.1 }

  members_good : (parts : List MemberLayout) → AreMembers pool Regular parts → AllFrom Good (pushed member_of) [] parts
  members_good parts are =
      merged_with (λ m. FitsMember m × Regular m) (IsNew pool) (pushed member_of) [] parts (zipped FitsMember Regular parts are.fit are.regular) (distinct_new pool parts are.different)

  stopped : (bytes : List ℕ) (count : ℕ × List ℕ) (why : ReadRefusal) → Takes bytes (u2 count.0) count.1 → FitsU2 count.0 → Stops (one_more item) member_bytes (pushed member_of) Good [] count.0 count.1 why → StopsAt pool Regular item bytes why
  stopped bytes count why takes fits s =
      let earlier = after (pushed member_of) [] s.parts in
      record {
        rest = s.rest;
        earlier = earlier;
        members = record { count = count.0; members = s.parts; count_fits = fits; fewer = s.fewer; encoded = takes.parts ∙ ap (λ (rest : List ℕ). u2 count.0 ++ rest) s.encoded; are_good = good_members s.parts s.good };
        earlier_is = refl;
        rest_fits = s.rest_fits;
        fails = bind_fails_then (item earlier s.rest) (λ y. Ok (earlier ++ y.0 ∷ [], y.1)) why s.fails (λ at_why. at_why) (λ y at_y e. absurd (no_failure (earlier ++ y.0 ∷ [], y.1) why e));
      }

  pub list_stops : (bytes : List ℕ) (why : ReadRefusal) → IsBytes bytes → (why ≡ Truncated → ⊥) → list_at item bytes ≡ Err why → StopsAt pool Regular item bytes why
  unfolding counted_at
  list_stops bytes why fits not_cut e =
      bind_fails_then (u2_at bytes) (λ count. steps_at (one_more item) [] count.0 count.1) why e (λ at_count. absurd (not_cut (number_fails Truncated 2 bytes why at_count).1)) (λ count at_count e_steps.
      let n = u2_takes Truncated bytes count fits at_count in
      stopped bytes count why n.0 n.1 (steps_stop steps [] count.0 count.1 why n.0.rest_fits e_steps))

  pub list_stopped : (bytes rest : List ℕ) (why : ReadRefusal) → HasMembersThen pool Regular bytes rest → ((earlier : List Member) → item earlier rest ≡ Err why) → list_at item bytes ≡ Err why
  unfolding counted_at
  list_stopped bytes rest why has e =
      let at_item = then_err (λ y. Ok (after (pushed member_of) [] has.members ++ y.0 ∷ [], y.1)) (e (after (pushed member_of) [] has.members)) in
      ap (list_at item) has.encoded
      ∙ then_ok (λ count. steps_at (one_more item) [] count.0 count.1) (Err why) (u2_again Truncated has.count (flat_map member_bytes has.members ++ rest) has.count_fits)
      (stops_again steps [] has.members has.count rest why has.fewer (members_good has.members has.are_good) at_item)

  -- no member begins there that is good with those before it
  pub none_begins : ((earlier : List Member) → IsSteady Truncated (item earlier)) → (bytes : List ℕ) (why : ReadRefusal) (s : StopsAt pool Regular item bytes why) → (why ≡ Truncated → ⊥) → BeginsNone member_bytes (λ m. AreMembers pool Regular (s.members.members ++ m ∷ [])) s.rest
  none_begins steady bytes why s not_cut m more suffix are whole =
      let seen = last_from Good (pushed member_of) [] s.members.members m (members_good (s.members.members ++ m ∷ []) are) in
      let good : Good s.earlier m = subst (λ (earlier : List Member). Good earlier m) (sym s.earlier_is) seen in
      begins_none (one s.earlier) (steady s.earlier) s.rest why s.fails not_cut m more suffix good whole

-- ---- a descriptor that is none

abbrev pub NotDescriptor : ReadRefusal → Type 0
NotDescriptor why = (index : ℕ) → why ≡ BadDescriptor index → ⊥

pub cut_other : NotDescriptor Truncated
cut_other index e = absurd cc

pub shape_other : NotDescriptor BadShape
shape_other index e = absurd cc

same_index : (first second : ℕ) → BadDescriptor first ≡ BadDescriptor second → first ≡ second
same_index first second e = cc

none_said : {A : Type 0} (at index : ℕ) (found : Option A) → described at found ≡ Err (BadDescriptor index) → (found ≡ None) × (at ≡ index)
none_said {A = A} at index None e = (refl, same_index at index (same_why {A = A} (BadDescriptor at) (BadDescriptor index) e))
none_said at index (Some type) e = absurd (no_failure type (BadDescriptor index) e)

none_text : {A : Type 0} (read : List ℕ → Option A) (found : Option (List ℕ)) → IsSome found → option_and_then read found ≡ None → (text : List ℕ) × (found ≡ Some text) × (read text ≡ None)
none_text read None some e = absurd cc
none_text read (Some text) some e = (text, refl, e)

none_from : {A : Type 0} (read : Option A) → ((a : A) → read ≡ Some a → ⊥) → read ≡ None
none_from None none = refl
none_from (Some a) none = absurd (none a refl)

-- the member begins so, and the text at its descriptor's index was not read
abbrev pub Undescribed : {A : Type 0} → (List ℕ → Option A) → Slots → List ℕ → ℕ → Type 0
Undescribed read pool rest index = (text : List ℕ) × BeginsMember pool rest index text × (read text ≡ None)

undescribed : {A : Type 0} (read : List ℕ → Option A) (pool : Slots) (rest : List ℕ) (index : ℕ) (head : Head × List ℕ) → IsBytes rest → head_at pool rest ≡ Ok head
    → described head.0.descriptor (option_and_then read (utf8_at pool head.0.descriptor)) ≡ Err (BadDescriptor index) → Undescribed read pool rest index
undescribed read pool rest index head fits at_head e =
    let t = (head_reads pool).taken rest head fits at_head in
    let is : IsHead pool head.0 = subst (IsHead pool) t.value_is t.good in
    let parts : rest ≡ head_bytes head.0 ++ head.1 = t.takes.parts ∙ ap (λ (h : Head). head_bytes h ++ head.1) t.value_is in
    let said = none_said head.0.descriptor index (option_and_then read (utf8_at pool head.0.descriptor)) e in
    let none = none_text read (utf8_at pool head.0.descriptor) is.descriptor_is said.0 in
    let begins : BeginsMember pool rest head.0.descriptor none.0 =
    record {
      flags = head.0.flags;
      name = head.0.name;
      more = head.1;
      flags_fit = is.flags;
      name_fits = is.name;
      index_fits = is.descriptor;
      encoded = parts ∙ simp append_assoc;
      name_is = is.name_is;
      text_is = none.1;
    } in
    (none.0, subst (λ (n : ℕ). BeginsMember pool rest n none.0) said.1 begins, none.2)

-- a member that begins so is read up to its descriptor
head_again : (pool : Slots) (rest : List ℕ) (index : ℕ) (text : List ℕ) (begins : BeginsMember pool rest index text) → head_at pool rest ≡ Ok (a_head begins.flags begins.name index, begins.more)
head_again pool rest index text begins =
    let head = a_head begins.flags begins.name index in
    let some : IsSome (utf8_at pool index) = subst IsSome (sym begins.text_is) refl in
    let is : IsHead pool head = record { flags = begins.flags_fit; name = begins.name_fits; name_is = begins.name_is; descriptor = begins.index_fits; descriptor_is = some } in
    let parts : rest ≡ head_bytes head ++ begins.more = begins.encoded ∙ simp append_assoc in
    ap (head_at pool) parts ∙ (head_reads pool).again head begins.more is

undescribed_again : {A : Type 0} (read : List ℕ → Option A) (pool : Slots) (index : ℕ) (text : List ℕ) → utf8_at pool index ≡ Some text → read text ≡ None → described index (option_and_then read (utf8_at pool index)) ≡ Err (BadDescriptor index)
undescribed_again read pool index text is none = ap (λ (found : Option (List ℕ)). described index (option_and_then read found)) is ∙ ap (described index) none

module _ (class_flags : ℕ) (pool : Slots) (earlier : List Member) (rest : List ℕ) (index : ℕ) where
  field_head_stops : IsBytes rest → field_head_at class_flags pool earlier rest ≡ Err (BadDescriptor index) → Undescribed field_of pool rest index
  unfolding field_head_at field_type
  field_head_stops fits e =
      bind_fails_then (head_at pool rest) _ (BadDescriptor index) e (λ at_head. absurd ((head_raises NotDescriptor cut_other shape_other pool).fails rest (BadDescriptor index) at_head index refl)) (λ head at_head e_type.
      bind_fails_then (described head.0.descriptor (option_and_then field_of (utf8_at pool head.0.descriptor))) _ (BadDescriptor index) e_type (λ at_type. undescribed field_of pool rest index head fits at_head at_type) (λ type at_type e_test.
      absurd (shape_other index (stops (is_field_head class_flags head.0 && not (is_declared pool earlier head.0)) head BadShape (BadDescriptor index) e_test).1)))

  pub field_stops : IsBytes rest → field_at class_flags pool earlier rest ≡ Err (BadDescriptor index) → Undescribed field_of pool rest index
  unfolding field_at
  field_stops fits e =
      bind_fails_then (field_head_at class_flags pool earlier rest) _ (BadDescriptor index) e (λ at_head. field_head_stops fits at_head) (λ head at_head e_value.
      bind_fails_then _ _ (BadDescriptor index) e_value (λ at_value. absurd ((field_attributes_raise NotDescriptor cut_other shape_other pool).fails head.1 (BadDescriptor index) at_value index refl))
      (λ value at_value e_field. absurd (no_failure _ (BadDescriptor index) e_field)))

  method_head_stops : IsBytes rest → method_head_at class_flags pool earlier rest ≡ Err (BadDescriptor index) → Undescribed method_of pool rest index
  unfolding method_head_at method_type
  method_head_stops fits e =
      bind_fails_then (head_at pool rest) _ (BadDescriptor index) e (λ at_head. absurd ((head_raises NotDescriptor cut_other shape_other pool).fails rest (BadDescriptor index) at_head index refl)) (λ head at_head e_type.
      bind_fails_then (described head.0.descriptor (option_and_then method_of (utf8_at pool head.0.descriptor))) _ (BadDescriptor index) e_type (λ at_type. undescribed method_of pool rest index head fits at_head at_type) (λ type at_type e_test.
      absurd (shape_other index (stops (is_method_head class_flags pool head.0 type && not (is_declared pool earlier head.0)) head BadShape (BadDescriptor index) e_test).1)))

  pub method_stops : IsBytes rest → method_at class_flags pool earlier rest ≡ Err (BadDescriptor index) → Undescribed method_of pool rest index
  unfolding method_at
  method_stops fits e =
      bind_fails_then (method_head_at class_flags pool earlier rest) _ (BadDescriptor index) e (λ at_head. method_head_stops fits at_head) (λ head at_head e_code.
      bind_fails_then (method_attributes_at pool (is_abstract head.0.flags) head.1) _ (BadDescriptor index) e_code (λ at_code. absurd ((method_attributes_raise NotDescriptor cut_other shape_other pool (is_abstract head.0.flags)).fails head.1 (BadDescriptor index) at_code index refl))
      (λ code at_code e_method. absurd (no_failure _ (BadDescriptor index) e_method)))

  pub field_stopped : (text : List ℕ) → BeginsMember pool rest index text → ((type : Kind) → IsFieldText text type → ⊥) → field_at class_flags pool earlier rest ≡ Err (BadDescriptor index)
  unfolding field_at field_head_at field_type
  field_stopped text begins none =
      let no_type = none_from (field_of text) (λ type e. none type (field_taken text type e)) in
      then_err _ (then_ok _ (Err (BadDescriptor index)) (head_again pool rest index text begins) (then_err _ (undescribed_again field_of pool index text begins.text_is no_type)))

  pub method_stopped : (text : List ℕ) → BeginsMember pool rest index text → ((type : Descriptor) → IsMethodText text type → ⊥) → method_at class_flags pool earlier rest ≡ Err (BadDescriptor index)
  unfolding method_at method_head_at method_type
  method_stopped text begins none =
      let no_type = none_from (method_of text) (λ type e. none type (method_taken text type e)) in
      then_err _ (then_ok _ (Err (BadDescriptor index)) (head_again pool rest index text begins) (then_err _ (undescribed_again method_of pool index text begins.text_is no_type)))
