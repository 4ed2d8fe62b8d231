-- The attributes of fields and methods (JVMS 4.7.2, 4.7.3).
use Rattle.std.proofs.Common.{◌≡◌, ◌⊎◌, ℕ, suc, ◌^◌, ◌<◌, ◌≤◌, Bool, true, false, cond, eqb, ◌||◌, List, [], ◌∷◌, ◌++◌, length, Option, Some, None, Result, Ok, Err, refl, sym, ap, subst, ◌∙◌, arith, inl, inr}
use Rattle.std.specs.Prelude.{IsSome, IsSomeAnd, is_some, codes}
use Rattle.std.specs.List.{AllByRecursion}
use Rattle.std.specs.Str.{bytes_eq}
use Rattle.std.proofs.lemmas.Bool.{eqb-true}
use Rattle.std.proofs.lemmas.List.{append-nil, take_all}
use Rattle.byteorder.specs.Endian.{big_number}
use Rattle.byteorder.specs.Numbers.{big_number-reads_back, big_from-lt}
use Rattle.byte_read.proofs.Steps.{back_2, true_false, under, IsBytes-after}
use Rattle.class_pool.specs.Pool.{Slots, utf8_at}
use Rattle.class_file.specs.declared.record.CodeAttr.{CodeAttr}
use Rattle.class_file.specs.declared.refusal.ReadRefusal.{ReadRefusal}
use Rattle.class_file.specs.declared.refusal.ReadRefusal.TheVariants.{BadShape}
use Rattle.class_file.specs.Layout.{u2, u4, counted, attribute_bytes, MemberAttribute, Coded, Valued, Skipped, plain, codes_in, values_in, first as first_item}
use Rattle.class_file.specs.Relation.{FitsU2, FitsMemberAttribute, IsFieldAttribute, IsMethodAttribute}
use Rattle.class_file.specs.Rules.{is_named}
use Rattle.byte_read.specs.Reading.{◌>>=◌}
use Rattle.class_file.specs.ReadingMembers.{text_at, info_at, value_at, field_attribute_at, method_attribute_at, field_attributes_at, method_attributes_at}
use Rattle.class_file.proofs.readers.Parts.{Reads, itself, first, last, tested, alike, reshaped, reshaped_bytes, test_first, on_either, IsWay, one_of, barred}
use Rattle.class_file.proofs.readers.Lists.{AllFrom, after, counted_reads, split_off, merged_with, unzipped, zipped}
use Rattle.class_file.proofs.layout.Attributes.{sized, text_reads, info_reads}
use Rattle.class_file.proofs.layout.Codes.{Inside, code_of, coded_bytes, code_reads}

-- ---- ConstantValue after its name

value_reads : Reads value_at (λ v. sized (u2 v)) itself FitsU2
unfolding value_at
value_reads =
    alike
    (reshaped_bytes (last (tested info_reads (λ info. eqb (length info) 2) BadShape tt) (λ info. big_number 2 info)) (λ info. big_number 2 info)
    (λ info fits good.
    let two : length info ≡ 2 = eqb-true _ _ good.1 in
    let are = IsBytes-after (u4 (length info)) info fits in
    let back : u2 (big_number 2 info) ≡ info = back_2 info (omega (arith, two)) are ∙ take_all 2 info (omega (arith, two)) in
    (ap sized (sym back), refl, big_from-lt 0 2 info are))
    (λ v. u2 v)
    (λ v good. (refl, ap (λ (bytes : List ℕ). big_number 2 bytes) (sym (append-nil (u2 v))) ∙ big_number-reads_back 2 v [] good, (omega arith, refl))))
    (λ bytes. under (info_at bytes) _ _ _ (λ info. test_first (eqb (length info.0) 2) info (λ y. Ok (big_number 2 y.0, y.1)) BadShape))

-- ---- the test of the name

named_some : (name : List ℕ) (found : Option (List ℕ)) → is_named name found ≡ true → IsSome found
named_some name None e = absurd (true_false (sym e))
named_some name (Some other) e = refl

other_name : (name : List ℕ) (found : Option (List ℕ)) → IsSome found → is_named name found ≡ false → IsSomeAnd found (λ other. bytes_eq other name ≡ false)
other_name name None some e = absurd (true_false (sym some))
other_name name (Some other) some e = e

other_said : (name : List ℕ) (found : Option (List ℕ)) → IsSomeAnd found (λ other. bytes_eq other name ≡ false) → IsSome found × (is_named name found ≡ false)
other_said name None is = absurd is
other_said name (Some other) is = (refl, is)

-- ---- an attribute that is read by its name, or skipped

module _ {X P : Type 0} {read : List ℕ → Result (X × List ℕ) ReadRefusal} {text : P → List ℕ} {value : P → X} {Good : P → Type 0} (name : List ℕ) (pool : Slots) (full : Bool) (found : Option X) (one : Reads read text value Good) where
  abbrev attribute_at : List ℕ → Result (Option X × List ℕ) ReadRefusal
  attribute_at bytes =
      text_at pool bytes >>= λ index. cond (is_named name (utf8_at pool index.0)) (cond full (Err BadShape) (read index.1 >>= λ v. Ok (Some v.0, v.1))) (info_at index.1 >>= λ info. Ok (found, info.1))

  abbrev IsRead : ℕ × (P ⊎ List ℕ) → Type 0
  IsRead p = (FitsU2 p.0 × IsSome (utf8_at pool p.0)) × IsWay (is_named name (utf8_at pool p.0)) (λ part. (full ≡ false) × Good part) (λ info. length info < 2 ^ 32) p.1

  attribute_reads : Reads attribute_at (λ p. u2 p.0 ++ on_either text sized p.1) (λ p. on_either (λ part. Some (value part)) (λ info. found) p.1) IsRead
  attribute_reads =
      first (text_reads pool) (λ index. one_of (is_named name (utf8_at pool index)) (barred full BadShape tt (last one (λ v. Some v))) (last info_reads (λ info. found)))

-- ---- what was found so far

-- what an attribute gives, or what was found before it
abbrev latest : {V : Type 0} → Option V → Option V → Option V
latest found None = found
latest found (Some v) = Some v

-- one that gives something stands only where there is room
abbrev IsFree : {V : Type 0} → Bool → Option V → Option V → Type 0
IsFree closed found None = Unit {0}
IsFree closed found (Some v) = (closed || is_some found) ≡ false

abbrev onto : {V : Type 0} → Option V → List V → List V
onto None others = others
onto (Some v) others = v ∷ others

-- all that the attributes give
abbrev all_of : {V : Type 0} → (MemberAttribute → Option V) → List MemberAttribute → List V
all_of pick [] = []
all_of pick (a ∷ attributes) = onto (pick a) (all_of pick attributes)

abbrev begun : {V : Type 0} → Option V → List V → Option V
begun found [] = found
begun found (v ∷ others) = Some v

-- how many may still come
abbrev room : {V : Type 0} → Bool → Option V → ℕ
room closed found = cond (closed || is_some found) 0 1

full_none : {V : Type 0} (closed : Bool) (v : V) → room closed (Some v) ≡ 0
full_none true v = refl
full_none false v = refl

free_room : (b : Bool) → b ≡ false → 1 ≤ cond b 0 1
free_room true e = absurd (true_false e)
free_room false e = omega arith

room_free : (b : Bool) (n : ℕ) → suc n ≤ cond b 0 1 → (b ≡ false) × (n ≡ 0)
room_free true n le = absurd (omega (arith, le))
room_free false n le = (refl, omega (arith, le))

keeps_room : {V : Type 0} (closed : Bool) (found o : Option V) (others : List V) → IsFree closed found o → length others ≤ room closed (latest found o) → length (onto o others) ≤ room closed found
keeps_room closed found None others free le = le
keeps_room closed found (Some v) others free le = omega (arith, free_room (closed || is_some found) free, full_none closed v, le)

leaves_room : {V : Type 0} (closed : Bool) (found o : Option V) (others : List V) → length (onto o others) ≤ room closed found → IsFree closed found o × (length others ≤ room closed (latest found o))
leaves_room closed found None others le = (tt, le)
leaves_room closed found (Some v) others le =
    let f = room_free (closed || is_some found) (length others) (omega (arith, le)) in
    (f.0, omega (arith, f.1))

begun_on : {V : Type 0} (closed : Bool) (found o : Option V) (others : List V) → length others ≤ room closed (latest found o) → begun (latest found o) others ≡ begun found (onto o others)
begun_on closed found None others le = refl
begun_on closed found (Some v) [] le = refl
begun_on closed found (Some v) (w ∷ others) le = absurd (omega (arith, le, full_none closed v))

begun_first : {V : Type 0} (all : List V) → begun None all ≡ first_item all
begun_first [] = refl
begun_first (v ∷ all) = refl

module _ {V : Type 0} (pick : MemberAttribute → Option V) (closed : Bool) where
  abbrev found_next : Option V → MemberAttribute → Option V
  found_next found a = latest found (pick a)

  abbrev AreFree : Option V → List MemberAttribute → Type 0
  AreFree found attributes = AllFrom (λ now a. IsFree closed now (pick a)) found_next found attributes

  free_few : (found : Option V) (attributes : List MemberAttribute) → AreFree found attributes → length (all_of pick attributes) ≤ room closed found
  free_few found [] free = omega arith
  free_few found (a ∷ attributes) free = keeps_room closed found (pick a) (all_of pick attributes) free.0 (free_few (latest found (pick a)) attributes free.1)

  few_free : (found : Option V) (attributes : List MemberAttribute) → length (all_of pick attributes) ≤ room closed found → AreFree found attributes
  few_free found [] le = tt
  few_free found (a ∷ attributes) le =
      let l = leaves_room closed found (pick a) (all_of pick attributes) le in
      (l.0, few_free (latest found (pick a)) attributes l.1)

  found_is : (found : Option V) (attributes : List MemberAttribute) → AreFree found attributes → after found_next found attributes ≡ begun found (all_of pick attributes)
  found_is found [] free = refl
  found_is found (a ∷ attributes) free =
      found_is (latest found (pick a)) attributes free.1 ∙ begun_on closed found (pick a) (all_of pick attributes) (free_few (latest found (pick a)) attributes free.1)

-- ---- attributes of fields

abbrev pub bytes_of : MemberAttribute → List ℕ
bytes_of a = attribute_bytes (plain a)

abbrev value_of : MemberAttribute → Option ℕ
value_of (Coded name code inner) = None
value_of (Valued name value) = Some value
value_of (Skipped attribute) = None

abbrev code_in : MemberAttribute → Option CodeAttr
code_in (Coded name code inner) = Some code
code_in (Valued name value) = None
code_in (Skipped attribute) = None

values_all : (attributes : List MemberAttribute) → values_in attributes ≡ all_of value_of attributes
values_all [] = refl
values_all (Coded name code inner ∷ attributes) = values_all attributes
values_all (Valued name value ∷ attributes) = ap (λ (all : List ℕ). value ∷ all) (values_all attributes)
values_all (Skipped attribute ∷ attributes) = values_all attributes

codes_all : (attributes : List MemberAttribute) → codes_in attributes ≡ all_of code_in attributes
codes_all [] = refl
codes_all (Coded name code inner ∷ attributes) = ap (λ (all : List CodeAttr). code ∷ all) (codes_all attributes)
codes_all (Valued name value ∷ attributes) = codes_all attributes
codes_all (Skipped attribute ∷ attributes) = codes_all attributes

abbrev constant_value : List ℕ
constant_value = codes "ConstantValue"

abbrev FieldPart : Type 0
FieldPart = ℕ × (ℕ ⊎ List ℕ)

abbrev field_to : FieldPart → MemberAttribute
field_to p = on_either (λ v. Valued p.0 v) (λ info. Skipped (record { name = p.0; info = info })) p.1

abbrev field_from : MemberAttribute → FieldPart
field_from (Coded name code inner) = (0, inr [])
field_from (Valued name value) = (name, inl value)
field_from (Skipped attribute) = (attribute.name, inr attribute.info)

abbrev IsGoodField : Slots → Option ℕ → MemberAttribute → Type 0
IsGoodField pool found a = (FitsMemberAttribute a × IsFieldAttribute pool a) × IsFree false found (value_of a)

abbrev IsFieldPart : Slots → Option ℕ → FieldPart → Type 0
IsFieldPart pool found p = IsRead constant_value pool (is_some found) found value_reads p

field_goes : (pool : Slots) (found : Option ℕ) (name : ℕ) (way : ℕ ⊎ List ℕ) → IsFieldPart pool found (name, way)
    → (u2 name ++ on_either (λ v. sized (u2 v)) sized way ≡ bytes_of (field_to (name, way))) × (latest found (value_of (field_to (name, way))) ≡ on_either (λ v. Some v) (λ info. found) way) × IsGoodField pool found (field_to (name, way))
field_goes pool found name (inl value) good =
    (refl, refl, ((record { attribute = record { name = good.0.0; info = omega arith }; inside = good.1.1.1 }, good.1.0), good.1.1.0))
field_goes pool found name (inr info) good =
    (refl, refl, ((record { attribute = record { name = good.0.0; info = good.1.1 }; inside = tt }, other_name constant_value (utf8_at pool name) good.0.1 good.1.0), tt))

field_comes : (pool : Slots) (found : Option ℕ) (a : MemberAttribute) → IsGoodField pool found a
    → (bytes_of a ≡ u2 (field_from a).0 ++ on_either (λ v. sized (u2 v)) sized (field_from a).1) × (on_either (λ v. Some v) (λ info. found) (field_from a).1 ≡ latest found (value_of a)) × IsFieldPart pool found (field_from a)
field_comes pool found (Coded name code inner) good = absurd good.0.1
field_comes pool found (Valued name value) good =
    (refl, refl, ((good.0.0.attribute.name, named_some constant_value (utf8_at pool name) good.0.1), (good.0.1, (good.1, good.0.0.inside))))
field_comes pool found (Skipped attribute) good =
    let other = other_said constant_value (utf8_at pool attribute.name) good.0.1 in
    (refl, refl, ((good.0.0.attribute.name, other.0), (other.1, good.0.0.attribute.info)))

field_attribute_reads : (pool : Slots) (found : Option ℕ) → Reads (field_attribute_at pool found) bytes_of (λ a. latest found (value_of a)) (IsGoodField pool found)
unfolding field_attribute_at
field_attribute_reads pool found =
    reshaped (attribute_reads constant_value pool (is_some found) found value_reads) field_to (λ p good. field_goes pool found p.0 p.1 good) field_from (λ a good. field_comes pool found a good)

abbrev pub AreFieldAttributes : Slots → List MemberAttribute → Type 0
AreFieldAttributes pool attributes = FitsU2 (length attributes) × AllByRecursion FitsMemberAttribute attributes × AllByRecursion (IsFieldAttribute pool) attributes × (length (values_in attributes) ≤ 1)

pub field_attributes_read : (pool : Slots) → Reads (field_attributes_at pool) (counted bytes_of) (λ attributes. first_item (values_in attributes)) (AreFieldAttributes pool)
unfolding field_attributes_at
field_attributes_read pool =
    reshaped (counted_reads (field_attribute_reads pool) None) (λ attributes. attributes)
    (λ attributes good.
    let parts = split_off (λ a. FitsMemberAttribute a × IsFieldAttribute pool a) (λ found a. IsFree false found (value_of a)) (found_next value_of false) None attributes good.1 in
    let each = unzipped FitsMemberAttribute (IsFieldAttribute pool) attributes parts.0 in
    let few = free_few value_of false None attributes parts.1 in (
      refl,
      ap first_item (values_all attributes) ∙ sym (begun_first (all_of value_of attributes)) ∙ sym (found_is value_of false None attributes parts.1),
      (good.0, each.0, each.1, subst (λ (all : List ℕ). length all ≤ 1) (sym (values_all attributes)) few),
    ))
    (λ attributes. attributes)
    (λ attributes good.
    let free = few_free value_of false None attributes (subst (λ (all : List ℕ). length all ≤ 1) (values_all attributes) good.3) in (
      refl,
      found_is value_of false None attributes free ∙ begun_first (all_of value_of attributes) ∙ ap first_item (sym (values_all attributes)),
      (good.0, merged_with (λ a. FitsMemberAttribute a × IsFieldAttribute pool a) (λ found a. IsFree false found (value_of a)) (found_next value_of false) None attributes (zipped FitsMemberAttribute (IsFieldAttribute pool) attributes good.1 good.2) free),
    ))

-- ---- attributes of methods

abbrev code_name : List ℕ
code_name = codes "Code"

abbrev MethodPart : Type 0
MethodPart = ℕ × (Inside ⊎ List ℕ)

abbrev method_to : MethodPart → MemberAttribute
method_to p = on_either (λ inside. Coded p.0 inside.0 inside.1) (λ info. Skipped (record { name = p.0; info = info })) p.1

abbrev method_from : MemberAttribute → MethodPart
method_from (Coded name code inner) = (name, inl (code, inner))
method_from (Valued name value) = (0, inr [])
method_from (Skipped attribute) = (attribute.name, inr attribute.info)

abbrev IsGoodMethod : Slots → Bool → Option CodeAttr → MemberAttribute → Type 0
IsGoodMethod pool abstract found a = (FitsMemberAttribute a × IsMethodAttribute pool a) × IsFree abstract found (code_in a)

abbrev IsMethodPart : Slots → Bool → Option CodeAttr → MethodPart → Type 0
IsMethodPart pool abstract found p = IsRead code_name pool (abstract || is_some found) found (code_reads pool) p

method_goes : (pool : Slots) (abstract : Bool) (found : Option CodeAttr) (name : ℕ) (way : Inside ⊎ List ℕ) → IsMethodPart pool abstract found (name, way)
    → (u2 name ++ on_either coded_bytes sized way ≡ bytes_of (method_to (name, way))) × (latest found (code_in (method_to (name, way))) ≡ on_either (λ inside. Some (code_of inside)) (λ info. found) way) × IsGoodMethod pool abstract found (method_to (name, way))
method_goes pool abstract found name (inl inside) good =
    (refl, refl, ((record { attribute = record { name = good.0.0; info = good.1.1.1.0 }; inside = good.1.1.1.1.0 }, (good.1.0, good.1.1.1.1.1)), good.1.1.0))
method_goes pool abstract found name (inr info) good =
    (refl, refl, ((record { attribute = record { name = good.0.0; info = good.1.1 }; inside = tt }, other_name code_name (utf8_at pool name) good.0.1 good.1.0), tt))

method_comes : (pool : Slots) (abstract : Bool) (found : Option CodeAttr) (a : MemberAttribute) → IsGoodMethod pool abstract found a
    → (bytes_of a ≡ u2 (method_from a).0 ++ on_either coded_bytes sized (method_from a).1) × (on_either (λ inside. Some (code_of inside)) (λ info. found) (method_from a).1 ≡ latest found (code_in a)) × IsMethodPart pool abstract found (method_from a)
method_comes pool abstract found (Coded name code inner) good =
    (refl, refl, ((good.0.0.attribute.name, named_some code_name (utf8_at pool name) good.0.1.0), (good.0.1.0, (good.1, (good.0.0.attribute.info, (good.0.0.inside, good.0.1.1))))))
method_comes pool abstract found (Valued name value) good = absurd good.0.1
method_comes pool abstract found (Skipped attribute) good =
    let other = other_said code_name (utf8_at pool attribute.name) good.0.1 in
    (refl, refl, ((good.0.0.attribute.name, other.0), (other.1, good.0.0.attribute.info)))

method_attribute_reads : (pool : Slots) (abstract : Bool) (found : Option CodeAttr) → Reads (method_attribute_at pool abstract found) bytes_of (λ a. latest found (code_in a)) (IsGoodMethod pool abstract found)
unfolding method_attribute_at
method_attribute_reads pool abstract found =
    reshaped (attribute_reads code_name pool (abstract || is_some found) found (code_reads pool)) method_to (λ p good. method_goes pool abstract found p.0 p.1 good) method_from (λ a good. method_comes pool abstract found a good)

-- Code stands once on a method that is not abstract, and else not at all
one_code : (abstract : Bool) (all : List CodeAttr) → length all ≤ cond (abstract || false) 0 1 → (abstract || is_some (first_item all)) ≡ true → length all ≡ cond abstract 0 1
one_code true all few some = omega (arith, few)
one_code false [] few some = absurd (true_false (sym some))
one_code false (code ∷ all) few some = omega (arith, few)

code_one : (abstract : Bool) (all : List CodeAttr) → length all ≡ cond abstract 0 1 → (length all ≤ cond (abstract || false) 0 1) × ((abstract || is_some (first_item all)) ≡ true)
code_one true all is = (omega (arith, is), refl)
code_one false [] is = absurd (omega (arith, is))
code_one false (code ∷ all) is = (omega (arith, is), refl)

abbrev pub AreMethodAttributes : Slots → Bool → List MemberAttribute → Type 0
AreMethodAttributes pool abstract attributes = FitsU2 (length attributes) × AllByRecursion FitsMemberAttribute attributes × AllByRecursion (IsMethodAttribute pool) attributes × (length (codes_in attributes) ≡ cond abstract 0 1)

pub method_attributes_read : (pool : Slots) (abstract : Bool) → Reads (method_attributes_at pool abstract) (counted bytes_of) (λ attributes. first_item (codes_in attributes)) (AreMethodAttributes pool abstract)
unfolding method_attributes_at
method_attributes_read pool abstract =
    reshaped (tested (counted_reads (method_attribute_reads pool abstract) None) (λ code. abstract || is_some code) BadShape tt) (λ attributes. attributes)
    (λ attributes good.
    let parts = split_off (λ a. FitsMemberAttribute a × IsMethodAttribute pool a) (λ found a. IsFree abstract found (code_in a)) (found_next code_in abstract) None attributes good.0.1 in
    let each = unzipped FitsMemberAttribute (IsMethodAttribute pool) attributes parts.0 in
    let few = free_few code_in abstract None attributes parts.1 in
    let value : after (found_next code_in abstract) None attributes ≡ first_item (all_of code_in attributes) = found_is code_in abstract None attributes parts.1 ∙ begun_first (all_of code_in attributes) in
    let one = one_code abstract (all_of code_in attributes) few (subst (λ (code : Option CodeAttr). (abstract || is_some code) ≡ true) value good.1) in (
      refl,
      ap first_item (codes_all attributes) ∙ sym value,
      (good.0.0, each.0, each.1, subst (λ (all : List CodeAttr). length all ≡ cond abstract 0 1) (sym (codes_all attributes)) one),
    ))
    (λ attributes. attributes)
    (λ attributes good.
    let one = code_one abstract (all_of code_in attributes) (subst (λ (all : List CodeAttr). length all ≡ cond abstract 0 1) (codes_all attributes) good.3) in
    let free = few_free code_in abstract None attributes one.0 in
    let value : after (found_next code_in abstract) None attributes ≡ first_item (all_of code_in attributes) = found_is code_in abstract None attributes free ∙ begun_first (all_of code_in attributes) in (
      refl,
      value ∙ ap first_item (sym (codes_all attributes)),
      (
        (good.0, merged_with (λ a. FitsMemberAttribute a × IsMethodAttribute pool a) (λ found a. IsFree abstract found (code_in a)) (found_next code_in abstract) None attributes (zipped FitsMemberAttribute (IsMethodAttribute pool) attributes good.1 good.2) free),
        subst (λ (code : Option CodeAttr). (abstract || is_some code) ≡ true) (sym value) one.1,
      ),
    ))

-- ---- what stands on no field, and on no method

pub no_code : (pool : Slots) (attributes : List MemberAttribute) → AllByRecursion (IsFieldAttribute pool) attributes → first_item (codes_in attributes) ≡ None
no_code pool [] all = refl
no_code pool (Coded name code inner ∷ attributes) all = absurd all.0
no_code pool (Valued name value ∷ attributes) all = no_code pool attributes all.1
no_code pool (Skipped attribute ∷ attributes) all = no_code pool attributes all.1

pub no_value : (pool : Slots) (attributes : List MemberAttribute) → AllByRecursion (IsMethodAttribute pool) attributes → first_item (values_in attributes) ≡ None
no_value pool [] all = refl
no_value pool (Coded name code inner ∷ attributes) all = no_value pool attributes all.1
no_value pool (Valued name value ∷ attributes) all = absurd all.0
no_value pool (Skipped attribute ∷ attributes) all = no_value pool attributes all.1
