-- A layout without its skipped attributes: it fits, keeps the rules, has the same record, and is no
-- longer.
use Rattle.std.proofs.Common.{◌≡◌, ℕ, ◌+◌, ◌^◌, ◌<◌, ◌≤◌, Bool, true, false, List, [], ◌∷◌, ◌++◌, map, length, if◌then◌else◌, refl, sym, ap, ◌∙◌, arith, length-append}
use Rattle.std.specs.Prelude.{codes}
use Rattle.std.specs.List.{flat_map, AllByRecursion}
use Rattle.std.proofs.lemmas.List.{append-nil}
use Rattle.class_pool.specs.Pool.{Slots}
use Rattle.class_file.specs.declared.record.CodeAttr.{CodeAttr}
use Rattle.class_file.specs.declared.record.Member.{Member}
use Rattle.class_file.specs.Rules.{is_abstract}
use Rattle.class_file.specs.Layout.{Attribute, MemberAttribute, Coded, Valued, Skipped, MemberLayout, u2, u4, counted, attribute_bytes, handler_bytes, code_info, plain, member_bytes, codes_in, values_in, first, member_of}
use Rattle.class_file.specs.Relation.{FitsU2, FitsCode, FitsMemberAttribute, FitsMember, IsFieldAttribute, IsMethodAttribute, IsRegularField, IsRegularMethod}
use Rattle.class_make.specs.Entries.{text_index}
use Rattle.class_make.specs.Written.{value_attribute, code_attribute, member_layout}
use Rattle.class_make.proofs.Names.{named_again}

-- ---- attributes

-- the attributes that are not skipped, under other names
abbrev pub bare : ℕ → ℕ → List MemberAttribute → List MemberAttribute
bare value_name code_name [] = []
bare value_name code_name (Coded name code inner ∷ others) = Coded code_name code [] ∷ bare value_name code_name others
bare value_name code_name (Valued name value ∷ others) = Valued value_name value ∷ bare value_name code_name others
bare value_name code_name (Skipped attribute ∷ others) = bare value_name code_name others

same_values : (v c : ℕ) (attributes : List MemberAttribute) → values_in (bare v c attributes) ≡ values_in attributes
same_values v c [] = refl
same_values v c (Coded name code inner ∷ others) = same_values v c others
same_values v c (Valued name value ∷ others) = ap (λ (vs : List ℕ). value ∷ vs) (same_values v c others)
same_values v c (Skipped attribute ∷ others) = same_values v c others

same_codes : (v c : ℕ) (attributes : List MemberAttribute) → codes_in (bare v c attributes) ≡ codes_in attributes
same_codes v c [] = refl
same_codes v c (Coded name code inner ∷ others) = ap (λ (cs : List CodeAttr). code ∷ cs) (same_codes v c others)
same_codes v c (Valued name value ∷ others) = same_codes v c others
same_codes v c (Skipped attribute ∷ others) = same_codes v c others

no_more : (v c : ℕ) (attributes : List MemberAttribute) → length (bare v c attributes) ≤ length attributes
no_more v c [] = omega arith
no_more v c (Coded name code inner ∷ others) = omega (arith, no_more v c others)
no_more v c (Valued name value ∷ others) = omega (arith, no_more v c others)
no_more v c (Skipped attribute ∷ others) = omega (arith, no_more v c others)

-- ---- their bytes

pub u2_length : (n : ℕ) → length (u2 n) ≡ 2
u2_length n = refl

pub u4_length : (n : ℕ) → length (u4 n) ≡ 4
u4_length n = refl

attribute_length : (a : Attribute) → length (attribute_bytes a) ≡ 6 + length a.info
attribute_length a =
    omega (arith, length-append (u2 a.name) (u4 (length a.info) ++ a.info), length-append (u4 (length a.info)) a.info, u2_length a.name, u4_length (length a.info))

-- what stands before the attributes inside Code
abbrev code_prefix : CodeAttr → List ℕ
code_prefix c = u2 c.max_stack ++ (u2 c.max_locals ++ (u4 (length c.code) ++ (c.code ++ counted handler_bytes c.handlers)))

code_length : (c : CodeAttr) (inner : List Attribute) → length (code_info c inner) ≡ length (code_prefix c) + length (counted attribute_bytes inner)
code_length c inner = simp length-append (omega arith)

info_shorter : (c : CodeAttr) (inner : List Attribute) → length (code_info c []) ≤ length (code_info c inner)
info_shorter c inner =
    let more : length (counted attribute_bytes inner) ≡ 2 + length (flat_map attribute_bytes inner) =
    omega (arith, length-append (u2 (length inner)) (flat_map attribute_bytes inner), u2_length (length inner)) in
    let none : length (counted attribute_bytes []) ≡ 2 = refl in
    omega (arith, code_length c inner, code_length c [], more, none)

-- the bytes of a member's attribute
abbrev pub whole_bytes : MemberAttribute → List ℕ
whole_bytes a = attribute_bytes (plain a)

whole_length : (a : MemberAttribute) → length (whole_bytes a) ≡ 6 + length (plain a).info
whole_length a = attribute_length (plain a)

one_shorter : (a b : MemberAttribute) (xs ys : List MemberAttribute) → length (plain a).info ≤ length (plain b).info → length (flat_map whole_bytes xs) ≤ length (flat_map whole_bytes ys)
    → length (flat_map whole_bytes (a ∷ xs)) ≤ length (flat_map whole_bytes (b ∷ ys))
one_shorter a b xs ys one rest =
    omega (arith, one, rest, length-append (whole_bytes a) (flat_map whole_bytes xs), length-append (whole_bytes b) (flat_map whole_bytes ys), whole_length a, whole_length b)

no_longer : (v c : ℕ) (attributes : List MemberAttribute) → length (flat_map whole_bytes (bare v c attributes)) ≤ length (flat_map whole_bytes attributes)
no_longer v c [] = omega arith
no_longer v c (Coded name code inner ∷ others) =
    one_shorter (Coded c code []) (Coded name code inner) (bare v c others) others (info_shorter code inner) (no_longer v c others)
no_longer v c (Valued name value ∷ others) =
    one_shorter (Valued v value) (Valued name value) (bare v c others) others (omega arith) (no_longer v c others)
no_longer v c (Skipped attribute ∷ others) =
    omega (arith, no_longer v c others, length-append (whole_bytes (Skipped attribute)) (flat_map whole_bytes others))

-- ---- they fit

bare_code : (code : CodeAttr) (inner : List Attribute) → FitsCode code inner → FitsCode code []
bare_code code inner f = record {
  max_stack = f.max_stack;
  max_locals = f.max_locals;
  code = f.code;
  handlers = f.handlers;
  rows = f.rows;
  inner_count = omega arith;
  inner_fit = tt;
}

bare_fits : (v c : ℕ) (attributes : List MemberAttribute) → FitsU2 v → FitsU2 c → AllByRecursion FitsMemberAttribute attributes → AllByRecursion FitsMemberAttribute (bare v c attributes)
bare_fits v c [] v_fits c_fits f = tt
bare_fits v c (Coded name code inner ∷ others) v_fits c_fits f =
    let old : length (code_info code inner) < 2 ^ 32 = f.0.attribute.info in
    (record { attribute = record { name = c_fits; info = omega (arith, info_shorter code inner, old) }; inside = bare_code code inner f.0.inside }, bare_fits v c others v_fits c_fits f.1)
bare_fits v c (Valued name value ∷ others) v_fits c_fits f =
    (record { attribute = record { name = v_fits; info = f.0.attribute.info }; inside = f.0.inside }, bare_fits v c others v_fits c_fits f.1)
bare_fits v c (Skipped attribute ∷ others) v_fits c_fits f = bare_fits v c others v_fits c_fits f.1

-- ---- they keep the rules

abbrev value_name : Slots → ℕ
value_name pool = text_index pool (codes "ConstantValue")

abbrev code_name : Slots → ℕ
code_name pool = text_index pool (codes "Code")

abbrev bare_in : Slots → List MemberAttribute → List MemberAttribute
bare_in pool attributes = bare (value_name pool) (code_name pool) attributes

field_rules : (pool : Slots) (attributes : List MemberAttribute) → AllByRecursion (IsFieldAttribute pool) attributes → AllByRecursion (IsFieldAttribute pool) (bare_in pool attributes)
field_rules pool [] r = tt
field_rules pool (Coded name code inner ∷ others) r = absurd r.0
field_rules pool (Valued name value ∷ others) r = (named_again pool (codes "ConstantValue") name r.0, field_rules pool others r.1)
field_rules pool (Skipped attribute ∷ others) r = field_rules pool others r.1

method_rules : (pool : Slots) (attributes : List MemberAttribute) → AllByRecursion (IsMethodAttribute pool) attributes → AllByRecursion (IsMethodAttribute pool) (bare_in pool attributes)
method_rules pool [] r = tt
method_rules pool (Coded name code inner ∷ others) r =
    ((named_again pool (codes "Code") name r.0.0, record { size = r.0.1.size; handlers = r.0.1.handlers; inner_names = tt }), method_rules pool others r.1)
method_rules pool (Valued name value ∷ others) r = absurd r.0
method_rules pool (Skipped attribute ∷ others) r = method_rules pool others r.1

-- ---- they are those of the record

-- the attributes of a field are its values, and those of a method its codes
only_values : (pool : Slots) (v c : ℕ) (attributes : List MemberAttribute) → AllByRecursion (IsFieldAttribute pool) attributes
    → (bare v c attributes ≡ map (λ (value : ℕ). Valued v value) (values_in attributes)) × (codes_in attributes ≡ [])
only_values pool v c [] r = (refl, refl)
only_values pool v c (Coded name code inner ∷ others) r = absurd r.0
only_values pool v c (Valued name value ∷ others) r =
    let o = only_values pool v c others r.1 in (ap (λ (others : List MemberAttribute). Valued v value ∷ others) o.0, o.1)
only_values pool v c (Skipped attribute ∷ others) r = only_values pool v c others r.1

only_codes : (pool : Slots) (v c : ℕ) (attributes : List MemberAttribute) → AllByRecursion (IsMethodAttribute pool) attributes
    → (bare v c attributes ≡ map (λ (code : CodeAttr). Coded c code []) (codes_in attributes)) × (values_in attributes ≡ [])
only_codes pool v c [] r = (refl, refl)
only_codes pool v c (Coded name code inner ∷ others) r =
    let o = only_codes pool v c others r.1 in (ap (λ (others : List MemberAttribute). Coded c code [] ∷ others) o.0, o.1)
only_codes pool v c (Valued name value ∷ others) r = absurd r.0
only_codes pool v c (Skipped attribute ∷ others) r = only_codes pool v c others r.1

one_value : (v : ℕ) (values : List ℕ) → length values ≤ 1 → map (λ (value : ℕ). Valued v value) values ≡ value_attribute v (first values)
one_value v [] le = refl
one_value v (value ∷ []) le = refl
one_value v (value ∷ other ∷ others) le = absurd (omega (arith, le))

one_code : (c : ℕ) (all : List CodeAttr) → length all ≤ 1 → map (λ (code : CodeAttr). Coded c code []) all ≡ code_attribute c (first all)
one_code c [] le = refl
one_code c (code ∷ []) le = refl
one_code c (code ∷ other ∷ others) le = absurd (omega (arith, le))

-- ---- members

abbrev pub bare_member : ℕ → ℕ → MemberLayout → MemberLayout
bare_member v c m = record { flags = m.flags; name = m.name; descriptor = m.descriptor; attributes = bare v c m.attributes }

abbrev pub bare_member_in : Slots → MemberLayout → MemberLayout
bare_member_in pool m = bare_member (value_name pool) (code_name pool) m

abbrev with_attributes : MemberLayout → List MemberAttribute → MemberLayout
with_attributes m attributes = record { flags = m.flags; name = m.name; descriptor = m.descriptor; attributes = attributes }

pub field_is : (class_flags : ℕ) (pool : Slots) (v c : ℕ) (m : MemberLayout) → IsRegularField class_flags pool m → member_layout v c (member_of m) ≡ bare_member v c m
field_is class_flags pool v c m r =
    let o = only_values pool v c m.attributes r.attributes in
    let values : bare v c m.attributes ≡ value_attribute v (first (values_in m.attributes)) = o.0 ∙ one_value v (values_in m.attributes) r.one_value in
    let none : code_attribute c (first (codes_in m.attributes)) ≡ [] = ap (λ (cs : List CodeAttr). code_attribute c (first cs)) o.1 in
    ap (with_attributes m) (ap (λ (codes_so : List MemberAttribute). value_attribute v (first (values_in m.attributes)) ++ codes_so) none ∙ append-nil (value_attribute v (first (values_in m.attributes))) ∙ sym values)

abbrev count_for : Bool → ℕ
count_for abstract = if abstract then 0 else 1

count_small : (abstract : Bool) → count_for abstract ≤ 1
count_small true = omega arith
count_small false = omega arith

pub method_is : (class_flags : ℕ) (pool : Slots) (v c : ℕ) (m : MemberLayout) → IsRegularMethod class_flags pool m → member_layout v c (member_of m) ≡ bare_member v c m
method_is class_flags pool v c m r =
    let o = only_codes pool v c m.attributes r.attributes in
    let few : length (codes_in m.attributes) ≤ 1 = omega (arith, r.one_code, count_small (is_abstract m.flags)) in
    let all : bare v c m.attributes ≡ code_attribute c (first (codes_in m.attributes)) = o.0 ∙ one_code c (codes_in m.attributes) few in
    let none : value_attribute v (first (values_in m.attributes)) ≡ [] = ap (λ (vs : List ℕ). value_attribute v (first vs)) o.1 in
    ap (with_attributes m) (ap (λ (values_so : List MemberAttribute). values_so ++ code_attribute c (first (codes_in m.attributes))) none ∙ sym all)

abbrev member_with : MemberLayout → List ℕ → List CodeAttr → Member
member_with m values all = record { flags = m.flags; name = m.name; descriptor = m.descriptor; constant = first values; code = first all }

pub same_member : (v c : ℕ) (m : MemberLayout) → member_of (bare_member v c m) ≡ member_of m
same_member v c m =
    ap (λ (vs : List ℕ). member_with m vs (codes_in (bare v c m.attributes))) (same_values v c m.attributes) ∙ ap (member_with m (values_in m.attributes)) (same_codes v c m.attributes)

pub member_fits : (v c : ℕ) (m : MemberLayout) → FitsU2 v → FitsU2 c → FitsMember m → FitsMember (bare_member v c m)
member_fits v c m v_fits c_fits f = record {
  flags = f.flags;
  name = f.name;
  descriptor = f.descriptor;
  count = omega (arith, f.count, no_more v c m.attributes);
  attributes = bare_fits v c m.attributes v_fits c_fits f.attributes;
}

pub field_regular : (class_flags : ℕ) (pool : Slots) (m : MemberLayout) → IsRegularField class_flags pool m → IsRegularField class_flags pool (bare_member_in pool m)
field_regular class_flags pool m r = record {
  type = r.type;
  name = r.name;
  descriptor = r.descriptor;
  access = r.access;
  of_interface = r.of_interface;
  attributes = field_rules pool m.attributes r.attributes;
  one_value = rw (same_values (value_name pool) (code_name pool) m.attributes) r.one_value;
}

pub method_regular : (class_flags : ℕ) (pool : Slots) (m : MemberLayout) → IsRegularMethod class_flags pool m → IsRegularMethod class_flags pool (bare_member_in pool m)
method_regular class_flags pool m r = record {
  type = r.type;
  name = r.name;
  descriptor = r.descriptor;
  access = r.access;
  of_interface = r.of_interface;
  not_native = r.not_native;
  abstract_flags = r.abstract_flags;
  special_name = r.special_name;
  constructor = r.constructor;
  initialiser = r.initialiser;
  slots = r.slots;
  attributes = method_rules pool m.attributes r.attributes;
  one_code = rw (same_codes (value_name pool) (code_name pool) m.attributes) r.one_code;
}

member_length : (m : MemberLayout) → length (member_bytes m) ≡ 8 + length (flat_map whole_bytes m.attributes)
member_length m = simp length-append (omega arith)

pub member_no_longer : (v c : ℕ) (m : MemberLayout) → length (member_bytes (bare_member v c m)) ≤ length (member_bytes m)
member_no_longer v c m = omega (arith, member_length m, member_length (bare_member v c m), no_longer v c m.attributes)
