-- A record that some bytes have is written as a class file with this record.
use Rattle.std.proofs.Common.{◌≡◌, ℕ, ◌+◌, ◌^◌, ◌<◌, ◌≤◌, true, List, [], ◌∷◌, ◌++◌, map, length, Some, None, refl, sym, ap, ◌∙◌, subst, arith, length-append}
use Rattle.std.specs.Prelude.{nat_lt, codes}
use Rattle.std.specs.List.{flat_map, AllByRecursion, IsDistinct}
use Rattle.std.proofs.lemmas.Bool.{and_from, and_parts, lt-ltb}
use Rattle.std.proofs.lemmas.List.{length-map}
use Rattle.class_pool.specs.declared.pool.Const.{Const}
use Rattle.class_pool.specs.declared.pool.Const.TheVariants.{Utf8}
use Rattle.class_pool.specs.Pool.{Slots, FitsEntry, EachEntry, pool_bytes}
use Rattle.class_file.specs.declared.record.ClassFile.{ClassFile}
use Rattle.class_file.specs.declared.record.Member.{Member}
use Rattle.class_file.specs.Rules.{is_same_member}
use Rattle.class_file.specs.Layout.{MemberAttribute, Coded, Valued, Skipped, MemberLayout, Layout, u2, counted, attribute_bytes, member_bytes, magic, encoding, codes_in, first, head_of, member_of, record_of}
use Rattle.class_file.specs.Relation.{FitsU2, FitsMember, FitsMemberAttribute, FitsLayout, IsFieldAttribute, IsMethodAttribute, IsRegularField, IsRegularMethod, IsRegular, largest, IsLaidOut, IsClassFile}
use Rattle.class_file.specs.Relation.{IsRecord}
use Rattle.class_make.specs.Entries.{text_index}
use Rattle.class_make.specs.Written.{member_layout, member_layouts, layout_of, fits_text, fits_slots, fits_code, fits_codes, fits}
use Rattle.class_make.proofs.Names.{index_small}
use Rattle.class_make.proofs.Bare.{u2_length, bare_member, bare_member_in, field_is, method_is, same_member, member_fits, field_regular, method_regular, member_no_longer}

-- ---- lists

all_mapped : {X Y : Type 0} (P : X → Type 0) (Q : Y → Type 0) (g : X → Y) (each : (x : X) → P x → Q (g x)) (xs : List X) → AllByRecursion P xs → AllByRecursion Q (map g xs)
all_mapped P Q g each [] all = tt
all_mapped P Q g each (x ∷ xs) all = (each x all.0, all_mapped P Q g each xs all.1)

-- the layouts of the members are the bare ones
members_are : (P : MemberLayout → Type 0) (v c : ℕ) (each : (m : MemberLayout) → P m → member_layout v c (member_of m) ≡ bare_member v c m) (ms : List MemberLayout)
    → AllByRecursion P ms → map (member_layout v c) (map member_of ms) ≡ map (bare_member v c) ms
members_are P v c each [] all = refl
members_are P v c each (m ∷ ms) all =
    ap (λ (n : MemberLayout). n ∷ map (member_layout v c) (map member_of ms)) (each m all.0) ∙ ap (λ (ns : List MemberLayout). bare_member v c m ∷ ns) (members_are P v c each ms all.1)

same_members : (v c : ℕ) (ms : List MemberLayout) → map member_of (map (bare_member v c) ms) ≡ map member_of ms
same_members v c [] = refl
same_members v c (m ∷ ms) =
    ap (λ (n : Member). n ∷ map member_of (map (bare_member v c) ms)) (same_member v c m) ∙ ap (λ (ns : List Member). member_of m ∷ ns) (same_members v c ms)

same_heads : (v c : ℕ) (ms : List MemberLayout) → map head_of (map (bare_member v c) ms) ≡ map head_of ms
same_heads v c [] = refl
same_heads v c (m ∷ ms) = ap (λ hs. head_of m ∷ hs) (same_heads v c ms)

members_no_longer : (v c : ℕ) (ms : List MemberLayout) → length (flat_map member_bytes (map (bare_member v c) ms)) ≤ length (flat_map member_bytes ms)
members_no_longer v c [] = omega arith
members_no_longer v c (m ∷ ms) =
    omega (arith, member_no_longer v c m, members_no_longer v c ms, length-append (member_bytes (bare_member v c m)) (flat_map member_bytes (map (bare_member v c) ms)), length-append (member_bytes m) (flat_map member_bytes ms))

counted_no_longer : (v c : ℕ) (ms : List MemberLayout) → length (counted member_bytes (map (bare_member v c) ms)) ≤ length (counted member_bytes ms)
counted_no_longer v c ms =
    omega (arith, members_no_longer v c ms, u2_length (length ms), u2_length (length (map (bare_member v c) ms)), length-append (u2 (length ms)) (flat_map member_bytes ms), length-append (u2 (length (map (bare_member v c) ms))) (flat_map member_bytes (map (bare_member v c) ms)))

-- ---- the layout

-- the layout without what is skipped
abbrev bare_layout : Layout → Layout
bare_layout l =
    record {
      minor = l.minor;
      major = l.major;
      pool = l.pool;
      flags = l.flags;
      this_class = l.this_class;
      super_class = l.super_class;
      interfaces = l.interfaces;
      fields = map (bare_member_in l.pool) l.fields;
      methods = map (bare_member_in l.pool) l.methods;
      attributes = [];
    }

abbrev layout_with : Layout → List MemberLayout → List MemberLayout → Layout
layout_with l fields methods =
    record {
      minor = l.minor;
      major = l.major;
      pool = l.pool;
      flags = l.flags;
      this_class = l.this_class;
      super_class = l.super_class;
      interfaces = l.interfaces;
      fields = fields;
      methods = methods;
      attributes = [];
    }

abbrev record_with : Layout → List Member → List Member → ClassFile
record_with l fields methods =
    record {
      minor = l.minor;
      major = l.major;
      pool = l.pool;
      flags = l.flags;
      this_class = l.this_class;
      super_class = l.super_class;
      interfaces = l.interfaces;
      fields = fields;
      methods = methods;
    }

layout_is : (l : Layout) → IsRegular l → layout_of (record_of l) ≡ bare_layout l
layout_is l r =
    let v : ℕ = text_index l.pool (codes "ConstantValue") in
    let c : ℕ = text_index l.pool (codes "Code") in
    let fields = members_are (IsRegularField l.flags l.pool) v c (field_is l.flags l.pool v c) l.fields r.fields in
    let methods = members_are (IsRegularMethod l.flags l.pool) v c (method_is l.flags l.pool v c) l.methods r.methods in
    ap (λ (ms : List MemberLayout). layout_with l ms (member_layouts l.pool (map member_of l.methods))) fields ∙ ap (layout_with l (map (bare_member_in l.pool) l.fields)) methods

record_is : (l : Layout) → record_of l ≡ record_of (bare_layout l)
record_is l =
    let v : ℕ = text_index l.pool (codes "ConstantValue") in
    let c : ℕ = text_index l.pool (codes "Code") in
    sym (ap (λ (ms : List Member). record_with l ms (map member_of (map (bare_member_in l.pool) l.methods))) (same_members v c l.fields) ∙ ap (record_with l (map member_of l.fields)) (same_members v c l.methods))

bare_layout_fits : (l : Layout) → IsRegular l → FitsLayout l → FitsLayout (bare_layout l)
bare_layout_fits l r f =
    let v : ℕ = text_index l.pool (codes "ConstantValue") in
    let c : ℕ = text_index l.pool (codes "Code") in
    let v_fits = index_small l.pool (codes "ConstantValue") r.is_pool.count in
    let c_fits = index_small l.pool (codes "Code") r.is_pool.count in
    let each = λ (m : MemberLayout) (fm : FitsMember m). member_fits v c m v_fits c_fits fm in
    record {
      minor = f.minor;
      major = f.major;
      flags = f.flags;
      this_class = f.this_class;
      super_class = f.super_class;
      interface_count = f.interface_count;
      interfaces = f.interfaces;
      field_count = rw (length-map l.fields (bare_member v c)) f.field_count;
      fields = all_mapped FitsMember FitsMember (bare_member v c) each l.fields f.fields;
      method_count = rw (length-map l.methods (bare_member v c)) f.method_count;
      methods = all_mapped FitsMember FitsMember (bare_member v c) each l.methods f.methods;
      attribute_count = omega arith;
      attributes = tt;
    }

bare_layout_regular : (l : Layout) → IsRegular l → IsRegular (bare_layout l)
bare_layout_regular l r =
    let v : ℕ = text_index l.pool (codes "ConstantValue") in
    let c : ℕ = text_index l.pool (codes "Code") in
    record {
      first_version = r.first_version;
      last_version = r.last_version;
      is_pool = r.is_pool;
      class_flags = r.class_flags;
      this_class = r.this_class;
      super_class = r.super_class;
      interfaces = r.interfaces;
      fields = all_mapped (IsRegularField l.flags l.pool) (IsRegularField l.flags l.pool) (bare_member v c) (field_regular l.flags l.pool) l.fields r.fields;
      different_fields = subst (λ heads. IsDistinct (is_same_member l.pool) heads) (sym (same_heads v c l.fields)) r.different_fields;
      methods = all_mapped (IsRegularMethod l.flags l.pool) (IsRegularMethod l.flags l.pool) (bare_member v c) (method_regular l.flags l.pool) l.methods r.methods;
      different_methods = subst (λ heads. IsDistinct (is_same_member l.pool) heads) (sym (same_heads v c l.methods)) r.different_methods;
      attributes = tt;
    }

-- what stands before the fields
abbrev prefix : Layout → List ℕ
prefix l = magic ++ (u2 l.minor ++ (u2 l.major ++ (pool_bytes l.pool ++ (u2 l.flags ++ (u2 l.this_class ++ (u2 l.super_class ++ counted u2 l.interfaces))))))

encoding_length : (l : Layout) → length (encoding l) ≡ length (prefix l) + (length (counted member_bytes l.fields) + (length (counted member_bytes l.methods) + length (counted attribute_bytes l.attributes)))
encoding_length l = simp length-append (omega arith)

encoding_no_longer : (l : Layout) → length (encoding (bare_layout l)) ≤ length (encoding l)
encoding_no_longer l =
    let v : ℕ = text_index l.pool (codes "ConstantValue") in
    let c : ℕ = text_index l.pool (codes "Code") in
    let some : length (counted attribute_bytes l.attributes) ≡ 2 + length (flat_map attribute_bytes l.attributes) =
    omega (arith, length-append (u2 (length l.attributes)) (flat_map attribute_bytes l.attributes), u2_length (length l.attributes)) in
    let none : length (counted attribute_bytes []) ≡ 2 = refl in
    omega (arith, encoding_length l, encoding_length (bare_layout l), counted_no_longer v c l.fields, counted_no_longer v c l.methods, some, none)

bare_laid_out : (bytes : List ℕ) (l : Layout) (file : ClassFile) → IsLaidOut bytes l file → IsClassFile (encoding (bare_layout l)) (record_of l)
bare_laid_out bytes l file is =
    let size : length (encoding l) ≤ largest = subst (λ (b : List ℕ). length b ≤ largest) is.encoded is.size in
    (bare_layout l, record { encoded = refl; size = omega (arith, size, encoding_no_longer l); fits = bare_layout_fits l is.regular is.fits; regular = bare_layout_regular l is.regular; stands = record_is l })

abbrev IsWritten : ClassFile → Type 0
IsWritten file = IsClassFile (encoding (layout_of file)) file

pub written_again : (file : ClassFile) → IsRecord file → IsClassFile (encoding (layout_of file)) file
written_again file (bytes, class) =
    let l : Layout = class.0 in
    let bare = bare_laid_out bytes l file class.1 in
    let whole : IsWritten (record_of l) = subst (λ (w : Layout). IsClassFile (encoding w) (record_of l)) (sym (layout_is l class.1.regular)) bare in
    subst IsWritten (sym class.1.stands) whole

-- ---- its lengths and counts fit

text_fits : (entry : Const) → FitsEntry entry → fits_text entry ≡ true
text_fits (Utf8 text) f = lt-ltb (length text) 65536 (omega (arith, f.0))
text_fits _ f = refl

slots_fit : (slots : Slots) → EachEntry FitsEntry slots → fits_slots slots ≡ true
slots_fit [] f = refl
slots_fit (None ∷ slots) f = slots_fit slots f
slots_fit (Some entry ∷ slots) f = and_from (fits_text entry) (fits_slots slots) (text_fits entry f.0) (slots_fit slots f.1)

no_code_fits : (pool : Slots) (attributes : List MemberAttribute) → AllByRecursion (IsFieldAttribute pool) attributes → fits_code (first (codes_in attributes)) ≡ true
no_code_fits pool [] r = refl
no_code_fits pool (Coded name code inner ∷ others) r = absurd r.0
no_code_fits pool (Valued name value ∷ others) r = no_code_fits pool others r.1
no_code_fits pool (Skipped attribute ∷ others) r = no_code_fits pool others r.1

code_fits : (pool : Slots) (attributes : List MemberAttribute) → AllByRecursion (IsMethodAttribute pool) attributes → AllByRecursion FitsMemberAttribute attributes → fits_code (first (codes_in attributes)) ≡ true
code_fits pool [] r f = refl
code_fits pool (Coded name code inner ∷ others) r f =
    let handlers : length code.handlers < 2 ^ 16 = f.0.inside.handlers in
    and_from _ _ (and_parts _ _ r.0.1.size).1 (lt-ltb (length code.handlers) 65536 (omega (arith, handlers)))
code_fits pool (Valued name value ∷ others) r f = absurd r.0
code_fits pool (Skipped attribute ∷ others) r f = code_fits pool others r.1 f.1

fields_fit : (class_flags : ℕ) (pool : Slots) (ms : List MemberLayout) → AllByRecursion (IsRegularField class_flags pool) ms → fits_codes (map member_of ms) ≡ true
fields_fit class_flags pool [] r = refl
fields_fit class_flags pool (m ∷ ms) r = and_from _ _ (no_code_fits pool m.attributes r.0.attributes) (fields_fit class_flags pool ms r.1)

methods_fit : (class_flags : ℕ) (pool : Slots) (ms : List MemberLayout) → AllByRecursion (IsRegularMethod class_flags pool) ms → AllByRecursion FitsMember ms → fits_codes (map member_of ms) ≡ true
methods_fit class_flags pool [] r f = refl
methods_fit class_flags pool (m ∷ ms) r f = and_from _ _ (code_fits pool m.attributes r.0.attributes f.0.attributes) (methods_fit class_flags pool ms r.1 f.1)

count_fits : (ms : List MemberLayout) → FitsU2 (length ms) → nat_lt (length (map member_of ms)) 65536 ≡ true
count_fits ms f = lt-ltb (length (map member_of ms)) 65536 (omega (arith, f, length-map ms member_of))

layout_record_fits : (l : Layout) → FitsLayout l → IsRegular l → fits (record_of l) ≡ true
layout_record_fits l f r =
    and_from _ _ (and_from _ _ (slots_fit l.pool r.is_pool.fits) (lt-ltb (length l.interfaces) 65536 (omega (arith, f.interface_count))))
    (and_from _ _ (and_from _ _ (count_fits l.fields f.field_count) (fields_fit l.flags l.pool l.fields r.fields))
    (and_from _ _ (count_fits l.methods f.method_count) (methods_fit l.flags l.pool l.methods r.methods f.methods)))

pub record_fits : (file : ClassFile) → IsRecord file → fits file ≡ true
record_fits file (bytes, class) = ap fits class.1.stands ∙ layout_record_fits class.0 class.1.fits class.1.regular
