-- The types of an image are read exactly.
use Rattle.std.proofs.Common.{◌≡◌, ◌⊎◌, ℕ, ◌+◌, ◌-◌, ◌^◌, ◌<◌, ◌≤◌, Bool, true, false, ◌&&◌, ◌||◌, not, cond, leb, eqb, List, [], ◌∷◌, ◌++◌, length, Result, Ok, Err, refl, sym, ap, subst, ◌∙◌, arith, inl, inr}
use Rattle.std.specs.Prelude.{slice_get}
use Rattle.std.specs.List.{list_any}
use Rattle.std.proofs.lemmas.Bool.{leb-true, le-leb, eqb-true, eq-eqb, and_parts, and_from, or_cases, or_left, or_right, not-true, not_from_false}
use Rattle.std.proofs.lemmas.List.{append-nil, nil_from_length}
use Rattle.image_instr.specs.Insn.{u2}
use Rattle.image_form.specs.declared.record.TypeEntry.{TypeEntry}
use Rattle.image_form.specs.declared.record.TypeEntry.TheVariants.{Class, RefArray, NumArray}
use Rattle.image_form.specs.declared.record.ClassEntry.{ClassEntry}
use Rattle.image_form.specs.declared.record.DispatchRow.{DispatchRow}
use Rattle.image_form.specs.declared.refusal.FormRefusal.{FormRefusal}
use Rattle.image_form.specs.Format.{counted, row_bytes, class_bytes, type_bytes}
use Rattle.image_form.specs.Library.{names_type, names_parent, names_interface, refs_of, nums_of}
use Rattle.image_form.specs.Grammar.{Each, EachAfter, is_above, IsRow, IsInterface, IsClass, is_ref_array, is_num_array, is_kind, IsRefArray, IsNumArray, IsType, most_types}
use Rattle.byte_read.specs.Reading.{◌>>=◌}
use Rattle.image_form.specs.Reading.{u1_at, u2_at, tested, in_types, interface_at, interfaces_at, row_at, rows_at, name_at, refs_at, nums_at, class_at, element_at, kind_at, tagged_at, type_at, types_at}
use Rattle.byte_read.proofs.Steps.{IsBytes, then_ok, ok_is}
use Rattle.image_form.proofs.format.Readers.{Reader, Refuses, Taken, Reads, Reads-as, bound, refuses_then, made, field_reads, u1_reads, u2_reads, u1_tested, u2_tested, sized, sized_reads, counted_reads, most_reads}

-- ---- interfaces, rows and names

interface_reads : (types : List TypeEntry) (before : List ℕ) → Reads ℕ (IsInterface types) u2 (interface_at types before)
unfolding interface_at
interface_reads types before = u2_tested (names_interface types) (in_types (length types)) tt

interfaces_reads : (types : List TypeEntry) → Reads (List ℕ) (λ ids. (length ids < 2 ^ 16) × Each (IsInterface types) ids) (counted u2) (interfaces_at types)
unfolding interfaces_at
interfaces_reads types = counted_reads (interface_reads types) u2_reads

abbrev the_row : ℕ → ℕ → DispatchRow
the_row selector method = record { selector = selector; method = method }

row_reads : (index : ℕ) (before : List DispatchRow) → Reads DispatchRow (IsRow before) row_bytes (row_at index before)
unfolding row_at
row_reads index before =
    Reads-as
    (field_reads (λ (row : DispatchRow). row.selector) (λ selector row h. ap (λ (r : DispatchRow). r.selector) h.1) (u2_tested (is_above (slice_get before (length before - 1))) (in_types index) tt)
    (λ selector. field_reads (λ (row : DispatchRow). row.method) (λ method row h. ap (λ (r : DispatchRow). r.method) h) u2_reads (λ method. made (the_row selector method))))
    (λ row h. record { selector_fits = h.0.0; rises = h.0.1; method_fits = h.1.0 })
    (λ row h. ((h.selector_fits, h.rises), (h.method_fits, refl)))
    (λ row. refl)

-- an interface or an abstract class has no rows
abbrev IsRowCount : ℕ → ℕ → Type 0
IsRowCount flags count = (count < 2 ^ 16) × ((flags ≡ 0) ⊎ (count ≡ 0))

row_count_passes : (flags count : ℕ) → (eqb flags 0 || eqb count 0) ≡ true → (flags ≡ 0) ⊎ (count ≡ 0)
row_count_passes flags count e = elim (or_cases (eqb flags 0) (eqb count 0) e) [ inl h ↦ inl (eqb-true _ _ h) | inr h ↦ inr (eqb-true _ _ h) ]

row_count_test : (flags count : ℕ) → (flags ≡ 0) ⊎ (count ≡ 0) → (eqb flags 0 || eqb count 0) ≡ true
row_count_test flags count (inl e) = or_left (eqb flags 0) (eqb count 0) (eq-eqb _ _ e)
row_count_test flags count (inr e) = or_right (eqb flags 0) (eqb count 0) (eq-eqb _ _ e)

row_count_reads : (index flags : ℕ) → Reads ℕ (IsRowCount flags) u2 (λ bytes. tested (λ count. eqb flags 0 || eqb count 0) (in_types index) (u2_at bytes))
row_count_reads index flags =
    Reads-as (u2_tested (λ count. eqb flags 0 || eqb count 0) (in_types index) tt) (λ count h. (h.0, row_count_passes flags count h.1)) (λ count h. (h.0, row_count_test flags count h.1)) (λ count. refl)

-- the rows of a class with these flags
abbrev AreRows : ℕ → List DispatchRow → Type 0
AreRows flags rows = IsRowCount flags (length rows) × EachAfter IsRow [] rows

rows_reads : (index flags : ℕ) → Reads (List DispatchRow) (AreRows flags) (counted row_bytes) (rows_at index flags)
unfolding rows_at
rows_reads index flags = counted_reads (row_reads index) (row_count_reads index flags)

name_reads : Reads (List ℕ) (λ name. length name < 2 ^ 16) sized name_at
unfolding name_at
name_reads = sized_reads u2_reads

-- ---- the class

-- the refusal of the type after these types
abbrev in_this : List TypeEntry → FormRefusal
in_this types = in_types (length types)

flags_reads : (types : List TypeEntry) → Reads ℕ (λ flags. flags ≤ 3) (λ flags. flags ∷ []) (λ bytes. tested (λ flags. leb flags 3) (in_this types) (u1_at bytes))
flags_reads types =
    Reads-as (u1_tested (λ flags. leb flags 3) (in_this types) tt) (λ flags h. leb-true _ _ h.1) (λ flags h. (omega (arith, h), le-leb _ _ h)) (λ flags. refl)

refs_reads : (types : List TypeEntry) (parent : ℕ) → Reads ℕ (λ refs. (refs < 2 ^ 16) × (refs_of types parent ≤ refs)) u2 (refs_at types parent)
refs_reads types parent =
    Reads-as (u2_tested (leb (refs_of types parent)) (in_this types) tt) (λ refs h. (h.0, leb-true _ _ h.1)) (λ refs h. (h.0, le-leb _ _ h.1)) (λ refs. refl)

-- the other cells of a class with this parent and so many references
abbrev AreNums : List TypeEntry → ℕ → ℕ → ℕ → Type 0
AreNums types parent refs nums = (nums_of types parent ≤ nums) × (2 + (refs + nums) ≤ 32767)

abbrev nums_test : List TypeEntry → ℕ → ℕ → ℕ → Bool
nums_test types parent refs nums = leb (nums_of types parent) nums && leb (2 + (refs + nums)) 32767

nums_pass : (types : List TypeEntry) (parent refs nums : ℕ) → nums_test types parent refs nums ≡ true → AreNums types parent refs nums
nums_pass types parent refs nums e =
    let p = and_parts (leb (nums_of types parent) nums) (leb (2 + (refs + nums)) 32767) e in
    (leb-true _ _ p.0, leb-true _ _ p.1)

nums_tested : (types : List TypeEntry) (parent refs nums : ℕ) → AreNums types parent refs nums → (nums < 2 ^ 16) × (nums_test types parent refs nums ≡ true)
nums_tested types parent refs nums h =
    (omega (arith, h.1), and_from (leb (nums_of types parent) nums) (leb (2 + (refs + nums)) 32767) (le-leb _ _ h.0) (le-leb _ _ h.1))

nums_reads : (types : List TypeEntry) (parent refs : ℕ) → Reads ℕ (AreNums types parent refs) u2 (nums_at types parent refs)
nums_reads types parent refs =
    Reads-as (u2_tested (nums_test types parent refs) (in_this types) tt) (λ nums h. nums_pass types parent refs nums h.1) (nums_tested types parent refs) (λ nums. refl)

abbrev the_class : ℕ → ℕ → ℕ → ℕ → List ℕ → List DispatchRow → List ℕ → ClassEntry
the_class parent flags refs nums interfaces rows name =
    record { parent = parent; flags = flags; refs = refs; nums = nums; interfaces = interfaces; rows = rows; name = name }

-- the bytes of a class, part by part as they are read
abbrev class_parts : ClassEntry → List ℕ
class_parts class =
    u2 class.parent ++ (class.flags ∷ [] ++ (u2 class.refs ++ (u2 class.nums ++ (counted u2 class.interfaces ++ (counted row_bytes class.rows ++ (sized class.name ++ []))))))

class_parts_are : (class : ClassEntry) → class_parts class ≡ class_bytes class
class_parts_are class =
    ap (λ (name : List ℕ). u2 class.parent ++ (class.flags ∷ (u2 class.refs ++ (u2 class.nums ++ (counted u2 class.interfaces ++ (counted row_bytes class.rows ++ name)))))) (append-nil (sized class.name))

rows_hold : (flags : ℕ) (rows : List DispatchRow) → (flags ≡ 0) ⊎ (length rows ≡ 0) → (flags ≡ 0) ⊎ (rows ≡ [])
rows_hold flags rows (inl e) = inl e
rows_hold flags rows (inr e) = inr (nil_from_length rows e)

rows_count : (flags : ℕ) (rows : List DispatchRow) → (flags ≡ 0) ⊎ (rows ≡ []) → (flags ≡ 0) ⊎ (length rows ≡ 0)
rows_count flags rows (inl e) = inl e
rows_count flags rows (inr e) = inr (ap length e)

class_reads : (types : List TypeEntry) → Reads ClassEntry (IsClass types) class_bytes (class_at types)
unfolding class_at
class_reads types =
    Reads-as
    (field_reads (λ (class : ClassEntry). class.parent) (λ parent class h. ap (λ (c : ClassEntry). c.parent) h.1.1.1.1.1.1) (u2_tested (names_parent types) (in_this types) tt) (λ parent.
    field_reads (λ (class : ClassEntry). class.flags) (λ flags class h. ap (λ (c : ClassEntry). c.flags) h.1.1.1.1.1) (flags_reads types) (λ flags.
    field_reads (λ (class : ClassEntry). class.refs) (λ refs class h. ap (λ (c : ClassEntry). c.refs) h.1.1.1.1) (refs_reads types parent) (λ refs.
    field_reads (λ (class : ClassEntry). class.nums) (λ nums class h. ap (λ (c : ClassEntry). c.nums) h.1.1.1) (nums_reads types parent refs) (λ nums.
    field_reads (λ (class : ClassEntry). class.interfaces) (λ interfaces class h. ap (λ (c : ClassEntry). c.interfaces) h.1.1) (interfaces_reads types) (λ interfaces.
    field_reads (λ (class : ClassEntry). class.rows) (λ rows class h. ap (λ (c : ClassEntry). c.rows) h.1) (rows_reads (length types) flags) (λ rows.
    field_reads (λ (class : ClassEntry). class.name) (λ name class h. ap (λ (c : ClassEntry). c.name) h) name_reads (λ name.
    made (the_class parent flags refs nums interfaces rows name)))))))))
    (λ class h. record {
      parent_fits = h.0.0;
      parent_is = h.0.1;
      flags_are = h.1.0;
      refs_cover = h.1.1.0.1;
      nums_cover = h.1.1.1.0.0;
      object_fits = h.1.1.1.0.1;
      interfaces_fit = h.1.1.1.1.0.0;
      interfaces_are = h.1.1.1.1.0.1;
      rows_fit = h.1.1.1.1.1.0.0.0;
      rows_hold = rows_hold class.flags class.rows h.1.1.1.1.1.0.0.1;
      rows_are = h.1.1.1.1.1.0.1;
      name_fits = h.1.1.1.1.1.1.0;
    })
    (λ class h. (
      (h.parent_fits, h.parent_is),
      (
        h.flags_are,
        (
          (omega (arith, h.object_fits), h.refs_cover),
          (
            (h.nums_cover, h.object_fits),
            (
              (h.interfaces_fit, h.interfaces_are),
              (((h.rows_fit, rows_count class.flags class.rows h.rows_hold), h.rows_are), (h.name_fits, refl)),
            ),
          ),
        ),
      ),
    ))
    class_parts_are

-- ---- arrays

first_passes : {P : Type 0} (named first : Bool) → ((named ≡ true) → P) → (named && not first) ≡ true → P × (first ≡ false)
first_passes named first to e =
    let p = and_parts named (not first) e in
    (to p.0, not-true first p.1)

first_test : (named first : Bool) → named ≡ true → first ≡ false → (named && not first) ≡ true
first_test named first e h = and_from named (not first) e (not_from_false first h)

element_reads : (types : List TypeEntry) → Reads ℕ (IsRefArray types) u2 (element_at types)
unfolding element_at
element_reads types =
    Reads-as (u2_tested (λ element. names_type types element && not (list_any (is_ref_array element) types)) (in_this types) tt)
    (λ element h.
    let p = first_passes (names_type types element) (list_any (is_ref_array element) types) (λ e. e) h.1 in
    record { element_fits = h.0; element_is = p.0; is_first = p.1 })
    (λ element h. (h.element_fits, first_test (names_type types element) (list_any (is_ref_array element) types) h.element_is h.is_first))
    (λ element. refl)

kind_one : (kind wanted : ℕ) → wanted < 2 ^ 8 → eqb kind wanted ≡ true → kind < 2 ^ 8
kind_one kind wanted lt e = omega (arith, lt, eqb-true kind wanted e)

kind_either : {P : Type 0} (a b : Bool) → (a ≡ true → P) → (b ≡ true → P) → (a || b) ≡ true → P
kind_either true b f g e = f refl
kind_either false b f g e = g e

-- a kind is a byte
kind_fits : (kind : ℕ) → is_kind kind ≡ true → kind < 2 ^ 8
kind_fits kind e =
    kind_either (eqb kind 4 || eqb kind 5) (eqb kind 8 || (eqb kind 9 || eqb kind 10)) (kind_either (eqb kind 4) (eqb kind 5) (kind_one kind 4 (omega arith)) (kind_one kind 5 (omega arith)))
    (kind_either (eqb kind 8) (eqb kind 9 || eqb kind 10) (kind_one kind 8 (omega arith)) (kind_either (eqb kind 9) (eqb kind 10) (kind_one kind 9 (omega arith)) (kind_one kind 10 (omega arith)))) e

kind_reads : (types : List TypeEntry) → Reads ℕ (IsNumArray types) (λ kind. kind ∷ []) (kind_at types)
unfolding kind_at
kind_reads types =
    Reads-as (u1_tested (λ kind. is_kind kind && not (list_any (is_num_array kind) types)) (in_this types) tt)
    (λ kind h.
    let p = first_passes (is_kind kind) (list_any (is_num_array kind) types) (λ e. e) h.1 in
    record { kind_is = p.0; is_first = p.1 })
    (λ kind h. (kind_fits kind h.kind_is, first_test (is_kind kind) (list_any (is_num_array kind) types) h.kind_is h.is_first))
    (λ kind. refl)

-- ---- entries after their tag

-- the tag of an entry, and the bytes after it
abbrev tag_of : TypeEntry → ℕ
tag_of (Class class) = 0
tag_of (RefArray element) = 1
tag_of (NumArray kind) = 2

abbrev untagged : TypeEntry → List ℕ
untagged (Class class) = class_bytes class
untagged (RefArray element) = u2 element
untagged (NumArray kind) = kind ∷ []

-- an entry with this tag
abbrev IsTagged : List TypeEntry → ℕ → TypeEntry → Type 0
IsTagged types tag entry = IsType types entry × (tag_of entry ≡ tag)

tagged_parts : (entry : TypeEntry) → tag_of entry ∷ untagged entry ≡ type_bytes entry
tagged_parts (Class class) = refl
tagged_parts (RefArray element) = refl
tagged_parts (NumArray kind) = refl

-- what was read is made an entry
abbrev into : {A : Type 0} → (A → TypeEntry) → A × List ℕ → Result (TypeEntry × List ℕ) FormRefusal
into make x = Ok (make x.0, x.1)

entry_again : {A : Type 0} {Is : A → Type 0} {bytes_of : A → List ℕ} {read : Reader A} (make : A → TypeEntry) (x : A) (rest : List ℕ) → Reads A Is bytes_of read → Is x → (read (bytes_of x ++ rest) >>= into make) ≡ Ok (make x, rest)
entry_again make x rest r h = then_ok (into make) _ (r.again x rest h) refl

tagged_again : (types : List TypeEntry) (entry : TypeEntry) (rest : List ℕ) → IsType types entry → tagged_at types (tag_of entry) (untagged entry ++ rest) ≡ Ok (entry, rest)
unfolding tagged_at
tagged_again types (Class class) rest h = entry_again (λ c. Class c) class rest (class_reads types) h
tagged_again types (RefArray element) rest h = entry_again (λ n. RefArray n) element rest (element_reads types) h
tagged_again types (NumArray kind) rest h = entry_again (λ n. NumArray n) kind rest (kind_reads types) h

entry_taken : {A : Type 0} {Is : A → Type 0} {bytes_of : A → List ℕ} {read : Reader A} (types : List TypeEntry) (tag : ℕ) (make : A → TypeEntry) → Reads A Is bytes_of read → ((x : A) → Is x → IsTagged types tag (make x)) → ((x : A) → bytes_of x ≡ untagged (make x))
    → (bytes : List ℕ) (y : TypeEntry × List ℕ) → IsBytes bytes → (read bytes >>= into make) ≡ Ok y → Taken TypeEntry (IsTagged types tag) untagged bytes y
entry_taken {read} types tag make r is text bytes y fits e =
    let b = bound (read bytes) (into make) y e in
    let t = r.taken bytes b.first fits b.first_is in
    subst (Taken TypeEntry (IsTagged types tag) untagged bytes) (ok_is (make b.first.0, b.first.1) y b.then_is) (record {
      is = is b.first.0 t.is;
      parts = t.parts ∙ ap (λ (prefix : List ℕ). prefix ++ b.first.1) (text b.first.0);
      rest_fits = t.rest_fits;
    })

-- one of two ways, by a test
by_test : {P : Type 0} {A : Type 0} (b : Bool) (x y : Result A FormRefusal) (z : A) → (b ≡ true → x ≡ Ok z → P) → (b ≡ false → y ≡ Ok z → P) → cond b x y ≡ Ok z → P
by_test true x y z f g e = f refl e
by_test false x y z f g e = g refl e

no_answer : {A : Type 0} (why : FormRefusal) (x : A) → Err why ≡ Ok x → ⊥
no_answer why x e = cc

tagged_taken : (types : List TypeEntry) (tag : ℕ) (bytes : List ℕ) (y : TypeEntry × List ℕ) → IsBytes bytes → tagged_at types tag bytes ≡ Ok y → Taken TypeEntry (IsTagged types tag) untagged bytes y
unfolding tagged_at
tagged_taken types tag bytes y fits =
    by_test (eqb tag 0) _ _ y
    (λ is. entry_taken types tag (λ c. Class c) (class_reads types) (λ class h. (h, sym (eqb-true _ _ is))) (λ class. refl) bytes y fits)
    (λ not_class.
    by_test (eqb tag 1) _ _ y
    (λ is. entry_taken types tag (λ n. RefArray n) (element_reads types) (λ element h. (h, sym (eqb-true _ _ is))) (λ element. refl) bytes y fits)
    (λ not_array.
    by_test (eqb tag 2) _ _ y
    (λ is. entry_taken types tag (λ n. NumArray n) (kind_reads types) (λ kind h. (h, sym (eqb-true _ _ is))) (λ kind. refl) bytes y fits)
    (λ other e. absurd (no_answer (in_this types) y e))))

cond_refuses : {A : Type 0} (b : Bool) (x y : Result A FormRefusal) → Refuses x → Refuses y → Refuses (cond b x y)
cond_refuses true x y h g = h
cond_refuses false x y h g = g

tagged_refuses : (types : List TypeEntry) (tag : ℕ) (bytes : List ℕ) → Refuses (tagged_at types tag bytes)
unfolding tagged_at
tagged_refuses types tag bytes =
    cond_refuses (eqb tag 0) _ _ (refuses_then (class_at types bytes) (into (λ c. Class c)) ((class_reads types).refuses bytes) (λ x. tt))
    (cond_refuses (eqb tag 1) _ _ (refuses_then (element_at types bytes) (into (λ n. RefArray n)) ((element_reads types).refuses bytes) (λ x. tt))
    (cond_refuses (eqb tag 2) _ _ (refuses_then (kind_at types bytes) (into (λ n. NumArray n)) ((kind_reads types).refuses bytes) (λ x. tt)) tt))

tagged_reads : (types : List TypeEntry) (tag : ℕ) → Reads TypeEntry (IsTagged types tag) untagged (tagged_at types tag)
tagged_reads types tag = record {
  again = λ entry rest h. ap (λ (t : ℕ). tagged_at types t (untagged entry ++ rest)) (sym h.1) ∙ tagged_again types entry rest h.0;
  taken = tagged_taken types tag;
  refuses = tagged_refuses types tag;
}

tag_fits : (entry : TypeEntry) → tag_of entry < 2 ^ 8
tag_fits (Class class) = omega arith
tag_fits (RefArray element) = omega arith
tag_fits (NumArray kind) = omega arith

pub type_reads : (types : List TypeEntry) → Reads TypeEntry (IsType types) type_bytes (type_at types)
unfolding type_at
type_reads types =
    Reads-as (field_reads tag_of (λ tag entry h. h.1) u1_reads (tagged_reads types)) (λ entry h. h.1.0) (λ entry h. (tag_fits entry, (h, refl))) tagged_parts

-- ---- the types

pub types_reads : Reads (List TypeEntry) (λ types. (length types ≤ most_types) × EachAfter IsType [] types) (counted type_bytes) types_at
unfolding types_at
types_reads = counted_reads type_reads (most_reads most_types (in_types 0) (omega arith) tt)
