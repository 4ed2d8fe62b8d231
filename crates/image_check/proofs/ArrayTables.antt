-- The table of dimensions, type by type.
use Rattle.std.proofs.Common.{◌≡◌, ℕ, zero, suc, ◌+◌, ◌-◌, ◌<◌, ◌≤◌, min, true, false, ◌&&◌, nat_lt, nat_le, cond, List, [], ◌∷◌, ◌++◌, length, get_or, slice_get, unwrap_or, Option, Some, None, inl, inr, refl, sym, ap, subst, ◌∙◌, arith, rules}
use Rattle.std.proofs.lemmas.Bool.{le-ltb, lt-ltb, cases_lt}
use Rattle.std.proofs.lemmas.List.{length-append, get_or_past}
use Rattle.std.proofs.lemmas.Option.{slice_get_past}
use Rattle.std.proofs.Math.Dec.{leb-suc-zero}
use Rattle.std.proofs.Math.ListN.{get_or-append}
use Rattle.std.proofs.Math.Seq.{get_or-append_seam}
use Rattle.image_form.specs.Library.{names_type}
use Rattle.image_form.specs.Grammar.{EachAfter, IsType}
use Rattle.image_form.specs.declared.record.TypeEntry.{TypeEntry}
use Rattle.image_form.specs.declared.record.TypeEntry.TheVariants.{Class, RefArray, NumArray}
use Rattle.image_check.specs.Ids.{is_array_entry, names_array, element_entry, element_of, has_dimensions}
use Rattle.image_check.specs.Dimensions.{dimensions_in, dimensions_after, AreDimensions}

-- ---- one dimension at a time

array_at : (types : List TypeEntry) (id : ℕ) (entry : Option TypeEntry) → 32 ≤ id → slice_get types (id - 32) ≡ entry → names_array types id ≡ is_array_entry entry
array_at types id entry ge is = ap (λ b. cond b false (is_array_entry (slice_get types (id - 32)))) (le-ltb id 32 ge) ∙ ap is_array_entry is

element_at : (types : List TypeEntry) (id : ℕ) (entry : Option TypeEntry) → 32 ≤ id → slice_get types (id - 32) ≡ entry → element_of types id ≡ element_entry entry
element_at types id entry ge is = ap (λ b. cond b 0 (element_entry (slice_get types (id - 32)))) (le-ltb id 32 ge) ∙ ap element_entry is

one_dimension : (types : List TypeEntry) (dimensions id : ℕ) (entry : Option TypeEntry) → 32 ≤ id → slice_get types (id - 32) ≡ entry
    → has_dimensions types (suc dimensions) id ≡ (is_array_entry entry && has_dimensions types dimensions (element_entry entry))
unfolding has_dimensions
one_dimension types dimensions id entry ge is = rw (array_at types id entry ge is, element_at types id entry ge is) refl

no_dimension : (types : List TypeEntry) (id count : ℕ) → has_dimensions types 0 id ≡ nat_le 0 count
unfolding has_dimensions
no_dimension types id count = search rules

one_more : (dimensions : ℕ) → nat_le dimensions 0 ≡ nat_le (suc dimensions) 1
one_more dimensions = grind arith

capped : (dimensions count : ℕ) → suc dimensions ≤ 255 → nat_le dimensions count ≡ nat_le (suc dimensions) (min (count + 1) 255)
capped dimensions count le = grind arith

-- ---- the table so far

-- the table decides the ids up to this one
abbrev pub DecidesTo : List TypeEntry → List ℕ → ℕ → Type 0
DecidesTo types table most = (dimensions id : ℕ) → dimensions ≤ 255 → id < most → has_dimensions types dimensions id ≡ nat_le dimensions (dimensions_in table id)

-- the elements of an array type are of a type up to this one
abbrev pub IsNamedBefore : ℕ → TypeEntry → Type 0
IsNamedBefore most entry = (element : ℕ) → entry ≡ RefArray element → element < most

decides_library : (types : List TypeEntry) → DecidesTo types [] 32
unfolding has_dimensions
decides_library types zero id le lt = search rules
decides_library types (suc dimensions) id le lt = search rules

pub decides_empty : (types : List TypeEntry) (table : List ℕ) → table ≡ [] → DecidesTo types table 32
decides_empty types table none = subst (λ xs. DecidesTo types xs 32) (sym none) (decides_library types)

decides_entry : (types : List TypeEntry) (table : List ℕ) (id : ℕ) (entry : TypeEntry) → 32 ≤ id → slice_get types (id - 32) ≡ Some entry → IsNamedBefore id entry → DecidesTo types table id
    → (dimensions : ℕ) → dimensions ≤ 255 → has_dimensions types dimensions id ≡ nat_le dimensions (dimensions_after table entry)
decides_entry types table id entry ge is before done zero le = no_dimension types id (dimensions_after table entry)
decides_entry types table id (Class class) ge is before done (suc dimensions) le = one_dimension types dimensions id (Some (Class class)) ge is ∙ sym (leb-suc-zero dimensions)
decides_entry types table id (RefArray element) ge is before done (suc dimensions) le =
    one_dimension types dimensions id (Some (RefArray element)) ge is ∙ done dimensions element (omega (arith, le)) (before element refl) ∙ capped dimensions (dimensions_in table element) le
decides_entry types table id (NumArray kind) ge is before done (suc dimensions) le =
    one_dimension types dimensions id (Some (NumArray kind)) ge is ∙ done dimensions 0 (omega (arith, le)) (omega (arith, ge)) ∙ one_more dimensions

-- ---- places in the table

earlier : (table : List ℕ) (new id : ℕ) → id < 32 + length table → dimensions_in (table ++ new ∷ []) id ≡ dimensions_in table id
earlier table new id lt =
    elim (cases_lt id 32) [
      | inl less ↦ ap (λ b. cond b 0 (get_or (table ++ new ∷ []) (id - 32) 0)) (lt-ltb id 32 less) ∙ sym (ap (λ b. cond b 0 (get_or table (id - 32) 0)) (lt-ltb id 32 less))
      | inr more ↦ ap (cond (nat_lt id 32) 0) (get_or-append table (new ∷ []) 0 (id - 32) (omega (arith, lt, more)))
    ]

own : (table : List ℕ) (id : ℕ) → 32 ≤ id → dimensions_in table id ≡ get_or table (id - 32) 0
own table id ge = ap (λ b. cond b 0 (get_or table (id - 32) 0)) (le-ltb id 32 ge)

pushed : (table : List ℕ) (new id : ℕ) → 32 ≤ id → id - 32 ≡ length table → dimensions_in (table ++ new ∷ []) id ≡ new
pushed table new id ge back = own (table ++ new ∷ []) id ge ∙ ap (λ n. get_or (table ++ new ∷ []) n 0) back ∙ get_or-append_seam table new [] 0

decides_past : (types : List TypeEntry) (table : List ℕ) (id : ℕ) → 32 ≤ id → length types ≤ id - 32 → length table ≤ id - 32 → (dimensions : ℕ) → has_dimensions types dimensions id ≡ nat_le dimensions (dimensions_in table id)
decides_past types table id ge past after zero = no_dimension types id (dimensions_in table id)
decides_past types table id ge past after (suc dimensions) =
    one_dimension types dimensions id None ge (slice_get_past types (id - 32) past)
    ∙ sym (leb-suc-zero dimensions)
    ∙ sym (ap (nat_le (suc dimensions)) (own table id ge ∙ get_or_past table (id - 32) 0 after))

-- the table with one more type
pub decides_more : (types : List TypeEntry) (table : List ℕ) (index : ℕ) (entry : TypeEntry) → length table ≡ index → slice_get types index ≡ Some entry → IsNamedBefore (32 + index) entry → DecidesTo types table (32 + index)
    → DecidesTo types (table ++ dimensions_after table entry ∷ []) (32 + (index + 1))
decides_more types table index entry many is before done dimensions id le lt =
    let new = dimensions_after table entry in
    elim (cases_lt id (32 + index)) [
      | inl less ↦ done dimensions id le less ∙ ap (nat_le dimensions) (sym (earlier table new id (omega (arith, many, less))))
      | inr more ↦
          let e : id ≡ 32 + index = omega (arith, lt, more) in
          let back : id - 32 ≡ length table = omega (arith, e, many) in
          let here : slice_get types (id - 32) ≡ Some entry = rw back (rw many is) in
          decides_entry types table id entry (omega (arith, more)) here (subst (λ most. IsNamedBefore most entry) (sym e) before) (subst (λ most. DecidesTo types table most) (sym e) done) dimensions le
          ∙ ap (nat_le dimensions) (sym (pushed table new id (omega (arith, more)) back))
    ]

-- the whole table
pub decides_all : (types : List TypeEntry) (table : List ℕ) (index : ℕ) → length types ≤ index → length table ≡ index → DecidesTo types table (32 + index) → AreDimensions types table
decides_all types table index whole many done dimensions id le =
    elim (cases_lt id (32 + index)) [
      | inl less ↦ done dimensions id le less
      | inr more ↦ decides_past types table id (omega (arith, more)) (omega (arith, more, whole)) (omega (arith, more, many)) dimensions
    ]

-- ---- the order of the types

named_before : (types : List TypeEntry) (element : ℕ) → names_type types element ≡ true → element < 32 + length types
named_before types element named = search rules

same_entry : (a b : TypeEntry) → Some a ≡ Some b → a ≡ b
same_entry a b e = ap (λ o. unwrap_or o a) e

named_at : (before : List TypeEntry) (type entry : TypeEntry) → IsType before type → Some type ≡ Some entry → IsNamedBefore (32 + (length before + 0)) entry
named_at before (Class class) entry here is element e = search rules
named_at before (NumArray kind) entry here is element e = search rules
named_at before (RefArray of) entry here is element e =
    let same : of ≡ element = ap (λ t. element_entry (Some t)) (same_entry (RefArray of) entry is ∙ e) in
    subst (λ n. n < 32 + (length before + 0)) same (omega (arith, named_before before of here.element_is))

each_named_before : (before types : List TypeEntry) → EachAfter IsType before types → (index : ℕ) (entry : TypeEntry) → slice_get types index ≡ Some entry → IsNamedBefore (32 + (length before + index)) entry
each_named_before before [] each index entry is = cc
each_named_before before (type ∷ types) each zero entry is = named_at before type entry each.0 is
each_named_before before (type ∷ types) each (suc index) entry is =
    let e : length (before ++ type ∷ []) + index ≡ length before + suc index = ap (λ n. n + index) (length-append before (type ∷ [])) ∙ omega arith in
    subst (λ n. IsNamedBefore (32 + n) entry) e (each_named_before (before ++ type ∷ []) types each.1 index entry is)

-- the same from the first type on
pub first_named_before : (types : List TypeEntry) → EachAfter IsType [] types → (index : ℕ) (entry : TypeEntry) → slice_get types index ≡ Some entry → IsNamedBefore (32 + index) entry
first_named_before types each index entry is =
    let e : 0 + index ≡ index = omega arith in
    subst (λ n. IsNamedBefore (32 + n) entry) e (each_named_before [] types each index entry is)
