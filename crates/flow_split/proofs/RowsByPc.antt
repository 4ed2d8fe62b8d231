-- Rows by pc.
use Rattle.std.proofs.Common.{◌≡◌, ℕ, zero, suc, ◌<◌, ◌≤◌, Bool, true, false, cond, nat_eq, nat_lt, [], ◌∷◌, Option, Some, None, slice_get, ◌⊎◌, inl, inr, refl, sym, ap, ◌∙◌, arith}
use Rattle.std.specs.Prelude.{option_and_then, option_map, MatchBool}
use Rattle.std.specs.Option.{option_map_or}
use Rattle.std.specs.List.{count_by}
use Rattle.std.proofs.lemmas.Bool.Decides.{nat_tests}
use Rattle.std.proofs.lemmas.Option.{same_Some}
use Rattle.code_reach.specs.Reached.{RisesFrom}
use Rattle.body_form.specs.declared.types.VFrame.{VFrame}
use Rattle.type_table.specs.Types.{Rows, table_of}
use Rattle.flow_split.specs.Walks.{rows_before, IsRow}
use Rattle.flow_split.proofs.Counted.{one_if, count_cons}

abbrev is_below : ℕ → ℕ × VFrame → Bool
is_below pc row = nat_lt row.0 pc

-- no row is below where the first is not
none_below : (low pc : ℕ) (rows : Rows) → RisesFrom low rows → pc ≤ low → rows_before rows pc ≡ 0
none_below low pc [] rise le = refl
none_below low pc (row ∷ rows) rise le =
    let least = rise.0 in
    let here : nat_lt row.0 pc ≡ false = grind (arith, nat_tests, least, le) in
    omega (arith, count_cons (is_below pc) row rows, ap one_if here, none_below (suc row.0) pc rows rise.1 (omega (arith, le, least)))

some_below : (pc : ℕ) (row : ℕ × VFrame) (rows : Rows) → row.0 < pc → rows_before (row ∷ rows) pc ≡ suc (rows_before rows pc)
some_below pc row rows lt =
    let here : nat_lt row.0 pc ≡ true = grind (arith, nat_tests, lt) in
    omega (arith, count_cons (is_below pc) row rows, ap one_if here)

first_not : (pc : ℕ) (row : ℕ × VFrame) (rows : Rows) → RisesFrom (suc row.0) rows → pc ≤ row.0 → rows_before (row ∷ rows) pc ≡ 0
first_not pc row rows rise le = none_below row.0 pc (row ∷ rows) (omega arith, rise) le

cases_below : (a b : ℕ) → (a < b) ⊎ (b ≤ a)
cases_below a b = grind arith

-- ---- the rows below a pc are the first ones

none_first : (low pc : ℕ) (rows : Rows) → RisesFrom low rows → pc ≤ low → (index : ℕ) → option_map_or (is_below pc) (slice_get rows index) false ≡ false
none_first low pc [] rise le index = refl
none_first low pc (row ∷ rows) rise le zero = let least = rise.0 in grind (arith, nat_tests, least, le)
none_first low pc (row ∷ rows) rise le (suc index) = let least = rise.0 in none_first (suc row.0) pc rows rise.1 (omega (arith, le, least)) index

past_first : (pc : ℕ) (row : ℕ × VFrame) (rows : Rows) → row.0 < pc → ((k : ℕ) → option_map_or (is_below pc) (slice_get rows k) false ≡ nat_lt k (rows_before rows pc))
    → (index : ℕ) → option_map_or (is_below pc) (slice_get (row ∷ rows) index) false ≡ nat_lt index (rows_before (row ∷ rows) pc)
past_first pc row rows lt rest zero = let more = some_below pc row rows lt in grind (arith, nat_tests, lt, more)
past_first pc row rows lt rest (suc index) = let more = some_below pc row rows lt in let same = rest index in same ∙ grind (arith, nat_tests, more)

pub below_first : (low pc : ℕ) (rows : Rows) → RisesFrom low rows → (index : ℕ) → option_map_or (is_below pc) (slice_get rows index) false ≡ nat_lt index (rows_before rows pc)
below_first low pc [] rise index = grind (arith, nat_tests)
below_first low pc (row ∷ rows) rise index =
    elim (cases_below row.0 pc) [
      | inl lt ↦ past_first pc row rows lt (below_first (suc row.0) pc rows rise.1) index
      | inr le ↦
          let none : nat_lt index 0 ≡ false = grind (arith, nat_tests) in
          none_first row.0 pc (row ∷ rows) (omega arith, rise.1) le index ∙ sym none ∙ sym (ap (nat_lt index) (first_not pc row rows rise.1 le))
    ]

-- ---- the frame of a pc

none_later : (low pc : ℕ) (rows : Rows) → RisesFrom low rows → pc < low → table_of rows pc ≡ None
unfolding table_of
none_later low pc [] rise lt = refl
none_later low pc (row ∷ rows) rise lt =
    let least = rise.0 in
    let other : nat_eq row.0 pc ≡ false = grind (arith, nat_tests, least, lt) in
    ap (λ b. cond b (Some row.1) (table_of rows pc)) other ∙ none_later (suc row.0) pc rows rise.1 (omega (arith, lt, least))

-- the frame of the row with the pc
abbrev pub frame_with : ℕ → ℕ × VFrame → Option VFrame
frame_with pc row = cond (nat_eq row.0 pc) (Some row.1) None

-- the frame of a pc is that of the first row which is not below it, where its pc is this one
pub table_at : (low pc : ℕ) (rows : Rows) → RisesFrom low rows → table_of rows pc ≡ option_and_then (frame_with pc) (slice_get rows (rows_before rows pc))
unfolding table_of
table_at low pc [] rise = refl
table_at low pc (row ∷ rows) rise =
    elim (cases_below row.0 pc) [
      | inl lt ↦
          let other : nat_eq row.0 pc ≡ false = grind (arith, nat_tests, lt) in
          ap (λ b. cond b (Some row.1) (table_of rows pc)) other ∙ table_at (suc row.0) pc rows rise.1
          ∙ ap (λ k. option_and_then (frame_with pc) (slice_get (row ∷ rows) k)) (sym (some_below pc row rows lt))
      | inr le ↦
          ap (λ o. cond (nat_eq row.0 pc) (Some row.1) o) (none_later (suc row.0) pc rows rise.1 (omega (arith, le)))
          ∙ ap (λ k. option_and_then (frame_with pc) (slice_get (row ∷ rows) k)) (sym (first_not pc row rows rise.1 le))
    ]

-- the frame of a row is that of its pc
pub row_found : (low : ℕ) (rows : Rows) → RisesFrom low rows → (index pc : ℕ) (frame : VFrame) → slice_get rows index ≡ Some (pc, frame) → table_of rows pc ≡ Some frame
unfolding table_of
row_found low [] rise index pc frame found = absurd (grind (arith, found))
row_found low (row ∷ rows) rise zero pc frame found =
    let same : row ≡ (pc, frame) = same_Some row (pc, frame) found in
    let here : nat_eq row.0 pc ≡ true = grind (arith, nat_tests, ap (λ (r : ℕ × VFrame). r.0) same) in
    ap (λ b. cond b (Some row.1) (table_of rows pc)) here ∙ ap (λ (r : ℕ × VFrame). Some r.1) same
row_found low (row ∷ rows) rise (suc index) pc frame found =
    let later = at_least (suc row.0) rows rise.1 index pc frame found in
    let other : nat_eq row.0 pc ≡ false = grind (arith, nat_tests, later) in
    ap (λ b. cond b (Some row.1) (table_of rows pc)) other ∙ row_found (suc row.0) rows rise.1 index pc frame found
  where
    at_least : (low : ℕ) (rows : Rows) → RisesFrom low rows → (index pc : ℕ) (frame : VFrame) → slice_get rows index ≡ Some (pc, frame) → low ≤ pc
    at_least low [] rise index pc frame found = absurd (grind (arith, found))
    at_least low (row ∷ rows) rise zero pc frame found =
        let same : row ≡ (pc, frame) = same_Some row (pc, frame) found in
        let least = rise.0 in
        omega (arith, least, ap (λ (r : ℕ × VFrame). r.0) same)
    at_least low (row ∷ rows) rise (suc index) pc frame found =
        let least = rise.0 in
        let later = at_least (suc row.0) rows rise.1 index pc frame found in
        omega (arith, least, later)

row_from : (rows : Rows) (index pc : ℕ) (row : Option (ℕ × VFrame)) (is : Bool) → slice_get rows index ≡ row → table_of rows pc ≡ option_and_then (frame_with pc) row → is ≡ option_map_or (λ (r : ℕ × VFrame). nat_eq r.0 pc) row false
    → MatchBool is (IsRow rows index pc) (table_of rows pc ≡ None)
row_from rows index pc None true found known same = absurd (grind (arith, same))
row_from rows index pc None false found known same = known
row_from rows index pc (Some row) true found known same =
    let here : row.0 ≡ pc = grind (arith, nat_tests, same) in
    record {
      frame = row.1;
      found = found ∙ ap (λ n. Some (n, row.1)) here;
      known = known ∙ ap (λ b. cond b (Some row.1) None) (sym same);
    }
row_from rows index pc (Some row) false found known same = known ∙ ap (λ b. cond b (Some row.1) None) (sym same)

pcs_known : (pc : ℕ) (row : Option (ℕ × VFrame)) → option_map_or (λ (r : ℕ × VFrame). nat_eq r.0 pc) row false ≡ option_map_or (λ at. nat_eq at pc) (option_map (λ (r : ℕ × VFrame). r.0) row) false
pcs_known pc None = refl
pcs_known pc (Some row) = refl

-- the first row that is not below a pc is that of the pc, or there is none
pub row_at : (rows : Rows) → RisesFrom 0 rows → (index pc : ℕ) → index ≡ rows_before rows pc → (is : Bool) → is ≡ option_map_or (λ at. nat_eq at pc) (option_map (λ (r : ℕ × VFrame). r.0) (slice_get rows index)) false
    → MatchBool is (IsRow rows index pc) (table_of rows pc ≡ None)
row_at rows rise index pc at is same =
    row_from rows index pc (slice_get rows index) is refl (table_at 0 pc rows rise ∙ ap (λ k. option_and_then (frame_with pc) (slice_get rows k)) (sym at)) (same ∙ sym (pcs_known pc (slice_get rows index)))

count_le : (p q : ℕ × VFrame → Bool) (rows : Rows) → ((row : ℕ × VFrame) → p row ≡ true → q row ≡ true) → count_by p rows ≤ count_by q rows
count_le p q [] more = omega arith
count_le p q (row ∷ rows) more =
    omega (arith, count_cons p row rows, count_cons q row rows, one_le (p row) (q row) (more row), count_le p q rows more)
  where
    one_le : (a b : Bool) → (a ≡ true → b ≡ true) → cond {A = ℕ} a 1 0 ≤ cond {A = ℕ} b 1 0
    one_le true true more = omega arith
    one_le true false more = absurd (grind (arith, more refl))
    one_le false true more = omega arith
    one_le false false more = omega arith

-- more rows are below a higher pc
pub before_higher : (rows : Rows) (pc higher : ℕ) → pc ≤ higher → rows_before rows pc ≤ rows_before rows higher
before_higher rows pc higher le = count_le (is_below pc) (is_below higher) rows (λ row lt. grind (arith, nat_tests, lt, le))
