-- Lists of names: the names below a count, the names that pass a test, and what tests that agree find.
use Rattle.std.proofs.Common.{◌≡◌, ℕ, ◌+◌, zero, suc, ◌<◌, ◌≤◌, zero-le, inl, inr, Bool, true, false, cond, nat_eq, ◌||◌, List, [], ◌∷◌, filter, length, refl, sym, ap, ◌∙◌, arith}
use Rattle.std.specs.List.{list_any, range_with_len, sum_by}
use Rattle.std.proofs.lemmas.Bool.{eqb-true, eq-eqb, or_cases, or_left, or_right, cases_eq}
use Rattle.std.proofs.lemmas.List.Sums.{sum_by-cons}
use Rattle.account.specs.Reachable.{is_among}

head_among : (name : ℕ) (names : List ℕ) → is_among name (name ∷ names) ≡ true
head_among name names = or_left (nat_eq name name) (is_among name names) (eq-eqb name name refl)

tail_among : (name head : ℕ) (names : List ℕ) → is_among name names ≡ true → is_among name (head ∷ names) ≡ true
tail_among name head names e = or_right (nat_eq name head) (is_among name names) e

-- ---- the names below a count

pub any_in_range : (test : ℕ → Bool) (from count : ℕ) → list_any test (range_with_len from count) ≡ true → (name : ℕ) × (name < from + count) × (test name ≡ true)
any_in_range test from zero e = absurd cc
any_in_range test from (suc count) e =
    elim (or_cases (test from) (list_any test (range_with_len (from + 1) count)) e) [
      | inl here ↦ (from, omega arith, here)
      | inr later ↦ let found = any_in_range test (from + 1) count later in (found.0, omega arith, found.2)
    ]

pub range_has_any : (test : ℕ → Bool) (from count name : ℕ) → from ≤ name → name < from + count → test name ≡ true → list_any test (range_with_len from count) ≡ true
range_has_any test from zero name low high e = absurd (omega arith)
range_has_any test from (suc count) name low high e =
    let rest = list_any test (range_with_len (from + 1) count) in
    elim (cases_eq from name) [
      | inl same ↦ or_left (test from) rest (ap test same ∙ e)
      | inr apart ↦ or_right (test from) rest (range_has_any test (from + 1) count name (omega arith) (omega arith) e)
    ]

pub below-among : (name count : ℕ) → is_among name (range_with_len 0 count) ≡ true → name < count
below-among name count e =
    let found = any_in_range (nat_eq name) 0 count e in
    let same = eqb-true name found.0 found.2 in
    omega arith

pub among-below : (name count : ℕ) → name < count → is_among name (range_with_len 0 count) ≡ true
among-below name count low = range_has_any (nat_eq name) 0 count name zero-le (omega arith) (eq-eqb name name refl)

-- ---- the names that pass a test

module _ (test : ℕ → Bool) where
  passes_first : (name head : ℕ) (names : List ℕ) (passes : Bool) → test head ≡ passes → (is_among name (filter test names) ≡ true → (is_among name names ≡ true) × (test name ≡ true))
      → is_among name (cond passes (head ∷ filter test names) (filter test names)) ≡ true → (is_among name (head ∷ names) ≡ true) × (test name ≡ true)
  passes_first name head names true is later e =
      elim (or_cases (nat_eq name head) (is_among name (filter test names)) e) [
        | inl here ↦ (or_left (nat_eq name head) (is_among name names) here, ap test (eqb-true name head here) ∙ is)
        | inr there ↦ let found = later there in (tail_among name head names found.0, found.1)
      ]
  passes_first name head names false is later e = let found = later e in (tail_among name head names found.0, found.1)

  pub among-filter : (name : ℕ) (names : List ℕ) → is_among name (filter test names) ≡ true → (is_among name names ≡ true) × (test name ≡ true)
  among-filter name [] e = absurd cc
  among-filter name (head ∷ names) e = passes_first name head names (test head) refl (among-filter name names) e

  kept_first : (name head : ℕ) (names : List ℕ) (passes : Bool) → test head ≡ passes → test name ≡ true → (is_among name names ≡ true → is_among name (filter test names) ≡ true)
      → is_among name (head ∷ names) ≡ true → is_among name (cond passes (head ∷ filter test names) (filter test names)) ≡ true
  kept_first name head names true is passes later e =
      elim (or_cases (nat_eq name head) (is_among name names) e) [
        | inl here ↦ or_left (nat_eq name head) (is_among name (filter test names)) here
        | inr there ↦ tail_among name head (filter test names) (later there)
      ]
  kept_first name head names false is passes later e =
      elim (or_cases (nat_eq name head) (is_among name names) e) [
        | inl here ↦ let same = ap test (eqb-true name head here) in absurd cc
        | inr there ↦ later there
      ]

  pub filter-among : (name : ℕ) (names : List ℕ) → is_among name names ≡ true → test name ≡ true → is_among name (filter test names) ≡ true
  filter-among name [] e passes = absurd cc
  filter-among name (head ∷ names) e passes = kept_first name head names (test head) refl passes (λ there. filter-among name names there passes) e

  no_longer : (head : ℕ) (kept names : List ℕ) (passes : Bool) → length kept ≤ length names → length (cond passes (head ∷ kept) kept) ≤ length (head ∷ names)
  no_longer head kept names true below = omega arith
  no_longer head kept names false below = omega arith

  pub length-filter-le : (names : List ℕ) → length (filter test names) ≤ length names
  length-filter-le [] = zero-le
  length-filter-le (head ∷ names) = no_longer head (filter test names) names (test head) (length-filter-le names)

-- ---- a test that passes what another one passes

module _ (test wider : ℕ → Bool) (passes_more : (name : ℕ) → test name ≡ true → wider name ≡ true) where
  no_fewer : (head : ℕ) (kept more : List ℕ) (passes passes_wider : Bool) → (passes ≡ true → passes_wider ≡ true) → length kept ≤ length more → length (cond passes (head ∷ kept) kept) ≤ length (cond passes_wider (head ∷ more) more)
  no_fewer head kept more true true follows below = omega arith
  no_fewer head kept more true false follows below = let e = follows refl in absurd cc
  no_fewer head kept more false true follows below = omega arith
  no_fewer head kept more false false follows below = below

  no_fewer_pass : (names : List ℕ) → length (filter test names) ≤ length (filter wider names)
  no_fewer_pass [] = zero-le
  no_fewer_pass (head ∷ names) = no_fewer head (filter test names) (filter wider names) (test head) (wider head) (passes_more head) (no_fewer_pass names)

  -- where no more pass, the head passes both or neither, and no more of the others pass
  no_more : (head : ℕ) (kept more : List ℕ) (passes passes_wider : Bool) → (passes ≡ true → passes_wider ≡ true) → length kept ≤ length more → length (cond passes_wider (head ∷ more) more) ≤ length (cond passes (head ∷ kept) kept)
      → (passes_wider ≡ true → passes ≡ true) × (length more ≤ length kept)
  no_more head kept more true true follows below above = (λ e. refl, omega arith)
  no_more head kept more true false follows below above = let e = follows refl in absurd cc
  no_more head kept more false true follows below above = absurd (omega arith)
  no_more head kept more false false follows below above = (λ e. e, above)

  -- where no more names pass it, the same ones do
  pub same_pass : (names : List ℕ) → length (filter wider names) ≤ length (filter test names) → (name : ℕ) → is_among name names ≡ true → wider name ≡ true → test name ≡ true
  same_pass [] above name among passes = absurd cc
  same_pass (head ∷ names) above name among passes =
      let parts = no_more head (filter test names) (filter wider names) (test head) (wider head) (passes_more head) (no_fewer_pass names) above in
      elim (or_cases (nat_eq name head) (is_among name names) among) [
        | inl here ↦ let same = eqb-true name head here in ap test same ∙ parts.0 (sym (ap wider same) ∙ passes)
        | inr there ↦ same_pass names parts.1 name there passes
      ]

-- ---- what agrees on names

pub list_any-agree : (test other : ℕ → Bool) (names : List ℕ) → ((name : ℕ) → is_among name names ≡ true → test name ≡ other name) → list_any test names ≡ list_any other names
list_any-agree test other [] agree = refl
list_any-agree test other (head ∷ names) agree =
    ap (λ first. first || list_any test names) (agree head (head_among head names))
    ∙ ap (λ rest. other head || rest) (list_any-agree test other names (λ name e. agree name (tail_among name head names e)))

pub sum_by-agree : (size other : ℕ → ℕ) (names : List ℕ) → ((name : ℕ) → is_among name names ≡ true → size name ≡ other name) → sum_by size names ≡ sum_by other names
sum_by-agree size other [] agree = refl
sum_by-agree size other (head ∷ names) agree =
    sum_by-cons size head names
    ∙ ap (λ first. first + sum_by size names) (agree head (head_among head names))
    ∙ ap (λ rest. other head + rest) (sum_by-agree size other names (λ name e. agree name (tail_among name head names e)))
    ∙ sym (sum_by-cons other head names)
