-- Lists without a local twice, and the slots that locals have by such a list.
use Rattle.std.proofs.Common.{◌≡◌, inl, inr, ℕ, zero, suc, ◌+◌, ◌<◌, Bool, true, false, ◌&&◌, ◌||◌, not, nat_eq, nat_lt, cond, if◌then◌else◌, List, [], ◌∷◌, ◌++◌, map, filter, length, get_or, Option, Some, None, option_map, refl, sym, ap, ap₂, ◌∙◌, arith}
use Rattle.std.specs.Prelude.{position, slice_get, slice_set}
use Rattle.std.specs.List.{position_or_len, range_with_len}
use Rattle.std.proofs.lemmas.Bool.{cases_Bool, eqb-true}
use Rattle.std.proofs.lemmas.Bool.Decides.{nat_tests}
use Rattle.std.proofs.lemmas.List.{length-map}
use Rattle.std.proofs.lemmas.List.Folds.{list_any-append}
use Rattle.std.proofs.lemmas.List.Quantifiers.{position-Some}
use Rattle.std.proofs.lemmas.Option.{none-some, same_Some, slice_get-map, slice_get-get_or}
use Rattle.mote_model.specs.SplitMoves.{with_ref_at}
use Rattle.follow_operands.proofs.LocalRooms.{is_in, in_filter, or_second}

-- ---- no local twice

abbrev pub AreDistinct : List ℕ → Type 0
AreDistinct [] = Unit {0}
AreDistinct (local ∷ locals) = (is_in local locals ≡ false) × AreDistinct locals

below_range : (from count local : ℕ) → local < from → is_in local (range_with_len from count) ≡ false
below_range from zero local low = refl
below_range from (suc count) local low =
    let other : nat_eq from local ≡ false = grind (arith, nat_tests, low) in
    ap (λ (b : Bool). b || is_in local (range_with_len (from + 1) count)) other ∙ below_range (from + 1) count local (omega (arith, low))

pub distinct_range : (from count : ℕ) → AreDistinct (range_with_len from count)
distinct_range from zero = tt
distinct_range from (suc count) = (below_range (from + 1) count from (omega arith), distinct_range (from + 1) count)

pub and_none : (a b : Bool) → b ≡ false → (a && b) ≡ false
and_none true b is = is
and_none false b is = refl

distinct_one : (test : ℕ → Bool) (local : ℕ) (locals : List ℕ) → is_in local locals ≡ false → AreDistinct (filter test locals) → (is : Bool) → AreDistinct (cond is (local ∷ filter test locals) (filter test locals))
distinct_one test local locals once rest true = (in_filter test local locals ∙ and_none (test local) (is_in local locals) once, rest)
distinct_one test local locals once rest false = rest

pub distinct_filter : (test : ℕ → Bool) (locals : List ℕ) → AreDistinct locals → AreDistinct (filter test locals)
distinct_filter test [] distinct = tt
distinct_filter test (local ∷ locals) distinct = distinct_one test local locals distinct.0 (distinct_filter test locals distinct.1) (test local)

or_none : (a b : Bool) → a ≡ false → b ≡ false → (a || b) ≡ false
or_none a b p q = ap₂ (λ (x y : Bool). x || y) p q

same_is_in : (local : ℕ) → nat_eq local local ≡ true
same_is_in local = grind (arith, nat_tests)

pub distinct_both : (first second : List ℕ) → AreDistinct first → AreDistinct second → ((local : ℕ) → is_in local first ≡ true → is_in local second ≡ false) → AreDistinct (first ++ second)
distinct_both [] second distinct more apart = more
distinct_both (local ∷ first) second distinct more apart = (
  list_any-append (λ (other : ℕ). nat_eq other local) first second
      ∙ or_none (is_in local first) (is_in local second) distinct.0 (apart local (ap (λ (b : Bool). b || is_in local first) (same_is_in local))),
  distinct_both first second distinct.1 more (λ other is. apart other (or_second (nat_eq local other) (is_in other first) is)),
)

-- ---- slots

-- where a local stands in a list
abbrev pub place_in : List ℕ → ℕ → Option ℕ
place_in locals local = position (nat_eq local) locals

turned_test : (a b : ℕ) → nat_eq a b ≡ nat_eq b a
turned_test a b = grind (arith, nat_tests)

first_within : (local other : ℕ) (locals : List ℕ) → (is_in local locals ≡ true → position_or_len (nat_eq local) locals < length locals)
    → (is : Bool) → (is || is_in local locals) ≡ true → cond (not is) (1 + position_or_len (nat_eq local) locals) 0 < length (other ∷ locals)
first_within local other locals later true has = omega arith
first_within local other locals later false has = let within = later has in omega (arith, within)

within_list : (local : ℕ) (locals : List ℕ) → is_in local locals ≡ true → position_or_len (nat_eq local) locals < length locals
within_list local [] has = absurd cc
within_list local (other ∷ locals) has =
    first_within local other locals (within_list local locals) (nat_eq local other) (ap (λ (b : Bool). b || is_in local locals) (turned_test local other) ∙ has)

-- a local in the list has a place there
pub place_found : (locals : List ℕ) (local : ℕ) → is_in local locals ≡ true → place_in locals local ≡ Some (position_or_len (nat_eq local) locals)
place_found locals local has =
    let within = within_list local locals has in
    let test : nat_lt (position_or_len (nat_eq local) locals) (length locals) ≡ true = grind (arith, nat_tests, within) in
    ap (λ (b : Bool). cond b (Some (position_or_len (nat_eq local) locals)) None) test

pub place_lacks : (locals : List ℕ) (local : ℕ) → place_in locals local ≡ None → is_in local locals ≡ false
place_lacks locals local none =
    elim (cases_Bool (is_in local locals)) [
      | inl has ↦ absurd (none-some (position_or_len (nat_eq local) locals) (sym none ∙ place_found locals local has))
      | inr lacks ↦ lacks
    ]

-- what stands there is the local
pub local_there : (locals : List ℕ) (local slot : ℕ) → place_in locals local ≡ Some slot → (slot < length locals) × (get_or locals slot 0 ≡ local)
local_there locals local slot found =
    let is = position-Some (nat_eq local) locals slot 0 found in
    (is.0, sym (eqb-true local (get_or locals slot 0) is.1))

place_is : (locals : List ℕ) (local slot : ℕ) → (is : Bool) → cond is (Some (position_or_len (nat_eq local) locals)) None ≡ Some slot → position_or_len (nat_eq local) locals ≡ slot
place_is locals local slot true found = same_Some (position_or_len (nat_eq local) locals) slot found
place_is locals local slot false found = absurd (none-some slot found)

module _ {X : Type 0} (before : ℕ → X) where
  -- what the slots hold of a local is there
  pub read_slot : (locals : List ℕ) (local slot : ℕ) → place_in locals local ≡ Some slot → slice_get (map before locals) slot ≡ Some (before local)
  read_slot locals local slot found =
      let there = local_there locals local slot found in
      slice_get-map before locals slot
      ∙ ap (option_map before) (slice_get-get_or locals slot 0 there.0)
      ∙ ap (λ (l : ℕ). Some (before l)) there.1

  module _ (local : ℕ) (after : ℕ → X) (others : (other : ℕ) → nat_eq other local ≡ false → after other ≡ before other) where
    keeps_one : (other : ℕ) (locals : List ℕ) → (is_in local locals ≡ false → map before locals ≡ map after locals) → (is : Bool) → nat_eq other local ≡ is → (is || is_in local locals) ≡ false
        → map before (other ∷ locals) ≡ map after (other ∷ locals)
    keeps_one other locals later true is lacks = absurd cc
    keeps_one other locals later false is lacks = ap₂ (λ (x : X) (l : List X). x ∷ l) (sym (others other is)) (later lacks)

    -- where the local has no slot, they stay
    pub slots_kept : (locals : List ℕ) → is_in local locals ≡ false → map before locals ≡ map after locals
    slots_kept [] lacks = refl
    slots_kept (other ∷ locals) lacks = keeps_one other locals (slots_kept locals) (nat_eq other local) refl lacks

    sets_one : (other : ℕ) (locals : List ℕ) → is_in other locals ≡ false
        → (position_or_len (nat_eq local) locals < length locals → slice_set (map before locals) (position_or_len (nat_eq local) locals) (after local) ≡ map after locals)
        → (is : Bool) → nat_eq local other ≡ is → cond (not is) (1 + position_or_len (nat_eq local) locals) 0 < length (other ∷ locals)
        → slice_set (map before (other ∷ locals)) (cond (not is) (1 + position_or_len (nat_eq local) locals) 0) (after local) ≡ map after (other ∷ locals)
    sets_one other locals once later true is within =
        let same = eqb-true local other is in
        ap₂ (λ (x : X) (l : List X). x ∷ l) (ap after same) (slots_kept locals (ap (λ (l : ℕ). is_in l locals) same ∙ once))
    sets_one other locals once later false is within =
        let place = position_or_len (nat_eq local) locals in
        let more : 1 + place ≡ suc place = omega arith in
        let differs = turned_test other local ∙ is in
        ap (λ (n : ℕ). slice_set (before other ∷ map before locals) n (after local)) more
        ∙ ap₂ (λ (x : X) (l : List X). x ∷ l) (sym (others other differs)) (later (omega (arith, within)))

    sets : (locals : List ℕ) → AreDistinct locals → position_or_len (nat_eq local) locals < length locals
        → slice_set (map before locals) (position_or_len (nat_eq local) locals) (after local) ≡ map after locals
    sets [] distinct within = refl
    sets (other ∷ locals) distinct within = sets_one other locals distinct.0 (sets locals distinct.1) (nat_eq local other) refl within

    -- where it has one, it alone is set
    pub slot_set : (locals : List ℕ) → AreDistinct locals → (slot : ℕ) → place_in locals local ≡ Some slot → slice_set (map before locals) slot (after local) ≡ map after locals
    slot_set locals distinct slot found =
        let there = local_there locals local slot found in
        let is : position_or_len (nat_eq local) locals ≡ slot = place_is locals local slot (nat_lt (position_or_len (nat_eq local) locals) (length locals)) found in
        ap (λ (n : ℕ). slice_set (map before locals) n (after local)) (sym is) ∙ sets locals distinct (omega (arith, is, there.0))

-- references in slots are set
pub sets_reference : (before after : ℕ → Option ℕ) (local : ℕ) → ((other : ℕ) → nat_eq other local ≡ false → after other ≡ before other) → (locals : List ℕ) → AreDistinct locals
    → (slot : ℕ) → place_in locals local ≡ Some slot → with_ref_at (map before locals) slot (after local) ≡ Some (map after locals)
sets_reference before after local others locals distinct slot found =
    let there = local_there locals local slot found in
    let count = length-map locals before in
    let test : nat_lt slot (length (map before locals)) ≡ true = grind (arith, nat_tests, count, there.0) in
    ap (λ (b : Bool). if b then Some (slice_set (map before locals) slot (after local)) else None) test
    ∙ ap (λ (l : List (Option ℕ)). Some l) (slot_set before local after others locals distinct slot found)
