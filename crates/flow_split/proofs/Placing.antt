-- Where a local stands among those that have rooms, and among those that take places.
use Rattle.std.proofs.Common.{◌≡◌, ℕ, ◌+◌, ◌<◌, Bool, true, false, cond, nat_lt, List, [], ◌∷◌, ◌++◌, map, length, get_or, Option, Some, None, refl, sym, ap, ◌∙◌, arith}
use Rattle.std.specs.List.{range_with_len, sum_by}
use Rattle.std.proofs.lemmas.Bool.{false≢true}
use Rattle.std.proofs.lemmas.Bool.Decides.{nat_tests}
use Rattle.std.proofs.lemmas.List.{append-nil}
use Rattle.std.proofs.lemmas.List.FromFn.{length-map-range_with_len, get_or-map-range_with_len, take-map-range_with_len, fill_by_all}
use Rattle.std.proofs.lemmas.List.Sums.{sum_by-cons}
use Rattle.flow_split.specs.declared.shares.Share.{Share}
use Rattle.jvm_model.specs.WidthsSlots.{Room, room_cells, first_cell}
use Rattle.flow_split.specs.Shares.{passed_in, extended_in, stored_in, total_in, first_position, position_at, positions_of}
use Rattle.flow_split.proofs.RoomsFound.{rooms_where, cells_where, skipped, found}

-- ---- where a local is placed

pub then_case : {X : Type 0} (b : Bool) (x y : X) → b ≡ true → cond b x y ≡ x
then_case true x y is = refl
then_case false x y is = absurd (false≢true is)

pub else_case : {X : Type 0} (b : Bool) (x y : X) → b ≡ false → cond b x y ≡ y
else_case false x y is = refl
else_case true x y is = absurd (false≢true (sym is))

pub some : (n : ℕ) → 0 < n → nat_lt 0 n ≡ true
some n is = grind (arith, nat_tests)

no_more : (n : ℕ) → n ≡ 0 → nat_lt 0 n ≡ false
no_more n is = grind (arith, nat_tests)

module _ (passed extended : ℕ) (before : List Share) (taken : Share) where
  place_extended : 0 < taken.extended → first_position passed extended before taken ≡ Some (passed + extended_in before)
  place_extended is = then_case (nat_lt 0 taken.extended) _ _ (some taken.extended is)

  place_stored : taken.extended ≡ 0 → 0 < taken.stored → first_position passed extended before taken ≡ Some ((passed + extended) + stored_in before)
  place_stored none is = else_case (nat_lt 0 taken.extended) _ _ (no_more taken.extended none) ∙ then_case (nat_lt 0 taken.stored) _ _ (some taken.stored is)

  place_passed : taken.extended ≡ 0 → taken.stored ≡ 0 → 0 < taken.passed → first_position passed extended before taken ≡ Some (passed_in before)
  place_passed none neither is =
      else_case (nat_lt 0 taken.extended) _ _ (no_more taken.extended none) ∙ else_case (nat_lt 0 taken.stored) _ _ (no_more taken.stored neither)
      ∙ then_case (nat_lt 0 taken.passed) _ _ (some taken.passed is)

  place_none : taken.extended ≡ 0 → taken.stored ≡ 0 → taken.passed ≡ 0 → first_position passed extended before taken ≡ None
  place_none none neither nor =
      else_case (nat_lt 0 taken.extended) _ _ (no_more taken.extended none) ∙ else_case (nat_lt 0 taken.stored) _ _ (no_more taken.stored neither)
      ∙ else_case (nat_lt 0 taken.passed) _ _ (no_more taken.passed nor)

-- ---- what locals take in all

sum_of : {X : Type 0} (which : X → ℕ) (share_of : ℕ → X) (test : ℕ → Bool) (size : ℕ → ℕ) → ((local : ℕ) → which (share_of local) ≡ cond (test local) (size local) 0)
    → (locals : List ℕ) → sum_by which (map share_of locals) ≡ room_cells (rooms_where test size locals)
sum_of which share_of test size same [] = refl
sum_of which share_of test size same (local ∷ locals) =
    sum_by-cons which (share_of local) (map share_of locals)
    ∙ ap (λ n. n + sum_by which (map share_of locals)) (same local)
    ∙ ap (λ n. cond (test local) (size local) 0 + n) (sum_of which share_of test size same locals ∙ cells_where test size locals)
    ∙ sym (sum_by-cons (λ l. cond (test l) (size l) 0) local locals)
    ∙ sym (cells_where test size (local ∷ locals))

-- the locals that take places of a kind are those that pass, and each of them takes some
pub record Takes (share_of : ℕ → Share) (which : Share → ℕ) (test : ℕ → Bool) (size : ℕ → ℕ) : Type 0 where
  pub same : (local : ℕ) → which (share_of local) ≡ cond (test local) (size local) 0
  pub some : (local : ℕ) → test local ≡ true → 0 < size local

takes_some : {share_of : ℕ → Share} {which : Share → ℕ} {test : ℕ → Bool} {size : ℕ → ℕ} → Takes share_of which test size → (local : ℕ) → test local ≡ true → 0 < which (share_of local)
takes_some {share_of} {which} {test} {size} takes local passes =
    let is = takes.same local ∙ then_case (test local) (size local) 0 passes in
    omega (arith, is, takes.some local passes)

takes_none : {share_of : ℕ → Share} {which : Share → ℕ} {test : ℕ → Bool} {size : ℕ → ℕ} → Takes share_of which test size → (local : ℕ) → test local ≡ false → which (share_of local) ≡ 0
takes_none {share_of} {which} {test} {size} takes local fails = takes.same local ∙ else_case (test local) (size local) 0 fails

module _ (share_of : ℕ → Share) (count : ℕ) where
  abbrev all : List Share
  all = map share_of (range_with_len 0 count)

  abbrev before : ℕ → List Share
  before local = map share_of (range_with_len 0 local)

  -- the place of a local is that after those before it
  pub place_is : (local : ℕ) → local < count → position_at all local ≡ first_position (passed_in all) (extended_in all) (before local) (share_of local)
  place_is local within =
      ap (λ (list : List Share). first_position (passed_in all) (extended_in all) list (get_or all local (record { passed = 0; extended = 0; stored = 0 }))) (take-map-range_with_len share_of 0 count local (omega arith))
      ∙ ap (first_position (passed_in all) (extended_in all) (before local)) (get_or-map-range_with_len share_of 0 count local local (record { passed = 0; extended = 0; stored = 0 }) within (omega arith))

  -- the places are these where each local has its own
  pub places_are : (place : ℕ → Option ℕ) → ((local : ℕ) → local < count → position_at all local ≡ place local) → positions_of all ≡ map place (range_with_len 0 count)
  places_are place each =
      let long = length-map-range_with_len share_of 0 count in
      fill_by_all place (positions_of all) count None (length-map-range_with_len (position_at all) 0 (length all) ∙ long) (λ local within.
      get_or-map-range_with_len (position_at all) 0 (length all) local local None (omega (arith, long, within)) (omega arith) ∙ each local within)

  module _ {passes is_extended is_stored : ℕ → Bool} {passed_size extended_size stored_size : ℕ → ℕ}
      (passed : Takes share_of (λ t. t.passed) passes passed_size) (extended : Takes share_of (λ t. t.extended) is_extended extended_size) (stored : Takes share_of (λ t. t.stored) is_stored stored_size) where
    abbrev first : ℕ → List Room
    first n = rooms_where passes passed_size (range_with_len 0 n)

    abbrev second : ℕ → List Room
    second n = rooms_where is_extended extended_size (range_with_len 0 n)

    abbrev third : ℕ → List Room
    third n = rooms_where is_stored stored_size (range_with_len 0 n)

    first_cells : (n : ℕ) → passed_in (before n) ≡ room_cells (first n)
    first_cells n = sum_of (λ (t : Share). t.passed) share_of passes passed_size passed.same (range_with_len 0 n)

    second_cells : (n : ℕ) → extended_in (before n) ≡ room_cells (second n)
    second_cells n = sum_of (λ (t : Share). t.extended) share_of is_extended extended_size extended.same (range_with_len 0 n)

    third_cells : (n : ℕ) → stored_in (before n) ≡ room_cells (third n)
    third_cells n = sum_of (λ (t : Share). t.stored) share_of is_stored stored_size stored.same (range_with_len 0 n)

    -- the place of a parameter that is extended
    pub extended_place : (local : ℕ) → local < count → is_extended local ≡ true → position_at all local ≡ Some (passed_in all + extended_in (before local))
    extended_place local within is = place_is local within ∙ place_extended (passed_in all) (extended_in all) (before local) (share_of local) (takes_some extended local is)

    -- is its first cell
    pub extended_first : (local : ℕ) → local < count → is_extended local ≡ true → first_cell (room_cells (first count)) (second count ++ third count) local ≡ Some (room_cells (first count) + room_cells (second local))
    extended_first local within is = found is_extended extended_size (room_cells (first count)) 0 count local local (third count) within (omega arith) is

    pub at_extended : (local : ℕ) → local < count → is_extended local ≡ true → first_cell (room_cells (first count)) (second count ++ third count) local ≡ position_at all local
    at_extended local within is =
        extended_first local within is ∙ ap Some (omega (arith, first_cells count, second_cells local)) ∙ sym (extended_place local within is)

    -- of one that is stored
    pub stored_first : (from local : ℕ) → local < count → is_extended local ≡ false → is_stored local ≡ true → first_cell from (second count ++ third count) local ≡ Some ((from + room_cells (second count)) + room_cells (third local))
    stored_first from local within not_extended is =
        skipped is_extended extended_size from (range_with_len 0 count) (third count) local not_extended
        ∙ ap (λ (rooms : List Room). first_cell (from + room_cells (second count)) rooms local) (sym (append-nil (third count)))
        ∙ found is_stored stored_size (from + room_cells (second count)) 0 count local local [] within (omega arith) is

    pub at_stored : (local : ℕ) → local < count → is_extended local ≡ false → is_stored local ≡ true → first_cell (room_cells (first count)) (second count ++ third count) local ≡ position_at all local
    at_stored local within not_extended is =
        stored_first (room_cells (first count)) local within not_extended is
        ∙ ap Some (omega (arith, first_cells count, second_cells count, third_cells local))
        ∙ sym (place_is local within ∙ place_stored (passed_in all) (extended_in all) (before local) (share_of local) (takes_none extended local not_extended) (takes_some stored local is))

    -- of none of both
    pub not_later : (local : ℕ) → is_extended local ≡ false → is_stored local ≡ false → (from : ℕ) → first_cell from (second count ++ third count) local ≡ None
    unfolding first_cell
    not_later local not_extended not_stored from =
        skipped is_extended extended_size from (range_with_len 0 count) (third count) local not_extended
        ∙ ap (λ (rooms : List Room). first_cell (from + room_cells (second count)) rooms local) (sym (append-nil (third count)))
        ∙ skipped is_stored stored_size (from + room_cells (second count)) (range_with_len 0 count) [] local not_stored

    pub at_passed : (local : ℕ) → local < count → is_extended local ≡ false → is_stored local ≡ false → (more : List Room) → passes local ≡ true → first_cell 0 (first count ++ more) local ≡ position_at all local
    at_passed local within not_extended not_stored more is =
        found passes passed_size 0 0 count local local more within (omega arith) is
        ∙ ap Some (omega (arith, first_cells local))
        ∙ sym (place_is local within ∙ place_passed (passed_in all) (extended_in all) (before local) (share_of local) (takes_none extended local not_extended) (takes_none stored local not_stored) (takes_some passed local is))

    pub passed_first : (local : ℕ) → local < count → passes local ≡ true → first_cell 0 (first count) local ≡ Some (passed_in (before local))
    passed_first local within is =
        ap (λ (rooms : List Room). first_cell 0 rooms local) (sym (append-nil (first count)))
        ∙ found passes passed_size 0 0 count local local [] within (omega arith) is
        ∙ ap Some (omega (arith, first_cells local))

    pub no_room : (local : ℕ) → is_extended local ≡ false → is_stored local ≡ false → passes local ≡ false → first_cell 0 (first count) local ≡ None
    unfolding first_cell
    no_room local not_extended not_stored fails =
        ap (λ (rooms : List Room). first_cell 0 rooms local) (sym (append-nil (first count))) ∙ skipped passes passed_size 0 (range_with_len 0 count) [] local fails

    pub at_none : (local : ℕ) → local < count → is_extended local ≡ false → is_stored local ≡ false → passes local ≡ false → position_at all local ≡ None
    at_none local within not_extended not_stored fails =
        place_is local within ∙ place_none (passed_in all) (extended_in all) (before local) (share_of local) (takes_none extended local not_extended) (takes_none stored local not_stored) (takes_none passed local fails)

    -- what all take
    pub cells_in_all : total_in all ≡ room_cells (first count) + (room_cells (second count) + room_cells (third count))
    cells_in_all = omega (arith, first_cells count, second_cells count, third_cells count)

-- the cells of rooms one after the other
pub cells_append : (rooms more : List Room) → room_cells (rooms ++ more) ≡ room_cells rooms + room_cells more
cells_append [] more = omega arith
cells_append (room ∷ rooms) more =
    omega (arith, sum_by-cons (λ (r : Room). r.1) room (rooms ++ more), sum_by-cons (λ (r : Room). r.1) room rooms, cells_append rooms more)
