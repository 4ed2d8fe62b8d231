-- The cells of locals, where these are given cells one after the other: two locals with two cells each do not share any.
use Rattle.std.proofs.Common.{◌≡◌, ◌⊎◌, inl, inr, ℕ, zero, suc, ◌+◌, ◌<◌, ◌≤◌, Bool, true, false, ◌&&◌, ◌||◌, nat_eq, cond, if◌then◌else◌, List, [], ◌∷◌, ◌++◌, map, filter, Some, refl, sym, ap, ◌∙◌, arith}
use Rattle.std.specs.List.{AllByRecursion, list_any, range_with_len}
use Rattle.std.proofs.lemmas.Bool.{cases_eq, eqb-true}
use Rattle.std.proofs.lemmas.Bool.Decides.{nat_tests}
use Rattle.std.proofs.lemmas.List.Sums.{sum_by-cons}
use Rattle.std.proofs.lemmas.Map.Views.{any-filter_same}
use Rattle.std.proofs.lemmas.Option.{none-some, same_Some}
use Rattle.jvm_model.specs.WidthsSlots.{Room, room_cells, first_cell}

-- ---- locals in lists

pub or_second : (a b : Bool) → b ≡ true → (a || b) ≡ true
or_second true b is = refl
or_second false b is = is

-- the local stands in a list of locals
abbrev pub is_in : ℕ → List ℕ → Bool
is_in local locals = list_any (λ other. nat_eq other local) locals

in_range_after : (from count local : ℕ) → ((from + 1 ≤ local) → local < from + 1 + count → is_in local (range_with_len (from + 1) count) ≡ true)
    → from ≤ local → local < from + suc count → (from ≡ local) ⊎ (from ≡ local → ⊥) → is_in local (range_with_len from (suc count)) ≡ true
in_range_after from count local later low high (inl same) =
    let is : nat_eq from local ≡ true = grind (arith, nat_tests, same) in
    ap (λ (b : Bool). b || is_in local (range_with_len (from + 1) count)) is
in_range_after from count local later low high (inr other) =
    or_second (nat_eq from local) (is_in local (range_with_len (from + 1) count)) (later (omega (arith, low, other)) (omega (arith, high)))

in_range : (from count local : ℕ) → from ≤ local → local < from + count → is_in local (range_with_len from count) ≡ true
in_range from zero local low high = absurd (omega (arith, low, high))
in_range from (suc count) local low high = in_range_after from count local (in_range (from + 1) count local) low high (cases_eq from local)

-- each local is in the list of all
pub in_all : (count local : ℕ) → local < count → is_in local (range_with_len 0 count) ≡ true
in_all count local low = in_range 0 count local (omega arith) (omega (arith, low))

-- a filter keeps it, or leaves it out, by its test
pub in_filter : (test : ℕ → Bool) (local : ℕ) (locals : List ℕ) → is_in local (filter test locals) ≡ (test local && is_in local locals)
in_filter test local locals = any-filter_same (λ other. nat_eq other local) test (test local) (λ other same. ap test (eqb-true other local same)) locals

-- ---- rooms

-- each room of a local has at least two cells
abbrev pub AreWide : ℕ → List Room → Type 0
AreWide local rooms = AllByRecursion (λ (room : Room). nat_eq room.0 local ≡ true → 2 ≤ room.1) rooms

-- there is a room of the local
abbrev pub has_room : ℕ → List Room → Bool
has_room local rooms = list_any (λ (room : Room). nat_eq room.0 local) rooms

abbrev pub rooms_of : (ℕ → ℕ) → List ℕ → List Room
rooms_of size locals = map (λ local. (local, size local)) locals

pub has_room_of : (size : ℕ → ℕ) (local : ℕ) (locals : List ℕ) → has_room local (rooms_of size locals) ≡ is_in local locals
has_room_of size local [] = refl
has_room_of size local (other ∷ locals) = ap (λ (b : Bool). nat_eq other local || b) (has_room_of size local locals)

-- those of a filtered list are as wide as its test says
wide_one : (size : ℕ → ℕ) (test : ℕ → Bool) (local other : ℕ) (kept : List ℕ) → (test other ≡ true → nat_eq other local ≡ true → 2 ≤ size other) → AreWide local (rooms_of size kept)
    → (is : Bool) → test other ≡ is → AreWide local (rooms_of size (cond is (other ∷ kept) kept))
wide_one size test local other kept wide rest true is = (wide is, rest)
wide_one size test local other kept wide rest false is = rest

pub wide_rooms : (size : ℕ → ℕ) (test : ℕ → Bool) (local : ℕ) → ((other : ℕ) → test other ≡ true → nat_eq other local ≡ true → 2 ≤ size other) → (locals : List ℕ) → AreWide local (rooms_of size (filter test locals))
wide_rooms size test local wide [] = tt
wide_rooms size test local wide (other ∷ locals) = wide_one size test local other (filter test locals) (wide other) (wide_rooms size test local wide locals) (test other) refl

pub wide_both : (local : ℕ) (first second : List Room) → AreWide local first → AreWide local second → AreWide local (first ++ second)
wide_both local [] second wide more = more
wide_both local (room ∷ first) second wide more = (wide.0, wide_both local first second wide.1 more)

-- a local with a room has a cell
cell_here : (from local : ℕ) (room : Room) (rooms : List Room) → (has_room local rooms ≡ true → (cell : ℕ) × (first_cell (from + room.1) rooms local ≡ Some cell))
    → (is : Bool) → nat_eq room.0 local ≡ is → (is || has_room local rooms) ≡ true → (cell : ℕ) × (first_cell from (room ∷ rooms) local ≡ Some cell)
unfolding first_cell
cell_here from local room rooms later true is has = (from, ap (λ (b : Bool). if b then Some from else first_cell (from + room.1) rooms local) is)
cell_here from local room rooms later false is has =
    let there = later has in
    (there.0, ap (λ (b : Bool). if b then Some from else first_cell (from + room.1) rooms local) is ∙ there.1)

pub room_cell : (from : ℕ) (rooms : List Room) (local : ℕ) → has_room local rooms ≡ true → (cell : ℕ) × (first_cell from rooms local ≡ Some cell)
room_cell from [] local has = absurd cc
room_cell from (room ∷ rooms) local has = cell_here from local room rooms (room_cell (from + room.1) rooms local) (nat_eq room.0 local) refl has

-- its two cells are among those of the rooms
pub record IsWithin (from cell end : ℕ) : Type 0 where
  pub low : from ≤ cell
  pub high : cell + 2 ≤ end

within_here : (from local cell : ℕ) (room : Room) (rooms : List Room) → (nat_eq room.0 local ≡ true → 2 ≤ room.1)
    → (first_cell (from + room.1) rooms local ≡ Some cell → IsWithin (from + room.1) cell (from + room.1 + room_cells rooms))
    → (is : Bool) → nat_eq room.0 local ≡ is → (if is then Some from else first_cell (from + room.1) rooms local) ≡ Some cell → IsWithin from cell (from + room_cells (room ∷ rooms))
within_here from local cell room rooms wide later true is found =
    let same : from ≡ cell = same_Some from cell found in
    let two = wide is in
    let all = sum_by-cons (λ (room : Room). room.1) room rooms in
    record { low = omega (arith, same); high = omega (arith, same, two, all) }
within_here from local cell room rooms wide later false is found =
    let rest = later found in
    let all = sum_by-cons (λ (room : Room). room.1) room rooms in
    record { low = omega (arith, rest.low); high = omega (arith, rest.high, all) }

pub cell_within : (from : ℕ) (rooms : List Room) (local cell : ℕ) → AreWide local rooms → first_cell from rooms local ≡ Some cell → IsWithin from cell (from + room_cells rooms)
unfolding first_cell
cell_within from [] local cell wide found = absurd (none-some cell found)
cell_within from (room ∷ rooms) local cell wide found =
    within_here from local cell room rooms wide.0 (cell_within (from + room.1) rooms local cell wide.1) (nat_eq room.0 local) refl found

-- two cells of one lie before those of another
abbrev pub AreApart : ℕ → ℕ → Type 0
AreApart cell other = (cell + 2 ≤ other) ⊎ (other + 2 ≤ cell)

module _ (local beside : ℕ) (differ : local ≡ beside → ⊥) (cell other : ℕ) where
  apart_here : (from : ℕ) (room : Room) (rooms : List Room) → AreWide local (room ∷ rooms) → AreWide beside (room ∷ rooms)
      → (first_cell (from + room.1) rooms local ≡ Some cell → first_cell (from + room.1) rooms beside ≡ Some other → AreApart cell other)
      → (is is_beside : Bool) → nat_eq room.0 local ≡ is → nat_eq room.0 beside ≡ is_beside
      → (if is then Some from else first_cell (from + room.1) rooms local) ≡ Some cell → (if is_beside then Some from else first_cell (from + room.1) rooms beside) ≡ Some other → AreApart cell other
  apart_here from room rooms wide wide_beside later true true is is_beside found found_beside = absurd (differ (sym (eqb-true room.0 local is) ∙ eqb-true room.0 beside is_beside))
  apart_here from room rooms wide wide_beside later true false is is_beside found found_beside =
      let same : from ≡ cell = same_Some from cell found in
      let two = wide.0 is in
      let low = (cell_within (from + room.1) rooms beside other wide_beside.1 found_beside).low in
      inl (omega (arith, same, two, low))
  apart_here from room rooms wide wide_beside later false true is is_beside found found_beside =
      let same : from ≡ other = same_Some from other found_beside in
      let two = wide_beside.0 is_beside in
      let low = (cell_within (from + room.1) rooms local cell wide.1 found).low in
      inr (omega (arith, same, two, low))
  apart_here from room rooms wide wide_beside later false false is is_beside found found_beside = later found found_beside

  -- the cells of two locals lie apart
  pub cells_apart : (from : ℕ) (rooms : List Room) → AreWide local rooms → AreWide beside rooms → first_cell from rooms local ≡ Some cell → first_cell from rooms beside ≡ Some other → AreApart cell other
  unfolding first_cell
  cells_apart from [] wide wide_beside found found_beside = absurd (none-some cell found)
  cells_apart from (room ∷ rooms) wide wide_beside found found_beside =
      apart_here from room rooms wide wide_beside (cells_apart (from + room.1) rooms wide.1 wide_beside.1) (nat_eq room.0 local) (nat_eq room.0 beside) refl refl found found_beside
