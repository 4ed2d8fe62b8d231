-- The rooms of locals: which there are, and where their first cells are.
use Rattle.std.proofs.Common.{◌≡◌, ℕ, zero, suc, ◌+◌, ◌<◌, ◌≤◌, Bool, true, false, ◌&&◌, ◌||◌, nat_eq, nat_le, cond, if◌then◌else◌, List, [], ◌∷◌, map, filter, length, take, drop, Some, None, refl, sym, ap, subst, ◌∙◌, arith}
use Rattle.std.specs.List.{AllByRecursion, sum_by, range_with_len}
use Rattle.std.proofs.lemmas.Bool.{eqb-true}
use Rattle.std.proofs.lemmas.Bool.Decides.{nat_tests}
use Rattle.std.proofs.lemmas.List.Sums.{sum_by-cons}
use Rattle.std.proofs.lemmas.Option.{none-some, same_Some}
use Rattle.jvm_model.specs.WidthsSlots.{Room, room_cells, first_cell}
use Rattle.mote_model.specs.SplitMoves.{cells_at}
use Rattle.follow_operands.proofs.LocalRooms.{is_in, in_all, in_filter, has_room, rooms_of, has_room_of}

-- ---- which there are

and_true : (b : Bool) → (b && true) ≡ b
and_true true = refl
and_true false = refl

-- a local of so many has a room where it passes the test
pub room_by_test : (size : ℕ → ℕ) (test : ℕ → Bool) (count local : ℕ) → local < count → has_room local (rooms_of size (filter test (range_with_len 0 count))) ≡ test local
room_by_test size test count local low =
    has_room_of size local (filter test (range_with_len 0 count)) ∙ in_filter test local (range_with_len 0 count)
    ∙ ap (λ (b : Bool). test local && b) (in_all count local low) ∙ and_true (test local)

-- without a room there is no cell
none_later : (from local : ℕ) (room : Room) (rooms : List Room) → ((nat_eq room.0 local || has_room local rooms) ≡ false → has_room local rooms ≡ false → first_cell (from + room.1) rooms local ≡ None) → (is : Bool) → nat_eq room.0 local ≡ is
    → (is || has_room local rooms) ≡ false → (if is then Some from else first_cell (from + room.1) rooms local) ≡ None
none_later from local room rooms later true is none = absurd cc
none_later from local room rooms later false is none = later (ap (λ (b : Bool). b || has_room local rooms) is ∙ none) none

pub no_cell : (from : ℕ) (rooms : List Room) (local : ℕ) → has_room local rooms ≡ false → first_cell from rooms local ≡ None
unfolding first_cell
no_cell from [] local none = refl
no_cell from (room ∷ rooms) local none = none_later from local room rooms (λ all rest. no_cell (from + room.1) rooms local rest) (nat_eq room.0 local) refl none

-- ---- where they are

low_later : (from local cell : ℕ) (room : Room) (rooms : List Room) → (first_cell (from + room.1) rooms local ≡ Some cell → from + room.1 ≤ cell) → (is : Bool) → (if is then Some from else first_cell (from + room.1) rooms local) ≡ Some cell → from ≤ cell
low_later from local cell room rooms later true found = let same = same_Some from cell found in omega (arith, same)
low_later from local cell room rooms later false found = let low = later found in omega (arith, low)

pub cell_from : (from : ℕ) (rooms : List Room) (local cell : ℕ) → first_cell from rooms local ≡ Some cell → from ≤ cell
unfolding first_cell
cell_from from [] local cell found = absurd (none-some cell found)
cell_from from (room ∷ rooms) local cell found = low_later from local cell room rooms (cell_from (from + room.1) rooms local cell) (nat_eq room.0 local) found

-- cells that are read are there
read_where : (enough : Bool) (cells found : List ℕ) (at count : ℕ) → nat_le (at + count) (length cells) ≡ enough → (if enough then Some (take count (drop at cells)) else None) ≡ Some found → at + count ≤ length cells
read_where true cells found at count test is = grind (arith, nat_tests, test)
read_where false cells found at count test is = absurd (none-some found is)

pub read_inside : (cells found : List ℕ) (at count : ℕ) → cells_at cells at count ≡ Some found → at + count ≤ length cells
read_inside cells found at count is = read_where (nat_le (at + count) (length cells)) cells found at count refl is

-- ---- how many cells

pub rooms_size : (size : ℕ → ℕ) (locals : List ℕ) → room_cells (rooms_of size locals) ≡ sum_by (λ (n : ℕ). n) (map size locals)
rooms_size size [] = refl
rooms_size size (local ∷ locals) =
    sum_by-cons (λ (room : Room). room.1) (local, size local) (rooms_of size locals)
    ∙ ap (λ (n : ℕ). size local + n) (rooms_size size locals)
    ∙ sym (sum_by-cons (λ (n : ℕ). n) (size local) (map size locals))

-- ---- what holds of each

all_one : (P : ℕ → Type 0) (local : ℕ) (locals : List ℕ) → AllByRecursion P locals → (is : Bool) → (is ≡ true → P local) → AllByRecursion P (cond is (local ∷ locals) locals)
all_one P local locals rest true here = (here refl, rest)
all_one P local locals rest false here = rest

-- of the locals that pass a test
pub all_filtered : (P : ℕ → Type 0) (test : ℕ → Bool) (from count : ℕ) → ((local : ℕ) → local < from + count → test local ≡ true → P local) → AllByRecursion P (filter test (range_with_len from count))
all_filtered P test from zero each = tt
all_filtered P test from (suc count) each =
    all_one P from (filter test (range_with_len (from + 1) count)) (all_filtered P test (from + 1) count (λ local low is. each local (omega (arith, low)) is)) (test from) (each from (omega arith))

in_one : (P : ℕ → Type 0) (local other : ℕ) (locals : List ℕ) → P other → (is_in local locals ≡ true → P local) → (is : Bool) → nat_eq other local ≡ is → (is || is_in local locals) ≡ true → P local
in_one P local other locals here later true is among = subst P (eqb-true other local is) here
in_one P local other locals here later false is among = later among

pub of_local_in : (P : ℕ → Type 0) (locals : List ℕ) (local : ℕ) → AllByRecursion P locals → is_in local locals ≡ true → P local
of_local_in P [] local all among = absurd cc
of_local_in P (other ∷ locals) local all among = in_one P local other locals all.0 (of_local_in P locals local all.1) (nat_eq other local) refl among

pub all_mapped : {X Y : Type 0} (f : X → Y) (P : Y → Type 0) (xs : List X) → AllByRecursion (λ x. P (f x)) xs → AllByRecursion P (map f xs)
all_mapped f P [] all = tt
all_mapped f P (x ∷ xs) all = (all.0, all_mapped f P xs all.1)

pub all_from_mapped : {X Y : Type 0} (f : X → Y) (P : Y → Type 0) (xs : List X) → AllByRecursion P (map f xs) → AllByRecursion (λ x. P (f x)) xs
all_from_mapped f P [] all = tt
all_from_mapped f P (x ∷ xs) all = (all.0, all_from_mapped f P xs all.1)
