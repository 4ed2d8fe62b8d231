-- How many operands have one cell.
use Rattle.std.proofs.Common.{◌≡◌, ℕ, suc, ◌+◌, ◌-◌, ◌<◌, Bool, true, false, cond, ◌&&◌, ◌||◌, not, nat_eq, nat_lt, List, [], ◌∷◌, length, get_or, Option, Some, refl, sym, ap, subst, ◌∙◌, arith}
use Rattle.std.specs.Prelude.{if◌then◌else◌}
use Rattle.std.specs.Option.{option_map_or}
use Rattle.std.specs.List.{AllPairs, AllByRecursion}
use Rattle.std.proofs.lemmas.Bool.Decides.{nat_tests}
use Rattle.std.proofs.lemmas.List.Folds.{list_any_none}
use Rattle.std.proofs.lemmas.List.Sums.{sum_by-cons}
use Rattle.body_form.specs.declared.types.VType.{VType}
use Rattle.body_form.specs.declared.types.VType.TheVariants as known
use Rattle.jvm_model.specs.declared.entries.Entry.{Entry}
use Rattle.image_instr.specs.Effect.{refs_of, cells_of}
use Rattle.body_form.specs.declared.types.VFrame.{VFrame}
use Rattle.jvm_model.specs.TypesFrames.{is_int}
use Rattle.jvm_model.specs.WidthsFrame.{operand_cells}
use Rattle.jvm_model.specs.WidthsShapes.{is_entry, is_narrow, width_where, shape_of, shapes_of}
use Rattle.type_table.specs.Counts.{ints_in}
use Rattle.type_table.specs.Types.{Rows, table_of}
use Rattle.flow_split.proofs.Deciding.{both_true}
use Rattle.flow_split.specs.Splits.{AreEntries, comes_before, is_int_in}
use Rattle.flow_split.specs.Totals.{is_operand_at, narrow_operands, shapes_before}
use Rattle.flow_split.proofs.Counted.{one_if, count_cons}

-- ---- operands by place

-- how many of the whole numbers pass a test on their places, which count from the bottom
unfoldable ones : (ℕ → Bool) → List VType → ℕ
ones one [] = 0
ones one (type ∷ below) = cond (one (length below) && is_int type) 1 0 + ones one below

one_cell : (one : Bool) (type : VType) → (refs_of (shape_of (width_where one) type) + cells_of (shape_of (width_where one) type)) + cond (one && is_int type) 1 0 ≡ 1 + cond (is_int type) 1 0
one_cell true known.Top = refl
one_cell true known.Int = refl
one_cell true known.Null = refl
one_cell true (known.Ref type) = refl
one_cell true (known.New pc) = refl
one_cell true known.This = refl
one_cell false known.Top = refl
one_cell false known.Int = refl
one_cell false known.Null = refl
one_cell false (known.Ref type) = refl
one_cell false (known.New pc) = refl
one_cell false known.This = refl

-- each whole number of one cell takes one cell less than two
ones_total : (one : ℕ → Bool) (types : List VType) → operand_cells (shapes_of (λ place. width_where (one place)) types) + ones one types ≡ length types + ints_in types
unfolding ones shapes_of
ones_total one [] = refl
ones_total one (type ∷ below) =
    let shape = shape_of (width_where (one (length below))) type in
    let shapes = shapes_of (λ place. width_where (one place)) below in
    omega (arith, sum_by-cons refs_of shape shapes, sum_by-cons cells_of shape shapes, count_cons is_int type below, one_cell (one (length below)) type, ones_total one below)

ones_none : (one : ℕ → Bool) (types : List VType) → ((place : ℕ) → place < length types → one place ≡ false) → ones one types ≡ 0
unfolding ones
ones_none one [] none = refl
ones_none one (type ∷ below) none =
    let here = ap (λ b. one_if (b && is_int type)) (none (length below) (omega arith)) in
    omega (arith, here, ones_none one below (λ place lt. none place (omega (arith, lt))))

either_one : (first second int : Bool) → (first ≡ true → second ≡ false) → cond ((first || second) && int) 1 0 ≡ cond (first && int) 1 0 + cond (second && int) 1 0
either_one true true int apart = absurd (grind (arith, apart refl))
either_one true false true apart = refl
either_one true false false apart = refl
either_one false true true apart = refl
either_one false true false apart = refl
either_one false false int apart = refl

-- tests that no place passes both count one by one
ones_either : (first second : ℕ → Bool) (types : List VType) → ((place : ℕ) → first place ≡ true → second place ≡ false) → ones (λ place. first place || second place) types ≡ ones first types + ones second types
unfolding ones
ones_either first second [] apart = refl
ones_either first second (type ∷ below) apart =
    omega (arith, either_one (first (length below)) (second (length below)) (is_int type) (apart (length below)), ones_either first second below apart)

-- an operand at a place is an int
abbrev is_int_at : ℕ → List VType → Bool
is_int_at place types = nat_lt place (length types) && is_int (get_or types (length types - 1 - place) known.Top)

-- the top one, or one of those below it
at_or_below : (here : Bool) (place : ℕ) (type : VType) (below : List VType) → nat_eq place (length below) ≡ here → is_int_at place (type ∷ below) ≡ true
    → (is_int_at place below ≡ true → ones (λ other. nat_eq place other) below ≡ 1) → cond (here && is_int type) 1 0 + ones (λ other. nat_eq place other) below ≡ 1
at_or_below true place type below same int lower =
    let two = both_true (nat_lt place (length (type ∷ below))) (is_int (get_or (type ∷ below) (length (type ∷ below) - 1 - place) known.Top)) int in
    let top : length (type ∷ below) - 1 - place ≡ 0 = grind (arith, nat_tests, same) in
    let here : is_int type ≡ true = ap (λ k. is_int (get_or (type ∷ below) k known.Top)) (sym top) ∙ two.1 in
    let none = ones_none (λ other. nat_eq place other) below (λ other lt. grind (arith, nat_tests, same, lt)) in
    omega (arith, ap one_if here, none)
at_or_below false place type below other int lower =
    let two = both_true (nat_lt place (length (type ∷ below))) (is_int (get_or (type ∷ below) (length (type ∷ below) - 1 - place) known.Top)) int in
    let less : place < length below = grind (arith, nat_tests, other, two.0) in
    let index : length (type ∷ below) - 1 - place ≡ suc (length below - 1 - place) = omega (arith, less) in
    let found : is_int (get_or below (length below - 1 - place) known.Top) ≡ true = ap (λ k. is_int (get_or (type ∷ below) k known.Top)) (sym index) ∙ two.1 in
    let first : nat_lt place (length below) ≡ true = grind (arith, nat_tests, less) in
    omega (arith, lower (ap (λ b. b && is_int (get_or below (length below - 1 - place) known.Top)) first ∙ found))

-- one place is counted once
ones_at : (place : ℕ) (types : List VType) → is_int_at place types ≡ true → ones (λ other. nat_eq place other) types ≡ 1
unfolding ones
ones_at place [] int = absurd (grind (arith, nat_tests, int))
ones_at place (type ∷ below) int = at_or_below (nat_eq place (length below)) place type below refl int (ones_at place below)

entry_ones : (here operand : Bool) (place : ℕ) (types : List VType) → ((here && operand) ≡ true → is_int_at place types ≡ true) → ones (λ other. here && (operand && nat_eq place other)) types ≡ cond (here && operand) 1 0
entry_ones true true place types int = ones_at place types (int refl)
entry_ones true false place types int = ones_none (λ other. false) types (λ other lt. refl)
entry_ones false operand place types int = ones_none (λ other. false) types (λ other lt. refl)

-- ---- entries

-- of entries in order no two are of one operand
apart_at : (pc place first_pc first_place second_pc second_place : ℕ) (first second : Bool)
    → (nat_lt first_pc second_pc || (nat_eq first_pc second_pc && ((not first && second) || ((cond first second (not second)) && nat_lt first_place second_place)))) ≡ true
    → (nat_eq first_pc pc && (first && nat_eq first_place place)) ≡ true → (nat_eq second_pc pc && (second && nat_eq second_place place)) ≡ false
apart_at pc place first_pc first_place second_pc second_place true true before at = grind (arith, nat_tests)
apart_at pc place first_pc first_place second_pc second_place true false before at = grind (arith, nat_tests)
apart_at pc place first_pc first_place second_pc second_place false true before at = grind (arith, nat_tests)
apart_at pc place first_pc first_place second_pc second_place false false before at = grind (arith, nat_tests)

abbrev InOrder : List Entry → Type 0
InOrder narrow = AllPairs (λ first second. comes_before first second ≡ true) narrow

order_tail : (entry : Entry) (narrow : List Entry) → InOrder (entry ∷ narrow) → InOrder narrow
order_tail entry narrow order i j d lt within = order (suc i) (suc j) d (omega (arith, lt)) (omega (arith, within))

others : (pc : ℕ) (entry : Entry) (narrow : List Entry) → InOrder (entry ∷ narrow) → (place : ℕ) → is_entry pc true place entry ≡ true → is_narrow narrow pc true place ≡ false
others pc entry narrow order place at =
    list_any_none (is_entry pc true place) narrow (λ k d within.
    let other = get_or narrow k d in
    apart_at pc place entry.pc entry.place other.pc other.place entry.operand other.operand (order 0 (suc k) d (omega arith) (omega (arith, within))) at)

-- each entry of an operand is that of an int of these
abbrev AreInts : ℕ → List VType → List Entry → Type 0
AreInts pc types narrow = AllByRecursion (λ entry. is_operand_at pc entry ≡ true → is_int_at entry.place types ≡ true) narrow

-- so each entry counts once
ones_narrow : (pc : ℕ) (types : List VType) (narrow : List Entry) → InOrder narrow → AreInts pc types narrow → ones (λ place. is_narrow narrow pc true place) types ≡ narrow_operands narrow pc
ones_narrow pc types [] order ints = ones_none (λ place. false) types (λ place lt. refl)
ones_narrow pc types (entry ∷ narrow) order ints =
    ones_either (λ place. is_entry pc true place entry) (λ place. is_narrow narrow pc true place) types (others pc entry narrow order)
    ∙ ap (λ n. n + ones (λ place. is_narrow narrow pc true place) types) (entry_ones (nat_eq entry.pc pc) entry.operand entry.place types ints.0)
    ∙ ap (λ n. cond (is_operand_at pc entry) 1 0 + n) (ones_narrow pc types narrow (order_tail entry narrow order) ints.1)
    ∙ sym (count_cons (is_operand_at pc) entry narrow)

int_here : (place at pc : ℕ) (operand : Bool) (frame : VFrame) (found : Option VFrame) → option_map_or (λ f. if operand then is_int_at place f.stack else is_int (get_or f.locals place known.Top)) found false ≡ true
    → (at ≡ pc → found ≡ Some frame) → (nat_eq at pc && operand) ≡ true → is_int_at place frame.stack ≡ true
int_here place at pc true frame found int same here =
    subst (λ o. option_map_or (λ f. is_int_at place f.stack) o false ≡ true) (same (grind (arith, nat_tests, here))) int
int_here place at pc false frame found int same here = absurd (grind (arith, nat_tests, here))

ints_here : (rows : Rows) (pc : ℕ) (frame : VFrame) → table_of rows pc ≡ Some frame → (narrow : List Entry) → AllByRecursion (λ entry. option_map_or (is_int_in entry) (table_of rows entry.pc) false ≡ true) narrow → AreInts pc frame.stack narrow
ints_here rows pc frame has [] ints = tt
ints_here rows pc frame has (entry ∷ narrow) ints =
    (int_here entry.place entry.pc pc entry.operand frame (table_of rows entry.pc) ints.0 (λ same. ap (table_of rows) same ∙ has), ints_here rows pc frame has narrow ints.1)

-- the cells of the operands before an instruction, by their number, how many are whole numbers, and how many have one cell
pub cells_counted : (rows : Rows) (narrow : List Entry) (pc : ℕ) (frame : VFrame) → AreEntries rows narrow → table_of rows pc ≡ Some frame
    → operand_cells (shapes_before narrow pc frame.stack) + narrow_operands narrow pc ≡ length frame.stack + ints_in frame.stack
cells_counted rows narrow pc frame are has =
    ap (λ n. operand_cells (shapes_before narrow pc frame.stack) + n) (sym (ones_narrow pc frame.stack narrow are.order (ints_here rows pc frame has narrow are.ints)))
    ∙ ones_total (λ place. is_narrow narrow pc true place) frame.stack
