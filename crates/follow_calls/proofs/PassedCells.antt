-- Where the cells of arguments stand among those of the locals: one behind the other, as the locals have rooms.
use Rattle.std.proofs.Common.{◌≡◌, ℕ, zero, suc, ◌+◌, Bool, true, false, nat_eq, nat_le, cond, if◌then◌else◌, List, [], ◌∷◌, ◌++◌, filter, length, take, drop, Some, None, refl, sym, ap, ap₂, ◌∙◌, length-append, arith}
use Rattle.std.specs.Prelude.{slice_get}
use Rattle.std.specs.List.{AllByRecursion, flat_map, range_with_len}
use Rattle.std.proofs.Math.Seq.{take-append_seam, drop-append_seam}
use Rattle.std.proofs.lemmas.Bool.Decides.{nat_tests}
use Rattle.std.proofs.lemmas.List.{append_assoc}
use Rattle.std.proofs.lemmas.Option.{none-some, same_Some}
use Rattle.jvm_model.specs.Initialisers.{is_whole_kind}
use Rattle.jvm_model.specs.State.{Whole}
use Rattle.jvm_model.specs.WidthsSlots.{Room, passed_cells, first_cell}
use Rattle.mote_model.specs.SplitMoves.{cells_at}
use Rattle.follow_operands.proofs.LocalRooms.{rooms_of}
use Rattle.follow_calls.proofs.FirstLocals.{TestsAs, tests_here, tests_later}
use Rattle.follow_calls.proofs.ParameterKinds.{Argument, IsPassed, passed_of, passed_count}

-- cells that stand behind others are read there
pub read_behind : (before cells after : List ℕ) → cells_at (before ++ (cells ++ after)) (length before) (length cells) ≡ Some cells
read_behind before cells after =
    let long = length-append before (cells ++ after) in
    let more = length-append cells after in
    let enough : nat_le (length before + length cells) (length (before ++ (cells ++ after))) ≡ true = grind (arith, nat_tests, long, more) in
    ap (λ (b : Bool). if b then Some (take (length cells) (drop (length before) (before ++ (cells ++ after)))) else None) enough
    ∙ ap (λ (l : List ℕ). Some (take (length cells) l)) (drop-append_seam before (cells ++ after))
    ∙ ap (λ (l : List ℕ). Some l) (take-append_seam cells after)

abbrev pub argument_cells : List Argument → List ℕ
argument_cells arguments = flat_map (λ (argument : Argument). passed_of argument.0 argument.1) arguments

abbrev pub is_whole : Argument → Bool
is_whole argument = is_whole_kind argument.0

-- what is no whole number has no cells
no_cells : (argument : Argument) → IsPassed argument → is_whole argument ≡ false → passed_of argument.0 argument.1 ≡ []
no_cells (k, Whole number) passes other = absurd (let bad : true ≡ false = sym passes.0 ∙ other in cc)
no_cells (k, value) passes other = refl

module _ (size : ℕ → ℕ) (test : ℕ → Bool) where
  abbrev SizesAs : ℕ → List Argument → Type 0
  SizesAs from arguments = (i : ℕ) (argument : Argument) → slice_get arguments i ≡ Some argument → size (from + i) ≡ passed_cells argument.0

  abbrev rooms_from : ℕ → ℕ → List Room
  rooms_from from count = rooms_of size (filter test (range_with_len from count))

  -- the cells of an argument are read at a cell, behind others
  abbrev ReadsAt : List ℕ → List Argument → List ℕ → ℕ → Argument → Type 0
  ReadsAt before arguments after cell argument = cells_at (before ++ (argument_cells arguments ++ after)) cell (passed_cells argument.0) ≡ Some (passed_of argument.0 argument.1)

  module _ (from : ℕ) (first : Argument) (arguments : List Argument) (before after : List ℕ) (all : AllByRecursion IsPassed (first ∷ arguments))
      (tests : TestsAs test is_whole from (first ∷ arguments)) (sizes : SizesAs from (first ∷ arguments)) (argument : Argument) (whole : is_whole argument ≡ true) (cell : ℕ) (rest : List ℕ)
      (again : (beyond : List ℕ) (i : ℕ) → slice_get arguments i ≡ Some argument → first_cell (length beyond) (rooms_of size rest) (from + 1 + i) ≡ Some cell → ReadsAt beyond arguments after cell argument) where
    abbrev cells_here : List ℕ
    cells_here = passed_of first.0 first.1

    abbrev Reads : Type 0
    Reads = ReadsAt before (first ∷ arguments) after cell argument

    joined : before ++ (argument_cells (first ∷ arguments) ++ after) ≡ before ++ (cells_here ++ (argument_cells arguments ++ after))
    joined = ap (λ (l : List ℕ). before ++ l) (append_assoc cells_here (argument_cells arguments) after)

    later : (beyond : List ℕ) → (before ++ (cells_here ++ (argument_cells arguments ++ after))) ≡ beyond ++ (argument_cells arguments ++ after) → (i : ℕ) → slice_get arguments i ≡ Some argument
        → first_cell (length beyond) (rooms_of size rest) (from + suc i) ≡ Some cell → Reads
    later beyond moved i is at =
        let next : from + suc i ≡ from + 1 + i = omega arith in
        ap (λ (l : List ℕ). cells_at l cell (passed_cells argument.0)) (joined ∙ moved)
        ∙ again beyond i is (sym (ap (first_cell (length beyond) (rooms_of size rest)) next) ∙ at)

    -- its local is the first one that has a room
    by_place : (i : ℕ) → slice_get (first ∷ arguments) i ≡ Some argument → first_cell (length before) ((from, size from) ∷ rooms_of size rest) (from + i) ≡ Some cell → Reads
    unfolding first_cell
    by_place zero is at =
        let same : first ≡ argument = same_Some first argument is in
        let here : nat_eq from (from + 0) ≡ true = grind (arith, nat_tests) in
        let place : length before ≡ cell = same_Some (length before) cell (sym (ap (λ (b : Bool). if b then Some (length before) else first_cell (length before + size from) (rooms_of size rest) (from + 0)) here) ∙ at) in
        ap (λ (a : Argument). cells_at (before ++ (argument_cells (first ∷ arguments) ++ after)) cell (passed_cells a.0)) (sym same)
        ∙ ap₂ (λ (l : List ℕ) (n : ℕ). cells_at l n (passed_cells first.0)) joined (sym place)
        ∙ ap (cells_at (before ++ (cells_here ++ (argument_cells arguments ++ after))) (length before)) (sym (passed_count first all.0))
        ∙ read_behind before cells_here (argument_cells arguments ++ after)
        ∙ ap (λ (a : Argument). Some (passed_of a.0 a.1)) same
    by_place (suc i) is at =
        let other : nat_eq from (from + suc i) ≡ false = grind (arith, nat_tests) in
        let at_zero : from ≡ from + 0 = omega arith in
        let size_here : size from ≡ length cells_here = ap size at_zero ∙ sizes 0 first refl ∙ sym (passed_count first all.0) in
        let beyond : length before + size from ≡ length (before ++ cells_here) = ap (λ (n : ℕ). length before + n) size_here ∙ sym (length-append before cells_here) in
        later (before ++ cells_here) (sym (append_assoc before cells_here (argument_cells arguments ++ after))) i is
        (ap (λ (n : ℕ). first_cell n (rooms_of size rest) (from + suc i)) (sym beyond)
        ∙ sym (ap (λ (b : Bool). if b then Some (length before) else first_cell (length before + size from) (rooms_of size rest) (from + suc i)) other) ∙ at)

    -- a reference has no room
    without_room : (i : ℕ) → slice_get (first ∷ arguments) i ≡ Some argument → is_whole first ≡ false → first_cell (length before) (rooms_of size rest) (from + i) ≡ Some cell → Reads
    without_room zero is none at =
        let same : first ≡ argument = same_Some first argument is in
        absurd (let bad : false ≡ true = sym none ∙ ap is_whole same ∙ whole in cc)
    without_room (suc i) is none at = later before (ap (λ (l : List ℕ). before ++ (l ++ (argument_cells arguments ++ after))) (no_cells first all.0 none)) i is at

    by_test : (b : Bool) → is_whole first ≡ b → (i : ℕ) → slice_get (first ∷ arguments) i ≡ Some argument
        → first_cell (length before) (rooms_of size (cond (test from) (from ∷ rest) rest)) (from + i) ≡ Some cell → Reads
    by_test true is i there at =
        by_place i there (sym (ap (λ (b : Bool). first_cell (length before) (rooms_of size (cond b (from ∷ rest) rest)) (from + i)) (tests_here test is_whole from first arguments tests ∙ is)) ∙ at)
    by_test false is i there at =
        without_room i there is (sym (ap (λ (b : Bool). first_cell (length before) (rooms_of size (cond b (from ∷ rest) rest)) (from + i)) (tests_here test is_whole from first arguments tests ∙ is)) ∙ at)

  next_sizes : (from : ℕ) (first : Argument) (arguments : List Argument) → SizesAs from (first ∷ arguments) → SizesAs (from + 1) arguments
  next_sizes from first arguments sizes i argument is = let next : from + 1 + i ≡ from + suc i = omega arith in ap size next ∙ sizes (suc i) argument is

  -- the cells of each argument that is a whole number are those of its local
  pub passed_at : (from count : ℕ) (arguments : List Argument) (before after : List ℕ) → AllByRecursion IsPassed arguments → TestsAs test is_whole from arguments → SizesAs from arguments
      → (i : ℕ) (argument : Argument) → slice_get arguments i ≡ Some argument → is_whole argument ≡ true
      → (cell : ℕ) → first_cell (length before) (rooms_from from count) (from + i) ≡ Some cell → ReadsAt before arguments after cell argument
  unfolding first_cell
  passed_at from count [] before after all tests sizes i argument there whole cell found = absurd (none-some argument there)
  passed_at from zero (first ∷ arguments) before after all tests sizes i argument there whole cell found = absurd (none-some cell found)
  passed_at from (suc count) (first ∷ arguments) before after all tests sizes i argument there whole cell found =
      by_test from first arguments before after all tests sizes argument whole cell (filter test (range_with_len (from + 1) count))
      (λ beyond j is at. passed_at (from + 1) count arguments beyond after all.1 (tests_later test is_whole from first arguments tests) (next_sizes from first arguments sizes) j argument is whole cell at)
      (is_whole first) refl i there found
