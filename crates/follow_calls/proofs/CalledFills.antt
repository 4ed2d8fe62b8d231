-- What extends the parameters of a method that is called: each fill reads what is passed and writes apart from the others.
use Rattle.std.proofs.Common.{◌≡◌, ℕ, ◌+◌, ◌≤◌, ◌<◌, Bool, true, false, ◌&&◌, ◌||◌, nat_eq, List, [], ◌∷◌, ◌++◌, map, filter, length, Option, Some, None, unwrap_or, refl, sym, ap, ap₂, subst, ◌∙◌, append-nil, arith}
use Rattle.std.specs.Prelude.{slice_get}
use Rattle.std.specs.List.{AllByRecursion, sum_by}
use Rattle.std.specs.Option.{option_map_or, option_or}
use Rattle.std.proofs.lemmas.Bool.{and_parts}
use Rattle.std.proofs.lemmas.Bool.Decides.{nat_tests}
use Rattle.std.proofs.lemmas.List.Folds.{list_any-append}
use Rattle.image_instr.specs.declared.insn.Width.TheVariants as width
use Rattle.body_form.specs.declared.body.Body.{Body}
use Rattle.jvm_model.specs.Initialisers.{is_whole_kind}
use Rattle.jvm_model.specs.WidthsShapes.{Widths}
use Rattle.jvm_model.specs.WidthsSlots.{Room, room_cells, first_cell, is_two, passed_cells, is_small, parameter_at, is_parameter, locals_of, passed, is_extended, extended, stored, cell_of, cell_count, fill_of, fills_of}
use Rattle.mote_model.specs.SplitMoves.{cells_at}
use Rattle.follow_operands.proofs.DistinctLocals.{AreDistinct, distinct_range, distinct_filter}
use Rattle.follow_operands.proofs.LocalRooms.{is_in, AreApart, has_room, room_cell}
use Rattle.follow_operands.proofs.WideLocals.{cells_inside, locals_apart}
use Rattle.follow_calls.proofs.CalledLocals.{TakesArguments, parameter_is, tests_parameter, kind_is, local_within}
use Rattle.follow_calls.proofs.CalledRooms.{room_by_test, cell_from, read_inside, rooms_size, all_filtered, all_mapped}
use Rattle.follow_calls.proofs.FilledLocals.{IsFill, AreFillsApart}
use Rattle.follow_calls.proofs.FirstLocals.{taken_in_order}
use Rattle.follow_calls.proofs.PairedArguments.{cells_count, whole_sizes}
use Rattle.follow_calls.proofs.ParameterKinds.{Argument, small_kind, passed_of}
use Rattle.follow_calls.proofs.PassedCells.{argument_cells, is_whole, passed_at}

some_where : {X : Type 0} (test : X → Bool) (found : Option X) → option_map_or test found false ≡ true → (x : X) × (found ≡ Some x) × (test x ≡ true)
some_where test None is = absurd cc
some_where test (Some x) is = (x, refl, is)

or_parts : (a b : Bool) → (a || b) ≡ false → (a ≡ false) × (b ≡ false)
or_parts true b is = absurd cc
or_parts false b is = (refl, is)

module _ (body : Body) (arguments : List Argument) (takes : TakesArguments body arguments) where
  -- ---- what is passed

  abbrev size : ℕ → ℕ
  size local = option_map_or passed_cells (parameter_at body local) 0

  abbrev is_passed : ℕ → Bool
  is_passed local = is_parameter is_whole_kind body local

  size_is : (i : ℕ) (argument : Argument) → slice_get arguments i ≡ Some argument → size (0 + i) ≡ passed_cells argument.0
  size_is i argument there = let at : 0 + i ≡ i = omega arith in ap size at ∙ kind_is body arguments takes i argument there passed_cells 0 refl

  -- the parameters have as many cells as the arguments
  pub base_is : room_cells (passed body) ≡ length (argument_cells arguments)
  base_is =
      rooms_size size (filter is_passed (locals_of body))
      ∙ ap (sum_by (λ (n : ℕ). n)) (taken_in_order is_passed is_whole size (λ (a : Argument). passed_cells a.0) 0 body.max_locals arguments takes.few (tests_parameter body arguments takes is_whole_kind refl) size_is)
      ∙ whole_sizes arguments takes.all ∙ sym (cells_count arguments takes.all)

  module _ (local : ℕ) (argument : Argument) (there : slice_get arguments local ≡ Some argument) (whole : is_whole argument ≡ true) where
    pub passed_cell : (cell : ℕ) × (first_cell 0 (passed body) local ≡ Some cell)
    passed_cell =
        room_cell 0 (passed body) local
        (room_by_test size is_passed body.max_locals local (local_within body arguments takes local argument there) ∙ kind_is body arguments takes local argument there is_whole_kind false refl ∙ whole)

    -- the cells of the argument are read there
    pub passed_reads : (after : List ℕ) → cells_at (argument_cells arguments ++ after) passed_cell.0 (passed_cells argument.0) ≡ Some (passed_of argument.0 argument.1)
    passed_reads after =
        let at : 0 + local ≡ local = omega arith in
        passed_at size is_passed 0 body.max_locals arguments [] after takes.all (tests_parameter body arguments takes is_whole_kind refl) size_is local argument there whole passed_cell.0
        (ap (first_cell 0 (passed body)) at ∙ passed_cell.1)

    pub passed_below : passed_cell.0 + passed_cells argument.0 ≤ room_cells (passed body)
    passed_below =
        let inside = read_inside (argument_cells arguments ++ []) (passed_of argument.0 argument.1) passed_cell.0 (passed_cells argument.0) (passed_reads []) in
        let all : length (argument_cells arguments ++ []) ≡ length (argument_cells arguments) = ap (λ (l : List ℕ). length l) (append-nil (argument_cells arguments)) in
        let base = base_is in
        omega (arith, inside, all, base)

  -- ---- what is extended

  module _ (widths : Widths) (two : (local : ℕ) → widths.local local ≡ width.Two) where
    abbrev upper : List Room
    upper = extended body widths ++ stored body widths

    pub record SmallLocal (local : ℕ) : Type 0 where
      pub argument : Argument
      pub there : slice_get arguments local ≡ Some argument
      pub small : is_small argument.0 ≡ true
      pub whole : is_whole argument ≡ true

    small_where : (local : ℕ) → is_extended body widths local ≡ true → SmallLocal local
    small_where local is =
        let small = (and_parts (is_parameter is_small body local) (is_two (widths.local local)) is).0 in
        let found = some_where (λ (a : Argument). is_small a.0) (slice_get arguments local) (sym (parameter_is body arguments takes is_small false refl local) ∙ small) in
        record { argument = found.0; there = found.1; small = found.2; whole = (small_kind found.0.0 found.2).whole }

    module _ (local : ℕ) (here : SmallLocal local) where
      pub low_small : local < body.max_locals
      low_small = local_within body arguments takes local here.argument here.there

      pub extends_small : is_extended body widths local ≡ true
      extends_small = ap₂ (λ (a b : Bool). a && b) (kind_is body arguments takes local here.argument here.there is_small false refl ∙ here.small) (ap is_two (two local))

      upper_cell : (cell : ℕ) × (first_cell (room_cells (passed body)) upper local ≡ Some cell)
      upper_cell =
          room_cell (room_cells (passed body)) upper local
          (list_any-append (λ (room : Room). nat_eq room.0 local) (extended body widths) (stored body widths)
          ∙ ap (λ (b : Bool). b || has_room local (stored body widths)) (room_by_test (λ other. 2) (is_extended body widths) body.max_locals local low_small ∙ extends_small))

      -- the cells that are written are those of the local
      pub small_cell : (cell : ℕ) × (cell_of body widths local ≡ Some cell)
      small_cell = (upper_cell.0, ap (λ (found : Option ℕ). option_or found (first_cell 0 (passed body) local)) upper_cell.1)

      pub fill_to : (fill_of body widths local).to ≡ small_cell.0
      fill_to = ap (λ (found : Option ℕ). unwrap_or found 0) small_cell.1

      pub fill_from : (fill_of body widths local).from ≡ (passed_cell local here.argument here.there here.whole).0
      fill_from = ap (λ (found : Option ℕ). unwrap_or found 0) (passed_cell local here.argument here.there here.whole).1

      is_fill : IsFill (room_cells (passed body)) (cell_count body widths) (fill_of body widths local)
      unfolding upper_cell small_cell
      is_fill =
          let from = fill_from in
          let to = fill_to in
          let below = passed_below local here.argument here.there here.whole in
          let one = (small_kind here.argument.0 here.small).cells in
          let base = cell_from (room_cells (passed body)) upper local upper_cell.0 upper_cell.1 in
          let inside = cells_inside body widths two local low_small small_cell.0 small_cell.1 in
          let same : small_cell.0 ≡ upper_cell.0 = refl in
          record { from = omega (arith, from, below, one); to = omega (arith, to, base, same); within = omega (arith, to, inside) }

    abbrev extended_locals : List ℕ
    extended_locals = filter (is_extended body widths) (locals_of body)

    pub small_locals : AllByRecursion SmallLocal extended_locals
    small_locals = all_filtered SmallLocal (is_extended body widths) 0 body.max_locals (λ local low is. small_where local is)

    pub fills_are : AllByRecursion (IsFill (room_cells (passed body)) (cell_count body widths)) (fills_of body widths)
    fills_are =
        all_mapped (fill_of body widths) (IsFill (room_cells (passed body)) (cell_count body widths)) extended_locals
        (all_filtered (λ local. IsFill (room_cells (passed body)) (cell_count body widths) (fill_of body widths local)) (is_extended body widths) 0 body.max_locals (λ local low is. is_fill local (small_where local is)))

    -- ---- apart

    two_apart : (local other : ℕ) → SmallLocal local → SmallLocal other → nat_eq other local ≡ false → AreApart (fill_of body widths local).to (fill_of body widths other).to
    two_apart local other here there differs =
        let differ : local ≡ other → ⊥ = λ same. let bad : nat_eq other local ≡ true = grind (arith, nat_tests, same) in cc in
        let apart = locals_apart body widths two local other differ (low_small local here) (low_small other there) (small_cell local here).0 (small_cell other there).0 (small_cell local here).1 (small_cell other there).1 in
        subst (λ (at : ℕ). AreApart at (fill_of body widths other).to) (sym (fill_to local here))
        (subst (AreApart (small_cell local here).0) (sym (fill_to other there)) apart)

    apart_from_all : (local : ℕ) → SmallLocal local → (locals : List ℕ) → AllByRecursion SmallLocal locals → is_in local locals ≡ false
        → AllByRecursion (λ fill. AreApart (fill_of body widths local).to fill.to) (map (fill_of body widths) locals)
    apart_from_all local here [] all once = tt
    apart_from_all local here (other ∷ locals) all once =
        let parts = or_parts (nat_eq other local) (is_in local locals) once in
        (two_apart local other here all.0 parts.0, apart_from_all local here locals all.1 parts.1)

    all_apart : (locals : List ℕ) → AllByRecursion SmallLocal locals → AreDistinct locals → AreFillsApart (map (fill_of body widths) locals)
    all_apart [] all distinct = tt
    all_apart (local ∷ locals) all distinct = (apart_from_all local all.0 locals all.1 distinct.0, all_apart locals all.1 distinct.1)

    pub fills_apart : AreFillsApart (fills_of body widths)
    fills_apart = all_apart extended_locals small_locals (distinct_filter (is_extended body widths) (locals_of body) (distinct_range 0 body.max_locals))
