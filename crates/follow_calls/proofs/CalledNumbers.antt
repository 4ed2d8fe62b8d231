-- The whole numbers among the arguments of a method stand in the cells of their locals, once its parameters are extended.
use Rattle.std.proofs.Common.{◌≡◌, ℕ, ℤ, ◌+◌, ◌≤◌, ◌<◌, Bool, true, false, ◌&&◌, ◌||◌, not, nat_eq, List, [], ◌∷◌, ◌++◌, filter, length, get_or, Option, Some, refl, sym, ap, ◌∙◌, arith}
use Rattle.std.specs.Prelude.{slice_get}
use Rattle.std.specs.Option.{option_or}
use Rattle.std.proofs.lemmas.List.Folds.{list_any-append}
use Rattle.cell_num.specs.Cells.{low_cell}
use Rattle.class_pool.specs.declared.types.MemberId.{MemberId}
use Rattle.image_form.specs.declared.record.Image.{Image}
use Rattle.image_instr.specs.declared.insn.Width.TheVariants as width
use Rattle.insn_form.specs.declared.ValueKind.TheVariants as value_kind
use Rattle.body_form.specs.declared.body.Body.{Body}
use Rattle.jvm_model.specs.declared.plan.Fill.{Fill}
use Rattle.jvm_model.specs.Initialisers.{is_whole_kind}
use Rattle.jvm_model.specs.State.{Value, Whole}
use Rattle.jvm_model.specs.WidthsShapes.{Widths}
use Rattle.jvm_model.specs.WidthsSlots.{Room, room_cells, first_cell, is_two, is_small, is_char, is_parameter, is_stored, locals_of, passed, is_extended, extended, stored, cell_of, cell_count, fill_of, fills_of}
use Rattle.image_instr.specs.Effect.{cells_in}
use Rattle.mote_model.specs.State.{Frame}
use Rattle.mote_model.specs.SplitMoves.{cells_of, cells_at}
use Rattle.mote_model.specs.SplitState.{State}
use Rattle.typed_machine.specs.TypedStep.{local_at}
use Rattle.follow_operands.proofs.LocalRooms.{is_in, in_all, in_filter, has_room}
use Rattle.follow_calls.proofs.CalledCells.{cells_rest, cells_passed, passed_all, fills_go, below_fills}
use Rattle.follow_calls.proofs.CalledFills.{base_is, passed_cell, passed_reads, passed_below, SmallLocal, low_small, extends_small, small_cell, fill_to, fill_from, fills_are}
use Rattle.follow_calls.proofs.CalledLocals.{TakesArguments, kind_is, local_within, called_frame, holds_argument}
use Rattle.follow_calls.proofs.CalledRooms.{room_by_test, no_cell, of_local_in, all_from_mapped}
use Rattle.follow_calls.proofs.FilledLocals.{one_cell, IsFilled}
use Rattle.follow_calls.proofs.PairedArguments.{taken_as}
use Rattle.follow_calls.proofs.ParameterKinds.{Argument, extended_by, small_kind, large_kind, passed_of, small_cells, large_cells}
use Rattle.follow_calls.proofs.TakenValues.{IsWholeArgument, whole_argument}

-- ---- equations

same_whole : (a b : ℤ) → Whole a ≡ Whole b → a ≡ b
same_whole a b is = cc

same_one : (a b : ℕ) → Some (a ∷ []) ≡ Some (b ∷ []) → a ≡ b
same_one a b is = cc

module _ (body : Body) (arguments : List Argument) (takes : TakesArguments body arguments) (widths : Widths) (two : (local : ℕ) → widths.local local ≡ width.Two)
    (image : Image) (state : State) (others : List Frame) (frame : Frame) (has : frame.cells.locals ≡ cells_passed body arguments takes widths two) where
  abbrev zeros : List ℕ
  zeros = cells_rest body arguments takes widths two

  abbrev first_cells : List ℕ
  first_cells = cells_passed body arguments takes widths two

  abbrev after : List ℕ
  after = (fills_go body arguments takes widths two image state others frame has).last.cells.locals

  -- the two cells of a local hold a number
  pub record HoldsTwo (local : ℕ) (number : ℤ) : Type 0 where
    pub cell : ℕ
    pub cell_is : cell_of body widths local ≡ Some cell
    pub holds : cells_at after cell 2 ≡ Some (cells_of width.Two number)

  module _ (local : ℕ) (argument : Argument) (there : slice_get arguments local ≡ Some argument) (whole : IsWholeArgument argument) where
    -- ---- one of a small type

    module _ (small : is_small argument.0 ≡ true) where
      abbrev here : SmallLocal body arguments takes widths two local
      here = record { argument = argument; there = there; small = small; whole = whole.whole }

      abbrev from : ℕ
      from = (passed_cell body arguments takes local argument there whole.whole).0

      cell_read : get_or frame.cells.locals from 0 ≡ low_cell whole.number
      cell_read =
          let below = passed_below body arguments takes local argument there whole.whole in
          let one = (small_kind argument.0 small).cells in
          let all = passed_all body arguments takes widths two in
          let inside : from < length first_cells = omega (arith, below, one, all) in
          let passed_is = passed_reads body arguments takes local argument there whole.whole zeros in
          let one_is : cells_at first_cells from 1 ≡ Some (low_cell whole.number ∷ []) =
          sym (ap (cells_at first_cells from) one) ∙ passed_is ∙ ap (λ (v : Value). Some (passed_of argument.0 v)) whole.is ∙ ap (λ (l : List ℕ). Some l) (small_cells argument.0 whole.number small) in
          ap (λ (l : List ℕ). get_or l from 0) has ∙ same_one (get_or first_cells from 0) (low_cell whole.number) (sym (one_cell first_cells from inside) ∙ one_is)

      small_holds : (number : ℤ) → taken_as argument ≡ Whole number → HoldsTwo local number
      small_holds number is =
          let locals = filter (is_extended body widths) (locals_of body) in
          let Filled : Fill → Type 0 = IsFilled frame.cells.locals after in
          let among : is_in local locals ≡ true =
          in_filter (is_extended body widths) local (locals_of body) ∙ ap (λ (b : Bool). b && is_in local (locals_of body)) (extends_small body arguments takes widths two local here)
          ∙ in_all body.max_locals local (low_small body arguments takes widths two local here) in
          let filled = of_local_in (λ (l : ℕ). Filled (fill_of body widths l)) locals local (all_from_mapped (fill_of body widths) Filled locals (fills_go body arguments takes widths two image state others frame has).filled) among in
          let value : number ≡ extended_by (is_char argument.0) (low_cell whole.number) =
          same_whole number (extended_by (is_char argument.0) (low_cell whole.number)) (sym is ∙ ap (λ (v : Value). taken_as (argument.0, v)) whole.is ∙ (small_kind argument.0 small).argument whole.number whole.fits) in
          let cell = small_cell body arguments takes widths two local here in
          record {
            cell = cell.0;
            cell_is = cell.1;
            holds =
                sym (ap (λ (at : ℕ). cells_at after at 2) (fill_to body arguments takes widths two local here)) ∙ filled
                ∙ ap (λ (b : Bool). Some (cells_of width.Two (extended_by b (get_or frame.cells.locals (fill_of body widths local).from 0)))) (kind_is body arguments takes local argument there is_char false refl)
                ∙ ap (λ (at : ℕ). Some (cells_of width.Two (extended_by (is_char argument.0) (get_or frame.cells.locals at 0)))) (fill_from body arguments takes widths two local here)
                ∙ ap (λ (n : ℕ). Some (cells_of width.Two (extended_by (is_char argument.0) n))) cell_read
                ∙ ap (λ (n : ℤ). Some (cells_of width.Two n)) (sym value);
          }

    -- ---- an int

    module _ (large : is_small argument.0 ≡ false) where
      abbrev at : ℕ
      at = (passed_cell body arguments takes local argument there whole.whole).0

      low_here : local < body.max_locals
      low_here = local_within body arguments takes local argument there

      plain : is_extended body widths local ≡ false
      plain = ap (λ (b : Bool). b && is_two (widths.local local)) (kind_is body arguments takes local argument there is_small false refl ∙ large)

      parameter : is_parameter is_whole_kind body local ≡ true
      parameter = kind_is body arguments takes local argument there is_whole_kind false refl ∙ whole.whole

      abbrev is_stored_whole : ℕ → Bool
      is_stored_whole other = not (is_parameter is_whole_kind body other) && is_stored value_kind.Int body other

      none_above : has_room local (extended body widths ++ stored body widths) ≡ false
      none_above =
          list_any-append (λ (room : Room). nat_eq room.0 local) (extended body widths) (stored body widths)
          ∙ ap (λ (b : Bool). b || has_room local (stored body widths)) (room_by_test (λ other. 2) (is_extended body widths) body.max_locals local low_here ∙ plain)
          ∙ room_by_test (λ other. cells_in (widths.local other)) is_stored_whole body.max_locals local low_here
          ∙ ap (λ (b : Bool). not b && is_stored value_kind.Int body local) parameter

      large_holds : (number : ℤ) → taken_as argument ≡ Whole number → HoldsTwo local number
      large_holds number is =
          let kind_large = large_kind argument.0 whole.whole large in
          let below = passed_below body arguments takes local argument there whole.whole in
          let size = kind_large.cells in
          let all = passed_all body arguments takes widths two in
          let base = base_is body arguments takes in
          let inside : at + 2 ≤ length frame.cells.locals =
          let same = ap (λ (l : List ℕ). length l) has in omega (arith, below, size, all, same) in
          let apart = below_fills (room_cells (passed body)) (cell_count body widths) at (fills_of body widths) (omega (arith, below, size)) (fills_are body arguments takes widths two) in
          let value : number ≡ whole.number =
          same_whole number whole.number (sym is ∙ ap (λ (v : Value). taken_as (argument.0, v)) whole.is ∙ kind_large.argument whole.number) in
          record {
            cell = at;
            cell_is =
                ap (λ (found : Option ℕ). option_or found (first_cell 0 (passed body) local)) (no_cell (room_cells (passed body)) (extended body widths ++ stored body widths) local none_above)
                ∙ (passed_cell body arguments takes local argument there whole.whole).1;
            holds =
                (fills_go body arguments takes widths two image state others frame has).apart at inside apart ∙ ap (λ (l : List ℕ). cells_at l at 2) has
                ∙ sym (ap (cells_at first_cells at) size) ∙ passed_reads body arguments takes local argument there whole.whole zeros
                ∙ ap (λ (v : Value). Some (passed_of argument.0 v)) whole.is ∙ ap (λ (l : List ℕ). Some l) (large_cells argument.0 whole.number large)
                ∙ ap (λ (n : ℤ). Some (cells_of width.Two n)) (sym value);
          }

    by_size : (number : ℤ) → taken_as argument ≡ Whole number → (small : Bool) → is_small argument.0 ≡ small → HoldsTwo local number
    by_size number is true small = small_holds small number is
    by_size number is false large = large_holds large number is

  -- ---- each local

  pub numbers_hold : (method : MemberId) (local : ℕ) (number : ℤ) → local_at (called_frame body arguments takes method) local ≡ Some (Whole number) → HoldsTwo local number
  numbers_hold method local number is =
      let held = holds_argument body arguments takes method local (Whole number) is in
      let whole = whole_argument held.argument held.passes number held.is in
      by_size local held.argument held.there whole number held.is (is_small held.argument.0) refl
