-- What matches where a local is set to a whole number, whose two cells are written.
use Rattle.std.proofs.Common.{◌≡◌, inl, inr, ℕ, ℤ, ◌+◌, ◌<◌, ◌≤◌, true, false, nat_eq, List, ◌∷◌, [], map, length, Option, Some, sym, ap, subst, ◌∙◌, arith}
use Rattle.std.proofs.lemmas.Bool.{cases_Bool, eqb-true}
use Rattle.std.proofs.lemmas.Bool.Decides.{nat_tests}
use Rattle.cell_num.specs.Cells.{low_cell, high_cell}
use Rattle.image_instr.specs.declared.insn.Width.{Width}
use Rattle.image_instr.specs.declared.insn.Width.TheVariants as width
use Rattle.body_form.specs.declared.op.Op.{Op}
use Rattle.jvm_model.specs.State.{Value, Whole, Name}
use Rattle.jvm_model.specs.WidthsSlots.{reference_locals, cell_of}
use Rattle.mote_model.specs.State.{Reference}
use Rattle.mote_model.specs.SplitMoves.{cells_of, count_of, cells_at}
use Rattle.mote_model.specs.SplitState as split
use Rattle.typed_machine.specs.TypedState.{State}
use Rattle.typed_machine.specs.TypedStep.{local_at}
use Rattle.match_states.specs.MatchedFrames.{local_reference, HoldsNumber, LocalsMatch}
use Rattle.match_states.specs.Setting.{Setting, widths_for}
use Rattle.follow_numbers.specs.WideCode.{IsWideCode, StandsAt}
use Rattle.follow_numbers.proofs.NextStates.{body_at, found_at}
use Rattle.follow_operands.proofs.LocalRules.{low_local, holds}
use Rattle.follow_operands.proofs.MovedFrames.{frame_with}
use Rattle.follow_operands.proofs.SetFrames.{locals_set, set_here, set_beside}
use Rattle.follow_operands.proofs.WideLocals.{two_cells_wide, cells_inside, locals_apart}
use Rattle.follow_operands.proofs.WrittenCells.{written, written_count, read_again, read_apart}

module _ {setting : Setting} {state : State} {other : split.State} {instruction : Op} (code : IsWideCode setting) (here : StandsAt setting state other instruction) where
  -- each local has two cells
  pub two_here : (local : ℕ) → (widths_for setting (body_at here)).local local ≡ width.Two
  two_here local = two_cells_wide setting (body_at here) (code.wide (body_at here) (found_at here).of_set) local

  -- the cells of a local are there
  pub inside_here : (local : ℕ) → local < length here.frame.locals → (cell : ℕ) → cell_of (body_at here) (widths_for setting (body_at here)) local ≡ Some cell → cell + 2 ≤ length here.split.cells.locals
  inside_here local low cell has =
      let count = here.youngest.locals.count in
      let within = cells_inside (body_at here) (widths_for setting (body_at here)) two_here local (low_local code here local low) cell has in
      omega (arith, count, within)

  -- cells that hold a number, of a local with two
  abbrev HoldsIn : List ℕ → ℕ → ℤ → Width → Type 0
  HoldsIn cells cell number of = cells_at cells cell (count_of of) ≡ Some (cells_of of number)

  pub held_two : (local : ℕ) (number : ℤ) → (held : HoldsNumber setting (body_at here) here.split.cells.locals local number) → cells_at here.split.cells.locals held.cell 2 ≡ Some (low_cell number ∷ high_cell number ∷ [])
  held_two local number held = subst (HoldsIn here.split.cells.locals held.cell number) (two_here local) held.holds

  module _ (local : ℕ) (number : ℤ) (low : local < length here.frame.locals) (cell : ℕ) (has : cell_of (body_at here) (widths_for setting (body_at here)) local ≡ Some cell) where
    abbrev pub cells_after : List ℕ
    cells_after = written here.split.cells.locals cell (low_cell number) (high_cell number) (inside_here local low cell has)

    abbrev set : List (Option Value)
    set = locals_set code here local (Whole number)

    same_number : (value : ℤ) → Some (Whole number) ≡ Some (Whole value) → number ≡ value
    same_number value is = cc

    no_name : (name : ℕ) → Some (Whole number) ≡ Some (Name name) → ⊥
    no_name name is = cc

    apart_from : (beside : ℕ) → nat_eq beside local ≡ false → beside ≡ local → ⊥
    apart_from beside differs same =
        let is : nat_eq beside local ≡ true = grind (arith, nat_tests, same) in cc

    number_here : (value : ℤ) → local_at (frame_with code here set) local ≡ Some (Whole value) → HoldsNumber setting (body_at here) cells_after local value
    number_here value is =
        let same = same_number value (sym (set_here code here local (Whole number) low) ∙ is) in
        subst (HoldsNumber setting (body_at here) cells_after local) same
        (record {
          cell = cell;
          has = has;
          holds =
              subst (HoldsIn cells_after cell number) (sym (two_here local))
              (read_again here.split.cells.locals cell (low_cell number) (high_cell number) (inside_here local low cell has));
        })

    number_beside : (beside : ℕ) (value : ℤ) → nat_eq beside local ≡ false → local_at (frame_with code here set) beside ≡ Some (Whole value) → HoldsNumber setting (body_at here) cells_after beside value
    number_beside beside value differs is =
        let at = sym (set_beside code here local (Whole number) beside differs) ∙ is in
        let held = here.youngest.locals.numbers beside value at in
        let low_beside = (holds code here beside (Whole value) at).low in
        let apart =
        locals_apart (body_at here) (widths_for setting (body_at here)) two_here beside local (apart_from beside differs) (low_local code here beside low_beside) (low_local code here local low) held.cell cell held.has has in
        record {
          cell = held.cell;
          has = held.has;
          holds =
              subst (HoldsIn cells_after held.cell value) (sym (two_here beside))
              (read_apart here.split.cells.locals cell (low_cell number) (high_cell number) (inside_here local low cell has) held.cell (inside_here beside low_beside held.cell held.has) apart
              ∙ held_two beside value held);
        }

    -- the locals match, where the slots hold what is to be there
    pub number_set : (refs : List Reference) → refs ≡ map (local_reference (frame_with code here set)) (reference_locals (body_at here)) → LocalsMatch setting (body_at here) (frame_with code here set) refs cells_after
    number_set refs are =
        record {
          refs_are = are;
          slotted =
              λ beside name is. elim (cases_Bool (nat_eq beside local)) [
                | inl same ↦
                    let one = ap (local_at (frame_with code here set)) (eqb-true beside local same) in
                    absurd (no_name name (sym (set_here code here local (Whole number) low) ∙ sym one ∙ is))
                | inr differs ↦ here.youngest.locals.slotted beside name (sym (set_beside code here local (Whole number) beside differs) ∙ is)
              ];
          count = written_count here.split.cells.locals cell (low_cell number) (high_cell number) (inside_here local low cell has) ∙ here.youngest.locals.count;
          numbers =
              λ beside value is. elim (cases_Bool (nat_eq beside local)) [
                | inl same ↦
                    let one = eqb-true beside local same in
                    subst (λ (l : ℕ). HoldsNumber setting (body_at here) cells_after l value) (sym one)
                    (number_here value (subst (λ (l : ℕ). local_at (frame_with code here set) l ≡ Some (Whole value)) one is))
                | inr differs ↦ number_beside beside value differs is
              ];
        }
