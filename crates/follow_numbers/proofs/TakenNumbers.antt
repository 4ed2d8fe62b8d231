-- Whole numbers that are taken off the operands of both machines.
use Rattle.std.proofs.Common.{◌≡◌, ℕ, ℤ, FitsSigned, List, [], ◌∷◌, refl, ap, subst, ◌∙◌}
use Rattle.std.specs.Int.{w32}
use Rattle.std.specs.List.{AllByRecursion}
use Rattle.cell_num.specs.Cells.{low_cell, high_cell}
use Rattle.cell_num.proofs.CellLaws.{joined_cells-split}
use Rattle.image_instr.specs.declared.insn.Width.TheVariants as width
use Rattle.account.specs.Account.{Stuck}
use Rattle.body_form.specs.declared.op.Op.{Op}
use Rattle.jvm_model.specs.ImageExpansion.{top_of, width_of}
use Rattle.jvm_model.specs.State.{Value, Whole, Null, Name}
use Rattle.jvm_model.specs.WidthsShapes.{shapes_at}
use Rattle.mote_model.specs.State.{Frame as SplitFrame}
use Rattle.mote_model.specs.SplitMoves.{SplitMove, with_cells, number_of, take_number}
use Rattle.mote_model.specs.SplitState as split
use Rattle.typed_machine.specs.TypedMoves.{TypedMove}
use Rattle.typed_machine.specs.TypedState.{State}
use Rattle.typed_machine.specs.TypedStep.{move}
use Rattle.type_safety.specs.Safety.{MoveFits}
use Rattle.match_states.specs.Setting.{Setting, table_for, widths_for}
use Rattle.match_code.proofs.QuietInsns.{take_two}
use Rattle.follow_numbers.specs.WideCode.{value_refs, value_cells, IsInt, IsWideCode, StandsAt}
use Rattle.follow_numbers.proofs.NextStates.{body_at, refs_at, cells_at, operands_at, is_unstuck}

-- ---- the split machine

-- a number of two cells is taken as it is
pub take_int : (frame : SplitFrame) (number : ℤ) (cells : List ℕ) → FitsSigned w32 number → frame.cells.operands ≡ high_cell number ∷ low_cell number ∷ cells → (use_it : ℤ → SplitFrame → SplitMove)
    → take_number width.Two frame use_it ≡ use_it number (with_cells frame cells)
take_int frame number cells fits has use_it =
    take_two frame (high_cell number) (low_cell number) cells has (λ taken. use_it (number_of taken))
    ∙ ap (λ (n : ℤ). use_it n (with_cells frame cells)) (joined_cells-split number fits)

-- ---- the typed machine, which is not stuck

-- a whole number at the top
pub record OneNumber (operands : List Value) : Type 0 where
  pub number : ℤ
  pub below : List Value
  pub are : operands ≡ Whole number ∷ below

-- two whole numbers at the top
pub record TwoNumbers (operands : List Value) : Type 0 where
  pub b : ℤ
  pub a : ℤ
  pub below : List Value
  pub are : operands ≡ Whole b ∷ Whole a ∷ below

-- moves that are stuck but on a whole number
pub record AsksOne (does : List Value → TypedMove) : Type 0 where
  pub empty : does [] ≡ Stuck
  pub null : (below : List Value) → does (Null ∷ below) ≡ Stuck
  pub name : (name : ℕ) (below : List Value) → does (Name name ∷ below) ≡ Stuck

module _ {setting : Setting} {state : State} {other : split.State} {instruction : Op} (code : IsWideCode setting) (here : StandsAt setting state other instruction) where
  not_stuck : (move setting.world state ≡ Stuck) → ⊥
  not_stuck stuck = subst (MoveFits setting.world setting.tables) stuck (is_unstuck here code)

  pub one_number : (does : List Value → TypedMove) → AsksOne does → (operands : List Value) → move setting.world state ≡ does operands → OneNumber operands
  one_number does asks [] typed = absurd (not_stuck (typed ∙ asks.empty))
  one_number does asks (Null ∷ below) typed = absurd (not_stuck (typed ∙ asks.null below))
  one_number does asks (Name name ∷ below) typed = absurd (not_stuck (typed ∙ asks.name name below))
  one_number does asks (Whole number ∷ below) typed = record { number = number; below = below; are = refl }

  pub two_numbers : (does : List Value → TypedMove) → AsksOne does → ((b : ℤ) → AsksOne (λ below. does (Whole b ∷ below))) → (operands : List Value) → move setting.world state ≡ does operands → TwoNumbers operands
  two_numbers does first second operands typed =
      let one = one_number does first operands typed in
      let two = one_number (λ below. does (Whole one.number ∷ below)) (second one.number) one.below (typed ∙ ap does one.are) in
      record { b = one.number; a = two.number; below = two.below; are = one.are ∙ ap (λ (below : List Value). Whole one.number ∷ below) two.are }

  -- ---- both

  module _ (operands : List Value) (are : here.frame.operands ≡ operands) where
    pub refs_of : here.split.refs.operands ≡ value_refs operands
    refs_of = refs_at here code ∙ ap value_refs are

    pub cells_of : here.split.cells.operands ≡ value_cells operands
    cells_of = cells_at here code ∙ ap value_cells are

    pub ints_of : AllByRecursion IsInt operands
    ints_of = subst (λ values. AllByRecursion IsInt values) are (operands_at here code).ints

  -- a number at the top has two cells
  pub top_is_two : (number : ℤ) (below : List Value) → here.frame.operands ≡ Whole number ∷ below
      → width_of (top_of (shapes_at (widths_for setting (body_at here)) (table_for setting (body_at here)) here.frame.pc)) ≡ width.Two
  top_is_two number below are = ap width_of ((operands_at here code).top number below are)
