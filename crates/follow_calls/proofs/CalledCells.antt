-- The cells of a method's new frame: those of its arguments and zeros, and then with its parameters extended.
use Rattle.std.proofs.Common.{◌≡◌, inl, ℕ, ◌+◌, ◌-◌, ◌≤◌, List, [], ◌∷◌, ◌++◌, length, replicate, ap, ◌∙◌, length-append, arith}
use Rattle.std.specs.List.{AllByRecursion}
use Rattle.std.proofs.lemmas.List.{length-replicate}
use Rattle.image_form.specs.declared.record.Image.{Image}
use Rattle.image_instr.specs.declared.insn.Width.TheVariants as width
use Rattle.body_form.specs.declared.body.Body.{Body}
use Rattle.jvm_model.specs.declared.plan.Fill.{Fill}
use Rattle.jvm_model.specs.WidthsShapes.{Widths}
use Rattle.jvm_model.specs.WidthsSlots.{room_cells, passed, cell_count, fills_of}
use Rattle.mote_model.specs.State.{Frame}
use Rattle.mote_model.specs.SplitState.{State}
use Rattle.follow_operands.proofs.LocalRooms.{AreApart}
use Rattle.follow_calls.proofs.CalledFills.{base_is, fills_are, fills_apart}
use Rattle.follow_calls.proofs.CalledLocals.{TakesArguments}
use Rattle.follow_calls.proofs.FilledLocals.{IsFill, Fills, fills_run}
use Rattle.follow_calls.proofs.ParameterKinds.{Argument}
use Rattle.follow_calls.proofs.PassedCells.{argument_cells}

-- cells below all that is filled lie apart
pub below_fills : (base count cell : ℕ) (fills : List Fill) → cell + 2 ≤ base → AllByRecursion (IsFill base count) fills → AllByRecursion (λ (fill : Fill). AreApart cell fill.to) fills
below_fills base count cell [] low all = tt
below_fills base count cell (fill ∷ fills) low all = (inl (let to = all.0.to in omega (arith, low, to)), below_fills base count cell fills low all.1)

module _ (body : Body) (arguments : List Argument) (takes : TakesArguments body arguments) (widths : Widths) (two : (local : ℕ) → widths.local local ≡ width.Two) where
  -- ---- the cells before any is extended

  abbrev pub cells_rest : List ℕ
  cells_rest = replicate (cell_count body widths - length (argument_cells arguments)) 0

  abbrev pub cells_passed : List ℕ
  cells_passed = argument_cells arguments ++ cells_rest

  pub passed_all : length cells_passed ≡ cell_count body widths
  passed_all =
      let base = base_is body arguments takes in
      let rest = length-replicate {A = ℕ} (cell_count body widths - length (argument_cells arguments)) 0 in
      let both = length-append (argument_cells arguments) cells_rest in
      omega (arith, base, rest, both)

  module _ (image : Image) (state : State) (others : List Frame) (frame : Frame) (has : frame.cells.locals ≡ cells_passed) where
    pub fills_go : Fills image state others (room_cells (passed body)) frame (fills_of body widths)
    fills_go =
        fills_run image state others (room_cells (passed body)) (cell_count body widths) (fills_of body widths) (omega arith) (fills_are body arguments takes widths two) (fills_apart body arguments takes widths two) frame
        (ap (λ (l : List ℕ). length l) has ∙ passed_all)
