-- What extends parameters at entry runs quietly: each small parameter is read in its one cell and written in two others,
-- and cells apart from these stay.
use Rattle.std.proofs.Common.{◌≡◌, ℕ, ◌+◌, ◌<◌, ◌≤◌, Bool, true, false, nat_le, if◌then◌else◌, List, [], ◌∷◌, length, take, drop, get_or, Some, None, refl, ap, ◌∙◌, arith}
use Rattle.std.specs.List.{AllByRecursion, flat_map}
use Rattle.std.proofs.lemmas.Bool.Decides.{nat_tests}
use Rattle.std.proofs.lemmas.Grind.{elements}
use Rattle.std.proofs.lemmas.List.{drop_more}
use Rattle.cell_num.specs.Cells.{low_cell, high_cell}
use Rattle.image_form.specs.declared.record.Image.{Image}
use Rattle.image_instr.specs.declared.insn.Kind.TheVariants as kind
use Rattle.image_instr.specs.declared.insn.MInsn.TheVariants as insns
use Rattle.image_instr.specs.declared.insn.Width.TheVariants as width
use Rattle.image_instr.specs.Insn.{insn_bytes}
use Rattle.jvm_model.specs.declared.plan.Fill.{Fill}
use Rattle.jvm_model.specs.WidthsFrame.{fill_insns}
use Rattle.mote_model.specs.State.{Frame}
use Rattle.mote_model.specs.SplitMoves.{at_pc, with_cells, with_cell_locals, cells_of, cells_at, push_cells}
use Rattle.mote_model.specs.SplitState.{State, with_frames}
use Rattle.match_code.proofs.QuietInsns.{GoesOn, loads_one, extends_by_sign, extends_by_zero, stores_two}
use Rattle.match_code.proofs.QuietRuns.{GoesOverAll, OverNone, OverOne}
use Rattle.follow_operands.proofs.LocalRooms.{AreApart}
use Rattle.follow_operands.proofs.WrittenCells.{written, writes, written_count, read_again, read_apart}
use Rattle.follow_calls.proofs.ParameterKinds.{extended_by}

-- ---- cells

-- one cell is there
pub one_cell : (cells : List ℕ) (at : ℕ) → at < length cells → cells_at cells at 1 ≡ Some (get_or cells at 0 ∷ [])
one_cell cells at within =
    let enough : nat_le (at + 1) (length cells) ≡ true = grind (arith, nat_tests, within) in
    ap (λ (b : Bool). if b then Some (take 1 (drop at cells)) else None) enough
    ∙ ap (λ (l : List ℕ). Some (take 1 l)) (drop_more cells at 0 within)

-- a cell before two that are written stays
left_alone : (cells : List ℕ) (at low high : ℕ) (within : at + 2 ≤ length cells) (other : ℕ) → other < at → get_or (written cells at low high within) other 0 ≡ get_or cells other 0
left_alone cells at low high within other before = grind (arith, elements, within)

-- ---- fills

-- it reads a cell below and writes two from there on, within the cells of the frame
pub record IsFill (base count : ℕ) (fill : Fill) : Type 0 where
  pub from : fill.from < base
  pub to : base ≤ fill.to
  pub within : fill.to + 2 ≤ count

-- no two write a same cell
abbrev pub AreFillsApart : List Fill → Type 0
AreFillsApart [] = Unit {0}
AreFillsApart (fill ∷ fills) = AllByRecursion (λ (other : Fill). AreApart fill.to other.to) fills × AreFillsApart fills

-- the two cells hold what the one is extended to
abbrev pub IsFilled : List ℕ → List ℕ → Fill → Type 0
IsFilled before after fill = cells_at after fill.to 2 ≡ Some (cells_of width.Two (extended_by fill.zero (get_or before fill.from 0)))

module _ (image : Image) (state : State) (others : List Frame) where
  -- where fills lead
  pub record Fills (base : ℕ) (frame : Frame) (fills : List Fill) : Type 0 where
    pub last : Frame
    pub over : GoesOverAll image state others frame (flat_map fill_insns fills) last
    pub operands : last.cells.operands ≡ frame.cells.operands
    pub count : length last.cells.locals ≡ length frame.cells.locals
    pub below : (at : ℕ) → at < base → get_or last.cells.locals at 0 ≡ get_or frame.cells.locals at 0
    pub apart : (at : ℕ) → at + 2 ≤ length frame.cells.locals → AllByRecursion (λ (fill : Fill). AreApart at fill.to) fills → cells_at last.cells.locals at 2 ≡ cells_at frame.cells.locals at 2
    pub filled : AllByRecursion (IsFilled frame.cells.locals last.cells.locals) fills

  -- one cell is extended
  extends : (frame : Frame) (cell : ℕ) (cells : List ℕ) → frame.cells.operands ≡ cell ∷ cells → (zero : Bool)
      → GoesOn image (with_frames state (frame ∷ others)) frame (with_cells frame (high_cell (extended_by zero cell) ∷ low_cell (extended_by zero cell) ∷ cells)) others (if zero then insns.Zx else insns.Sx)
  extends frame cell cells has true = extends_by_zero image (with_frames state (frame ∷ others)) frame others cell cells has
  extends frame cell cells has false = extends_by_sign image (with_frames state (frame ∷ others)) frame others cell cells has

  module _ (frame : Frame) (fill : Fill) (read : fill.from < length frame.cells.locals) (write : fill.to + 2 ≤ length frame.cells.locals) where
    abbrev cell_read : ℕ
    cell_read = get_or frame.cells.locals fill.from 0

    abbrev low_written : ℕ
    low_written = low_cell (extended_by fill.zero cell_read)

    abbrev high_written : ℕ
    high_written = high_cell (extended_by fill.zero cell_read)

    abbrev operands_there : List ℕ
    operands_there = frame.cells.operands

    abbrev pub locals_after : List ℕ
    locals_after = written frame.cells.locals fill.to low_written high_written write

    abbrev loaded_frame : Frame
    loaded_frame = at_pc (push_cells (cell_read ∷ []) frame) (frame.pc + length (insn_bytes (insns.Load kind.One fill.from) []))

    abbrev extended_frame : Frame
    extended_frame = at_pc (with_cells loaded_frame (high_written ∷ low_written ∷ operands_there)) (loaded_frame.pc + length (insn_bytes (if fill.zero then insns.Zx else insns.Sx) []))

    abbrev pub filled_frame : Frame
    filled_frame = at_pc (with_cell_locals (with_cells extended_frame operands_there) locals_after) (extended_frame.pc + length (insn_bytes (insns.Store kind.Two fill.to) []))

    -- over one fill, and then over others
    pub over_fill : (fills : List Fill) (last : Frame) → GoesOverAll image state others filled_frame (flat_map fill_insns fills) last → GoesOverAll image state others frame (flat_map fill_insns (fill ∷ fills)) last
    over_fill fills last later =
        OverOne frame (push_cells (cell_read ∷ []) frame) last (insns.Load kind.One fill.from) [] _
        (loads_one image (with_frames state (frame ∷ others)) frame others fill.from (cell_read ∷ []) (one_cell frame.cells.locals fill.from read))
        (OverOne loaded_frame (with_cells loaded_frame (high_written ∷ low_written ∷ operands_there)) last (if fill.zero then insns.Zx else insns.Sx) [] _ (extends loaded_frame cell_read operands_there refl fill.zero)
        (OverOne extended_frame (with_cell_locals (with_cells extended_frame operands_there) locals_after) last (insns.Store kind.Two fill.to) [] _
        (stores_two image (with_frames state (extended_frame ∷ others)) extended_frame others high_written low_written operands_there refl fill.to locals_after (writes frame.cells.locals fill.to low_written high_written write)) later))

  -- what is read of the frame stays below
  refilled : (base : ℕ) (before middle after : List ℕ) → ((at : ℕ) → at < base → get_or middle at 0 ≡ get_or before at 0) → (count : ℕ) (fills : List Fill) → AllByRecursion (IsFill base count) fills
      → AllByRecursion (IsFilled middle after) fills → AllByRecursion (IsFilled before after) fills
  refilled base before middle after same count [] all filled = tt
  refilled base before middle after same count (fill ∷ fills) all filled = (
    filled.0 ∙ ap (λ (cell : ℕ). Some (cells_of width.Two (extended_by fill.zero cell))) (same fill.from all.0.from),
    refilled base before middle after same count fills all.1 filled.1,
  )

  pub fills_run : (base count : ℕ) (fills : List Fill) → base ≤ count → AllByRecursion (IsFill base count) fills → AreFillsApart fills → (frame : Frame) → length frame.cells.locals ≡ count → Fills base frame fills
  fills_run base count [] low all apart frame long =
      record { last = frame; over = OverNone frame; operands = refl; count = refl; below = λ at within. refl; apart = λ at within every. refl; filled = tt }
  fills_run base count (fill ∷ fills) low all apart frame long =
      let read : fill.from < length frame.cells.locals = let from = all.0.from in omega (arith, from, low, long) in
      let write : fill.to + 2 ≤ length frame.cells.locals = let within = all.0.within in omega (arith, within, long) in
      let value = extended_by fill.zero (get_or frame.cells.locals fill.from 0) in
      let low_is = low_cell value in
      let high_is = high_cell value in
      let next = filled_frame frame fill read write in
      let same_count = written_count frame.cells.locals fill.to low_is high_is write in
      let later = fills_run base count fills low all.1 apart.1 next (same_count ∙ long) in
      let first_below : (at : ℕ) → at < base → get_or next.cells.locals at 0 ≡ get_or frame.cells.locals at 0 =
      λ at within. let to = all.0.to in left_alone frame.cells.locals fill.to low_is high_is write at (omega (arith, within, to)) in
      let here : fill.to + 2 ≤ length next.cells.locals = omega (arith, write, same_count) in
      record {
        last = later.last;
        over = over_fill frame fill read write fills later.last later.over;
        operands = later.operands;
        count = later.count ∙ same_count;
        below = λ at within. later.below at within ∙ first_below at within;
        apart =
            λ at within every.
            let there : at + 2 ≤ length next.cells.locals = omega (arith, within, same_count) in
            later.apart at there every.1 ∙ read_apart frame.cells.locals fill.to low_is high_is write at within every.0;
        filled = (
          later.apart fill.to here apart.0 ∙ read_again frame.cells.locals fill.to low_is high_is write,
          refilled base frame.cells.locals next.cells.locals later.last.cells.locals first_below count fills all.1 later.filled,
        );
      }
