-- A whole number of two cells is cut to what a declared type keeps of it, and read from there as two cells again.
use Rattle.std.proofs.Common.{◌≡◌, ℕ, ℤ, pos, ◌+◌, ◌%◌, FitsSigned, true, List, [], ◌∷◌, ◌++◌, length, reverse, refl, ap}
use Rattle.std.specs.Int.{w32}
use Rattle.cell_num.specs.declared.conversions.Conv.TheVariants as conv
use Rattle.cell_num.specs.Cells.{low_cell, high_cell, sign_extended}
use Rattle.cell_num.specs.Conversions.{converted}
use Rattle.class_pool.specs.declared.descriptor.Kind.{Kind as DeclaredKind}
use Rattle.class_pool.specs.declared.descriptor.Kind.TheVariants as declared
use Rattle.image_form.specs.declared.record.Image.{Image}
use Rattle.image_instr.specs.declared.insn.Kind.TheVariants as kind
use Rattle.image_instr.specs.declared.insn.MInsn.{MInsn}
use Rattle.image_instr.specs.declared.insn.MInsn.TheVariants as insns
use Rattle.image_instr.specs.declared.insn.Width.TheVariants as width
use Rattle.image_instr.specs.Insn.{insn_bytes}
use Rattle.jvm_model.specs.ImageExpansion.{Emitted, alone, kind_in, read_as, write_as}
use Rattle.jvm_model.specs.Initialisers.{is_whole_kind}
use Rattle.jvm_model.specs.InitialStatics.{narrowed}
use Rattle.jvm_model.specs.State.{Whole}
use Rattle.mote_model.specs.State.{Frame as SplitFrame}
use Rattle.mote_model.specs.SplitMoves as split_moves
use Rattle.mote_model.specs.SplitMoves.{SplitMove, with_cells, at_pc, take_cells}
use Rattle.mote_model.specs.SplitObjects.{size_of}
use Rattle.mote_model.specs.SplitState as split
use Rattle.match_states.specs.MatchedFrames.{cells_of_shape}
use Rattle.match_code.proofs.QuietInsns.{GoesOn, take_one, take_two, pops, extends_by_sign, extends_by_zero, cuts_to_byte, cuts_to_bit}
use Rattle.match_code.proofs.QuietRuns.{GoesOverAll, OverNone, OverOne}
use Rattle.follow_calls.proofs.KeptCells.{char_cell, short_cell, byte_cell, bit_cell, byte_read, short_read, bit_read}

-- the cells of a number in a declared type, the low one first
abbrev pub kept_cells : DeclaredKind → ℤ → List ℕ
kept_cells of number = cells_of_shape (kind_in of) (Whole number)

module _ (image : Image) (state : split.State) (others : List SplitFrame) where
  -- a run of quiet instructions that leaves these cells, and all else of the frame but its pc
  pub record LeavesCells (frame : SplitFrame) (emitted : List Emitted) (cells : List ℕ) : Type 0 where
    pub last : SplitFrame
    pub over : GoesOverAll image state others frame emitted last
    pub cells_are : last.cells.operands ≡ cells
    pub method : last.method ≡ frame.method
    pub refs : last.refs ≡ frame.refs
    pub locals : last.cells.locals ≡ frame.cells.locals

  -- no instruction
  leaves_none : (frame : SplitFrame) (cells : List ℕ) → frame.cells.operands ≡ cells → LeavesCells frame [] cells
  leaves_none frame cells has = record { last = frame; over = OverNone frame; cells_are = has; method = refl; refs = refl; locals = refl }

  -- one instruction before others
  abbrev behind : SplitFrame → MInsn → List ℕ → SplitFrame
  behind frame insn cells = at_pc (with_cells frame cells) (frame.pc + length (insn_bytes insn []))

  leaves_more : (frame : SplitFrame) (insn : MInsn) (between : List ℕ) → GoesOn image (split.with_frames state (frame ∷ others)) frame (with_cells frame between) others insn
      → (rest : List Emitted) (cells : List ℕ) → LeavesCells (behind frame insn between) rest cells → LeavesCells frame ((insn, []) ∷ rest) cells
  leaves_more frame insn between over rest cells later =
      record {
        last = later.last;
        over = OverOne frame (with_cells frame between) later.last insn [] rest over later.over;
        cells_are = later.cells_are;
        method = later.method;
        refs = later.refs;
        locals = later.locals;
      }

  leaves_one : (frame : SplitFrame) (insn : MInsn) (between cells : List ℕ) → GoesOn image (split.with_frames state (frame ∷ others)) frame (with_cells frame between) others insn → between ≡ cells
      → LeavesCells frame (alone insn) cells
  leaves_one frame insn between cells over same = leaves_more frame insn between over [] cells (leaves_none (behind frame insn between) cells same)

  -- ---- cut

  module _ (frame : SplitFrame) (number : ℤ) (fits : FitsSigned w32 number) (cells : List ℕ) (has : frame.cells.operands ≡ high_cell number ∷ low_cell number ∷ cells) where
    abbrev low_cells : List ℕ
    low_cells = low_cell number ∷ cells

    cut_high : (rest : List Emitted) (left : List ℕ) → LeavesCells (behind frame (insns.Pop 1) low_cells) rest left → LeavesCells frame ((insns.Pop 1, []) ∷ rest) left
    cut_high rest left later =
        leaves_more frame (insns.Pop 1) low_cells (pops image (split.with_frames state (frame ∷ others)) frame others (high_cell number) low_cells has) rest left later

    abbrev low : SplitFrame
    low = behind frame (insns.Pop 1) low_cells

    -- to what is kept of it
    pub cut_as : (of : DeclaredKind) → is_whole_kind of ≡ true → LeavesCells frame (write_as of kind.Two) (reverse (kept_cells of (narrowed of number)) ++ cells)
    cut_as declared.Int whole = leaves_none frame (high_cell number ∷ low_cell number ∷ cells) has
    cut_as declared.Char whole =
        let left = low_cell (converted conv.Char number) ∷ cells in
        cut_high [] left (leaves_none low left (ap (λ (cell : ℕ). cell ∷ cells) (char_cell number)))
    cut_as declared.Short whole =
        let left = low_cell (converted conv.Short number) ∷ cells in
        cut_high [] left (leaves_none low left (ap (λ (cell : ℕ). cell ∷ cells) (short_cell number fits)))
    cut_as declared.Byte whole =
        let left = low_cell (converted conv.Byte number) ∷ cells in
        let cut = low_cell (converted conv.Byte (sign_extended (low_cell number))) ∷ cells in
        cut_high (alone insns.Sb) left
        (leaves_one low insns.Sb cut left (cuts_to_byte image (split.with_frames state (low ∷ others)) low others (low_cell number) cells refl) (ap (λ (cell : ℕ). cell ∷ cells) (byte_cell number fits)))
    cut_as declared.Boolean whole =
        let left = low_cell (narrowed declared.Boolean number) ∷ cells in
        let cut = low_cell number % 2 ∷ cells in
        cut_high (alone insns.Bit) left
        (leaves_one low insns.Bit cut left (cuts_to_bit image (split.with_frames state (low ∷ others)) low others (low_cell number) cells refl) (ap (λ (cell : ℕ). cell ∷ cells) (bit_cell number)))
    cut_as of whole = absurd cc

  -- ---- read

  module _ (frame : SplitFrame) (number : ℤ) (cells : List ℕ) where
    abbrev two_cells : ℤ → List ℕ
    two_cells read = high_cell read ∷ low_cell read ∷ cells

    by_sign : frame.cells.operands ≡ low_cell number ∷ cells → sign_extended (low_cell number) ≡ number → LeavesCells frame (alone insns.Sx) (two_cells number)
    by_sign has same =
        let between = reverse (split_moves.cells_of width.Two (sign_extended (low_cell number))) ++ cells in
        leaves_one frame insns.Sx between (two_cells number) (extends_by_sign image (split.with_frames state (frame ∷ others)) frame others (low_cell number) cells has) (ap two_cells same)

    by_zero : frame.cells.operands ≡ low_cell number ∷ cells → pos (low_cell number) ≡ number → LeavesCells frame (alone insns.Zx) (two_cells number)
    by_zero has same =
        let between = reverse (split_moves.cells_of width.Two (pos (low_cell number))) ++ cells in
        leaves_one frame insns.Zx between (two_cells number) (extends_by_zero image (split.with_frames state (frame ∷ others)) frame others (low_cell number) cells has) (ap two_cells same)

    -- as it is, where it is kept
    pub read_back : (of : DeclaredKind) → is_whole_kind of ≡ true → narrowed of number ≡ number → frame.cells.operands ≡ reverse (kept_cells of number) ++ cells
        → LeavesCells frame (read_as of kind.Two) (two_cells number)
    read_back declared.Int whole kept has = leaves_none frame (two_cells number) has
    read_back declared.Char whole kept has = by_zero has kept
    read_back declared.Boolean whole kept has = by_zero has (bit_read number kept)
    read_back declared.Byte whole kept has = by_sign has (byte_read number kept)
    read_back declared.Short whole kept has = by_sign has (short_read number kept)
    read_back of whole kept has = absurd cc

-- what is kept is taken off the top
pub take_kept : (frame : SplitFrame) (of : DeclaredKind) → is_whole_kind of ≡ true → (number : ℤ) (cells : List ℕ) → frame.cells.operands ≡ reverse (kept_cells of number) ++ cells
    → (use_them : List ℕ → SplitFrame → SplitMove) → take_cells (size_of (kind_in of)) frame use_them ≡ use_them (kept_cells of number) (with_cells frame cells)
take_kept frame declared.Int whole number cells has use_them = take_two frame (high_cell number) (low_cell number) cells has use_them
take_kept frame declared.Char whole number cells has use_them = take_one frame (low_cell number) cells has use_them
take_kept frame declared.Short whole number cells has use_them = take_one frame (low_cell number) cells has use_them
take_kept frame declared.Byte whole number cells has use_them = take_one frame (low_cell number) cells has use_them
take_kept frame declared.Boolean whole number cells has use_them = take_one frame (low_cell number) cells has use_them
take_kept frame of whole number cells has use_them = absurd cc
