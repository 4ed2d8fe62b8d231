-- The machine instructions that change cells of a frame alone, as expansions have them before and behind others.
use Rattle.std.proofs.Common.{◌≡◌, ℕ, pos, suc, ◌+◌, ◌%◌, Bool, true, nat_le, nat_lt, if◌then◌else◌, List, [], ◌∷◌, ◌++◌, length, reverse, take, drop, slice_get, Some, None, refl, ap, ◌∙◌, length-append, arith}
use Rattle.std.proofs.Math.Seq.{drop-append-add, take-append_seam}
use Rattle.std.proofs.lemmas.Bool.Decides.{nat_tests}
use Rattle.cell_num.specs.Cells.{sign_extended, low_cell}
use Rattle.cell_num.specs.Conversions.{converted}
use Rattle.cell_num.specs.declared.conversions.Conv.TheVariants as conv
use Rattle.image_form.specs.declared.record.Image.{Image}
use Rattle.image_instr.specs.declared.insn.Kind.TheVariants as kind
use Rattle.image_instr.specs.declared.insn.MInsn.{MInsn}
use Rattle.image_instr.specs.declared.insn.MInsn.TheVariants as insns
use Rattle.image_instr.specs.declared.insn.Width.TheVariants as width
use Rattle.image_instr.specs.Insn.{insn_bytes}
use Rattle.account.specs.Account.{Stuck}
use Rattle.mote_model.specs.State.{Frame}
use Rattle.mote_model.specs.SplitMoves.{SplitMove, with_cells, with_cell_locals, cells_of, cells_at, with_cells_at, goes_on, using, take_cells, push_cells, without_at}
use Rattle.mote_model.specs.SplitState.{State}
use Rattle.mote_model.specs.SplitStep.{change_cell}
use Rattle.match_code.proofs.QuietMoves.{GoesOver}

-- ---- cells that are taken

pub take_one : (frame : Frame) (cell : ℕ) (cells : List ℕ) → frame.cells.operands ≡ cell ∷ cells → (use_them : List ℕ → Frame → SplitMove)
    → take_cells 1 frame use_them ≡ use_them (cell ∷ []) (with_cells frame cells)
take_one frame cell cells has use_them =
    let enough : nat_le 1 (length (cell ∷ cells)) ≡ true = grind (arith, nat_tests) in
    ap (λ (operands : List ℕ). if nat_le 1 (length operands) then use_them (reverse (take 1 operands)) (with_cells frame (drop 1 operands)) else Stuck) has
    ∙ ap (λ (b : Bool). if b then use_them (cell ∷ []) (with_cells frame cells) else Stuck) enough

pub take_two : (frame : Frame) (high low : ℕ) (cells : List ℕ) → frame.cells.operands ≡ high ∷ low ∷ cells → (use_them : List ℕ → Frame → SplitMove)
    → take_cells 2 frame use_them ≡ use_them (low ∷ high ∷ []) (with_cells frame cells)
take_two frame high low cells has use_them =
    let enough : nat_le 2 (length (high ∷ low ∷ cells)) ≡ true = grind (arith, nat_tests) in
    ap (λ (operands : List ℕ). if nat_le 2 (length operands) then use_them (reverse (take 2 operands)) (with_cells frame (drop 2 operands)) else Stuck) has
    ∙ ap (λ (b : Bool). if b then use_them (low ∷ high ∷ []) (with_cells frame cells) else Stuck) enough

changes : (state : State) (frame : Frame) (others : List Frame) (next cell : ℕ) (cells : List ℕ) → frame.cells.operands ≡ cell ∷ cells → (changed : ℕ → List ℕ)
    → change_cell state frame others next changed ≡ goes_on state (with_cells frame (reverse (changed cell) ++ cells)) others next
changes state frame others next cell cells has changed =
    take_one frame cell cells has (λ taken rest. using (slice_get taken 0) (λ one. goes_on state (push_cells (changed one) rest) others next))

-- an instruction alone, over which the frame goes on
abbrev pub GoesOn : Image → State → Frame → Frame → List Frame → MInsn → Type 0
GoesOn image state frame other others insn = GoesOver image state frame other others insn [] (length (insn_bytes insn []))

module _ (image : Image) (state : State) (frame : Frame) (others : List Frame) where
  module _ (cell : ℕ) (cells : List ℕ) (has : frame.cells.operands ≡ cell ∷ cells) where
    -- one cell is removed
    pub pops : GoesOn image state frame (with_cells frame cells) others (insns.Pop 1)
    pops =
        let enough : nat_le 1 (length (cell ∷ cells)) ≡ true = grind (arith, nat_tests) in
        record {
          keeps = record { method = refl; refs = refl };
          moves =
              ap (λ (operands : List ℕ). using (if nat_le 1 (length operands) then Some (drop 1 operands) else None) (λ left. goes_on state (with_cells frame left) others (frame.pc + 2))) has
              ∙ ap (λ (b : Bool). using (if b then Some cells else None) (λ left. goes_on state (with_cells frame left) others (frame.pc + 2))) enough;
        }

    -- one cell becomes two, by sign or by zero
    pub extends_by_sign : GoesOn image state frame (with_cells frame (reverse (cells_of width.Two (sign_extended cell)) ++ cells)) others insns.Sx
    extends_by_sign = record { keeps = record { method = refl; refs = refl }; moves = changes state frame others (frame.pc + 1) cell cells has (λ one. cells_of width.Two (sign_extended one)) }

    pub extends_by_zero : GoesOn image state frame (with_cells frame (reverse (cells_of width.Two (pos cell)) ++ cells)) others insns.Zx
    extends_by_zero = record { keeps = record { method = refl; refs = refl }; moves = changes state frame others (frame.pc + 1) cell cells has (λ one. cells_of width.Two (pos one)) }

    -- one cell is cut to what a byte and a boolean keep
    pub cuts_to_byte : GoesOn image state frame (with_cells frame (low_cell (converted conv.Byte (sign_extended cell)) ∷ cells)) others insns.Sb
    cuts_to_byte = record { keeps = record { method = refl; refs = refl }; moves = changes state frame others (frame.pc + 1) cell cells has (λ one. low_cell (converted conv.Byte (sign_extended one)) ∷ []) }

    pub cuts_to_bit : GoesOn image state frame (with_cells frame (cell % 2 ∷ cells)) others insns.Bit
    cuts_to_bit = record { keeps = record { method = refl; refs = refl }; moves = changes state frame others (frame.pc + 1) cell cells has (λ one. one % 2 ∷ []) }

    -- one cell is stored
    pub stores_one : (at : ℕ) (locals : List ℕ) → with_cells_at frame.cells.locals at (cell ∷ []) ≡ Some locals → GoesOn image state frame (with_cell_locals (with_cells frame cells) locals) others (insns.Store kind.One at)
    stores_one at locals stored =
        record {
          keeps = record { method = refl; refs = refl };
          moves =
              take_one frame cell cells has (λ taken rest. using (with_cells_at rest.cells.locals at taken) (λ all. goes_on state (with_cell_locals rest all) others (frame.pc + length (insn_bytes (insns.Store kind.One at) []))))
              ∙ ap (λ found. using found (λ all. goes_on state (with_cell_locals (with_cells frame cells) all) others (frame.pc + length (insn_bytes (insns.Store kind.One at) [])))) stored;
        }

  -- two cells are stored
  pub stores_two : (high low : ℕ) (cells : List ℕ) → frame.cells.operands ≡ high ∷ low ∷ cells → (at : ℕ) (locals : List ℕ) → with_cells_at frame.cells.locals at (low ∷ high ∷ []) ≡ Some locals
      → GoesOn image state frame (with_cell_locals (with_cells frame cells) locals) others (insns.Store kind.Two at)
  stores_two high low cells has at locals stored =
      record {
        keeps = record { method = refl; refs = refl };
        moves =
            take_two frame high low cells has (λ taken rest. using (with_cells_at rest.cells.locals at taken) (λ all. goes_on state (with_cell_locals rest all) others (frame.pc + length (insn_bytes (insns.Store kind.Two at) []))))
            ∙ ap (λ found. using found (λ all. goes_on state (with_cell_locals (with_cells frame cells) all) others (frame.pc + length (insn_bytes (insns.Store kind.Two at) [])))) stored;
      }

  -- the cells of a local are pushed
  pub loads_one : (at : ℕ) (found : List ℕ) → cells_at frame.cells.locals at 1 ≡ Some found → GoesOn image state frame (push_cells found frame) others (insns.Load kind.One at)
  loads_one at found has =
      record { keeps = record { method = refl; refs = refl }; moves = ap (λ cells. using cells (λ all. goes_on state (push_cells all frame) others (frame.pc + length (insn_bytes (insns.Load kind.One at) [])))) has }

  pub loads_two : (at : ℕ) (found : List ℕ) → cells_at frame.cells.locals at 2 ≡ Some found → GoesOn image state frame (push_cells found frame) others (insns.Load kind.Two at)
  loads_two at found has =
      record { keeps = record { method = refl; refs = refl }; moves = ap (λ cells. using cells (λ all. goes_on state (push_cells all frame) others (frame.pc + length (insn_bytes (insns.Load kind.Two at) [])))) has }

  -- the cell below others is removed
  pub drops : (upper : List ℕ) (cell : ℕ) (cells : List ℕ) → frame.cells.operands ≡ upper ++ cell ∷ cells → GoesOn image state frame (with_cells frame (upper ++ cells)) others (insns.Drop (length upper))
  drops upper cell cells has =
      let enough : nat_lt (length upper) (length (upper ++ cell ∷ cells)) ≡ true = grind (arith, nat_tests, length-append upper (cell ∷ cells)) in
      let past : suc (length upper) ≡ length upper + 1 = omega arith in
      let lower : drop (suc (length upper)) (upper ++ cell ∷ cells) ≡ cells =
      ap (λ (n : ℕ). drop n (upper ++ cell ∷ cells)) past ∙ drop-append-add upper (cell ∷ cells) 1 in
      let next = frame.pc + length (insn_bytes (insns.Drop (length upper)) []) in
      record {
        keeps = record { method = refl; refs = refl };
        moves =
            ap (λ (operands : List ℕ). using (without_at (length upper) operands) (λ left. goes_on state (with_cells frame left) others next)) has
            ∙ ap (λ (b : Bool). using (if b then Some (take (length upper) (upper ++ cell ∷ cells) ++ drop (suc (length upper)) (upper ++ cell ∷ cells)) else None) (λ left. goes_on state (with_cells frame left) others next)) enough
            ∙ ap (λ (l : List ℕ). goes_on state (with_cells frame (l ++ drop (suc (length upper)) (upper ++ cell ∷ cells))) others next) (take-append_seam upper (cell ∷ cells))
            ∙ ap (λ (l : List ℕ). goes_on state (with_cells frame (upper ++ l)) others next) lower;
      }
