-- Whole numbers: constants, operations on them, and those of one cell that becomes others.
use Rattle.std.proofs.Common.{◌≡◌, true, ℕ, ℤ, pos, neg_ℤ, ◌+◌, ◌-◌, ◌*◌, ◌%◌, ◌≤◌, List, [], ◌∷◌, length, drop, take, reverse, slice_get, Option, Some, None, IfSome, FitsSigned, w32, refl, arith, length-drop}
use Rattle.std.specs.Int.{int_wrap}
use Rattle.std.proofs.lemmas.Int.{SFits-int_wrap}
use Rattle.cell_num.specs.declared.conversions.Conv.TheVariants as conv
use Rattle.cell_num.specs.Arithmetic.{applied}
use Rattle.cell_num.specs.Cells.{sign_extended, low_cell}
use Rattle.cell_num.specs.Conversions.{converted}
use Rattle.cell_num.proofs.IntResults.{applied-fits}
use Rattle.image_instr.specs.declared.insn.MInsn.{MInsn}
use Rattle.image_instr.specs.declared.insn.MInsn.TheVariants as insns
use Rattle.image_instr.specs.declared.insn.Operation.{Operation}
use Rattle.image_instr.specs.declared.insn.Width.{Width}
use Rattle.image_instr.specs.declared.insn.Width.TheVariants as width
use Rattle.image_instr.specs.Effect.{cells_in}
use Rattle.image_form.specs.declared.record.Image.{Image}
use Rattle.image_form.specs.declared.record.Method.{Method}
use Rattle.image_check.specs.Visits as visits
use Rattle.mote_model.specs.Numbers.{op_of}
use Rattle.mote_model.specs.State.{Frame}
use Rattle.mote_model.specs.SplitMoves.{using, goes_on, take_number, push_number, push_cells, number_of, cells_of, count_of, with_cells}
use Rattle.mote_model.specs.SplitState.{State}
use Rattle.mote_model.specs.SplitStep.{result, change_cell}
use Rattle.split_safety.specs.Reached.{IsCell}
use Rattle.split_safety.specs.Safety.{StaysReached}
use Rattle.split_safety.proofs.facts.Cells.{AreCells, low_below, one_cells, number_cells, number_count, bit_below, pos_fits}
use Rattle.split_safety.proofs.facts.Lists.{all_drop}
use Rattle.split_safety.proofs.facts.Numbers.{short-fits, int-fits}
use Rattle.split_safety.proofs.moves.Going.{IsAt, taken_cells, used, after, goes, pushed, left_refs, dropped}
use Rattle.split_safety.proofs.moves.Lemmas.{MoveLemma}
use Rattle.split_safety.proofs.moves.Throwing.{throws_stays}

-- ---- constants

pub const1_moves : (value : ℤ) → MoveLemma (insns.Const1 value)
const1_moves value image state frame others method size at =
    goes at refl _ (pushed at (cells_of width.One value) frame.cells.operands (one_cells value) at.operands_are (omega arith) (omega arith))

pub small1_moves : (value : ℤ) → MoveLemma (insns.Small1 value)
small1_moves value image state frame others method size at =
    goes at refl _ (pushed at (cells_of width.One value) frame.cells.operands (one_cells value) at.operands_are (omega arith) (omega arith))

pub const2_moves : (value : ℤ) → MoveLemma (insns.Const2 value)
const2_moves value image state frame others method size at =
    goes at refl _ (pushed at (cells_of width.Two value) frame.cells.operands (number_cells width.Two value at.pushes) at.operands_are (omega arith) (omega arith))

pub small2_moves : (value : ℤ) → MoveLemma (insns.Small2 value)
small2_moves value image state frame others method size at =
    goes at refl _ (pushed at (cells_of width.Two value) frame.cells.operands (number_cells width.Two value at.pushes) at.operands_are (omega arith) (omega arith))

pub mid2_moves : (value : ℤ) → MoveLemma (insns.Mid2 value)
mid2_moves value image state frame others method size at =
    goes at refl _ (pushed at (cells_of width.Two value) frame.cells.operands (number_cells width.Two value at.pushes) at.operands_are (omega arith) (omega arith))

pub null_moves : MoveLemma insns.Null
null_moves image state frame others method size at = goes at refl _ (left_refs at (None ∷ frame.refs.operands) (omega arith) (omega arith))

-- ---- operations

pub same_count : (w : Width) → count_of w ≡ cells_in w
same_count width.One = refl
same_count width.Two = refl

-- what cells give is an int
pub cells_fit : (cells : List ℕ) → FitsSigned w32 (number_of cells)
cells_fit [] = pos_fits 0 (omega arith)
cells_fit (cell ∷ []) = short-fits cell
cells_fit (low ∷ high ∷ []) = int-fits (low + 65536 * high)
cells_fit (low ∷ high ∷ more ∷ cells) = pos_fits 0 (omega arith)

pub bin_moves : (w : Width) (operation : Operation) → MoveLemma (insns.Bin w operation)
bin_moves w operation image state frame others method size at =
    let c = count_of w in
    let operands = frame.cells.operands in
    let count = same_count w in
    let first = length-drop c operands in
    let second = length-drop c (drop c operands) in
    let enough = at.operands.cells in
    taken_cells image c frame (λ cells below. take_number w below (λ a rest. result image state (frame ∷ others) rest others (frame.pc + size) w (applied (op_of operation) a (number_of cells))))
    (omega (arith, enough, count))
    (taken_cells image c (with_cells frame (drop c operands))
    (λ cells rest. result image state (frame ∷ others) rest others (frame.pc + size) w (applied (op_of operation) (number_of cells) (number_of (reverse (take c operands)))))
    (omega (arith, enough, count, first))
    (stays (applied (op_of operation) (number_of (reverse (take c (drop c operands)))) (number_of (reverse (take c operands))))
    (applied-fits (op_of operation) (number_of (reverse (take c (drop c operands)))) (number_of (reverse (take c operands))) (cells_fit (reverse (take c (drop c operands)))) (cells_fit (reverse (take c operands))))))
  where
    stays : (found : Option ℤ) → IfSome found (λ number. FitsSigned w32 number)
        → StaysReached image (result image state (frame ∷ others) (with_cells frame (drop (count_of w) (drop (count_of w) frame.cells.operands))) others (frame.pc + size) w found)
    stays None fits = throws_stays image at.sound state (frame ∷ others) 4
    stays (Some number) fits =
        let c = count_of w in
        let operands = frame.cells.operands in
        let count = same_count w in
        let first = length-drop c operands in
        let second = length-drop c (drop c operands) in
        let enough = at.operands.cells in
        goes at refl _ (pushed at (cells_of w number) (drop c (drop c operands)) (number_cells w number fits) (all_drop IsCell c (drop c operands) (dropped at c))
        (omega (arith, enough, count, first, second, number_count w number)) (omega arith))

pub neg_moves : (w : Width) → MoveLemma (insns.Neg w)
neg_moves w image state frame others method size at =
    let c = count_of w in
    let operands = frame.cells.operands in
    let number : ℤ = int_wrap w32 (neg_ℤ (number_of (reverse (take c operands)))) in
    taken_cells image c frame (λ cells rest. goes_on state (push_number w (int_wrap w32 (neg_ℤ (number_of cells))) rest) others (frame.pc + size))
    (omega (arith, at.operands.cells, same_count w))
    (goes at refl _ (pushed at (cells_of w number) (drop c operands) (number_cells w number (SFits-int_wrap w32 (neg_ℤ (number_of (reverse (take c operands)))))) (dropped at c)
    (omega (arith, at.operands.cells, same_count w, length-drop c operands, number_count w number)) (omega arith)))

-- ---- one cell becomes others

first_taken : (operands : List ℕ) → 1 ≤ length operands → AreCells operands → (cell : ℕ) × (slice_get (reverse (take 1 operands)) 0 ≡ Some cell) × IsCell cell
first_taken [] enough are = absurd (omega (arith, enough))
first_taken (cell ∷ operands) enough are = (cell, refl, are.0)

module _ {image : Image} {state : State} {frame : Frame} {others : List Frame} {method : Method} {insn : MInsn} {size : ℕ} (at : IsAt image state frame others method insn size) where
  changed_stays : (count : ℕ) (changed : ℕ → List ℕ) → visits.goes_on insn ≡ true → 1 ≤ length frame.cells.operands → ((cell : ℕ) → IsCell cell → AreCells (changed cell)) → ((cell : ℕ) → length (changed cell) ≡ count)
      → length frame.refs.operands ≡ (after at).refs → count + (length frame.cells.operands - 1) ≡ (after at).cells → StaysReached image (change_cell state frame others (frame.pc + size) changed)
  changed_stays count changed on enough are counts refs cells =
      let first = first_taken frame.cells.operands enough at.operands_are in
      taken_cells image 1 frame (λ cells rest. using (slice_get cells 0) (λ cell. goes_on state (push_cells (changed cell) rest) others (frame.pc + size))) enough
      (used image (slice_get (reverse (take 1 frame.cells.operands)) 0)
      (λ cell. goes_on state (push_cells (changed cell) (with_cells frame (drop 1 frame.cells.operands))) others (frame.pc + size)) first.0 first.1
      (goes at on _ (pushed at (changed first.0) (drop 1 frame.cells.operands) (are first.0 first.2) (dropped at 1) (omega (arith, cells, counts first.0, length-drop 1 frame.cells.operands)) refs)))

pub sx_moves : MoveLemma insns.Sx
sx_moves image state frame others method size at =
    changed_stays at 2 (λ cell. cells_of width.Two (sign_extended cell)) refl at.operands.cells (λ cell is. number_cells width.Two (sign_extended cell) (short-fits cell)) (λ cell. refl) (omega arith) (omega (arith, at.operands.cells))

pub zx_moves : MoveLemma insns.Zx
zx_moves image state frame others method size at =
    changed_stays at 2 (λ cell. cells_of width.Two (pos cell)) refl at.operands.cells (λ cell is. number_cells width.Two (pos cell) (pos_fits cell is)) (λ cell. refl) (omega arith) (omega (arith, at.operands.cells))

pub sb_moves : MoveLemma insns.Sb
sb_moves image state frame others method size at =
    changed_stays at 1 (λ cell. low_cell (converted conv.Byte (sign_extended cell)) ∷ []) refl at.operands.cells (λ cell is. (low_below (converted conv.Byte (sign_extended cell)), tt)) (λ cell. refl) (omega arith) (omega (arith, at.operands.cells))

pub bit_moves : MoveLemma insns.Bit
bit_moves image state frame others method size at =
    changed_stays at 1 (λ cell. cell % 2 ∷ []) refl at.operands.cells (λ cell is. (bit_below cell, tt)) (λ cell. refl) (omega arith) (omega (arith, at.operands.cells))
