-- What is taken off the top of a frame, where it is there.
use Rattle.std.proofs.Common.{◌≡◌, ℕ, ℤ, ◌≤◌, List, [], ◌∷◌, get_or, slice_get, refl, length, drop, take, reverse, ap, ◌∙◌, ◌+◌, arith, if◌then◌else◌}
use Rattle.std.proofs.lemmas.List.{length-drop, drop-drop}
use Rattle.std.proofs.lemmas.Bool.{le-leb}
use Rattle.account.specs.Account.{Stuck}
use Rattle.image_instr.specs.declared.insn.Width.{Width}
use Rattle.mote_model.specs.State.{Frame}
use Rattle.mote_model.specs.SplitMoves.{SplitMove, count_of, number_of, take_cells, take_number, using, with_cells}

pub takes_cells : (count : ℕ) (frame : Frame) (use_them : List ℕ → Frame → SplitMove) → count ≤ length frame.cells.operands
    → take_cells count frame use_them ≡ use_them (reverse (take count frame.cells.operands)) (with_cells frame (drop count frame.cells.operands))
takes_cells count frame use_them enough =
    ap (λ there. if there then use_them (reverse (take count frame.cells.operands)) (with_cells frame (drop count frame.cells.operands)) else Stuck) (le-leb count (length frame.cells.operands) enough)

pub takes_number : (w : Width) (frame : Frame) (use_it : ℤ → Frame → SplitMove) → count_of w ≤ length frame.cells.operands
    → take_number w frame use_it ≡ use_it (number_of (reverse (take (count_of w) frame.cells.operands))) (with_cells frame (drop (count_of w) frame.cells.operands))
takes_number w frame use_it enough = takes_cells (count_of w) frame (λ cells. use_it (number_of cells)) enough

-- two numbers are taken, the one that is on top first
pub takes_two : (w : Width) (frame : Frame) (use_them : ℤ → ℤ → Frame → SplitMove) → count_of w + count_of w ≤ length frame.cells.operands
    → take_number w frame (λ b below. take_number w below (λ a rest. use_them b a rest))
    ≡ use_them (number_of (reverse (take (count_of w) frame.cells.operands))) (number_of (reverse (take (count_of w) (drop (count_of w) frame.cells.operands)))) (with_cells frame (drop (count_of w + count_of w) frame.cells.operands))
takes_two w frame use_them enough =
    let operands = frame.cells.operands in
    let count = count_of w in
    let below = with_cells frame (drop count operands) in
    let b = number_of (reverse (take count operands)) in
    let a = number_of (reverse (take count (drop count operands))) in
    takes_number w frame (λ b below. take_number w below (λ a rest. use_them b a rest)) (omega (arith, enough))
    ∙ takes_number w below (λ a rest. use_them b a rest) (omega (arith, enough, length-drop count operands))
    ∙ ap (λ left. use_them b a (with_cells frame left)) (drop-drop count count operands)

-- the cell on top
abbrev pub top_of : List ℕ → ℕ
top_of operands = get_or operands 0 0

using_top : (operands : List ℕ) (use_it : ℕ → SplitMove) → 1 ≤ length operands → using (slice_get (reverse (take 1 operands)) 0) use_it ≡ use_it (top_of operands)
using_top [] use_it enough = absurd (omega (arith, enough))
using_top (cell ∷ operands) use_it enough = refl

-- it is taken
pub takes_cell : (frame : Frame) (use_it : ℕ → Frame → SplitMove) → 1 ≤ length frame.cells.operands
    → take_cells 1 frame (λ cells rest. using (slice_get cells 0) (λ cell. use_it cell rest)) ≡ use_it (top_of frame.cells.operands) (with_cells frame (drop 1 frame.cells.operands))
takes_cell frame use_it enough =
    takes_cells 1 frame (λ cells rest. using (slice_get cells 0) (λ cell. use_it cell rest)) enough
    ∙ using_top frame.cells.operands (λ cell. use_it cell (with_cells frame (drop 1 frame.cells.operands))) enough

pub top_alone : (operands : List ℕ) → 1 ≤ length operands → reverse (take 1 operands) ≡ top_of operands ∷ []
top_alone [] enough = absurd (omega (arith, enough))
top_alone (cell ∷ operands) enough = refl

pub first_same : (a b : ℕ) → a ∷ [] ≡ b ∷ [] → a ≡ b
first_same a b e = cc
