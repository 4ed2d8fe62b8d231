-- Operands, whole numbers and jumps of the split machine lower the rank, but for what throws or is a tick.
use Rattle.std.proofs.Common.{◌≡◌, ℕ, ℤ, pos, neg_ℤ, not, is_some, List, [], ◌∷◌, drop, take, reverse, slice_get, Option, Some, None, refl}
use Rattle.std.specs.Int.{w32, int_wrap}
use Rattle.cell_num.specs.Arithmetic.{applied}
use Rattle.cell_num.specs.Conditions.{is_met}
use Rattle.image_instr.specs.declared.insn.Condition.{Condition}
use Rattle.image_instr.specs.declared.insn.MInsn.TheVariants as insns
use Rattle.image_instr.specs.declared.insn.Operation.{Operation}
use Rattle.image_instr.specs.declared.insn.RefTest.{RefTest}
use Rattle.image_instr.specs.declared.insn.RefTest.TheVariants as ref_test
use Rattle.image_instr.specs.declared.insn.SwitchRow.{SwitchRow}
use Rattle.image_instr.specs.declared.insn.Width.{Width}
use Rattle.image_instr.specs.Switch.{target_in}
use Rattle.image_form.specs.declared.record.Image.{Image}
use Rattle.mote_model.specs.Numbers.{op_of, cond_of}
use Rattle.mote_model.specs.State.{Reference, Frame}
use Rattle.mote_model.specs.SplitMoves.{SplitMove, with_cells, with_refs, number_of, count_of, push_cells, push_number, goes_on, jumps, branches, take_number, take_ref, using, arithmetic_exception}
use Rattle.mote_model.specs.SplitState.{State}
use Rattle.mote_model.specs.SplitStep.{are_same, jump_if_reference, choose, result, change_cell, move_of}
use Rattle.run_measures.proofs.Lowering.{Lowers}
use Rattle.run_measures.proofs.SplitRank.{rank_of, IsAhead}
use Rattle.run_measures.proofs.SplitForms.{rank_in, used, taken_cells, taken_ref, thrown, on, jumped, branched}

module _ {image : Image} {frame : Frame} {next : ℕ} (ahead : IsAhead image frame next) (others : List Frame) (state : State) where
  -- the move lowers the rank of the state
  abbrev Lower : SplitMove → Type 0
  Lower move = Lowers (rank_in image) (rank_of image (frame ∷ others)) move

  -- ---- operands and numbers

  pub refs_lower : (moved : Option (List Reference)) → Lower (using moved (λ operands. goes_on state (with_refs frame operands) others next))
  refs_lower moved = used moved (λ operands. goes_on state (with_refs frame operands) others next) (λ operands. on ahead others state (with_refs frame operands) refl)

  pub cells_lower : (moved : Option (List ℕ)) → Lower (using moved (λ operands. goes_on state (with_cells frame operands) others next))
  cells_lower moved = used moved (λ operands. goes_on state (with_cells frame operands) others next) (λ operands. on ahead others state (with_cells frame operands) refl)

  pub changed_lowers : (changed : ℕ → List ℕ) → Lower (change_cell state frame others next changed)
  changed_lowers changed =
      let rest = with_cells frame (drop 1 frame.cells.operands) in
      taken_cells 1 frame (λ cells rest. using (slice_get cells 0) (λ cell. goes_on state (push_cells (changed cell) rest) others next))
      (used (slice_get (reverse (take 1 frame.cells.operands)) 0) (λ cell. goes_on state (push_cells (changed cell) rest) others next) (λ cell. on ahead others state (push_cells (changed cell) rest) refl))

  pub result_lowers : (rest : Frame) (w : Width) (found : Option ℤ) → rest.method ≡ frame.method → Lower (result image state (frame ∷ others) rest others next w found)
  result_lowers rest w None method = thrown image state (frame ∷ others) arithmetic_exception
  result_lowers rest w (Some number) method = on ahead others state (push_number w number rest) method

  pub compute_lowers : (w : Width) (operation : Operation) → Lower (move_of image state frame others next (insns.Bin w operation) [])
  compute_lowers w operation =
      let c = count_of w in
      let operands = frame.cells.operands in
      taken_cells c frame (λ cells below. take_number w below (λ a rest. result image state (frame ∷ others) rest others next w (applied (op_of operation) a (number_of cells))))
      (taken_cells c (with_cells frame (drop c operands)) (λ cells rest. result image state (frame ∷ others) rest others next w (applied (op_of operation) (number_of cells) (number_of (reverse (take c operands)))))
      (result_lowers (with_cells frame (drop c (drop c operands))) w (applied (op_of operation) (number_of (reverse (take c (drop c operands)))) (number_of (reverse (take c operands)))) refl))

  pub negate_lowers : (w : Width) → Lower (move_of image state frame others next (insns.Neg w) [])
  negate_lowers w =
      let c = count_of w in
      let rest = with_cells frame (drop c frame.cells.operands) in
      taken_cells c frame (λ cells rest. goes_on state (push_number w (int_wrap w32 (neg_ℤ (number_of cells))) rest) others next)
      (on ahead others state (push_number w (int_wrap w32 (neg_ℤ (number_of (reverse (take c frame.cells.operands))))) rest) refl)

  -- ---- jumps

  pub zero_lowers : (w : Width) (condition : Condition) (target : ℕ) → Lower (move_of image state frame others next (insns.Jz w condition target) [])
  zero_lowers w condition target =
      let c = count_of w in
      taken_cells c frame (λ cells rest. branches (is_met (cond_of condition) (number_of cells) (pos 0)) state rest others target next)
      (branched ahead others (is_met (cond_of condition) (number_of (reverse (take c frame.cells.operands))) (pos 0)) state (with_cells frame (drop c frame.cells.operands)) target refl refl)

  pub compared_lowers : (w : Width) (condition : Condition) (target : ℕ) → Lower (move_of image state frame others next (insns.JCmp w condition target) [])
  compared_lowers w condition target =
      let c = count_of w in
      let operands = frame.cells.operands in
      taken_cells c frame (λ cells below. take_number w below (λ a rest. branches (is_met (cond_of condition) a (number_of cells)) state rest others target next))
      (taken_cells c (with_cells frame (drop c operands)) (λ cells rest. branches (is_met (cond_of condition) (number_of cells) (number_of (reverse (take c operands)))) state rest others target next)
      (branched ahead others (is_met (cond_of condition) (number_of (reverse (take c (drop c operands)))) (number_of (reverse (take c operands)))) state (with_cells frame (drop c (drop c operands))) target refl refl))

  pub reference_lowers : (test : RefTest) (target : ℕ) → Lower (jump_if_reference state frame others next test target)
  reference_lowers ref_test.Null target =
      taken_ref frame (λ a rest. branches (not (is_some a)) state rest others target next) (λ a rest. branched ahead others (not (is_some a)) state (with_refs frame rest) target refl refl)
  reference_lowers ref_test.NonNull target =
      taken_ref frame (λ a rest. branches (is_some a) state rest others target next) (λ a rest. branched ahead others (is_some a) state (with_refs frame rest) target refl refl)
  reference_lowers ref_test.Equal target =
      taken_ref frame (λ b below. take_ref below (λ a rest. branches (are_same a b) state rest others target next))
      (λ b below. taken_ref (with_refs frame below) (λ a rest. branches (are_same a b) state rest others target next) (λ a rest. branched ahead others (are_same a b) state (with_refs frame rest) target refl refl))
  reference_lowers ref_test.NotEqual target =
      taken_ref frame (λ b below. take_ref below (λ a rest. branches (not (are_same a b)) state rest others target next))
      (λ b below. taken_ref (with_refs frame below) (λ a rest. branches (not (are_same a b)) state rest others target next) (λ a rest. branched ahead others (not (are_same a b)) state (with_refs frame rest) target refl refl))

  pub choose_lowers : (w : Width) (rows : List SwitchRow) (default : ℕ) → Lower (choose state frame others w rows default)
  choose_lowers w rows default =
      let c = count_of w in
      taken_cells c frame (λ cells rest. jumps state rest others (target_in default rows (number_of cells)))
      (jumped ahead others state (with_cells frame (drop c frame.cells.operands)) (target_in default rows (number_of (reverse (take c frame.cells.operands)))) refl refl)
