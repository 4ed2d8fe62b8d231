-- Jumps: by a number, by two numbers, by references, and by a key.
use Rattle.std.proofs.Common.{not, is_some, ℕ, ℤ, pos, suc, zero, ◌+◌, List, [], ◌∷◌, map, drop, take, reverse, refl, arith, length-drop}
use Rattle.std.specs.Ordering.{int_eq}
use Rattle.std.specs.List.{Contains}
use Rattle.std.proofs.lemmas.Bool.{cond_both}
use Rattle.cell_num.specs.Conditions.{is_met}
use Rattle.image_instr.specs.declared.insn.Condition.{Condition}
use Rattle.image_instr.specs.declared.insn.MInsn.TheVariants as insns
use Rattle.image_instr.specs.declared.insn.RefTest.{RefTest}
use Rattle.image_instr.specs.declared.insn.RefTest.TheVariants as ref_test
use Rattle.image_instr.specs.declared.insn.SwitchRow.{SwitchRow}
use Rattle.image_instr.specs.declared.insn.Width.{Width}
use Rattle.image_instr.specs.Reading.{rows_at}
use Rattle.image_instr.specs.Switch.{target_in}
use Rattle.mote_model.specs.Numbers.{cond_of}
use Rattle.mote_model.specs.SplitMoves.{branches, jumps, number_of, count_of, take_number, take_ref, with_cells, with_refs}
use Rattle.mote_model.specs.SplitStep.{are_same}
use Rattle.split_safety.specs.Reached.{IsCell}
use Rattle.split_safety.proofs.facts.Lists.{all_drop}
use Rattle.split_safety.proofs.moves.Going.{taken_cells, taken_ref, branch, jump, left_cells, left_refs, left_same, dropped}
use Rattle.split_safety.proofs.moves.Lemmas.{MoveLemma}
use Rattle.split_safety.proofs.moves.NumberMoves.{same_count}

-- the one target
only : (to : ℕ) → Contains (to ∷ []) to
only to = (0, omega arith, refl)

-- ---- by numbers

pub jz_moves : (w : Width) (condition : Condition) (target : ℕ) → MoveLemma (insns.Jz w condition target)
jz_moves w condition target image state frame others method size at =
    let c = count_of w in
    let operands = frame.cells.operands in
    taken_cells image c frame (λ cells rest. branches (is_met (cond_of condition) (number_of cells) (pos 0)) state rest others target (frame.pc + size))
    (omega (arith, at.operands.cells, same_count w))
    (branch at refl (is_met (cond_of condition) (number_of (reverse (take c operands))) (pos 0)) target (only target) (with_cells frame (drop c operands))
    (left_cells at (drop c operands) (dropped at c) (omega (arith, at.operands.cells, same_count w, length-drop c operands)) (omega arith)))

pub jcmp_moves : (w : Width) (condition : Condition) (target : ℕ) → MoveLemma (insns.JCmp w condition target)
jcmp_moves w condition target image state frame others method size at =
    let c = count_of w in
    let operands = frame.cells.operands in
    let count = same_count w in
    let first = length-drop c operands in
    let second = length-drop c (drop c operands) in
    let enough = at.operands.cells in
    taken_cells image c frame (λ cells below. take_number w below (λ a rest. branches (is_met (cond_of condition) a (number_of cells)) state rest others target (frame.pc + size)))
    (omega (arith, enough, count))
    (taken_cells image c (with_cells frame (drop c operands))
    (λ cells rest. branches (is_met (cond_of condition) (number_of cells) (number_of (reverse (take c operands)))) state rest others target (frame.pc + size))
    (omega (arith, enough, count, first))
    (branch at refl (is_met (cond_of condition) (number_of (reverse (take c (drop c operands)))) (number_of (reverse (take c operands)))) target (only target) (with_cells frame (drop c (drop c operands)))
    (left_cells at (drop c (drop c operands)) (all_drop IsCell c (drop c operands) (dropped at c)) (omega (arith, enough, count, first, second)) (omega arith))))

-- ---- by references

pub rj_moves : (test : RefTest) (target : ℕ) → MoveLemma (insns.RJ test target)
rj_moves ref_test.Null target image state frame others method size at =
    taken_ref image frame (λ a rest. branches (not (is_some a)) state rest others target (frame.pc + size)) at.operands.refs
    (λ a rest count. branch at refl (not (is_some a)) target (only target) (with_refs frame rest) (left_refs at rest (omega (arith, count)) (omega arith)))
rj_moves ref_test.NonNull target image state frame others method size at =
    taken_ref image frame (λ a rest. branches (is_some a) state rest others target (frame.pc + size)) at.operands.refs
    (λ a rest count. branch at refl (is_some a) target (only target) (with_refs frame rest) (left_refs at rest (omega (arith, count)) (omega arith)))
rj_moves ref_test.Equal target image state frame others method size at =
    taken_ref image frame (λ b below. take_ref below (λ a rest. branches (are_same a b) state rest others target (frame.pc + size))) (omega (arith, at.operands.refs))
    (λ b below first.
    taken_ref image (with_refs frame below) (λ a rest. branches (are_same a b) state rest others target (frame.pc + size)) (omega (arith, at.operands.refs, first))
    (λ a rest second. branch at refl (are_same a b) target (only target) (with_refs frame rest) (left_refs at rest (omega (arith, first, second)) (omega arith))))
rj_moves ref_test.NotEqual target image state frame others method size at =
    taken_ref image frame (λ b below. take_ref below (λ a rest. branches (not (are_same a b)) state rest others target (frame.pc + size))) (omega (arith, at.operands.refs))
    (λ b below first.
    taken_ref image (with_refs frame below) (λ a rest. branches (not (are_same a b)) state rest others target (frame.pc + size)) (omega (arith, at.operands.refs, first))
    (λ a rest second. branch at refl (not (are_same a b)) target (only target) (with_refs frame rest) (left_refs at rest (omega (arith, first, second)) (omega arith))))

pub goto_moves : (target : ℕ) → MoveLemma (insns.Goto target)
goto_moves target image state frame others method size at = jump at target (only target) frame (left_same at (omega arith) (omega arith))

-- ---- by a key

-- the target of a key is the default, or that of a row
target_among : (default : ℕ) (rows : List SwitchRow) (key : ℤ) → Contains (default ∷ map (λ (row : SwitchRow). row.target) rows) (target_in default rows key)
target_among default [] key = (0, omega arith, refl)
target_among default (row ∷ rows) key =
    cond_both (int_eq row.key key) row.target (target_in default rows key) (Contains (default ∷ row.target ∷ map (λ (row : SwitchRow). row.target) rows)) (λ e. (1, omega arith, refl))
    (λ e. further (target_in default rows key) (target_among default rows key))
  where
    further : (to : ℕ) → Contains (default ∷ map (λ (row : SwitchRow). row.target) rows) to → Contains (default ∷ row.target ∷ map (λ (row : SwitchRow). row.target) rows) to
    further to (zero, lt, e) = (zero, omega arith, e)
    further to (suc k, lt, e) = (suc (suc k), omega (arith, lt), e)

pub switch_moves : (w : Width) (default count : ℕ) → MoveLemma (insns.Switch w default count)
switch_moves w default count image state frame others method size at =
    let c = count_of w in
    let operands = frame.cells.operands in
    let rows = rows_at (insns.Switch w default count) (drop frame.pc method.code) in
    taken_cells image c frame (λ cells rest. jumps state rest others (target_in default rows (number_of cells))) (omega (arith, at.operands.cells, same_count w))
    (jump at (target_in default rows (number_of (reverse (take c operands)))) (target_among default rows (number_of (reverse (take c operands)))) (with_cells frame (drop c operands))
    (left_cells at (drop c operands) (dropped at c) (omega (arith, at.operands.cells, same_count w, length-drop c operands)) (omega arith)))

pub table_moves : (w : Width) (default : ℕ) (low : ℤ) (count : ℕ) → MoveLemma (insns.Table w default low count)
table_moves w default low count image state frame others method size at =
    let c = count_of w in
    let operands = frame.cells.operands in
    let rows = rows_at (insns.Table w default low count) (drop frame.pc method.code) in
    taken_cells image c frame (λ cells rest. jumps state rest others (target_in default rows (number_of cells))) (omega (arith, at.operands.cells, same_count w))
    (jump at (target_in default rows (number_of (reverse (take c operands)))) (target_among default rows (number_of (reverse (take c operands)))) (with_cells frame (drop c operands))
    (left_cells at (drop c operands) (dropped at c) (omega (arith, at.operands.cells, same_count w, length-drop c operands)) (omega arith)))
