-- The split machine keeps the answers at operands, locals, numbers, jumps and statics.
use Rattle.std.proofs.Common.{ℕ, ℤ, pos, ◌+ℤ◌, neg_ℤ, Bool, not, List, ◌∷◌, Option, Some, None, slice_get, option_and_then, is_some, refl}
use Rattle.std.specs.Int.{w32, int_wrap}
use Rattle.cell_num.specs.Arithmetic.{applied}
use Rattle.cell_num.specs.Conditions.{is_met}
use Rattle.image_instr.specs.declared.insn.Condition.{Condition}
use Rattle.image_instr.specs.declared.insn.Kind.{Kind}
use Rattle.image_instr.specs.declared.insn.Kind.TheVariants as kind
use Rattle.image_instr.specs.declared.insn.Operation.{Operation}
use Rattle.image_instr.specs.declared.insn.RefTest.{RefTest}
use Rattle.image_instr.specs.declared.insn.RefTest.TheVariants as ref_test
use Rattle.image_instr.specs.declared.insn.SwitchRow.{SwitchRow}
use Rattle.image_instr.specs.declared.insn.Width.{Width}
use Rattle.image_instr.specs.Switch.{target_in}
use Rattle.image_form.specs.declared.record.Image.{Image}
use Rattle.mote_model.specs.Numbers.{op_of, cond_of}
use Rattle.mote_model.specs.State.{Reference, Frame}
use Rattle.mote_model.specs.SplitMoves.{SplitMove, arithmetic_exception, branches, cells_at, cells_of, count_of, goes_on, jumps, number_of, push_cells, push_number, push_ref, take_cells, take_number, take_ref, using, with_cell_locals, with_cells, with_cells_at, with_ref_at, with_ref_locals, with_refs}
use Rattle.mote_model.specs.SplitState.{State}
use Rattle.mote_model.specs.SplitStep.{are_same, change_cell, choose, clear, compute, get_static, increment, jump_if_compared, jump_if_reference, jump_if_zero, load, move_cells, move_refs, negate, put_static, result, store}
use Rattle.set_runs.proofs.KeptAnswers.{KeepsHere, branched, taken_cells, taken_number, taken_ref, thrown, used}

module _ (image : Image) (state : State) (frame : Frame) (others : List Frame) (next : ℕ) where
  abbrev Keep : SplitMove → Type 0
  Keep = KeepsHere image state

  -- ---- operands

  pub refs_moved : (moved : Option (List Reference)) → Keep (move_refs state frame others next moved)
  refs_moved moved = used state.answers moved (λ operands. goes_on state (with_refs frame operands) others next) (λ operands. refl)

  pub cells_moved : (moved : Option (List ℕ)) → Keep (move_cells state frame others next moved)
  cells_moved moved = used state.answers moved (λ operands. goes_on state (with_cells frame operands) others next) (λ operands. refl)

  pub cell_changed : (changed : ℕ → List ℕ) → Keep (change_cell state frame others next changed)
  cell_changed changed =
      taken_cells state.answers 1 frame (λ cells rest. using (slice_get cells 0) (λ cell. goes_on state (push_cells (changed cell) rest) others next))
      (λ cells rest. used state.answers (slice_get cells 0) (λ cell. goes_on state (push_cells (changed cell) rest) others next) (λ cell. refl))

  -- ---- locals

  pub loaded : (k : Kind) (at : ℕ) → Keep (load state frame others next k at)
  loaded kind.Ref at = used state.answers (slice_get frame.refs.locals at) (λ reference. goes_on state (push_ref reference frame) others next) (λ reference. refl)
  loaded kind.One at = used state.answers (cells_at frame.cells.locals at 1) (λ cells. goes_on state (push_cells cells frame) others next) (λ cells. refl)
  loaded kind.Two at = used state.answers (cells_at frame.cells.locals at 2) (λ cells. goes_on state (push_cells cells frame) others next) (λ cells. refl)

  cells_stored : (count at : ℕ) → Keep (take_cells count frame (λ cells rest. using (with_cells_at rest.cells.locals at cells) (λ locals. goes_on state (with_cell_locals rest locals) others next)))
  cells_stored count at =
      taken_cells state.answers count frame (λ cells rest. using (with_cells_at rest.cells.locals at cells) (λ locals. goes_on state (with_cell_locals rest locals) others next))
      (λ cells rest. used state.answers (with_cells_at rest.cells.locals at cells) (λ locals. goes_on state (with_cell_locals rest locals) others next) (λ locals. refl))

  pub stored : (k : Kind) (at : ℕ) → Keep (store state frame others next k at)
  stored kind.Ref at =
      taken_ref state.answers frame (λ reference rest. using (with_ref_at rest.refs.locals at reference) (λ locals. goes_on state (with_ref_locals rest locals) others next))
      (λ reference rest. used state.answers (with_ref_at rest.refs.locals at reference) (λ locals. goes_on state (with_ref_locals rest locals) others next) (λ locals. refl))
  stored kind.One at = cells_stored 1 at
  stored kind.Two at = cells_stored 2 at

  pub cleared : (at : ℕ) → Keep (clear state frame others next at)
  cleared at = used state.answers (with_ref_at frame.refs.locals at None) (λ locals. goes_on state (with_ref_locals frame locals) others next) (λ locals. refl)

  pub incremented : (w : Width) (at : ℕ) (amount : ℤ) → Keep (increment state frame others next w at amount)
  incremented w at amount =
      used state.answers (option_and_then (λ cells. with_cells_at frame.cells.locals at (cells_of w (int_wrap w32 (number_of cells +ℤ amount)))) (cells_at frame.cells.locals at (count_of w)))
      (λ locals. goes_on state (with_cell_locals frame locals) others next) (λ locals. refl)

  -- ---- statics

  pub static_read : (k : Kind) (at : ℕ) → Keep (get_static state frame others next k at)
  static_read kind.Ref at = used state.answers (slice_get state.ref_statics at) (λ reference. goes_on state (push_ref reference frame) others next) (λ reference. refl)
  static_read kind.One at = used state.answers (cells_at state.cell_statics at 1) (λ cells. goes_on state (push_cells cells frame) others next) (λ cells. refl)
  static_read kind.Two at = used state.answers (cells_at state.cell_statics at 2) (λ cells. goes_on state (push_cells cells frame) others next) (λ cells. refl)

  static_cells : (count at : ℕ) → Keep (take_cells count frame (λ cells rest. using (with_cells_at state.cell_statics at cells) (λ (statics : List ℕ). goes_on (record state { cell_statics = statics }) rest others next)))
  static_cells count at =
      taken_cells state.answers count frame (λ cells rest. using (with_cells_at state.cell_statics at cells) (λ (statics : List ℕ). goes_on (record state { cell_statics = statics }) rest others next))
      (λ cells rest. used state.answers (with_cells_at state.cell_statics at cells) (λ (statics : List ℕ). goes_on (record state { cell_statics = statics }) rest others next) (λ statics. refl))

  pub static_written : (k : Kind) (at : ℕ) → Keep (put_static state frame others next k at)
  static_written kind.Ref at =
      taken_ref state.answers frame (λ reference rest. using (with_ref_at state.ref_statics at reference) (λ (statics : List Reference). goes_on (record state { ref_statics = statics }) rest others next))
      (λ reference rest. used state.answers (with_ref_at state.ref_statics at reference) (λ (statics : List Reference). goes_on (record state { ref_statics = statics }) rest others next) (λ statics. refl))
  static_written kind.One at = static_cells 1 at
  static_written kind.Two at = static_cells 2 at

  -- ---- numbers

  result_kept : (rest : Frame) (w : Width) (found : Option ℤ) → Keep (result image state (frame ∷ others) rest others next w found)
  result_kept rest w None = thrown image state (frame ∷ others) arithmetic_exception
  result_kept rest w (Some number) = refl

  pub computed : (w : Width) (operation : Operation) → Keep (compute image state frame others next w operation)
  computed w operation =
      taken_number state.answers w frame (λ b below. take_number w below (λ a rest. result image state (frame ∷ others) rest others next w (applied (op_of operation) a b)))
      (λ b below. taken_number state.answers w below (λ a rest. result image state (frame ∷ others) rest others next w (applied (op_of operation) a b)) (λ a rest. result_kept rest w (applied (op_of operation) a b)))

  pub negated : (w : Width) → Keep (negate state frame others next w)
  negated w = taken_number state.answers w frame (λ number rest. goes_on state (push_number w (int_wrap w32 (neg_ℤ number)) rest) others next) (λ number rest. refl)

  -- ---- jumps

  pub zero_tested : (w : Width) (condition : Condition) (target : ℕ) → Keep (jump_if_zero state frame others next w condition target)
  zero_tested w condition target =
      taken_number state.answers w frame (λ number rest. branches (is_met (cond_of condition) number (pos 0)) state rest others target next)
      (λ number rest. branched image state (is_met (cond_of condition) number (pos 0)) rest others target next)

  pub compared : (w : Width) (condition : Condition) (target : ℕ) → Keep (jump_if_compared state frame others next w condition target)
  compared w condition target =
      taken_number state.answers w frame (λ b below. take_number w below (λ a rest. branches (is_met (cond_of condition) a b) state rest others target next))
      (λ b below. taken_number state.answers w below (λ a rest. branches (is_met (cond_of condition) a b) state rest others target next)
      (λ a rest. branched image state (is_met (cond_of condition) a b) rest others target next))

  one_tested : (test : Reference → Bool) (target : ℕ) → Keep (take_ref frame (λ a rest. branches (test a) state rest others target next))
  one_tested test target =
      taken_ref state.answers frame (λ a rest. branches (test a) state rest others target next) (λ a rest. branched image state (test a) rest others target next)

  two_tested : (test : Reference → Reference → Bool) (target : ℕ) → Keep (take_ref frame (λ b below. take_ref below (λ a rest. branches (test a b) state rest others target next)))
  two_tested test target =
      taken_ref state.answers frame (λ b below. take_ref below (λ a rest. branches (test a b) state rest others target next))
      (λ b below. taken_ref state.answers below (λ a rest. branches (test a b) state rest others target next) (λ a rest. branched image state (test a b) rest others target next))

  pub reference_tested : (test : RefTest) (target : ℕ) → Keep (jump_if_reference state frame others next test target)
  reference_tested ref_test.Null target = one_tested (λ a. not (is_some a)) target
  reference_tested ref_test.NonNull target = one_tested is_some target
  reference_tested ref_test.Equal target = two_tested are_same target
  reference_tested ref_test.NotEqual target = two_tested (λ a b. not (are_same a b)) target

  pub chosen : (w : Width) (rows : List SwitchRow) (default : ℕ) → Keep (choose state frame others w rows default)
  chosen w rows default = taken_number state.answers w frame (λ key rest. jumps state rest others (target_in default rows key)) (λ key rest. refl)
