-- Each instruction of the split machine that runs is a tick, ends the run, or lowers the rank.
use Rattle.std.proofs.Common.{◌≡◌, ℕ, pos, ◌+ℤ◌, ◌%◌, true, List, [], ◌∷◌, None, option_and_then, refl}
use Rattle.std.specs.Int.{w32, int_wrap}
use Rattle.std.proofs.lemmas.Bool.{false≢true}
use Rattle.cell_num.specs.declared.conversions.Conv.TheVariants as conv
use Rattle.cell_num.specs.Cells.{sign_extended, low_cell}
use Rattle.cell_num.specs.Conversions.{converted}
use Rattle.image_instr.specs.declared.insn.MInsn.{MInsn}
use Rattle.image_instr.specs.declared.insn.MInsn.TheVariants as insns
use Rattle.image_instr.specs.declared.insn.SwitchRow.{SwitchRow}
use Rattle.image_instr.specs.declared.insn.Width.TheVariants as width
use Rattle.image_form.specs.declared.record.Image.{Image}
use Rattle.mote_model.specs.State.{Frame}
use Rattle.mote_model.specs.SplitMoves.{SplitMove, with_ref_locals, with_cell_locals, number_of, cells_of, count_of, cells_at, with_cells_at, with_ref_at, push_ref, push_number, goes_on, dupx, swapped, without, without_at}
use Rattle.mote_model.specs.SplitState.{State}
use Rattle.mote_model.specs.SplitStep.{move_of}
use Rattle.split_safety.specs.Runs.{runs_so_far}
use Rattle.run_measures.proofs.Lowering.{Lowers}
use Rattle.run_measures.proofs.SplitRank.{rank_of, IsAhead}
use Rattle.run_measures.proofs.SplitForms.{rank_in, used, on, jumped}
use Rattle.run_measures.proofs.SplitLocals.{load_lowers, store_lowers, get_static_lowers, put_static_lowers}
use Rattle.run_measures.proofs.SplitNumbers.{refs_lower, cells_lower, changed_lowers, compute_lowers, negate_lowers, zero_lowers, compared_lowers, reference_lowers, choose_lowers}
use Rattle.run_measures.proofs.SplitCalls.{leaving_lowers, call_lowers}

module _ {image : Image} {frame : Frame} {next : ℕ} (ahead : IsAhead image frame next) (others : List Frame) (state : State) where
  -- the move lowers the rank of the state
  abbrev Lower : SplitMove → Type 0
  Lower move = Lowers (rank_in image) (rank_of image (frame ∷ others)) move

  pub insn_lowers : (insn : MInsn) (rows : List SwitchRow) → runs_so_far insn ≡ true → Lower (move_of image state frame others next insn rows)
  insn_lowers (insns.Const1 value) rows run = on ahead others state (push_number width.One value frame) refl
  insn_lowers (insns.Const2 value) rows run = on ahead others state (push_number width.Two value frame) refl
  insn_lowers (insns.Small1 value) rows run = on ahead others state (push_number width.One value frame) refl
  insn_lowers (insns.Small2 value) rows run = on ahead others state (push_number width.Two value frame) refl
  insn_lowers (insns.Mid2 value) rows run = on ahead others state (push_number width.Two value frame) refl
  insn_lowers insns.Null rows run = on ahead others state (push_ref None frame) refl
  insn_lowers (insns.Load k at) rows run = load_lowers ahead others state k at
  insn_lowers (insns.Store k at) rows run = store_lowers ahead others state k at
  insn_lowers (insns.RClear at) rows run = used (with_ref_at frame.refs.locals at None) (λ locals. goes_on state (with_ref_locals frame locals) others next) (λ locals. on ahead others state (with_ref_locals frame locals) refl)
  insn_lowers (insns.Inc w at amount) rows run =
      used (option_and_then (λ cells. with_cells_at frame.cells.locals at (cells_of w (int_wrap w32 (number_of cells +ℤ amount)))) (cells_at frame.cells.locals at (count_of w)))
      (λ locals. goes_on state (with_cell_locals frame locals) others next) (λ locals. on ahead others state (with_cell_locals frame locals) refl)
  insn_lowers (insns.RDupX m n) rows run = refs_lower ahead others state (dupx m n frame.refs.operands)
  insn_lowers (insns.DupX m n) rows run = cells_lower ahead others state (dupx m n frame.cells.operands)
  insn_lowers (insns.RPop count) rows run = refs_lower ahead others state (without count frame.refs.operands)
  insn_lowers (insns.Pop count) rows run = cells_lower ahead others state (without count frame.cells.operands)
  insn_lowers insns.RSwap rows run = refs_lower ahead others state (swapped 1 1 frame.refs.operands)
  insn_lowers (insns.Swap m n) rows run = cells_lower ahead others state (swapped m n frame.cells.operands)
  insn_lowers (insns.Drop above) rows run = cells_lower ahead others state (without_at above frame.cells.operands)
  insn_lowers (insns.Bin w operation) rows run = compute_lowers ahead others state w operation
  insn_lowers (insns.Neg w) rows run = negate_lowers ahead others state w
  insn_lowers insns.Sx rows run = changed_lowers ahead others state (λ cell. cells_of width.Two (sign_extended cell))
  insn_lowers insns.Zx rows run = changed_lowers ahead others state (λ cell. cells_of width.Two (pos cell))
  insn_lowers insns.Sb rows run = changed_lowers ahead others state (λ cell. low_cell (converted conv.Byte (sign_extended cell)) ∷ [])
  insn_lowers insns.Bit rows run = changed_lowers ahead others state (λ cell. cell % 2 ∷ [])
  insn_lowers (insns.Jz w condition target) rows run = zero_lowers ahead others state w condition target
  insn_lowers (insns.JCmp w condition target) rows run = compared_lowers ahead others state w condition target
  insn_lowers (insns.RJ test target) rows run = reference_lowers ahead others state test target
  insn_lowers (insns.Goto target) rows run = jumped ahead others state frame target refl refl
  insn_lowers (insns.Switch w default count) rows run = choose_lowers ahead others state w rows default
  insn_lowers (insns.Table w default low count) rows run = choose_lowers ahead others state w rows default
  insn_lowers (insns.Ret kept) rows run = leaving_lowers image frame state others kept
  insn_lowers (insns.GetS k at) rows run = get_static_lowers ahead others state k at
  insn_lowers (insns.PutS k at) rows run = put_static_lowers ahead others state k at
  insn_lowers (insns.CallS id) rows run = call_lowers ahead others state id
  insn_lowers insn rows run = absurd (false≢true run)
