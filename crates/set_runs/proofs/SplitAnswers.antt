-- The split machine asks for what is answered, and keeps the rest of the answers.
use Rattle.std.proofs.Common.{◌≡◌, ℕ, pos, ◌+◌, ◌%◌, List, [], ◌∷◌, refl, subst, ◌∙◌}
use Rattle.cell_num.specs.declared.conversions.Conv.TheVariants as conv
use Rattle.cell_num.specs.Cells.{low_cell, sign_extended}
use Rattle.cell_num.specs.Conversions.{converted}
use Rattle.image_instr.specs.declared.insn.MInsn.{MInsn}
use Rattle.image_instr.specs.declared.insn.MInsn.TheVariants as insns
use Rattle.image_instr.specs.declared.insn.SwitchRow.{SwitchRow}
use Rattle.image_instr.specs.declared.insn.Width.TheVariants as width
use Rattle.image_instr.specs.Reading.{insn_at, rows_at}
use Rattle.image_form.specs.declared.record.Image.{Image}
use Rattle.account.specs.Account.{no_need}
use Rattle.account.specs.RunLaws.{Asks, Moves, Quietly, Rests}
use Rattle.mote_model.specs.State.{Frame}
use Rattle.mote_model.specs.SplitMoves.{SplitMove, cells_of, dupx, swapped, without, without_at}
use Rattle.mote_model.specs.SplitState.{State}
use Rattle.mote_model.specs.SplitStep.{code_from, machine, move_among, move_of}
use Rattle.set_runs.proofs.CallAnswers.{called, called_by_interface, called_exactly, called_virtually, left, threw}
use Rattle.set_runs.proofs.KeptAnswers.{Keeps, KeepsHere, used}
use Rattle.set_runs.proofs.ArrayAnswers.{array_loaded, array_made, array_stored, arrays_made, length_read}
use Rattle.set_runs.proofs.FieldAnswers.{field_gotten, field_put, is_cast, type_tested}
use Rattle.set_runs.proofs.PlainAnswers.{cell_changed, cells_moved, chosen, cleared, compared, computed, incremented, loaded, negated, reference_tested, refs_moved, static_read, static_written, stored, zero_tested}

module _ (image : Image) (state : State) where
  abbrev Keep : SplitMove → Type 0
  Keep = KeepsHere image state

  insn_keeps : (frame : Frame) (others : List Frame) (next : ℕ) (insn : MInsn) (rows : List SwitchRow) → Keep (move_of image state frame others next insn rows)
  insn_keeps frame others next (insns.Const1 value) rows = refl
  insn_keeps frame others next (insns.Const2 value) rows = refl
  insn_keeps frame others next (insns.Small1 value) rows = refl
  insn_keeps frame others next (insns.Small2 value) rows = refl
  insn_keeps frame others next (insns.Mid2 value) rows = refl
  insn_keeps frame others next insns.Null rows = refl
  insn_keeps frame others next (insns.Load k at) rows = loaded image state frame others next k at
  insn_keeps frame others next (insns.Store k at) rows = stored image state frame others next k at
  insn_keeps frame others next (insns.RClear at) rows = cleared image state frame others next at
  insn_keeps frame others next (insns.Inc w at amount) rows = incremented image state frame others next w at amount
  insn_keeps frame others next (insns.RDupX m n) rows = refs_moved image state frame others next (dupx m n frame.refs.operands)
  insn_keeps frame others next (insns.DupX m n) rows = cells_moved image state frame others next (dupx m n frame.cells.operands)
  insn_keeps frame others next (insns.RPop count) rows = refs_moved image state frame others next (without count frame.refs.operands)
  insn_keeps frame others next (insns.Pop count) rows = cells_moved image state frame others next (without count frame.cells.operands)
  insn_keeps frame others next insns.RSwap rows = refs_moved image state frame others next (swapped 1 1 frame.refs.operands)
  insn_keeps frame others next (insns.Swap m n) rows = cells_moved image state frame others next (swapped m n frame.cells.operands)
  insn_keeps frame others next (insns.Drop above) rows = cells_moved image state frame others next (without_at above frame.cells.operands)
  insn_keeps frame others next (insns.Bin w operation) rows = computed image state frame others next w operation
  insn_keeps frame others next (insns.Neg w) rows = negated image state frame others next w
  insn_keeps frame others next insns.Sx rows = cell_changed image state frame others next (λ cell. cells_of width.Two (sign_extended cell))
  insn_keeps frame others next insns.Zx rows = cell_changed image state frame others next (λ cell. cells_of width.Two (pos cell))
  insn_keeps frame others next insns.Sb rows = cell_changed image state frame others next (λ cell. low_cell (converted conv.Byte (sign_extended cell)) ∷ [])
  insn_keeps frame others next insns.Bit rows = cell_changed image state frame others next (λ cell. cell % 2 ∷ [])
  insn_keeps frame others next (insns.Jz w condition target) rows = zero_tested image state frame others next w condition target
  insn_keeps frame others next (insns.JCmp w condition target) rows = compared image state frame others next w condition target
  insn_keeps frame others next (insns.RJ test target) rows = reference_tested image state frame others next test target
  insn_keeps frame others next (insns.Goto target) rows = refl
  insn_keeps frame others next (insns.Switch w default count) rows = chosen image state frame others next w rows default
  insn_keeps frame others next (insns.Table w default low count) rows = chosen image state frame others next w rows default
  insn_keeps frame others next (insns.Ret kept) rows = left image state frame others next kept
  insn_keeps frame others next (insns.GetS k at) rows = static_read image state frame others next k at
  insn_keeps frame others next (insns.PutS k at) rows = static_written image state frame others next k at
  insn_keeps frame others next (insns.GetF k at) rows = field_gotten image state frame others next k at
  insn_keeps frame others next (insns.PutF k at) rows = field_put image state frame others next k at
  insn_keeps frame others next (insns.NewArr w id) rows = array_made image state frame others next w id
  insn_keeps frame others next (insns.Multi id dims) rows = arrays_made image state frame others next id dims
  insn_keeps frame others next insns.ALen rows = length_read image state frame others next
  insn_keeps frame others next (insns.ALoad e w) rows = array_loaded image state frame others next e w
  insn_keeps frame others next (insns.AStore e w) rows = array_stored image state frame others next e w
  insn_keeps frame others next (insns.New id) rows = refl
  insn_keeps frame others next (insns.Cast id) rows = is_cast image state frame others next id
  insn_keeps frame others next (insns.Inst id) rows = type_tested image state frame others next id
  insn_keeps frame others next insns.Throw rows = threw image state frame others next
  insn_keeps frame others next (insns.CallS id) rows = called image state frame others next id
  insn_keeps frame others next (insns.CallX id) rows = called_exactly image state frame others next id
  insn_keeps frame others next (insns.CallV selector) rows = called_virtually image state frame others next selector
  insn_keeps frame others next (insns.CallI selector id) rows = called_by_interface image state frame others next selector id

  among_keeps : (frames : List Frame) → Keep (move_among image state frames)
  among_keeps [] = tt
  among_keeps (frame ∷ others) =
      let bytes = code_from image frame in
      used state.answers (insn_at bytes) (λ (found : MInsn × ℕ). move_of image state frame others (frame.pc + found.1) found.0 (rows_at found.0 bytes))
      (λ found. insn_keeps frame others (frame.pc + found.1) found.0 (rows_at found.0 bytes))

-- ---- the law

module _ (image : Image) where
  pub split_asks : Asks (machine image) (λ state. state.answers)
  split_asks =
      record {
        does = λ state next need events moves. subst (Keeps state.answers) moves (among_keeps image state state.frames);
        stops = λ state need events ending moves. subst (Keeps state.answers) moves (among_keeps image state state.frames);
      }

  -- quiet moves keep all answers
  pub quiet_answers : (state last : State) → Quietly (machine image) state last → last.answers ≡ state.answers
  quiet_answers _ _ (Rests state) = refl
  quiet_answers _ _ (Moves state next last moves view quiet) =
      let one : next.answers ≡ state.answers = split_asks.does state next no_need [] moves in
      quiet_answers next last quiet ∙ one
