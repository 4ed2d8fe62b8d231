-- The cell on top of the youngest frame.
use Rattle.std.proofs.Common.{◌≡◌, ℕ, ◌≤◌, [], ◌∷◌, length, ap, ◌∙◌}
use Rattle.image_instr.specs.declared.insn.MInsn.{MInsn}
use Rattle.mote_stack.specs.Frames.{youngest_frame, last_items}
use Rattle.mote_model.specs.declared.memory.State.{State as Memory}
use Rattle.mote_model.specs.State.{Frame}
use Rattle.split_safety.specs.Ready.{Shown}
use Rattle.mote_exec.specs.Steps.{IsStep}
use Rattle.mote_exec.proofs.GoingOn.{frame, own_cells}
use Rattle.mote_exec.proofs.HalfLists.{top}
use Rattle.mote_exec.proofs.Taking.{first_same, top_alone, top_of}

module _ (shown : Shown) (old new : Memory) (insn : MInsn) (pc : ℕ) (step : IsStep shown old insn pc) where
  abbrev here : Frame
  here = frame shown old new insn pc step

  pub top_is : (cell : ℕ) → 1 ≤ length here.cells.operands → (cell ∷ [] ≡ (let youngest = youngest_frame old.region in last_items 1 youngest.cells)) → cell ≡ top_of here.cells.operands
  top_is cell enough e =
      first_same cell (top_of here.cells.operands)
      (e ∙ ap (last_items 1) (own_cells shown old new insn pc step) ∙ top here.cells.locals here.cells.operands 1 enough ∙ top_alone here.cells.operands enough)
