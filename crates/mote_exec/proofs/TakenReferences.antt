-- A step that takes references off the top of the youngest frame, and goes on.
use Rattle.std.proofs.Common.{◌≡◌, ℕ, ◌≤◌, List, ◌++◌, map, drop, reverse, length, arith, refl, sym, ap, ap₂, ◌∙◌}
use Rattle.std.proofs.lemmas.List.{drop-map, length-map}
use Rattle.image_instr.specs.declared.insn.MInsn.{MInsn}
use Rattle.mote_stack.specs.Frames.{youngest_frame, without_last}
use Rattle.mote_model.specs.declared.memory.State.{State as Memory}
use Rattle.mote_model.specs.declared.turn.Turn.TheVariants.{On}
use Rattle.mote_model.specs.State.{Frame, whole}
use Rattle.mote_model.specs.Picture.{cell_of, IsKept, KeepsFrame}
use Rattle.mote_model.specs.SplitMoves.{goes_on, with_refs}
use Rattle.mote_model.specs.SplitStep.{move_of}
use Rattle.split_safety.specs.Ready.{Shown}
use Rattle.split_safety.proofs.facts.Lists.{all_drop}
use Rattle.mote_exec.specs.Steps.{IsStep, GoesTo, stepped, with_stack}
use Rattle.mote_exec.proofs.GoingOn.{frame, others, rows, move_here, own_cells, refs_counted, goes}
use Rattle.mote_exec.proofs.HalfLists.{rest}
use Rattle.mote_exec.proofs.MovedReferences.{cells_of_refs, kept_with, operands_kept}
use Rattle.mote_exec.proofs.Shuffled.{map-half}

-- the frame without so many references of its operands
abbrev pub without_refs : ℕ → Frame → Frame
without_refs taken frame = with_refs frame (drop taken frame.refs.operands)

module _ (shown : Shown) (old new : Memory) (insn : MInsn) (pc : ℕ) (step : IsStep shown old insn pc) where
  abbrev here : Frame
  here = frame shown old new insn pc step

  abbrev below : List Frame
  below = others shown old new insn pc step

  -- the operands that are taken are among the references
  pub refs_there : (taken : ℕ) → taken ≤ length here.refs.operands → (let youngest = youngest_frame old.region in taken ≤ length youngest.refs)
  refs_there taken enough = omega (arith, enough, refs_counted shown old new insn pc step)

  pub left_kept : (taken : ℕ) → KeepsFrame shown.naming (without_refs taken here)
  left_kept taken = kept_with shown old new insn pc step (drop taken here.refs.operands) (all_drop (IsKept shown.naming) taken here.refs.operands (operands_kept shown old new insn pc step))

  -- what is left of the references
  pub left_refs : (taken : ℕ) → taken ≤ length here.refs.operands → (let youngest = youngest_frame old.region in without_last taken youngest.refs) ≡ map (cell_of shown.naming) (whole (without_refs taken here).refs)
  left_refs taken enough =
      let cell = cell_of shown.naming in
      ap (without_last taken) (cells_of_refs shown old new insn pc step)
      ∙ rest (map cell here.refs.locals) (map cell here.refs.operands) taken (omega (arith, enough, length-map here.refs.operands cell))
      ∙ ap (λ (operands : List ℕ). map cell here.refs.locals ++ reverse operands) (drop-map cell taken here.refs.operands)
      ∙ sym (map-half cell here.refs.locals (drop taken here.refs.operands))

  -- the memory without them, at a pc
  pub left_stack : (counted taken to : ℕ) → counted ≡ taken → taken ≤ length here.refs.operands
      → new ≡ with_stack old (let youngest = youngest_frame old.region in stepped old.region to (without_last counted youngest.refs) youngest.cells)
      → new ≡ with_stack old (stepped old.region to (map (cell_of shown.naming) (whole (without_refs taken here).refs)) (whole here.cells))
  left_stack counted taken to count enough e =
      let refs = ap (λ taken. let youngest = youngest_frame old.region in without_last taken youngest.refs) count ∙ left_refs taken enough in
      e ∙ ap₂ (λ refs cells. with_stack old (stepped old.region to refs cells)) refs (own_cells shown old new insn pc step)

  -- the step goes on behind its instruction
  pub falls_refs : (counted taken : ℕ) → counted ≡ taken → taken ≤ length here.refs.operands
      → new ≡ with_stack old (let youngest = youngest_frame old.region in stepped old.region pc (without_last counted youngest.refs) youngest.cells)
      → move_of shown.image shown.state here below pc insn (rows shown old new insn pc step) ≡ goes_on shown.state (without_refs taken here) below pc → GoesTo shown old new On
  falls_refs counted taken count enough e is =
      goes shown old new insn pc step (without_refs taken here) (move_here shown old new insn pc step ∙ is) refl (left_kept taken) (left_stack counted taken pc count enough e)
