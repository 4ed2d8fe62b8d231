-- A step that moves the references on the operands of the youngest frame.
use Rattle.std.proofs.Common.{◌≡◌, ℕ, List, ◌++◌, map, reverse, refl, sym, ap, subst, ◌∙◌}
use Rattle.std.specs.List.{AllByRecursion}
use Rattle.image_instr.specs.declared.insn.MInsn.{MInsn}
use Rattle.mote_stack.specs.Frames.{Stack, youngest_frame}
use Rattle.mote_stack.specs.Frames as stack
use Rattle.mote_model.specs.declared.memory.State.{State as Memory}
use Rattle.mote_model.specs.declared.turn.Turn.TheVariants.{On}
use Rattle.mote_model.specs.State.{Reference, Frame, whole}
use Rattle.mote_model.specs.Picture.{cell_of, IsKept, KeepsFrame}
use Rattle.mote_model.specs.SplitMoves.{goes_on, with_refs}
use Rattle.mote_model.specs.SplitStep.{move_of}
use Rattle.split_safety.specs.Ready.{Shown}
use Rattle.split_safety.proofs.facts.Lists.{all_append, all_left, all_right, all_reverse, all_unreverse}
use Rattle.mote_exec.specs.Steps.{IsStep, GoesTo, stepped, with_pc}
use Rattle.mote_exec.proofs.GoingOn.{frame, others, rows, move_here, own_refs, was, goes}
use Rattle.mote_exec.proofs.Shuffled.{map-half}

module _ (shown : Shown) (old new : Memory) (insn : MInsn) (pc : ℕ) (step : IsStep shown old insn pc) where
  abbrev here : Frame
  here = frame shown old new insn pc step

  abbrev below : List Frame
  below = others shown old new insn pc step

  keeps : KeepsFrame shown.naming here
  keeps =
      let next = step.ready.next in
      let pictures = step.ready.pictures in
      (subst (AllByRecursion (KeepsFrame shown.naming)) next.frames_are pictures.kept_frames).0

  -- the operands are kept, and so are the locals
  pub operands_kept : AllByRecursion (IsKept shown.naming) here.refs.operands
  operands_kept = all_unreverse (IsKept shown.naming) here.refs.operands (all_right (IsKept shown.naming) here.refs.locals (reverse here.refs.operands) keeps)

  pub kept_with : (operands : List Reference) → AllByRecursion (IsKept shown.naming) operands → KeepsFrame shown.naming (with_refs here operands)
  kept_with operands kept =
      all_append (IsKept shown.naming) here.refs.locals (reverse operands) (all_left (IsKept shown.naming) here.refs.locals (reverse here.refs.operands) keeps)
      (all_reverse (IsKept shown.naming) operands kept)

  -- the references as cells
  pub cells_of_refs : (let youngest = youngest_frame old.region in youngest.refs) ≡ map (cell_of shown.naming) here.refs.locals ++ reverse (map (cell_of shown.naming) here.refs.operands)
  cells_of_refs = own_refs shown old new insn pc step ∙ map-half (cell_of shown.naming) here.refs.locals here.refs.operands

  -- the references are changed, and then the pc is set
  refs_stepped : (refs : List ℕ) (middle last : Stack) → middle ≡ stack.with_refs old.region refs → last ≡ with_pc middle pc → last ≡ stepped old.region pc refs (whole here.cells)
  refs_stepped refs middle last changed set =
      set ∙ ap (λ all. with_pc all pc) (changed ∙ ap (λ all. stack.with_refs all refs) (was shown old new insn pc step)) ∙ ap (λ all. stepped all pc refs (whole here.cells)) (sym (was shown old new insn pc step))

  -- the step goes on with these references as operands
  pub gives_refs : (operands : List Reference) (cells : List ℕ) (middle last : Stack) → AllByRecursion (IsKept shown.naming) operands
      → middle ≡ stack.with_refs old.region cells → last ≡ with_pc middle pc → cells ≡ map (cell_of shown.naming) here.refs.locals ++ reverse (map (cell_of shown.naming) operands)
      → new ≡ (record old { region = last })
      → move_of shown.image shown.state here below pc insn (rows shown old new insn pc step) ≡ goes_on shown.state (with_refs here operands) below pc → GoesTo shown old new On
  gives_refs operands cells middle last kept changed set same e is =
      goes shown old new insn pc step (with_refs here operands) (move_here shown old new insn pc step ∙ is) refl (kept_with operands kept)
      (e ∙ ap (λ stack. record old { region = stack }) (refs_stepped cells middle last changed set
      ∙ ap (λ cells. stepped old.region pc cells (whole here.cells)) (same ∙ sym (map-half (cell_of shown.naming) here.refs.locals operands))))
