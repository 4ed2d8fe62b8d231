-- A step that pushes a reference.
use Rattle.std.proofs.Common.{◌≡◌, ℕ, List, [], ◌∷◌, ◌++◌, map, refl, sym, ap, ap₂, subst, ◌∙◌}
use Rattle.std.specs.List.{AllByRecursion}
use Rattle.std.proofs.lemmas.List.{map-append}
use Rattle.image_instr.specs.declared.insn.MInsn.{MInsn}
use Rattle.mote_stack.specs.Frames.{youngest_frame}
use Rattle.mote_model.specs.declared.memory.State.{State as Memory}
use Rattle.mote_model.specs.declared.turn.Turn.TheVariants.{On}
use Rattle.mote_model.specs.State.{Reference, Frame, whole}
use Rattle.mote_model.specs.Picture.{cell_of, IsKept, KeepsFrame}
use Rattle.mote_model.specs.SplitMoves.{goes_on, push_ref}
use Rattle.mote_model.specs.SplitStep.{move_of}
use Rattle.split_safety.specs.Ready.{Shown}
use Rattle.split_safety.proofs.facts.Lists.{all_append}
use Rattle.mote_exec.specs.Steps.{IsStep, GoesTo, stepped, with_stack}
use Rattle.mote_exec.proofs.GoingOn.{frame, others, rows, move_here, own_cells, own_refs, goes}
use Rattle.mote_exec.proofs.HalfLists.{pushed}

module _ (shown : Shown) (old new : Memory) (insn : MInsn) (pc : ℕ) (step : IsStep shown old insn pc) where
  abbrev here : Frame
  here = frame shown old new insn pc step

  abbrev below : List Frame
  below = others shown old new insn pc step

  pub gives_ref : (reference : Reference) → IsKept shown.naming reference
      → new ≡ with_stack old (let youngest = youngest_frame old.region in stepped old.region pc (youngest.refs ++ cell_of shown.naming reference ∷ []) youngest.cells)
      → move_of shown.image shown.state here below pc insn (rows shown old new insn pc step) ≡ goes_on shown.state (push_ref reference here) below pc → GoesTo shown old new On
  gives_ref reference kept e is =
      let next = step.ready.next in
      let pictures = step.ready.pictures in
      let keeps = subst (AllByRecursion (KeepsFrame shown.naming)) next.frames_are pictures.kept_frames in
      let more = pushed here.refs.locals here.refs.operands (reference ∷ []) in
      let refs = ap (λ refs. refs ++ cell_of shown.naming reference ∷ []) (own_refs shown old new insn pc step) ∙ sym (map-append (cell_of shown.naming) (whole here.refs) (reference ∷ [])) ∙ ap (map (cell_of shown.naming)) more in
      goes shown old new insn pc step (push_ref reference here) (move_here shown old new insn pc step ∙ is) refl
      (subst (AllByRecursion (IsKept shown.naming)) more (all_append (IsKept shown.naming) (whole here.refs) (reference ∷ []) keeps.0 (kept, tt)))
      (e ∙ ap₂ (λ refs cells. with_stack old (stepped old.region pc refs cells)) refs (own_cells shown old new insn pc step))
