-- Steps that push a local.
use Rattle.std.proofs.Common.{◌≡◌, ℕ, ◌+◌, ◌<◌, ◌≤◌, List, [], ◌∷◌, ◌++◌, length, get_or, Option, None, sym, ap, ap₂, subst, ◌∙◌, arith}
use Rattle.std.specs.Prelude.{slice_index}
use Rattle.std.specs.List.{AllByRecursion}
use Rattle.std.proofs.lemmas.Option.{slice_get-get_or}
use Rattle.image_instr.specs.declared.insn.Kind.TheVariants as kind
use Rattle.image_instr.specs.declared.insn.MInsn.{MInsn}
use Rattle.image_instr.specs.declared.insn.MInsn.TheVariants as insns
use Rattle.image_instr.specs.declared.insn.Width.{Width}
use Rattle.image_check.specs.Ids.{kind_of}
use Rattle.mote_stack.specs.Frames.{HasFreeCells, youngest_frame}
use Rattle.mote_model.specs.declared.memory.State.{State as Memory}
use Rattle.mote_model.specs.declared.turn.Turn.TheVariants.{On}
use Rattle.mote_model.specs.State.{Reference, Frame}
use Rattle.mote_model.specs.Picture.{IsKept, KeepsFrame, cell_of}
use Rattle.mote_model.specs.SplitMoves.{SplitMove, count_of, goes_on, push_cells, push_ref, using}
use Rattle.split_safety.specs.Ready.{Shown}
use Rattle.split_safety.proofs.facts.Lists.{all_get, all_left}
use Rattle.split_safety.proofs.facts.Parts.{part_there}
use Rattle.split_safety.proofs.moves.Going.{IsAt}
use Rattle.mote_exec.specs.Locals.{part_at}
use Rattle.mote_exec.specs.Steps.{IsStep, GoesTo, stepped, with_stack}
use Rattle.mote_exec.proofs.GoingOn.{at, cells_counted, frame, free_cells, gives, others, own_cells, own_refs, refs_counted}
use Rattle.mote_exec.proofs.LocalCells.{part_within, without_none}
use Rattle.mote_exec.proofs.LocalReferences.{local_read}
use Rattle.mote_exec.proofs.LocalWidths.{has_cells, kind_cells, kind_refs, loads_cells}
use Rattle.mote_exec.proofs.PushedReferences.{gives_ref}

-- ---- a number

module _ (shown : Shown) (old new : Memory) (w : Width) (local pc : ℕ) (step : IsStep shown old (insns.Load (kind_of w) local) pc) where
  abbrev insn : MInsn
  insn = insns.Load (kind_of w) local

  abbrev here : Frame
  here = frame shown old new insn pc step

  abbrev next : IsAt shown.image shown.state (step.ready.next).frame (step.ready.next).others (step.ready.next).method insn (step.ready.next).size
  next = at shown old new insn pc step

  cells_within : local + count_of w ≤ length here.cells.locals
  cells_within = let method = (step.ready.next).method in omega (arith, has_cells w method local next.ids, next.cell_locals)

  pub cells_there : (let youngest = youngest_frame old.region in local + count_of w ≤ length youngest.cells)
  cells_there = omega (arith, cells_within, cells_counted shown old new insn pc step, next.cell_locals)

  pub cells_room : HasFreeCells old.region (count_of w)
  cells_room = free_cells shown old new insn pc step (count_of w) (omega (arith, next.fits_after, kind_refs w, kind_cells w))

  pub loads_number : new ≡ with_stack old (let youngest = youngest_frame old.region in stepped old.region pc youngest.refs (youngest.cells ++ part_at local (count_of w) youngest.cells)) → GoesTo shown old new On
  loads_number e =
      let youngest = youngest_frame old.region in
      let cells = part_at local (count_of w) here.cells.locals in
      let put : List ℕ → List ℕ → Memory = λ below cells. with_stack old (stepped old.region pc youngest.refs (below ++ cells)) in
      let read = ap (part_at local (count_of w)) (own_cells shown old new insn pc step) ∙ part_within here.cells.locals _ local (count_of w) cells_within in
      let moves : Option (List ℕ) → SplitMove = λ found. using found (λ cells. goes_on shown.state (push_cells cells here) (others shown old new insn pc step) pc) in
      gives shown old new insn pc step 0 cells (omega arith) (e ∙ ap₂ put (sym (without_none youngest.cells)) read)
      (loads_cells shown.state here (others shown old new insn pc step) pc local w ∙ ap moves (part_there here.cells.locals local (count_of w) cells_within))

-- ---- a reference

module _ (shown : Shown) (old new : Memory) (local pc : ℕ) (step : IsStep shown old (insns.Load kind.Ref local) pc) where
  abbrev its_insn : MInsn
  its_insn = insns.Load kind.Ref local

  abbrev its_frame : Frame
  its_frame = frame shown old new its_insn pc step

  abbrev its_next : IsAt shown.image shown.state (step.ready.next).frame (step.ready.next).others (step.ready.next).method its_insn (step.ready.next).size
  its_next = at shown old new its_insn pc step

  ref_within : local < length its_frame.refs.locals
  ref_within = omega (arith, its_next.ids, its_next.ref_locals)

  pub ref_there : (let youngest = youngest_frame old.region in local < length youngest.refs)
  ref_there = omega (arith, its_next.ids, refs_counted shown old new its_insn pc step)

  pub ref_room : HasFreeCells old.region 1
  ref_room = free_cells shown old new its_insn pc step 1 (omega (arith, its_next.fits_after))

  pub loads_ref : new ≡ with_stack old (let youngest = youngest_frame old.region in stepped old.region pc (youngest.refs ++ slice_index youngest.refs local ∷ []) youngest.cells) → GoesTo shown old new On
  loads_ref e =
      let youngest = youngest_frame old.region in
      let pictures = step.ready.pictures in
      let keeps = subst (AllByRecursion (KeepsFrame shown.naming)) (step.ready.next).frames_are pictures.kept_frames in
      let locals = its_frame.refs.locals in
      let reference : Reference = get_or locals local None in
      let found = slice_get-get_or locals local None ref_within in
      let kept = all_get (IsKept shown.naming) locals local reference (all_left (IsKept shown.naming) locals _ keeps.0) found in
      let put : ℕ → Memory = λ cell. with_stack old (stepped old.region pc (youngest.refs ++ cell ∷ []) youngest.cells) in
      let read = ap (λ refs. slice_index refs local) (own_refs shown old new its_insn pc step) ∙ local_read (cell_of shown.naming) locals its_frame.refs.operands local ref_within in
      let moves : Option Reference → SplitMove = λ found. using found (λ reference. goes_on shown.state (push_ref reference its_frame) (others shown old new its_insn pc step) pc) in
      gives_ref shown old new its_insn pc step reference kept (e ∙ ap put read) (ap moves found)
