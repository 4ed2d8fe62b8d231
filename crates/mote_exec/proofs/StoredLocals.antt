-- Steps that pop into a local.
use Rattle.std.proofs.Common.{◌≡◌, ℕ, ◌+◌, ◌-◌, ◌<◌, ◌≤◌, List, length, drop, take, reverse, Option, None, refl, ap, ap₂, subst, ◌∙◌, arith}
use Rattle.std.specs.Prelude.{slice_index, slice_set}
use Rattle.std.specs.List.{AllByRecursion}
use Rattle.std.proofs.lemmas.List.{length-reverse, length-take-le}
use Rattle.std.proofs.lemmas.Option.{slice_get-get_or}
use Rattle.image_instr.specs.declared.insn.Kind.TheVariants as kind
use Rattle.image_instr.specs.declared.insn.MInsn.{MInsn}
use Rattle.image_instr.specs.declared.insn.MInsn.TheVariants as insns
use Rattle.image_instr.specs.declared.insn.Width.{Width}
use Rattle.image_check.specs.Ids.{kind_of}
use Rattle.mote_stack.specs.Frames.{last_items, without_last, youngest_frame}
use Rattle.mote_model.specs.declared.memory.State.{State as Memory}
use Rattle.mote_model.specs.declared.turn.Turn.TheVariants.{On}
use Rattle.mote_model.specs.State.{Reference, Frame}
use Rattle.mote_model.specs.Picture.{IsKept, KeepsFrame, cell_of}
use Rattle.mote_model.specs.SplitMoves.{SplitMove, count_of, goes_on, using, with_cell_locals, with_cells, with_cells_at, with_ref_at, with_ref_locals, with_refs}
use Rattle.split_safety.specs.Ready.{Shown}
use Rattle.split_safety.proofs.facts.Lists.{all_append, all_drop, all_get, all_left, all_reverse, all_right, all_unreverse}
use Rattle.split_safety.proofs.facts.Parts.{ref_there, replaced_there}
use Rattle.split_safety.proofs.moves.Going.{IsAt}
use Rattle.mote_exec.specs.Locals.{with_part}
use Rattle.mote_exec.specs.Steps.{IsStep, GoesTo, stepped, with_stack}
use Rattle.mote_exec.proofs.GoingOn.{at, cells_counted, frame, goes, move_here, others, own_cells, own_refs, refs_counted}
use Rattle.mote_exec.proofs.HalfLists.{rest, top}
use Rattle.mote_exec.proofs.LocalCells.{written_within}
use Rattle.mote_exec.proofs.LocalReferences.{all_set, local_popped, takes_ref, top_reference}
use Rattle.mote_exec.proofs.LocalWidths.{has_cells, kind_cells, stores_cells}
use Rattle.mote_exec.proofs.Taking.{takes_cells}

-- ---- a number

module _ (shown : Shown) (old new : Memory) (w : Width) (local pc : ℕ) (step : IsStep shown old (insns.Store (kind_of w) local) pc) where
  abbrev insn : MInsn
  insn = insns.Store (kind_of w) local

  abbrev here : Frame
  here = frame shown old new insn pc step

  abbrev below : List Frame
  below = others shown old new insn pc step

  abbrev next : IsAt shown.image shown.state (step.ready.next).frame (step.ready.next).others (step.ready.next).method insn (step.ready.next).size
  next = at shown old new insn pc step

  cells_within : local + count_of w ≤ length here.cells.locals
  cells_within = let method = (step.ready.next).method in omega (arith, has_cells w method local next.ids, next.cell_locals)

  enough : count_of w ≤ length here.cells.operands
  enough = omega (arith, next.operands.cells, kind_cells w)

  pub popped_cells_there : (let youngest = youngest_frame old.region in local + count_of w + count_of w ≤ length youngest.cells)
  popped_cells_there = omega (arith, cells_within, enough, cells_counted shown old new insn pc step, next.cell_locals)

  abbrev taken : List ℕ
  taken = reverse (take (count_of w) here.cells.operands)

  fits : local + length taken ≤ length here.cells.locals
  fits = omega (arith, cells_within, length-reverse (take (count_of w) here.cells.operands), length-take-le (count_of w) here.cells.operands enough)

  abbrev left : Frame
  left = with_cells here (drop (count_of w) here.cells.operands)

  abbrev moved : Frame
  moved = with_cell_locals left (with_part here.cells.locals local taken)

  pub stores_number : new ≡ with_stack old (let youngest = youngest_frame old.region in stepped old.region pc youngest.refs (with_part (without_last (count_of w) youngest.cells) local (last_items (count_of w) youngest.cells))) → GoesTo shown old new On
  stores_number e =
      let youngest = youngest_frame old.region in
      let pictures = step.ready.pictures in
      let keeps = subst (AllByRecursion (KeepsFrame shown.naming)) (step.ready.next).frames_are pictures.kept_frames in
      let locals = here.cells.locals in
      let operands = here.cells.operands in
      let cells = ap (λ (all : List ℕ). with_part (without_last (count_of w) all) local (last_items (count_of w) all)) (own_cells shown old new insn pc step)
      ∙ ap₂ (λ (items new : List ℕ). with_part items local new) (rest locals operands (count_of w) enough) (top locals operands (count_of w) enough)
      ∙ written_within locals (reverse (drop (count_of w) operands)) taken local fits in
      let moves : Option (List ℕ) → SplitMove = λ found. using found (λ (locals : List ℕ). goes_on shown.state (with_cell_locals left locals) below pc) in
      let stores : List ℕ → Frame → SplitMove = λ cells rest. using (with_cells_at rest.cells.locals local cells) (λ (locals : List ℕ). goes_on shown.state (with_cell_locals rest locals) below pc) in
      goes shown old new insn pc step moved
      (move_here shown old new insn pc step ∙ stores_cells shown.state here below pc local w ∙ takes_cells (count_of w) here stores enough ∙ ap moves (replaced_there locals local taken fits))
      refl keeps.0
      (e ∙ ap₂ (λ refs cells. with_stack old (stepped old.region pc refs cells)) (own_refs shown old new insn pc step) cells)

-- ---- a reference

module _ (shown : Shown) (old new : Memory) (local pc : ℕ) (step : IsStep shown old (insns.Store kind.Ref local) pc) where
  abbrev its_insn : MInsn
  its_insn = insns.Store kind.Ref local

  abbrev its_frame : Frame
  its_frame = frame shown old new its_insn pc step

  abbrev its_others : List Frame
  its_others = others shown old new its_insn pc step

  abbrev its_next : IsAt shown.image shown.state (step.ready.next).frame (step.ready.next).others (step.ready.next).method its_insn (step.ready.next).size
  its_next = at shown old new its_insn pc step

  ref_within : local < length its_frame.refs.locals
  ref_within = omega (arith, its_next.ids, its_next.ref_locals)

  ref_enough : 1 ≤ length its_frame.refs.operands
  ref_enough = omega (arith, its_next.operands.refs)

  pub popped_ref_there : (let youngest = youngest_frame old.region in local + 1 < length youngest.refs)
  popped_ref_there = omega (arith, its_next.ids, ref_enough, refs_counted shown old new its_insn pc step)

  abbrev reference : Reference
  reference = top_reference its_frame.refs.operands

  abbrev ref_left : Frame
  ref_left = with_refs its_frame (drop 1 its_frame.refs.operands)

  abbrev ref_moved : Frame
  ref_moved = with_ref_locals ref_left (slice_set its_frame.refs.locals local reference)

  ref_moved_keeps : KeepsFrame shown.naming ref_moved
  ref_moved_keeps =
      let pictures = step.ready.pictures in
      let keeps = subst (AllByRecursion (KeepsFrame shown.naming)) (step.ready.next).frames_are pictures.kept_frames in
      let locals = its_frame.refs.locals in
      let operands = its_frame.refs.operands in
      let each = IsKept shown.naming in
      let kept_locals = all_left each locals (reverse operands) keeps.0 in
      let kept = all_unreverse each operands (all_right each locals (reverse operands) keeps.0) in
      let kept_top = all_get each operands 0 reference kept (slice_get-get_or operands 0 None ref_enough) in
      all_append each (slice_set locals local reference) (reverse (drop 1 operands)) (all_set each locals local reference kept_locals kept_top) (all_reverse each (drop 1 operands) (all_drop each 1 operands kept))

  pub stores_ref : new ≡ with_stack old (let youngest = youngest_frame old.region in stepped old.region pc (slice_set (without_last 1 youngest.refs) local (slice_index youngest.refs (length youngest.refs - 1))) youngest.cells) → GoesTo shown old new On
  stores_ref e =
      let locals = its_frame.refs.locals in
      let operands = its_frame.refs.operands in
      let refs = ap (λ (all : List ℕ). slice_set (without_last 1 all) local (slice_index all (length all - 1))) (own_refs shown old new its_insn pc step) ∙ local_popped (cell_of shown.naming) locals operands local ref_within ref_enough in
      let moves : Option (List Reference) → SplitMove = λ found. using found (λ (locals : List Reference). goes_on shown.state (with_ref_locals ref_left locals) its_others pc) in
      let stores : Reference → Frame → SplitMove = λ reference rest. using (with_ref_at rest.refs.locals local reference) (λ (locals : List Reference). goes_on shown.state (with_ref_locals rest locals) its_others pc) in
      goes shown old new its_insn pc step ref_moved
      (move_here shown old new its_insn pc step ∙ takes_ref its_frame stores ref_enough ∙ ap moves (ref_there locals local reference ref_within))
      refl ref_moved_keeps
      (e ∙ ap₂ (λ refs cells. with_stack old (stepped old.region pc refs cells)) refs (own_cells shown old new its_insn pc step))
