-- Steps that change a local in place.
use Rattle.std.proofs.Common.{◌≡◌, ℕ, ℤ, ◌+◌, ◌+ℤ◌, ◌<◌, ◌≤◌, List, length, reverse, Option, None, refl, ap, ap₂, subst, ◌∙◌, arith}
use Rattle.std.specs.Prelude.{slice_set, option_and_then}
use Rattle.std.specs.Int.{w32, int_wrap}
use Rattle.std.specs.List.{AllByRecursion}
use Rattle.image_instr.specs.declared.insn.MInsn.{MInsn}
use Rattle.image_instr.specs.declared.insn.MInsn.TheVariants as insns
use Rattle.image_instr.specs.declared.insn.Width.{Width}
use Rattle.mote_stack.specs.Frames.{youngest_frame}
use Rattle.mote_model.specs.declared.memory.State.{State as Memory}
use Rattle.mote_model.specs.declared.turn.Turn.TheVariants.{On}
use Rattle.mote_model.specs.State.{Reference, Frame}
use Rattle.mote_model.specs.Picture.{IsKept, KeepsFrame, cell_of}
use Rattle.mote_model.specs.SplitMoves.{SplitMove, cells_of, count_of, goes_on, number_of, using, with_cell_locals, with_cells_at, with_ref_locals}
use Rattle.split_safety.specs.Ready.{Shown}
use Rattle.split_safety.proofs.facts.Cells.{number_count}
use Rattle.split_safety.proofs.facts.Lists.{all_append, all_left, all_right}
use Rattle.split_safety.proofs.facts.Parts.{part_there, ref_there, replaced_there}
use Rattle.split_safety.proofs.moves.Going.{IsAt}
use Rattle.mote_exec.specs.Locals.{part_at, with_part}
use Rattle.mote_exec.specs.Steps.{IsStep, GoesTo, stepped, with_stack}
use Rattle.mote_exec.proofs.GoingOn.{at, cells_counted, frame, goes, move_here, others, own_cells, own_refs, refs_counted}
use Rattle.mote_exec.proofs.LocalCells.{part_within, written_within}
use Rattle.mote_exec.proofs.LocalReferences.{all_set, local_written}
use Rattle.mote_exec.proofs.LocalWidths.{has_cells}

-- ---- a reference becomes null

module _ (shown : Shown) (old new : Memory) (local pc : ℕ) (step : IsStep shown old (insns.RClear local) pc) where
  abbrev its_insn : MInsn
  its_insn = insns.RClear local

  abbrev its_frame : Frame
  its_frame = frame shown old new its_insn pc step

  abbrev its_next : IsAt shown.image shown.state (step.ready.next).frame (step.ready.next).others (step.ready.next).method its_insn (step.ready.next).size
  its_next = at shown old new its_insn pc step

  ref_within : local < length its_frame.refs.locals
  ref_within = omega (arith, its_next.ids, its_next.ref_locals)

  pub cleared_there : (let youngest = youngest_frame old.region in local < length youngest.refs)
  cleared_there = omega (arith, its_next.ids, refs_counted shown old new its_insn pc step)

  pub clears : new ≡ with_stack old (let youngest = youngest_frame old.region in stepped old.region pc (slice_set youngest.refs local 0) youngest.cells) → GoesTo shown old new On
  clears e =
      let none : Reference = None in
      let pictures = step.ready.pictures in
      let keeps = subst (AllByRecursion (KeepsFrame shown.naming)) (step.ready.next).frames_are pictures.kept_frames in
      let locals = its_frame.refs.locals in
      let operands = its_frame.refs.operands in
      let each = IsKept shown.naming in
      let moved = with_ref_locals its_frame (slice_set locals local none) in
      let refs = ap (λ (all : List ℕ). slice_set all local 0) (own_refs shown old new its_insn pc step) ∙ local_written (cell_of shown.naming) locals operands local ref_within none in
      let moves : Option (List Reference) → SplitMove = λ found. using found (λ (locals : List Reference). goes_on shown.state (with_ref_locals its_frame locals) (others shown old new its_insn pc step) pc) in
      goes shown old new its_insn pc step moved
      (move_here shown old new its_insn pc step ∙ ap moves (ref_there locals local none ref_within))
      refl
      (all_append each (slice_set locals local none) (reverse operands) (all_set each locals local none (all_left each locals (reverse operands) keeps.0) tt) (all_right each locals (reverse operands) keeps.0))
      (e ∙ ap₂ (λ refs cells. with_stack old (stepped old.region pc refs cells)) refs (own_cells shown old new its_insn pc step))

-- ---- a number is added to

module _ (shown : Shown) (old new : Memory) (w : Width) (local : ℕ) (amount : ℤ) (pc : ℕ) (step : IsStep shown old (insns.Inc w local amount) pc) where
  abbrev insn : MInsn
  insn = insns.Inc w local amount

  abbrev here : Frame
  here = frame shown old new insn pc step

  abbrev next : IsAt shown.image shown.state (step.ready.next).frame (step.ready.next).others (step.ready.next).method insn (step.ready.next).size
  next = at shown old new insn pc step

  cells_within : local + count_of w ≤ length here.cells.locals
  cells_within = let method = (step.ready.next).method in omega (arith, has_cells w method local next.ids, next.cell_locals)

  pub number_there : (let youngest = youngest_frame old.region in local + count_of w ≤ length youngest.cells)
  number_there = omega (arith, cells_within, cells_counted shown old new insn pc step, next.cell_locals)

  abbrev was : ℤ
  was = number_of (part_at local (count_of w) here.cells.locals)

  abbrev pub sum : ℤ
  sum = int_wrap w32 (was +ℤ amount)

  pub number_was : (let youngest = youngest_frame old.region in number_of (part_at local (count_of w) youngest.cells)) ≡ was
  number_was = ap (λ (all : List ℕ). number_of (part_at local (count_of w) all)) (own_cells shown old new insn pc step) ∙ ap number_of (part_within here.cells.locals (reverse here.cells.operands) local (count_of w) cells_within)

  fits : local + length (cells_of w sum) ≤ length here.cells.locals
  fits = omega (arith, cells_within, number_count w sum)

  pub increments : new ≡ with_stack old (let youngest = youngest_frame old.region in stepped old.region pc youngest.refs (with_part youngest.cells local (cells_of w sum))) → GoesTo shown old new On
  increments e =
      let pictures = step.ready.pictures in
      let keeps = subst (AllByRecursion (KeepsFrame shown.naming)) (step.ready.next).frames_are pictures.kept_frames in
      let locals = here.cells.locals in
      let moved = with_cell_locals here (with_part locals local (cells_of w sum)) in
      let cells = ap (λ (all : List ℕ). with_part all local (cells_of w sum)) (own_cells shown old new insn pc step) ∙ written_within locals (reverse here.cells.operands) (cells_of w sum) local fits in
      let moves : Option (List ℕ) → SplitMove = λ found. using found (λ (locals : List ℕ). goes_on shown.state (with_cell_locals here locals) (others shown old new insn pc step) pc) in
      let sums : Option (List ℕ) → Option (List ℕ) = λ found. option_and_then (λ cells. with_cells_at locals local (cells_of w (int_wrap w32 (number_of cells +ℤ amount)))) found in
      goes shown old new insn pc step moved
      (move_here shown old new insn pc step ∙ ap moves (ap sums (part_there locals local (count_of w) cells_within) ∙ replaced_there locals local (cells_of w sum) fits))
      refl keeps.0
      (e ∙ ap₂ (λ refs cells. with_stack old (stepped old.region pc refs cells)) (own_refs shown old new insn pc step) cells)
