-- Locals and statics: what is loaded, stored, cleared and added to.
use Rattle.std.proofs.Common.{◌≡◌, true, ℕ, ℤ, suc, ◌+◌, ◌+ℤ◌, ◌-◌, ◌<◌, ◌≤◌, List, ◌∷◌, length, drop, take, reverse, slice_get, get_or, Option, Some, None, refl, ap, ◌∙◌, arith, length-drop, length-set, w32}
use Rattle.std.specs.Prelude.{slice_set, option_and_then}
use Rattle.std.specs.Int.{int_wrap}
use Rattle.std.proofs.lemmas.Int.{SFits-int_wrap}
use Rattle.std.proofs.lemmas.List.{length-reverse, length-take-le}
use Rattle.std.proofs.lemmas.Option.{slice_get-get_or}
use Rattle.image_instr.specs.declared.insn.Kind.{Kind}
use Rattle.image_instr.specs.declared.insn.Kind.TheVariants as kind
use Rattle.image_instr.specs.declared.insn.MInsn.{MInsn}
use Rattle.image_instr.specs.declared.insn.MInsn.TheVariants as insns
use Rattle.image_instr.specs.declared.insn.Width.{Width}
use Rattle.image_instr.specs.declared.insn.Width.TheVariants as width
use Rattle.image_form.specs.declared.record.Image.{Image}
use Rattle.image_form.specs.declared.record.Method.{Method}
use Rattle.image_check.specs.Visits as visits
use Rattle.mote_model.specs.State.{Reference, Frame}
use Rattle.mote_model.specs.SplitMoves.{goes_on, using, with_refs, with_cells, with_ref_locals, with_cell_locals, with_ref_at, with_cells_at, cells_at, push_cells, push_ref, take_cells, number_of, cells_of, count_of}
use Rattle.mote_model.specs.SplitState.{State}
use Rattle.split_safety.specs.Reached.{IsCell}
use Rattle.split_safety.specs.Safety.{StaysReached}
use Rattle.split_safety.proofs.facts.Cells.{AreCells, number_cells, number_count}
use Rattle.split_safety.proofs.facts.Lists.{all_reverse, all_take}
use Rattle.split_safety.proofs.facts.Parts.{part, part_there, part_length, part_are, replaced, replaced_there, replaced_length, replaced_are, ref_there}
use Rattle.split_safety.proofs.moves.Going.{IsAt, taken_cells, taken_ref, used, after, reached, behind, goes, pushed, left_refs, left_cells, dropped}
use Rattle.split_safety.proofs.moves.Lemmas.{MoveLemma}

module _ {image : Image} {state : State} {frame : Frame} {others : List Frame} {method : Method} {insn : MInsn} {size : ℕ} (at : IsAt image state frame others method insn size) where
  -- ---- what is read

  -- so many cells from a place of some cells are pushed
  pub cells_pushed : (cells : List ℕ) (from count : ℕ) → visits.goes_on insn ≡ true → AreCells cells → from + count ≤ length cells → count + length frame.cells.operands ≡ (after at).cells → length frame.refs.operands ≡ (after at).refs
      → StaysReached image (using (cells_at cells from count) (λ new. goes_on state (push_cells new frame) others (frame.pc + size)))
  cells_pushed cells from count on are within cells_after refs_after =
      let new = part cells from count within in
      used image (cells_at cells from count) (λ (new : List ℕ). goes_on state (push_cells new frame) others (frame.pc + size)) new (part_there cells from count within)
      (goes at on (push_cells new frame)
      (pushed at new frame.cells.operands (part_are cells from count within IsCell are) at.operands_are (omega (arith, cells_after, part_length cells from count within)) refs_after))

  -- a reference of some references is pushed
  pub ref_pushed : (references : List Reference) (place : ℕ) → visits.goes_on insn ≡ true → place < length references → suc (length frame.refs.operands) ≡ (after at).refs → length frame.cells.operands ≡ (after at).cells
      → StaysReached image (using (slice_get references place) (λ reference. goes_on state (push_ref reference frame) others (frame.pc + size)))
  ref_pushed references place on within refs_after cells_after =
      let reference : Reference = get_or references place None in
      used image (slice_get references place) (λ (reference : Reference). goes_on state (push_ref reference frame) others (frame.pc + size)) reference (slice_get-get_or references place None within)
      (goes at on (push_ref reference frame) (left_refs at (reference ∷ frame.refs.operands) refs_after cells_after))

  -- ---- what is written

  -- so many cells are taken, as many as are given
  pub taken_length : (count : ℕ) → count ≤ length frame.cells.operands → length (reverse (take count frame.cells.operands)) ≡ count
  taken_length count enough = length-reverse (take count frame.cells.operands) ∙ length-take-le count frame.cells.operands enough

  pub taken_are : (count : ℕ) → AreCells (reverse (take count frame.cells.operands))
  taken_are count = all_reverse IsCell (take count frame.cells.operands) (all_take IsCell count frame.cells.operands at.operands_are)

  pub cells_stored : (place count : ℕ) → visits.goes_on insn ≡ true → count ≤ length frame.cells.operands → place + count ≤ length frame.cells.locals → length frame.cells.operands - count ≡ (after at).cells → length frame.refs.operands ≡ (after at).refs
      → StaysReached image (take_cells count frame (λ cells rest. using (with_cells_at rest.cells.locals place cells) (λ locals. goes_on state (with_cell_locals rest locals) others (frame.pc + size))))
  cells_stored place count on enough within cells_after refs_after =
      let new = reverse (take count frame.cells.operands) in
      let locals = frame.cells.locals in
      let fits : place + length new ≤ length locals = omega (arith, within, taken_length count enough) in
      let rest = with_cells frame (drop count frame.cells.operands) in
      taken_cells image count frame (λ (cells : List ℕ) (rest : Frame). using (with_cells_at rest.cells.locals place cells) (λ (locals : List ℕ). goes_on state (with_cell_locals rest locals) others (frame.pc + size))) enough
      (used image (with_cells_at locals place new) (λ (locals : List ℕ). goes_on state (with_cell_locals rest locals) others (frame.pc + size)) (replaced locals place new fits) (replaced_there locals place new fits)
      (goes at on (with_cell_locals rest (replaced locals place new fits)) (record {
        method = refl;
        ref_locals = refl;
        cell_locals = replaced_length locals place new fits;
        locals_are = replaced_are locals place new fits IsCell at.locals_are (taken_are count);
        operands_are = dropped at count;
        refs = refs_after;
        cells = length-drop count frame.cells.operands ∙ cells_after;
      })))

  -- the statics with others
  pub stored_cells : (place count : ℕ) → visits.goes_on insn ≡ true → count ≤ length frame.cells.operands → place + count ≤ length state.cell_statics → length frame.cells.operands - count ≡ (after at).cells → length frame.refs.operands ≡ (after at).refs
      → StaysReached image (take_cells count frame (λ cells rest. using (with_cells_at state.cell_statics place cells) (λ (statics : List ℕ). goes_on (record state { cell_statics = statics }) rest others (frame.pc + size))))
  stored_cells place count on enough within cells_after refs_after =
      let new = reverse (take count frame.cells.operands) in
      let statics = state.cell_statics in
      let fits : place + length new ≤ length statics = omega (arith, within, taken_length count enough) in
      let rest = with_cells frame (drop count frame.cells.operands) in
      taken_cells image count frame (λ (cells : List ℕ) (rest : Frame). using (with_cells_at state.cell_statics place cells) (λ (statics : List ℕ). goes_on (record state { cell_statics = statics }) rest others (frame.pc + size))) enough
      (used image (with_cells_at statics place new) (λ (statics : List ℕ). goes_on (record state { cell_statics = statics }) rest others (frame.pc + size)) (replaced statics place new fits) (replaced_there statics place new fits)
      (reached at (record state { cell_statics = replaced statics place new fits }) (record {
        refs = at.statics.refs;
        cells = replaced_length statics place new fits ∙ at.statics.cells;
        are_cells = replaced_are statics place new fits IsCell at.statics.are_cells (taken_are count);
      }) rest (left_cells at (drop count frame.cells.operands) (dropped at count) (length-drop count frame.cells.operands ∙ cells_after) refs_after) (frame.pc + size) (behind method.code frame.pc insn size on)))

-- ---- locals

pub load_moves : (k : Kind) (place : ℕ) → MoveLemma (insns.Load k place)
load_moves kind.Ref place image state frame others method size at = ref_pushed at frame.refs.locals place refl (omega (arith, at.ids, at.ref_locals)) (omega arith) (omega arith)
load_moves kind.One place image state frame others method size at = cells_pushed at frame.cells.locals place 1 refl at.locals_are (omega (arith, at.ids, at.cell_locals)) (omega arith) (omega arith)
load_moves kind.Two place image state frame others method size at = cells_pushed at frame.cells.locals place 2 refl at.locals_are (omega (arith, at.ids, at.cell_locals)) (omega arith) (omega arith)

pub store_moves : (k : Kind) (place : ℕ) → MoveLemma (insns.Store k place)
store_moves kind.Ref place image state frame others method size at =
    let within : place < length frame.refs.locals = omega (arith, at.ids, at.ref_locals) in
    taken_ref image frame (λ (reference : Reference) (rest : Frame). using (with_ref_at rest.refs.locals place reference) (λ (locals : List Reference). goes_on state (with_ref_locals rest locals) others (frame.pc + size))) at.operands.refs
    (λ reference rest count.
    used image (with_ref_at frame.refs.locals place reference) (λ (locals : List Reference). goes_on state (with_ref_locals (with_refs frame rest) locals) others (frame.pc + size)) (slice_set frame.refs.locals place reference)
    (ref_there frame.refs.locals place reference within)
    (goes at refl (with_ref_locals (with_refs frame rest) (slice_set frame.refs.locals place reference)) (record {
      method = refl;
      ref_locals = length-set frame.refs.locals place reference;
      cell_locals = refl;
      locals_are = at.locals_are;
      operands_are = at.operands_are;
      refs = omega (arith, count);
      cells = omega arith;
    })))
store_moves kind.One place image state frame others method size at = cells_stored at place 1 refl at.operands.cells (omega (arith, at.ids, at.cell_locals)) (omega arith) (omega arith)
store_moves kind.Two place image state frame others method size at = cells_stored at place 2 refl at.operands.cells (omega (arith, at.ids, at.cell_locals)) (omega arith) (omega arith)

pub clear_moves : (place : ℕ) → MoveLemma (insns.RClear place)
clear_moves place image state frame others method size at =
    let none : Reference = None in
    let within : place < length frame.refs.locals = omega (arith, at.ids, at.ref_locals) in
    used image (with_ref_at frame.refs.locals place none) (λ (locals : List Reference). goes_on state (with_ref_locals frame locals) others (frame.pc + size)) (slice_set frame.refs.locals place none)
    (ref_there frame.refs.locals place none within)
    (goes at refl (with_ref_locals frame (slice_set frame.refs.locals place none)) (record {
      method = refl;
      ref_locals = length-set frame.refs.locals place none;
      cell_locals = refl;
      locals_are = at.locals_are;
      operands_are = at.operands_are;
      refs = omega arith;
      cells = omega arith;
    }))

-- the cells of a number are added to, in place
module _ (w : Width) (place : ℕ) (amount : ℤ) {image : Image} {state : State} {frame : Frame} {others : List Frame} {method : Method} {size : ℕ} (at : IsAt image state frame others method (insns.Inc w place amount) size)
    (within : place + count_of w ≤ length frame.cells.locals) where
  abbrev old : List ℕ
  old = part frame.cells.locals place (count_of w) within

  abbrev sum : ℤ
  sum = int_wrap w32 (number_of old +ℤ amount)

  fits : place + length (cells_of w sum) ≤ length frame.cells.locals
  fits = omega (arith, within, number_count w sum)

  abbrev new : List ℕ
  new = replaced frame.cells.locals place (cells_of w sum) fits

  increased : option_and_then (λ cells. with_cells_at frame.cells.locals place (cells_of w (int_wrap w32 (number_of cells +ℤ amount)))) (cells_at frame.cells.locals place (count_of w)) ≡ Some new
  increased =
      ap (λ (found : Option (List ℕ)). option_and_then (λ cells. with_cells_at frame.cells.locals place (cells_of w (int_wrap w32 (number_of cells +ℤ amount)))) found) (part_there frame.cells.locals place (count_of w) within)
      ∙ replaced_there frame.cells.locals place (cells_of w sum) fits

  inc_stays : StaysReached image (using (option_and_then (λ cells. with_cells_at frame.cells.locals place (cells_of w (int_wrap w32 (number_of cells +ℤ amount)))) (cells_at frame.cells.locals place (count_of w))) (λ locals. goes_on state (with_cell_locals frame locals) others (frame.pc + size)))
  inc_stays =
      used image (option_and_then (λ (cells : List ℕ). with_cells_at frame.cells.locals place (cells_of w (int_wrap w32 (number_of cells +ℤ amount)))) (cells_at frame.cells.locals place (count_of w)))
      (λ (locals : List ℕ). goes_on state (with_cell_locals frame locals) others (frame.pc + size)) new increased
      (goes at refl (with_cell_locals frame new) (record {
        method = refl;
        ref_locals = refl;
        cell_locals = replaced_length frame.cells.locals place (cells_of w sum) fits;
        locals_are = replaced_are frame.cells.locals place (cells_of w sum) fits IsCell at.locals_are (number_cells w sum (SFits-int_wrap w32 (number_of old +ℤ amount)));
        operands_are = at.operands_are;
        refs = omega arith;
        cells = omega arith;
      }))

pub inc_moves : (w : Width) (place : ℕ) (amount : ℤ) → MoveLemma (insns.Inc w place amount)
inc_moves width.One place amount image state frame others method size at = inc_stays width.One place amount at (omega (arith, at.ids, at.cell_locals))
inc_moves width.Two place amount image state frame others method size at = inc_stays width.Two place amount at (omega (arith, at.ids, at.cell_locals))

-- ---- statics

pub get_static_moves : (k : Kind) (place : ℕ) → MoveLemma (insns.GetS k place)
get_static_moves kind.Ref place image state frame others method size at = ref_pushed at state.ref_statics place refl (omega (arith, at.ids, at.statics.refs)) (omega arith) (omega arith)
get_static_moves kind.One place image state frame others method size at = cells_pushed at state.cell_statics place 1 refl at.statics.are_cells (omega (arith, at.ids, at.statics.cells)) (omega arith) (omega arith)
get_static_moves kind.Two place image state frame others method size at = cells_pushed at state.cell_statics place 2 refl at.statics.are_cells (omega (arith, at.ids, at.statics.cells)) (omega arith) (omega arith)

pub put_static_moves : (k : Kind) (place : ℕ) → MoveLemma (insns.PutS k place)
put_static_moves kind.Ref place image state frame others method size at =
    let within : place < length state.ref_statics = omega (arith, at.ids, at.statics.refs) in
    taken_ref image frame (λ (reference : Reference) (rest : Frame). using (with_ref_at state.ref_statics place reference) (λ (statics : List Reference). goes_on (record state { ref_statics = statics }) rest others (frame.pc + size))) at.operands.refs
    (λ reference rest count.
    used image (with_ref_at state.ref_statics place reference) (λ (statics : List Reference). goes_on (record state { ref_statics = statics }) (with_refs frame rest) others (frame.pc + size)) (slice_set state.ref_statics place reference)
    (ref_there state.ref_statics place reference within)
    (reached at (record state { ref_statics = slice_set state.ref_statics place reference }) (record {
      refs = length-set state.ref_statics place reference ∙ at.statics.refs;
      cells = at.statics.cells;
      are_cells = at.statics.are_cells;
    }) (with_refs frame rest) (left_refs at rest (omega (arith, count)) (omega arith)) (frame.pc + size) (behind method.code frame.pc (insns.PutS kind.Ref place) size refl)))
put_static_moves kind.One place image state frame others method size at = stored_cells at place 1 refl at.operands.cells (omega (arith, at.ids, at.statics.cells)) (omega arith) (omega arith)
put_static_moves kind.Two place image state frame others method size at = stored_cells at place 2 refl at.operands.cells (omega (arith, at.ids, at.statics.cells)) (omega arith) (omega arith)
