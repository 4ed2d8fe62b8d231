-- A step that takes what is on top, and writes it over a static.
use Rattle.std.proofs.Common.{◌≡◌, ℕ, ◌+◌, ◌<◌, ◌≤◌, List, [], ◌∷◌, ◌++◌, map, length, take, drop, reverse, set, get_or, Option, None, refl, sym, ap, ap₂, subst, ◌∙◌, arith}
use Rattle.std.specs.List.{AllByRecursion}
use Rattle.std.proofs.Math.ListN.{get_or-map}
use Rattle.std.proofs.Math.Numerals.{suc-eq-add-one}
use Rattle.std.proofs.lemmas.List.{length-map, length-reverse, length-take-le, map-set, set_split}
use Rattle.std.proofs.lemmas.Option.{slice_get-get_or}
use Rattle.image_instr.specs.declared.insn.MInsn.{MInsn}
use Rattle.account.specs.Account.{no_need}
use Rattle.mote_stack.specs.Frames.{youngest_frame, last_items, without_last}
use Rattle.mote_model.specs.declared.memory.State.{State as Memory}
use Rattle.mote_model.specs.declared.turn.Turn.TheVariants.{On}
use Rattle.mote_model.specs.State.{Reference, Frame, whole}
use Rattle.mote_model.specs.Picture.{cell_of, IsKept, KeepsFrame}
use Rattle.mote_model.specs.SplitMoves.{SplitMove, at_pc, goes_on, take_cells, take_ref, using, with_cells_at, with_ref_at}
use Rattle.mote_model.specs.SplitState.{State, with_frames}
use Rattle.mote_model.specs.SplitStep.{move_of}
use Rattle.split_safety.specs.Ready.{Shown}
use Rattle.split_safety.proofs.facts.Lists.{all_get}
use Rattle.split_safety.proofs.facts.Parts.{replaced, replaced_there, ref_there}
use Rattle.mote_exec.specs.Steps.{IsStep, GoesTo, stepped, with_taken}
use Rattle.mote_exec.proofs.GoingOn.{frame, others, rows, move_here, own_cells, own_refs, pictured}
use Rattle.mote_exec.proofs.HalfLists.{rest, top}
use Rattle.mote_exec.proofs.LocalReferences.{all_set, takes_ref, top_reference}
use Rattle.mote_exec.proofs.MovedReferences.{cells_of_refs, operands_kept}
use Rattle.mote_exec.proofs.TakenReferences.{left_kept, left_refs, without_refs}
use Rattle.mote_exec.proofs.Taking.{first_same, takes_cells, top_alone}

module _ (shown : Shown) (old new : Memory) (insn : MInsn) (pc : ℕ) (step : IsStep shown old insn pc) where
  abbrev here : Frame
  here = frame shown old new insn pc step

  abbrev below : List Frame
  below = others shown old new insn pc step

  -- the step goes on to a state with other statics
  stores : (to : State) (moved : Frame) → move_of shown.image shown.state here below pc insn (rows shown old new insn pc step) ≡ goes_on to moved below pc → moved.method ≡ here.method → KeepsFrame shown.naming moved
      → new.region ≡ stepped old.region pc (map (cell_of shown.naming) (whole moved.refs)) (whole moved.cells)
      → new.ref_statics.items ≡ map (cell_of shown.naming) to.ref_statics → new.cell_statics.items ≡ to.cell_statics → AllByRecursion (IsKept shown.naming) to.ref_statics → new.collections ≡ old.collections
      → GoesTo shown old new On
  stores to moved is method keeps region refs cells kept collections left =
      record {
        need = no_need;
        next = with_frames to (at_pc moved pc ∷ below);
        goes = move_here shown old new insn pc step ∙ is;
        places_nothing = refl;
        calls_nothing = refl;
        tick = refl;
        pictures = pictured shown old new insn pc step pc (with_frames to (at_pc moved pc ∷ below)) moved refl method keeps region refs cells kept;
        collections = collections;
      }

  -- cells are taken and written
  pub stores_cells : (place taken : ℕ) (items : List ℕ) → taken ≤ length here.cells.operands → place + taken ≤ length old.cell_statics.items
      → items ≡ (let youngest = youngest_frame old.region in last_items taken youngest.cells)
      → new.region ≡ (let youngest = youngest_frame old.region in stepped old.region pc youngest.refs (without_last taken youngest.cells))
      → new.ref_statics.items ≡ old.ref_statics.items
      → new.cell_statics.items ≡ take place old.cell_statics.items ++ (items ++ drop (place + length items) old.cell_statics.items)
      → new.collections ≡ old.collections
      → move_of shown.image shown.state here below pc insn (rows shown old new insn pc step)
      ≡ take_cells taken here (λ cells rest. using (with_cells_at shown.state.cell_statics place cells) (λ (statics : List ℕ). goes_on (record shown.state { cell_statics = statics }) rest below pc))
      → GoesTo shown old new On
  stores_cells place taken items enough within read region refs written collections is =
      let state = shown.state in
      let next = step.ready.next in
      let pictures = step.ready.pictures in
      let keeps = subst (AllByRecursion (KeepsFrame shown.naming)) next.frames_are pictures.kept_frames in
      let operands = here.cells.operands in
      let cells = reverse (take taken operands) in
      let statics = pictures.cell_statics in
      let same : items ≡ cells = read ∙ ap (last_items taken) (own_cells shown old new insn pc step) ∙ top here.cells.locals operands taken enough in
      let count : length cells ≡ taken = length-reverse (take taken operands) ∙ length-take-le taken operands enough in
      let fits : place + length cells ≤ length state.cell_statics = omega (arith, within, count, ap length statics) in
      let stored : List ℕ → SplitMove = λ statics. goes_on (record state { cell_statics = statics }) (with_taken taken here) below pc in
      let moves : Option (List ℕ) → SplitMove = λ found. using found stored in
      let left = ap (without_last taken) (own_cells shown old new insn pc step) ∙ rest here.cells.locals operands taken enough in
      stores (record state { cell_statics = replaced state.cell_statics place cells fits }) (with_taken taken here)
      (is ∙ takes_cells taken here (λ cells rest. using (with_cells_at state.cell_statics place cells) (λ (statics : List ℕ). goes_on (record state { cell_statics = statics }) rest below pc)) enough
      ∙ ap moves (replaced_there state.cell_statics place cells fits))
      refl keeps.0 (region ∙ ap₂ (λ refs cells. stepped old.region pc refs cells) (own_refs shown old new insn pc step) left) (refs ∙ pictures.ref_statics)
      (written ∙ ap₂ (λ (items all : List ℕ). take place all ++ (items ++ drop (place + length items) all)) same statics) pictures.kept_statics collections

  -- a reference is taken and written
  pub stores_ref : (place cell : ℕ) → 1 ≤ length here.refs.operands → place < length old.ref_statics.items
      → cell ∷ [] ≡ (let youngest = youngest_frame old.region in last_items 1 youngest.refs)
      → new.region ≡ (let youngest = youngest_frame old.region in stepped old.region pc (without_last 1 youngest.refs) youngest.cells)
      → new.ref_statics.items ≡ take place old.ref_statics.items ++ cell ∷ drop (place + 1) old.ref_statics.items
      → new.cell_statics.items ≡ old.cell_statics.items
      → new.collections ≡ old.collections
      → move_of shown.image shown.state here below pc insn (rows shown old new insn pc step)
      ≡ take_ref here (λ reference rest. using (with_ref_at shown.state.ref_statics place reference) (λ (statics : List Reference). goes_on (record shown.state { ref_statics = statics }) rest below pc))
      → GoesTo shown old new On
  stores_ref place cell enough within read region written cells collections is =
      let state = shown.state in
      let pictures = step.ready.pictures in
      let f = cell_of shown.naming in
      let operands = here.refs.operands in
      let shown_operands = map f operands in
      let reference = top_reference operands in
      let there : 1 ≤ length shown_operands = omega (arith, enough, length-map operands f) in
      let cell_is : cell ≡ f reference =
      first_same cell (get_or shown_operands 0 0) (read ∙ ap (last_items 1) (cells_of_refs shown old new insn pc step) ∙ top (map f here.refs.locals) shown_operands 1 there ∙ top_alone shown_operands there) ∙ get_or-map f operands 0 None in
      let fits : place < length state.ref_statics = omega (arith, within, ap length pictures.ref_statics, length-map state.ref_statics f) in
      let kept = operands_kept shown old new insn pc step in
      let set_one = set_split old.ref_statics.items place cell within ∙ ap (λ k. take place old.ref_statics.items ++ cell ∷ drop k old.ref_statics.items) (suc-eq-add-one place) in
      let moved = without_refs 1 here in
      let stored : List Reference → SplitMove = λ statics. goes_on (record state { ref_statics = statics }) moved below pc in
      let moves : Option (List Reference) → SplitMove = λ found. using found stored in
      let one_kept = all_get (IsKept shown.naming) operands 0 reference kept (slice_get-get_or operands 0 None enough) in
      stores (record state { ref_statics = set state.ref_statics place reference }) moved
      (is ∙ takes_ref here (λ reference rest. using (with_ref_at state.ref_statics place reference) (λ (statics : List Reference). goes_on (record state { ref_statics = statics }) rest below pc)) enough
      ∙ ap moves (ref_there state.ref_statics place reference fits))
      refl (left_kept shown old new insn pc step 1)
      (region ∙ ap₂ (λ refs cells. stepped old.region pc refs cells) (left_refs shown old new insn pc step 1 enough) (own_cells shown old new insn pc step))
      (written ∙ sym set_one ∙ ap₂ (λ (items : List ℕ) (cell : ℕ). set items place cell) pictures.ref_statics cell_is ∙ sym (map-set f state.ref_statics place reference))
      (cells ∙ pictures.cell_statics) (all_set (IsKept shown.naming) state.ref_statics place reference pictures.kept_statics one_kept) collections
