-- A step that pushes what a static holds.
use Rattle.std.proofs.Common.{◌≡◌, ℕ, ◌+◌, ◌<◌, ◌≤◌, List, [], ◌∷◌, ◌++◌, length, take, drop, slice_get, get_or, drop-cons, Option, None, sym, ap, ◌∙◌, arith}
use Rattle.std.proofs.Math.ListN.{get_or-map}
use Rattle.std.proofs.lemmas.List.{length-map}
use Rattle.std.proofs.lemmas.Option.{slice_get-get_or}
use Rattle.image_instr.specs.declared.insn.MInsn.{MInsn}
use Rattle.mote_stack.specs.Frames.{youngest_frame}
use Rattle.mote_model.specs.declared.memory.State.{State as Memory}
use Rattle.mote_model.specs.declared.turn.Turn.TheVariants.{On}
use Rattle.mote_model.specs.State.{Reference, Frame}
use Rattle.mote_model.specs.Picture.{cell_of, IsKept}
use Rattle.mote_model.specs.SplitMoves.{SplitMove, cells_at, goes_on, push_cells, push_ref, using}
use Rattle.mote_model.specs.SplitStep.{move_of}
use Rattle.split_safety.specs.Ready.{Shown}
use Rattle.split_safety.proofs.facts.Lists.{all_get}
use Rattle.split_safety.proofs.facts.Parts.{part, part_there}
use Rattle.mote_exec.specs.Steps.{IsStep, GoesTo, stepped, with_stack}
use Rattle.mote_exec.proofs.GoingOn.{at, frame, others, rows, gives}
use Rattle.mote_exec.proofs.LocalCells.{without_none}
use Rattle.mote_exec.proofs.PushedReferences.{gives_ref}
use Rattle.mote_exec.proofs.Taking.{first_same}

module _ (shown : Shown) (old new : Memory) (insn : MInsn) (pc : ℕ) (step : IsStep shown old insn pc) where
  abbrev here : Frame
  here = frame shown old new insn pc step

  abbrev below : List Frame
  below = others shown old new insn pc step

  -- the statics of the image are there
  pub ref_there : (place : ℕ) → place < shown.image.static_refs → place < length old.ref_statics.items
  ref_there place within =
      let here = at shown old new insn pc step in
      let pictures = step.ready.pictures in
      omega (arith, within, here.statics.refs, ap length pictures.ref_statics, length-map shown.state.ref_statics (cell_of shown.naming))

  pub cells_there : (end : ℕ) → end ≤ length shown.image.static_cells → end ≤ length old.cell_statics.items
  cells_there end within =
      let here = at shown old new insn pc step in
      let pictures = step.ready.pictures in
      omega (arith, within, here.statics.cells, ap length pictures.cell_statics)

  -- cells are pushed
  pub reads_cells : (place count : ℕ) (items : List ℕ) → place + count ≤ length old.cell_statics.items → items ≡ take count (drop place old.cell_statics.items)
      → new ≡ with_stack old (let youngest = youngest_frame old.region in stepped old.region pc youngest.refs (youngest.cells ++ items))
      → move_of shown.image shown.state here below pc insn (rows shown old new insn pc step) ≡ using (cells_at shown.state.cell_statics place count) (λ cells. goes_on shown.state (push_cells cells here) below pc)
      → GoesTo shown old new On
  reads_cells place count items within read e is =
      let statics = step.ready.pictures.cell_statics in
      let fits : place + count ≤ length shown.state.cell_statics = omega (arith, within, ap length statics) in
      let found = part shown.state.cell_statics place count fits in
      let same : items ≡ found = read ∙ ap (λ (all : List ℕ). take count (drop place all)) statics in
      let put : List ℕ → Memory = λ cells. with_stack old (let youngest = youngest_frame old.region in stepped old.region pc youngest.refs (cells ++ items)) in
      let moves : Option (List ℕ) → SplitMove = λ found. using found (λ cells. goes_on shown.state (push_cells cells here) below pc) in
      gives shown old new insn pc step 0 items (omega arith) (e ∙ ap put (sym (without_none (let youngest = youngest_frame old.region in youngest.cells))))
      (is ∙ ap moves (part_there shown.state.cell_statics place count fits) ∙ ap (λ cells. goes_on shown.state (push_cells cells here) below pc) (sym same))

  -- a reference is pushed
  pub reads_ref : (place cell : ℕ) → place < length old.ref_statics.items → cell ∷ [] ≡ take 1 (drop place old.ref_statics.items)
      → new ≡ with_stack old (let youngest = youngest_frame old.region in stepped old.region pc (youngest.refs ++ cell ∷ []) youngest.cells)
      → move_of shown.image shown.state here below pc insn (rows shown old new insn pc step) ≡ using (slice_get shown.state.ref_statics place) (λ reference. goes_on shown.state (push_ref reference here) below pc)
      → GoesTo shown old new On
  reads_ref place cell within read e is =
      let pictures = step.ready.pictures in
      let references = shown.state.ref_statics in
      let reference : Reference = get_or references place None in
      let fits : place < length references = omega (arith, within, ap length pictures.ref_statics, length-map references (cell_of shown.naming)) in
      let found = slice_get-get_or references place None fits in
      let one = ap (λ (items : List ℕ). take 1 items) (drop-cons old.ref_statics.items place 0 within) in
      let same : cell ≡ cell_of shown.naming reference = first_same cell (get_or old.ref_statics.items place 0) (read ∙ one) ∙ ap (λ items. get_or items place 0) pictures.ref_statics ∙ get_or-map (cell_of shown.naming) references place None in
      let put : ℕ → Memory = λ cell. with_stack old (let youngest = youngest_frame old.region in stepped old.region pc (youngest.refs ++ cell ∷ []) youngest.cells) in
      let moves : Option Reference → SplitMove = λ found. using found (λ reference. goes_on shown.state (push_ref reference here) below pc) in
      gives_ref shown old new insn pc step reference (all_get (IsKept shown.naming) references place reference pictures.kept_statics found) (e ∙ ap put same) (is ∙ ap moves found)
