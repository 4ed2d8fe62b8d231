-- A step that goes on behind its instruction, with other operands or locals in the youngest frame.
use Rattle.std.proofs.Common.{◌≡◌, ℕ, ℤ, FitsSigned, to_z, of_z, ◌+◌, ◌-◌, ◌≤◌, List, [], ◌∷◌, ◌++◌, map, drop, take, length, reverse, arith, Option, Some, refl, sym, ap, ap₂, subst, ◌∙◌}
use Rattle.std.specs.Int.{w32}
use Rattle.std.specs.List.{AllByRecursion}
use Rattle.std.proofs.lemmas.Int.{to_z-of_z}
use Rattle.std.specs.Option.{option_map_or}
use Rattle.std.proofs.lemmas.List.{length-append, length-drop, length-map, length-reverse}
use Rattle.image_instr.specs.declared.insn.MInsn.{MInsn}
use Rattle.image_instr.specs.declared.insn.SwitchRow.{SwitchRow}
use Rattle.image_instr.specs.declared.insn.Width.{Width}
use Rattle.image_instr.specs.Reading.{rows_at}
use Rattle.image_form.specs.declared.record.Image.{Image}
use Rattle.image_form.specs.declared.record.Method.{Method}
use Rattle.account.specs.Account.{no_need}
use Rattle.mote_stack.specs.Frames.{Stack, HasFreeCells, youngest_frame, with_cells, without_last, last_items}
use Rattle.mote_model.specs.declared.memory.State.{State as Memory}
use Rattle.mote_model.specs.declared.turn.Turn.TheVariants.{On}
use Rattle.mote_model.specs.State.{Reference, Half, Frame, whole}
use Rattle.mote_model.specs.Picture.{Naming, cell_of, IsKept, KeepsFrame, Pictures, body_of, shown_frame, shown_stack}
use Rattle.mote_model.specs.SplitMoves.{SplitMove, at_pc, cells_of, count_of, goes_on, number_of, push_cells, push_number, using}
use Rattle.mote_model.specs.SplitState.{State, method_at, with_frames}
use Rattle.mote_model.specs.SplitStep.{move, move_among, move_at, move_of}
use Rattle.split_safety.specs.Ready.{Shown, IsNext}
use Rattle.split_safety.proofs.moves.Going.{IsAt}
use Rattle.split_safety.proofs.moves.Ready.{ready_at}
use Rattle.mote_exec.specs.Steps.{IsStep, GoesTo, number_below, stepped, with_pc, with_stack, with_taken}
use Rattle.mote_exec.proofs.HalfLists.{pushed, rest, top}

-- ---- the move

code_is : (image : Image) (frame : Frame) (method : Method) → method_at image frame.method ≡ Some method → option_map_or (λ (found : Method). found.code) (method_at image frame.method) [] ≡ method.code
code_is image frame method found = ap (λ (o : Option Method). option_map_or (λ (found : Method). found.code) o []) found

-- the move of the next instruction
pub move_is : (image : Image) (state : State) (insn : MInsn) (next : IsNext image state insn)
    → move image state ≡ move_of image state next.frame next.others (next.frame.pc + next.size) insn (rows_at insn (drop next.frame.pc next.method.code))
move_is image state insn next =
    let frame = next.frame in
    let made : List ℕ → Option (MInsn × ℕ) → SplitMove = λ bytes found. using found (λ found. move_of image state frame next.others (frame.pc + found.1) found.0 (rows_at found.0 bytes)) in
    let code = code_is image frame next.method next.found in
    ap (move_among image state) next.frames_are
    ∙ ap (λ code. move_at image state frame next.others (drop frame.pc code)) code
    ∙ ap (made (drop frame.pc next.method.code)) next.there

-- ---- the memory

-- the stack that shows frames, stepped, shows the youngest one stepped
pub shown_stepped : (image : Image) (naming : Naming) (size : ℕ) (frame moved : Frame) (others : List Frame) (pc : ℕ) → moved.method ≡ frame.method
    → stepped (shown_stack image naming size (frame ∷ others)) pc (map (cell_of naming) (whole moved.refs)) (whole moved.cells) ≡ shown_stack image naming size (at_pc moved pc ∷ others)
shown_stepped image naming size frame moved others pc same =
    ap (λ method. record {
      size = size;
      bodies = (shown_stack image naming size (frame ∷ others)).bodies;
      frames = record { method = method; pc = pc; body = body_of image method; refs = map (cell_of naming) (whole moved.refs); cells = whole moved.cells } ∷ map (shown_frame image naming) others;
    }) (sym same)

module _ (shown : Shown) (old new : Memory) (insn : MInsn) (pc : ℕ) (step : IsStep shown old insn pc) where
  abbrev pub frame : Frame
  frame = (step.ready.next).frame

  abbrev pub others : List Frame
  others = (step.ready.next).others

  -- the rows of a switch
  abbrev pub rows : List SwitchRow
  rows = let next = step.ready.next in rows_at insn (drop frame.pc (next.method).code)

  -- the move, behind which the code goes on at the pc
  pub move_here : move shown.image shown.state ≡ move_of shown.image shown.state frame others pc insn rows
  move_here = move_is shown.image shown.state insn step.ready.next ∙ ap (λ behind. move_of shown.image shown.state frame others behind insn rows) (sym step.behind)

  -- the memory stands for the state after the step
  pub pictured : (to : ℕ) (after : State) (moved : Frame) → after.frames ≡ at_pc moved to ∷ others → moved.method ≡ frame.method → KeepsFrame shown.naming moved
      → new.region ≡ stepped old.region to (map (cell_of shown.naming) (whole moved.refs)) (whole moved.cells)
      → new.ref_statics.items ≡ map (cell_of shown.naming) after.ref_statics → new.cell_statics.items ≡ after.cell_statics → AllByRecursion (IsKept shown.naming) after.ref_statics
      → Pictures shown.image shown.naming shown.size new after
  pictured to after moved frames method keeps region refs cells kept =
      let pictures = step.ready.pictures in
      let next = step.ready.next in
      let was = pictures.region ∙ ap (shown_stack shown.image shown.naming shown.size) next.frames_are in
      let all = subst (AllByRecursion (KeepsFrame shown.naming)) next.frames_are pictures.kept_frames in
      record {
        naming_is = pictures.naming_is;
        region = region ∙ ap (λ stack. stepped stack to (map (cell_of shown.naming) (whole moved.refs)) (whole moved.cells)) was
            ∙ shown_stepped shown.image shown.naming shown.size frame moved others to method ∙ ap (shown_stack shown.image shown.naming shown.size) (sym frames);
        ref_statics = refs;
        cell_statics = cells;
        kept_frames = subst (AllByRecursion (KeepsFrame shown.naming)) (sym frames) (keeps, all.1);
        kept_statics = kept;
      }

  -- the step goes on
  pub goes : (moved : Frame) → move shown.image shown.state ≡ goes_on shown.state moved others pc → moved.method ≡ frame.method → KeepsFrame shown.naming moved
      → new ≡ (record old { region = stepped old.region pc (map (cell_of shown.naming) (whole moved.refs)) (whole moved.cells) }) → GoesTo shown old new On
  goes moved is method keeps e left =
      let pictures = step.ready.pictures in
      record {
        need = no_need;
        next = with_frames shown.state (at_pc moved pc ∷ others);
        goes = is;
        places_nothing = refl;
        calls_nothing = refl;
        tick = refl;
        pictures = pictured pc (with_frames shown.state (at_pc moved pc ∷ others)) moved refl method keeps (ap (λ (memory : Memory). memory.region) e)
            (ap (λ (memory : Memory). memory.ref_statics.items) e ∙ pictures.ref_statics) (ap (λ (memory : Memory). memory.cell_statics.items) e ∙ pictures.cell_statics) pictures.kept_statics;
        collections = ap (λ (memory : Memory). memory.collections) e;
      }

  abbrev pub at : IsAt shown.image shown.state (step.ready.next).frame (step.ready.next).others (step.ready.next).method insn (step.ready.next).size
  at = ready_at shown old insn step.ready

  -- the stack shows the frames
  pub was : old.region ≡ shown_stack shown.image shown.naming shown.size (frame ∷ others)
  was = let pictures = step.ready.pictures in let next = step.ready.next in pictures.region ∙ ap (shown_stack shown.image shown.naming shown.size) next.frames_are

  -- the youngest frame has room for cells where the body of its method has
  pub free_cells : (count : ℕ) → (let next = step.ready.next in let method = next.method in (method.ref_locals + method.cell_locals) + ((length frame.refs.operands + length frame.cells.operands) + count) ≤ method.body) → HasFreeCells old.region count
  free_cells count fits =
      let next = step.ready.next in
      let refs = length-map (whole frame.refs) (cell_of shown.naming) ∙ length-append frame.refs.locals (reverse frame.refs.operands) ∙ ap (λ n. length frame.refs.locals + n) (length-reverse frame.refs.operands) in
      let cells = length-append frame.cells.locals (reverse frame.cells.operands) ∙ ap (λ n. length frame.cells.locals + n) (length-reverse frame.cells.operands) in
      let body : body_of shown.image frame.method ≡ (next.method).body = ap (λ (o : Option Method). option_map_or (λ (found : Method). found.body) o 0) next.found in
      subst (λ (stack : Stack). HasFreeCells stack count) (sym was) (omega (arith, fits, refs, cells, body, at.ref_locals, at.cell_locals))

  pub own_cells : (let youngest = youngest_frame old.region in youngest.cells) ≡ whole frame.cells
  own_cells = ap (λ (stack : Stack). let youngest = youngest_frame stack in youngest.cells) was

  pub own_refs : (let youngest = youngest_frame old.region in youngest.refs) ≡ map (cell_of shown.naming) (whole frame.refs)
  own_refs = ap (λ (stack : Stack). let youngest = youngest_frame stack in youngest.refs) was

  -- the cells are changed, and then the pc is set
  pub cells_stepped : (cells : List ℕ) (middle last : Stack) → middle ≡ with_cells old.region cells → last ≡ with_pc middle pc → last ≡ stepped old.region pc (map (cell_of shown.naming) (whole frame.refs)) cells
  cells_stepped cells middle last changed set =
      set ∙ ap (λ stack. with_pc stack pc) (changed ∙ ap (λ stack. with_cells stack cells) was) ∙ ap (λ stack. stepped stack pc (map (cell_of shown.naming) (whole frame.refs)) cells) (sym was)

  -- the step goes on with other cells
  pub goes_cells : (moved : Frame) (cells : List ℕ) (middle last : Stack) → middle ≡ with_cells old.region cells → last ≡ with_pc middle pc → cells ≡ whole moved.cells → new ≡ (record old { region = last })
      → moved.refs ≡ frame.refs → moved.method ≡ frame.method → move shown.image shown.state ≡ goes_on shown.state moved others pc → GoesTo shown old new On
  goes_cells moved cells middle last changed set same e refs method is =
      let next = step.ready.next in
      let pictures = step.ready.pictures in
      let keeps = subst (AllByRecursion (KeepsFrame shown.naming)) next.frames_are pictures.kept_frames in
      goes moved is method (subst (λ (half : Half Reference). AllByRecursion (IsKept shown.naming) (whole half)) (sym refs) keeps.0)
      (e ∙ ap (λ stack. record old { region = stack }) (cells_stepped cells middle last changed set
      ∙ ap (λ (half : Half Reference). stepped old.region pc (map (cell_of shown.naming) (whole half)) cells) (sym refs)
      ∙ ap (λ cells. stepped old.region pc (map (cell_of shown.naming) (whole moved.refs)) cells) same))

  -- ---- numbers on top

  abbrev pub method : Method
  method = let next = step.ready.next in next.method

  pub refs_counted : (let youngest = youngest_frame old.region in length youngest.refs) ≡ method.ref_locals + length frame.refs.operands
  refs_counted = ap length own_refs ∙ length-map (whole frame.refs) (cell_of shown.naming) ∙ length-append frame.refs.locals (reverse frame.refs.operands)
      ∙ ap₂ (λ m n. m + n) at.ref_locals (length-reverse frame.refs.operands)

  pub cells_counted : (let youngest = youngest_frame old.region in length youngest.cells) ≡ method.cell_locals + length frame.cells.operands
  cells_counted = ap length own_cells ∙ length-append frame.cells.locals (reverse frame.cells.operands)
      ∙ ap₂ (λ m n. m + n) at.cell_locals (length-reverse frame.cells.operands)

  pub body_is : (let youngest = youngest_frame old.region in youngest.body) ≡ method.body
  body_is = let next = step.ready.next in
      ap (λ (stack : Stack). let youngest = youngest_frame stack in youngest.body) was ∙ ap (λ (o : Option Method). option_map_or (λ (found : Method). found.body) o 0) next.found

  -- cells that are taken leave room for others
  pub room : (taken count : ℕ) → taken ≤ length frame.cells.operands → (method.ref_locals + method.cell_locals) + (length frame.refs.operands + ((length frame.cells.operands - taken) + count)) ≤ method.body
      → (let youngest = youngest_frame old.region in length youngest.refs + (length youngest.cells - taken) + count ≤ youngest.body)
  room taken count enough fits = omega (arith, enough, fits, refs_counted, cells_counted, body_is)

  -- the operands that are taken are among the cells
  pub there : (taken : ℕ) → taken ≤ length frame.cells.operands → (let youngest = youngest_frame old.region in taken ≤ length youngest.cells)
  there taken enough = omega (arith, enough, cells_counted)

  -- the number that has some cells above it
  pub number_is : (w : Width) (above : ℕ) → above + count_of w ≤ length frame.cells.operands
      → (let youngest = youngest_frame old.region in number_below w above youngest.cells) ≡ number_of (reverse (take (count_of w) (drop above frame.cells.operands)))
  number_is w above enough =
      let left : count_of w ≤ length (drop above frame.cells.operands) = omega (arith, enough, length-drop above frame.cells.operands) in
      ap (number_below w above) own_cells
      ∙ ap (λ cells. number_of (last_items (count_of w) cells)) (rest frame.cells.locals frame.cells.operands above (omega (arith, enough)))
      ∙ ap number_of (top frame.cells.locals (drop above frame.cells.operands) (count_of w) left)

  -- the step takes cells off the top, and pushes others
  pub gives : (taken : ℕ) (items : List ℕ) → taken ≤ length frame.cells.operands
      → new ≡ with_stack old (let youngest = youngest_frame old.region in stepped old.region pc youngest.refs (without_last taken youngest.cells ++ items))
      → move_of shown.image shown.state frame others pc insn rows ≡ goes_on shown.state (push_cells items (with_taken taken frame)) others pc → GoesTo shown old new On
  gives taken items enough e is =
      let next = step.ready.next in
      let pictures = step.ready.pictures in
      let keeps = subst (AllByRecursion (KeepsFrame shown.naming)) next.frames_are pictures.kept_frames in
      let operands = drop taken frame.cells.operands in
      let cells = ap (λ cells. without_last taken cells ++ items) own_cells ∙ ap (λ cells. cells ++ items) (rest frame.cells.locals frame.cells.operands taken enough) ∙ pushed frame.cells.locals operands items in
      goes (push_cells items (with_taken taken frame)) (move_here ∙ is) refl keeps.0
      (e ∙ ap₂ (λ refs cells. with_stack old (stepped old.region pc refs cells)) own_refs cells)

  -- the step takes cells off the top, and pushes a number
  pub gives_number : (counted taken : ℕ) (w : Width) (given number : ℤ) → counted ≡ taken → FitsSigned w32 given → given ≡ number → taken ≤ length frame.cells.operands
      → new ≡ with_stack old (let youngest = youngest_frame old.region in stepped old.region pc youngest.refs (without_last counted youngest.cells ++ cells_of w (to_z w32 (of_z w32 given))))
      → move_of shown.image shown.state frame others pc insn rows ≡ goes_on shown.state (push_number w number (with_taken taken frame)) others pc → GoesTo shown old new On
  gives_number counted taken w given number count fits same enough e is =
      let put : ℕ → ℤ → Memory = λ taken number. with_stack old (let youngest = youngest_frame old.region in stepped old.region pc youngest.refs (without_last taken youngest.cells ++ cells_of w number)) in
      gives taken (cells_of w number) enough (e ∙ ap₂ put count (to_z-of_z w32 given fits ∙ same)) is
