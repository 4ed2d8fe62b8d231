-- The state that a memory stands for, read back from its cells, where the objects are those from which a run started. A call
-- in a loop is handed no state but one that is made of what the code holds, so the loop reads it back for each step.
use Rattle.std.proofs.Common.{◌≡◌, ℕ, ◌+◌, ◌≤◌, List, [], ◌∷◌, length, map, take, drop, reverse, Option, Some, refl, sym, ap, ap₂, subst, ◌∙◌}
use Rattle.std.specs.List.{AllByRecursion}
use Rattle.std.specs.Option.{option_map_or}
use Rattle.std.proofs.Math.Seq.{take-append_seam, drop-append_seam}
use Rattle.std.proofs.lemmas.List.{reverse-reverse}
use Rattle.image_form.specs.declared.record.Image.{Image}
use Rattle.image_form.specs.declared.record.Method.{Method}
use Rattle.image_check.proofs.Flowing.{more-all}
use Rattle.mote_stack.specs.Frames.{Stack}
use Rattle.mote_stack.specs.Frames as stack
use Rattle.mote_model.specs.declared.memory.State.{State as Memory}
use Rattle.mote_model.specs.Picture.{Naming, IsNaming, IsKept, KeepsFrame, Pictures, body_of, shown_frame, shown_stack}
use Rattle.mote_model.specs.State.{Reference, Half, Frame, Object, whole}
use Rattle.mote_model.specs.SplitMoves.{half}
use Rattle.mote_model.specs.SplitState.{State, method_at}
use Rattle.split_safety.specs.Ready.{Shown}
use Rattle.split_safety.specs.Reached.{IsReached, AreWaiting}
use Rattle.mote_call.specs.CallTurns.{with_answers}
use Rattle.run_loop.specs.Ran.{Start}
use Rattle.run_loop.proofs.NamesBack.{name_below, named_below, is_named_below, refs_back, bound_of_refs, bound_of_frames, refs_below, frames_below, kept_at_all, cells_same}

-- ---- halves and frames

-- the half of which this is the whole, with so many locals
abbrev half_in : {A : Type 0} → ℕ → List A → Half A
half_in count items = half (take count items) (reverse (drop count items))

half_back : {A : Type 0} (count : ℕ) (it : Half A) → length it.locals ≡ count → half_in count (whole it) ≡ it
half_back count it is =
    ap (λ count. half_in count (whole it)) (sym is)
    ∙ ap₂ half (take-append_seam it.locals (reverse it.operands)) (ap reverse (drop-append_seam it.locals (reverse it.operands)) ∙ reverse-reverse it.operands)

abbrev ref_locals_of : Image → ℕ → ℕ
ref_locals_of image id = option_map_or (λ (method : Method). method.ref_locals) (method_at image id) 0

abbrev cell_locals_of : Image → ℕ → ℕ
cell_locals_of image id = option_map_or (λ (method : Method). method.cell_locals) (method_at image id) 0

-- the frame of which this is the picture
abbrev frame_in : Image → Naming → ℕ → stack.Frame → Frame
frame_in image naming bound shown =
    record {
      method = shown.method;
      pc = shown.pc;
      refs = half_in (ref_locals_of image shown.method) (map (name_below naming bound) shown.refs);
      cells = half_in (cell_locals_of image shown.method) shown.cells;
    }

-- the locals of a method are there
record HasLocals (image : Image) (frame : Frame) : Type 0 where
  method : Method
  found : method_at image frame.method ≡ Some method
  refs : length frame.refs.locals ≡ method.ref_locals
  cells : length frame.cells.locals ≡ method.cell_locals

waiting_locals : (image : Image) (above : Frame) (frames : List Frame) → AreWaiting image above frames → AllByRecursion (HasLocals image) frames
unfolding AreWaiting
waiting_locals image above [] waiting = tt
waiting_locals image above (frame ∷ others) waiting = (record { method = waiting.0.method; found = waiting.0.found; refs = waiting.0.locals.refs; cells = waiting.0.locals.cells }, waiting_locals image frame others waiting.1)

reached_locals : (image : Image) (state : State) → IsReached image state → AllByRecursion (HasLocals image) state.frames
reached_locals image state reached =
    let running = reached.running in
    let first : HasLocals image reached.frame = record { method = running.method; found = running.found; refs = running.locals.refs; cells = running.locals.cells } in
    subst (AllByRecursion (HasLocals image)) (sym reached.frames_are) (first, waiting_locals image reached.frame reached.others reached.waiting)

module _ (image : Image) (naming : Naming) (is : IsNaming naming) (bound : ℕ) where
  frame_back : (frame : Frame) → HasLocals image frame → KeepsFrame (named_below naming bound) frame → frame_in image naming bound (shown_frame image (named_below naming bound) frame) ≡ frame
  frame_back frame has kept =
      let found : Option Method → ℕ = λ found. option_map_or (λ (method : Method). method.ref_locals) found 0 in
      let others : Option Method → ℕ = λ found. option_map_or (λ (method : Method). method.cell_locals) found 0 in
      let refs = ap (half_in (ref_locals_of image frame.method)) (refs_back naming is bound (whole frame.refs) kept) ∙ half_back (ref_locals_of image frame.method) frame.refs (has.refs ∙ ap found (sym has.found)) in
      let cells = half_back (cell_locals_of image frame.method) frame.cells (has.cells ∙ ap others (sym has.found)) in
      let made : Half Reference → Half ℕ → Frame = λ refs cells. record { method = frame.method; pc = frame.pc; refs = refs; cells = cells } in
      ap₂ made refs cells

  frames_back : (frames : List Frame) → AllByRecursion (HasLocals image) frames → AllByRecursion (KeepsFrame (named_below naming bound)) frames
      → map (frame_in image naming bound) (map (shown_frame image (named_below naming bound)) frames) ≡ frames
  frames_back [] has kept = refl
  frames_back (frame ∷ frames) has kept = ap₂ (λ first rest. first ∷ rest) (frame_back frame has.0 kept.0) (frames_back frames has.1 kept.1)

  shown_same : (frames : List Frame) → map (shown_frame image (named_below naming bound)) frames ≡ map (shown_frame image naming) frames
  shown_same [] = refl
  shown_same (frame ∷ frames) =
      let made : List ℕ → stack.Frame = λ refs. record { method = frame.method; pc = frame.pc; body = body_of image frame.method; refs = refs; cells = whole frame.cells } in
      ap₂ (λ first rest. first ∷ rest) (ap made (cells_same naming bound (whole frame.refs))) (shown_same frames)

  stack_same : (size : ℕ) (frames : List Frame) → shown_stack image (named_below naming bound) size frames ≡ shown_stack image naming size frames
  stack_same size frames =
      let made : List stack.Frame → Stack = λ shown. record { size = size; bodies = (shown_stack image naming size frames).bodies; frames = shown } in
      ap made (shown_same frames)

  -- a picture by the names below a bound is one by all names
  pub pictures_at_all : (size : ℕ) (memory : Memory) (state : State) → Pictures image (named_below naming bound) size memory state → Pictures image naming size memory state
  pictures_at_all size memory state pictures = record {
    naming_is = is;
    region = pictures.region ∙ stack_same size state.frames;
    ref_statics = pictures.ref_statics ∙ cells_same naming bound state.ref_statics;
    cell_statics = pictures.cell_statics;
    kept_frames = more-all (KeepsFrame (named_below naming bound)) (KeepsFrame naming) (λ frame kept. more-all (IsKept (named_below naming bound)) (IsKept naming) (kept_at_all naming bound) (whole frame.refs) kept) state.frames pictures.kept_frames;
    kept_statics = more-all (IsKept (named_below naming bound)) (IsKept naming) (kept_at_all naming bound) state.ref_statics pictures.kept_statics;
  }

  -- and the other way round, where the bound is above all names of the state
  pub pictures_below : (size : ℕ) (memory : Memory) (state : State) → bound_of_frames state.frames ≤ bound → bound_of_refs state.ref_statics ≤ bound → Pictures image naming size memory state → Pictures image (named_below naming bound) size memory state
  pictures_below size memory state frames statics pictures = record {
    naming_is = is_named_below naming bound is;
    region = pictures.region ∙ sym (stack_same size state.frames);
    ref_statics = pictures.ref_statics ∙ sym (cells_same naming bound state.ref_statics);
    cell_statics = pictures.cell_statics;
    kept_frames = frames_below naming bound state.frames frames pictures.kept_frames;
    kept_statics = refs_below naming bound state.ref_statics statics pictures.kept_statics;
  }

-- ---- states

-- a bound above all names of the state from which a run starts; no object is placed until it ends
abbrev pub bound_at : Start → ℕ
bound_at start = bound_of_frames start.at.state.frames + bound_of_refs start.at.state.ref_statics

abbrev pub naming_at : Start → Naming
naming_at start = named_below start.at.naming (bound_at start)

-- the state of which the memory is the picture, where no more answers are to come
abbrev pub state_in : Start → Memory → State
state_in start memory =
    record {
      frames = map (frame_in start.at.image start.at.naming (bound_at start)) memory.region.frames;
      objects = start.at.state.objects;
      ref_statics = map (name_below start.at.naming (bound_at start)) memory.ref_statics.items;
      cell_statics = memory.cell_statics.items;
      answers = [];
    }

abbrev pub seen : Start → Memory → Shown
seen start memory = record { image = start.at.image; state = state_in start memory; naming = naming_at start; size = start.at.size }

module _ (start : Start) (is : IsNaming start.at.naming) where
  -- the memory stands for no other state with these objects
  pub state_back : (memory : Memory) (state : State) → Pictures start.at.image (naming_at start) start.at.size memory state → IsReached start.at.image state → state.objects ≡ start.at.state.objects → state_in start memory ≡ with_answers state []
  state_back memory state pictures reached objects =
      let image = start.at.image in
      let bound = bound_at start in
      let frames : map (frame_in image start.at.naming bound) memory.region.frames ≡ state.frames =
      ap (λ (region : Stack). map (frame_in image start.at.naming bound) region.frames) pictures.region ∙ frames_back image start.at.naming is bound state.frames (reached_locals image state reached) pictures.kept_frames in
      let statics : map (name_below start.at.naming bound) memory.ref_statics.items ≡ state.ref_statics =
      ap (map (name_below start.at.naming bound)) pictures.ref_statics ∙ refs_back start.at.naming is bound state.ref_statics pictures.kept_statics in
      let with_two : List Frame → List Reference → State = λ frames statics. record { frames = frames; objects = start.at.state.objects; ref_statics = statics; cell_statics = memory.cell_statics.items; answers = [] } in
      let with_rest : List Object → List ℕ → State = λ objects cells. record { frames = state.frames; objects = objects; ref_statics = state.ref_statics; cell_statics = cells; answers = [] } in
      ap₂ with_two frames statics ∙ ap₂ with_rest (sym objects) pictures.cell_statics
