-- The stack after a call of a method with code: the frame of the callee has the arguments that its caller had.
use Rattle.std.proofs.Common.{◌≡◌, ℕ, ◌+◌, ◌-◌, ◌<◌, ◌≤◌, true, false, List, ◌∷◌, ◌++◌, length, map, drop, take, reverse, replicate, slice_index, Option, Some, None, option_map, refl, sym, ap, subst, ◌∙◌, arith}
use Rattle.std.specs.List.{AllByRecursion}
use Rattle.std.specs.Option.{option_map_or}
use Rattle.std.proofs.lemmas.Bool.{le-leb, lt-leb}
use Rattle.std.proofs.lemmas.List.{append-nil, get_or-append_right, length-append, length-map, length-replicate}
use Rattle.std.proofs.lemmas.Option.{get_or_from_slice_get, slice_get-map, slice_get_within}
use Rattle.library.specs.Classes.{first_own}
use Rattle.library.specs.Natives.{native_of}
use Rattle.image_instr.specs.declared.insn.MInsn.{MInsn}
use Rattle.image_instr.specs.declared.insn.MInsn.TheVariants as insns
use Rattle.image_form.specs.declared.record.Image.{Image}
use Rattle.image_form.specs.declared.record.Method.{Method}
use Rattle.account.specs.Account.{has_room}
use Rattle.mote_stack.specs.Frames.{Stack, cells_in_use, frame_need, with_frame}
use Rattle.mote_model.specs.declared.memory.State.{State as Memory}
use Rattle.mote_model.specs.State.{Reference, Frame}
use Rattle.mote_model.specs.Picture.{Pictures, IsKept, KeepsFrame, bodies_of, body_of, cell_of, shown_frame, shown_stack}
use Rattle.mote_model.specs.SplitState.{frame_cells, method_at, view_of, with_frames}
use Rattle.mote_model.specs.SplitStep.{frame_for, without_arguments}
use Rattle.split_safety.specs.Ready.{Shown, IsReady}
use Rattle.split_safety.proofs.facts.Lists.{all_append, all_drop, all_left, all_replicate, all_reverse, all_right, all_take, all_unreverse}
use Rattle.mote_exec.specs.Steps.{with_stack}
use Rattle.mote_exec.proofs.GoingOn.{was}
use Rattle.mote_exec.proofs.HalfLists.{rest}
use Rattle.mote_call.specs.CallTurns.{stack_of}
use Rattle.mote_call.proofs.Answering.{step_of}
use Rattle.mote_call.proofs.MappedHalves.{first_cells, mapped_first, mapped_rest}
use Rattle.mote_call.proofs.OwnCode.{own_id}
use Rattle.mote_call.proofs.Calling.{callee, called_frames, enough_cells, enough_refs, found}
use Rattle.mote_call.proofs.UsedCells.{used_is}

-- the table of bodies has that of a method with code
module _ (image : Image) (id : ℕ) (method : Method) (found : method_at image id ≡ Some method) where
  pub in_bodies : id < length (bodies_of image)
  in_bodies =
      let own = own_id image id method found in
      let within = slice_get_within image.methods (id - first_own) method own.1 in
      let bodies : List ℕ = map (λ (method : Method). method.body) image.methods in
      omega (arith, own.0, within, length-append (replicate first_own 0) bodies, length-replicate {A = ℕ} first_own 0, length-map image.methods (λ (method : Method). method.body))

  pub body_there : slice_index (bodies_of image) id ≡ method.body
  body_there =
      let own = own_id image id method found in
      let bodies : List ℕ = map (λ (method : Method). method.body) image.methods in
      get_or-append_right (replicate first_own 0) bodies first_own id 0 (length-replicate {A = ℕ} first_own 0) own.0
      ∙ get_or_from_slice_get bodies (id - first_own) method.body 0 (slice_get-map (λ (method : Method). method.body) image.methods (id - first_own) ∙ ap (option_map (λ (method : Method). method.body)) own.1)

module _ (shown : Shown) (old : Memory) (id : ℕ) (ready : IsReady shown old (insns.CallS id)) (own : native_of id ≡ None) where
  abbrev insn : MInsn
  insn = insns.CallS id

  abbrev frame : Frame
  frame = ready.next.frame

  abbrev others : List Frame
  others = ready.next.others

  abbrev own_callee : Method
  own_callee = callee shown old id ready own

  is_found : method_at shown.image id ≡ Some own_callee
  is_found = found shown old id ready own

  abbrev frames : List Frame
  frames = called_frames shown old id ready own

  -- ---- the stack

  was_here : old.region ≡ shown_stack shown.image shown.naming shown.size (frame ∷ others)
  was_here = was shown old old insn (frame.pc + ready.next.size) (step_of shown old insn ready)

  pub size_is : old.region.size ≡ shown.size
  size_is = ap (λ (stack : Stack). stack.size) was_here

  pub bodies_are : old.region.bodies ≡ bodies_of shown.image
  bodies_are = ap (λ (stack : Stack). stack.bodies) was_here

  pub needs : frame_need old.region id ≡ frame_cells own_callee
  needs =
      let body = ap (λ bodies. slice_index bodies id) bodies_are ∙ body_there shown.image id own_callee is_found in
      omega (arith, body)

  pub stack_called : with_frame old.region id own_callee.ref_locals own_callee.cell_locals own_callee.sig.refs own_callee.sig.cells ≡ shown_stack shown.image shown.naming shown.size frames
  stack_called =
      let cell = cell_of shown.naming in
      let body : slice_index (bodies_of shown.image) id ≡ body_of shown.image id = body_there shown.image id own_callee is_found ∙ sym (ap (λ (o : Option Method). option_map_or (λ (method : Method). method.body) o 0) is_found) in
      let first_refs = mapped_first cell frame.refs.locals frame.refs.operands own_callee.sig.refs (enough_refs shown old id ready own) own_callee.ref_locals None refl in
      let first_nums = first_cells frame.cells.locals frame.cells.operands own_callee.sig.cells own_callee.cell_locals (enough_cells shown old id ready own) in
      let rest_refs = mapped_rest cell frame.refs.locals frame.refs.operands own_callee.sig.refs (enough_refs shown old id ready own) in
      let rest_cells = rest frame.cells.locals frame.cells.operands own_callee.sig.cells (enough_cells shown old id ready own) in
      ap (λ stack. with_frame stack id own_callee.ref_locals own_callee.cell_locals own_callee.sig.refs own_callee.sig.cells) was_here
      ∙ (λ i. record {
        size = shown.size;
        bodies = bodies_of shown.image;
        frames = record { method = id; pc = 0; body = body i; refs = first_refs i; cells = first_nums i }
            ∷ record { method = frame.method; pc = frame.pc; body = body_of shown.image frame.method; refs = rest_refs i; cells = rest_cells i }
            ∷ map (shown_frame shown.image shown.naming) others;
      })

  -- ---- what is kept

  kept_before : KeepsFrame shown.naming frame × AllByRecursion (KeepsFrame shown.naming) others
  kept_before = let pictures = ready.pictures in subst (AllByRecursion (KeepsFrame shown.naming)) ready.next.frames_are pictures.kept_frames

  kept_operands : AllByRecursion (IsKept shown.naming) frame.refs.operands
  kept_operands = all_unreverse (IsKept shown.naming) frame.refs.operands (all_right (IsKept shown.naming) frame.refs.locals (reverse frame.refs.operands) kept_before.0)

  kept_callee : KeepsFrame shown.naming (frame_for id own_callee frame)
  kept_callee =
      let Kept = IsKept shown.naming in
      let arguments = reverse (take own_callee.sig.refs frame.refs.operands) in
      let empty : List Reference = replicate (own_callee.ref_locals - own_callee.sig.refs) None in
      subst (AllByRecursion Kept) (sym (append-nil (arguments ++ empty)))
      (all_append Kept arguments empty (all_reverse Kept (take own_callee.sig.refs frame.refs.operands) (all_take Kept own_callee.sig.refs frame.refs.operands kept_operands)) (all_replicate Kept (own_callee.ref_locals - own_callee.sig.refs) None tt))

  kept_caller : KeepsFrame shown.naming (without_arguments own_callee.sig frame)
  kept_caller =
      let Kept = IsKept shown.naming in
      let left = drop own_callee.sig.refs frame.refs.operands in
      all_append Kept frame.refs.locals (reverse left) (all_left Kept frame.refs.locals (reverse frame.refs.operands) kept_before.0) (all_reverse Kept left (all_drop Kept own_callee.sig.refs frame.refs.operands kept_operands))

  -- the memory with the frame of the callee stands for the state after the call
  pub pictured_call : (region : Stack) → region ≡ with_frame old.region id own_callee.ref_locals own_callee.cell_locals own_callee.sig.refs own_callee.sig.cells
      → Pictures shown.image shown.naming shown.size (with_stack old region) (with_frames shown.state frames)
  pictured_call region e =
      let pictures = ready.pictures in
      record {
        naming_is = pictures.naming_is;
        region = e ∙ stack_called;
        ref_statics = pictures.ref_statics;
        cell_statics = pictures.cell_statics;
        kept_frames = (kept_callee, (kept_caller, kept_before.1));
        kept_statics = pictures.kept_statics;
      }

  -- ---- room

  pub used : let view = view_of shown.image shown.state in cells_in_use old.region ≡ view.frames
  used = used_is shown.image shown.naming shown.size old shown.state ready.reached ready.pictures

  pub has_place : cells_in_use old.region + frame_need old.region id ≤ old.region.size → has_room (stack_of shown.size) (view_of shown.image shown.state) (Some (frame_cells own_callee)) ≡ true
  has_place within = let view = view_of shown.image shown.state in le-leb (view.frames + frame_cells own_callee) shown.size (omega (arith, within, used, needs, size_is))

  pub has_none : old.region.size < cells_in_use old.region + frame_need old.region id → has_room (stack_of shown.size) (view_of shown.image shown.state) (Some (frame_cells own_callee)) ≡ false
  has_none over = let view = view_of shown.image shown.state in lt-leb (view.frames + frame_cells own_callee) shown.size (omega (arith, over, used, needs, size_is))
