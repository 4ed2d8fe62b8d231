-- A call of a method with code: the method is there, and so are its arguments.
use Rattle.std.proofs.Common.{◌≡◌, ℕ, ◌+◌, ◌≤◌, Bool, true, false, nat_le, if◌then◌else◌, List, [], ◌∷◌, length, Some, None, refl, sym, ap, subst, ◌∙◌, arith}
use Rattle.std.specs.Option.{option_map_or}
use Rattle.std.proofs.lemmas.Bool.{false≢true, leb-true}
use Rattle.dialogue.specs.Answers.{Answers}
use Rattle.library.specs.Natives.{native_of}
use Rattle.image_instr.specs.declared.insn.MInsn.{MInsn}
use Rattle.image_instr.specs.declared.insn.MInsn.TheVariants as insns
use Rattle.image_form.specs.declared.record.Image.{Image}
use Rattle.image_form.specs.declared.record.Method.{Method}
use Rattle.image_form.specs.Grammar.{IsMethod}
use Rattle.account.specs.Account.{Does, Stuck, call_need}
use Rattle.mote_stack.specs.Frames.{youngest_frame}
use Rattle.mote_model.specs.declared.memory.State.{State as Memory}
use Rattle.mote_model.specs.State.{Frame}
use Rattle.mote_model.specs.SplitMoves.{SplitMove, using}
use Rattle.mote_model.specs.SplitState.{State, frame_cells, method_at, with_frames}
use Rattle.mote_model.specs.SplitStep.{frame_for, has_arguments, runs_code, runs_method, runs_native, without_arguments}
use Rattle.split_safety.specs.Ready.{Shown, IsReady}
use Rattle.split_safety.specs.Safety.{StaysReached}
use Rattle.mote_exec.proofs.GoingOn.{cells_counted, refs_counted}
use Rattle.mote_call.specs.CallTurns.{with_answers}
use Rattle.mote_call.specs.Quiet.{MustDo}
use Rattle.mote_call.proofs.Answering.{move_with, moves_with, stays_with, step_of}
use Rattle.mote_call.proofs.OwnCode.{of_grammar}
use Rattle.mote_call.proofs.NotStuck.{tested, used_there}

both_true : (first second : Bool) → (if first then second else false) ≡ true → (first ≡ true) × (second ≡ true)
both_true true second e = (refl, e)
both_true false second e = absurd (false≢true e)

some_same : (a b : Method) → Some a ≡ Some b → a ≡ b
some_same a b e = cc

module _ (shown : Shown) (old : Memory) (id : ℕ) (ready : IsReady shown old (insns.CallS id)) (own : native_of id ≡ None) where
  abbrev insn : MInsn
  insn = insns.CallS id

  abbrev frame : Frame
  frame = ready.next.frame

  abbrev others : List Frame
  others = ready.next.others

  runs : (answers : Answers) → move_with shown insn ready.next answers ≡ runs_code shown.image (with_answers shown.state answers) frame others id
  runs answers =
      let state = with_answers shown.state answers in
      ap (λ native. option_map_or (runs_native state frame others (frame.pc + ready.next.size)) native (runs_code shown.image state frame others id)) own

  pub there : (callee : Method) × (method_at shown.image id ≡ Some callee) × StaysReached shown.image (runs_method shown.state frame others id callee)
  there =
      used_there shown.image (method_at shown.image id) (λ callee. runs_method shown.state frame others id callee)
      (subst (StaysReached shown.image) (runs shown.state.answers) (stays_with shown insn ready.next old ready))

  abbrev pub callee : Method
  callee = there.0

  pub found : method_at shown.image id ≡ Some callee
  found = there.1

  abbrev pub called_frames : List Frame
  called_frames = frame_for id callee frame ∷ without_arguments callee.sig frame ∷ others

  abbrev made : State → SplitMove
  made state = Does (call_need (frame_cells callee)) [] (with_frames state called_frames)

  has : (has_arguments callee.sig frame ≡ true) × StaysReached shown.image (made shown.state)
  has = tested shown.image (has_arguments callee.sig frame) (made shown.state) there.2

  pub goes : MustDo shown (call_need (frame_cells callee)) (with_frames shown.state called_frames)
  goes answers =
      let state = with_answers shown.state answers in
      moves_with shown insn ready.next answers ∙ runs answers ∙ ap (λ found. using found (λ callee. runs_method state frame others id callee)) found
      ∙ ap (λ there. if there then made state else Stuck) has.0

  -- ---- the arguments

  both : (nat_le callee.sig.refs (length frame.refs.operands) ≡ true) × (nat_le callee.sig.cells (length frame.cells.operands) ≡ true)
  both = both_true (nat_le callee.sig.refs (length frame.refs.operands)) (nat_le callee.sig.cells (length frame.cells.operands)) has.0

  pub enough_refs : callee.sig.refs ≤ length frame.refs.operands
  enough_refs = leb-true callee.sig.refs (length frame.refs.operands) both.0

  pub enough_cells : callee.sig.cells ≤ length frame.cells.operands
  enough_cells = leb-true callee.sig.cells (length frame.cells.operands) both.1

  pub ref_arguments : let youngest = youngest_frame old.region in callee.sig.refs ≤ length youngest.refs
  ref_arguments = omega (arith, enough_refs, refs_counted shown old old insn (frame.pc + ready.next.size) (step_of shown old insn ready))

  pub cell_arguments : let youngest = youngest_frame old.region in callee.sig.cells ≤ length youngest.cells
  cell_arguments = omega (arith, enough_cells, cells_counted shown old old insn (frame.pc + ready.next.size) (step_of shown old insn ready))

  pub callee_grammar : IsMethod shown.image.types callee
  callee_grammar = of_grammar shown.image ready.sound id callee found

  -- the method that is found is the callee
  pub is_callee : (image : Image) (method : Method) → shown.image ≡ image → method_at image id ≡ Some method → method ≡ callee
  is_callee image method same e = some_same method callee (sym e ∙ ap (λ image. method_at image id) (sym same) ∙ found)
