-- A frame that returns to its caller: the caller goes on behind its call, with the result.
use Rattle.std.proofs.Common.{◌≡◌, ℕ, ◌+◌, List, [], ◌∷◌, ◌++◌, length, map, drop, reverse, Option, Some, refl, sym, ap, subst, ◌∙◌, arith}
use Rattle.std.specs.List.{AllByRecursion}
use Rattle.std.specs.Option.{option_map_or}
use Rattle.std.proofs.lemmas.List.{length-append, length-map, length-reverse}
use Rattle.dialogue.specs.Answers.{Answers}
use Rattle.image_instr.specs.declared.insn.MInsn.{MInsn}
use Rattle.image_instr.specs.Reading.{insn_at}
use Rattle.image_form.specs.declared.record.Method.{Method}
use Rattle.account.specs.Account.{no_need}
use Rattle.mote_stack.specs.Frames.{Stack}
use Rattle.mote_model.specs.declared.memory.State.{State as Memory}
use Rattle.mote_model.specs.declared.turn.Turn.TheVariants.{On}
use Rattle.mote_model.specs.State.{Reference, Half, Frame, whole}
use Rattle.mote_model.specs.Picture.{IsKept, KeepsFrame, body_of, cell_of, shown_frame, shown_stack}
use Rattle.mote_model.specs.SplitMoves.{SplitMove, at_pc, goes_on, using}
use Rattle.mote_model.specs.SplitState.{State, with_frames}
use Rattle.mote_model.specs.SplitStep.{code_from, resumes}
use Rattle.split_safety.specs.Ready.{Shown, IsReady}
use Rattle.split_safety.specs.Safety.{StaysReached}
use Rattle.mote_exec.specs.Steps.{with_stack}
use Rattle.mote_exec.proofs.GoingOn.{was}
use Rattle.mote_call.specs.CallTurns.{with_answers}
use Rattle.mote_call.specs.Leaving.{IsInCode, HasCaller, HasRoom, behind, returned}
use Rattle.mote_call.specs.Quiet.{QuietStep}
use Rattle.mote_call.proofs.Answering.{move_with, moves_with, stays_with, step_of}
use Rattle.mote_call.proofs.OwnCode.{of_grammar}
use Rattle.mote_call.proofs.NotStuck.{IsHeld, held, used_there}

module _ (shown : Shown) (old : Memory) (insn : MInsn) (ready : IsReady shown old insn) (caller : Frame) (rest : List Frame) (waits : ready.next.others ≡ caller ∷ rest) where
  -- the stack shows the caller below the youngest frame
  pub stack_is : old.region ≡ shown_stack shown.image shown.naming shown.size (ready.next.frame ∷ caller ∷ rest)
  stack_is =
      was shown old old insn (ready.next.frame.pc + ready.next.size) (step_of shown old insn ready)
      ∙ ap (λ others. shown_stack shown.image shown.naming shown.size (ready.next.frame ∷ others)) waits

  -- the halves of the caller with the result
  module _ (refs : Half Reference) (cells : Half ℕ) where
    abbrev pub resumed : Frame
    resumed = record caller { refs = refs; cells = cells }

    -- the move is the return with this result
    abbrev pub Returns : Type 0
    Returns = (answers : Answers) → move_with shown insn ready.next answers ≡ resumes shown.image (with_answers shown.state answers) resumed rest

    module _ (returns : Returns) where
      abbrev resume_with : State → MInsn × ℕ → SplitMove
      resume_with state found = goes_on state resumed rest (caller.pc + found.1)

      there : (found : MInsn × ℕ) × (insn_at (code_from shown.image resumed) ≡ Some found) × StaysReached shown.image (resume_with shown.state found)
      there =
          used_there shown.image (insn_at (code_from shown.image resumed)) (resume_with shown.state)
          (subst (StaysReached shown.image) (returns shown.state.answers) (stays_with shown insn ready.next old ready))

      -- the pc behind the call
      abbrev next_pc : ℕ
      next_pc = caller.pc + there.0.1

      abbrev next : State
      next = with_frames shown.state (at_pc resumed next_pc ∷ rest)

      runs_on : IsHeld shown.image (at_pc resumed next_pc)
      runs_on = held shown.image ready.sound next (at_pc resumed next_pc) rest refl there.2

      code_is : code_from shown.image resumed ≡ drop caller.pc runs_on.method.code
      code_is = ap (λ (o : Option Method). drop caller.pc (option_map_or (λ (method : Method). method.code) o [])) runs_on.found

      in_code : IsInCode shown.image (shown_frame shown.image shown.naming caller)
      in_code =
          let grammar = of_grammar shown.image ready.sound caller.method runs_on.method runs_on.found in
          record {
            method = runs_on.method;
            found = runs_on.found;
            insn = there.0.0;
            size = there.0.1;
            there = ap insn_at (sym code_is) ∙ there.1;
            inside = omega (arith, runs_on.inside, grammar.code_fits);
          }

      pub has_caller : HasCaller shown.image old.region
      has_caller = subst (HasCaller shown.image) (sym stack_is) (record { two = omega (arith, length-map rest (shown_frame shown.image shown.naming)); in_code = in_code })

      -- the operands of the result fit the caller's body
      pub has_room : (count : ℕ) → length refs.locals ≡ length caller.refs.locals → length cells.locals ≡ length caller.cells.locals
          → length refs.operands + length cells.operands ≡ (length caller.refs.operands + length caller.cells.operands) + count → HasRoom old.region count
      has_room count ref_locals cell_locals more =
          let refs_length = length-map (whole caller.refs) (cell_of shown.naming) ∙ length-append caller.refs.locals (reverse caller.refs.operands) in
          let cells_length = length-append caller.cells.locals (reverse caller.cells.operands) in
          let body : body_of shown.image caller.method ≡ runs_on.method.body = ap (λ (o : Option Method). option_map_or (λ (found : Method). found.body) o 0) runs_on.found in
          subst (λ (stack : Stack). HasRoom stack count) (sym stack_is)
          (omega (arith, refs_length, cells_length, length-reverse caller.refs.operands, length-reverse caller.cells.operands, body, runs_on.fits, runs_on.ref_locals, runs_on.cell_locals, ref_locals, cell_locals, more))

      -- the memory stands for the state in which the caller goes on
      pub goes_back : (new : Memory) (ref_cells more : List ℕ) → new ≡ with_stack old (returned shown.image old.region ref_cells more)
          → map (cell_of shown.naming) (whole caller.refs) ++ ref_cells ≡ map (cell_of shown.naming) (whole refs) → whole caller.cells ++ more ≡ whole cells → AllByRecursion (IsKept shown.naming) (whole refs)
          → QuietStep shown old new On
      goes_back new ref_cells more e refs_are cells_are kept left =
          let pictures = ready.pictures in
          let keeps = subst (AllByRecursion (KeepsFrame shown.naming)) (ready.next.frames_are ∙ ap (λ others. ready.next.frame ∷ others) waits) pictures.kept_frames in
          let pc : behind shown.image (shown_frame shown.image shown.naming caller) ≡ next_pc = ap (λ (o : Option (MInsn × ℕ)). option_map_or (λ (found : MInsn × ℕ). caller.pc + found.1) o 0) there.1 in
          let region : returned shown.image (shown_stack shown.image shown.naming shown.size (ready.next.frame ∷ caller ∷ rest)) ref_cells more ≡ shown_stack shown.image shown.naming shown.size next.frames = λ i. record {
            size = shown.size;
            bodies = (shown_stack shown.image shown.naming shown.size []).bodies;
            frames = record { method = caller.method; pc = pc i; body = body_of shown.image caller.method; refs = refs_are i; cells = cells_are i } ∷ map (shown_frame shown.image shown.naming) rest;
          } in
          record {
            need = no_need;
            next = next;
            goes = λ answers. moves_with shown insn ready.next answers ∙ returns answers ∙ ap (λ found. using found (resume_with (with_answers shown.state answers))) there.1;
            places_nothing = refl;
            fits = refl;
            tick = refl;
            pictures = record {
              naming_is = pictures.naming_is;
              region = ap (λ (memory : Memory). memory.region) e ∙ ap (λ stack. returned shown.image stack ref_cells more) stack_is ∙ region;
              ref_statics = ap (λ (memory : Memory). memory.ref_statics.items) e ∙ pictures.ref_statics;
              cell_statics = ap (λ (memory : Memory). memory.cell_statics.items) e ∙ pictures.cell_statics;
              kept_frames = (kept, keeps.1.1);
              kept_statics = pictures.kept_statics;
            };
            collections = ap (λ (memory : Memory). memory.collections) e;
          }
