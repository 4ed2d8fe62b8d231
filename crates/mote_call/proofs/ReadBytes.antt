-- The native that reads a byte.
use Rattle.std.proofs.Common.{◌≡◌, ℕ, ℤ, suc, ◌+◌, List, [], ◌∷◌, ◌++◌, Option, refl, sym, ap, ap₂, subst, ◌∙◌, arith}
use Rattle.std.specs.List.{AllByRecursion}
use Rattle.dialogue.specs.Answers.{Answers}
use Rattle.dialogue.specs.Dialogue as item
use Rattle.dialogue.specs.Natives.{after_byte}
use Rattle.host_face.specs.Talk.{Talked, BrokeOff}
use Rattle.image_instr.specs.declared.insn.MInsn.{MInsn}
use Rattle.image_instr.specs.declared.insn.MInsn.TheVariants as insns
use Rattle.image_instr.specs.declared.insn.Width.TheVariants as width
use Rattle.account.specs.Account.{Get, Does, tick_need}
use Rattle.mote_stack.specs.Frames.{HasFreeCells, youngest_frame}
use Rattle.mote_model.specs.declared.ending.Ending.TheVariants.{Spent, ConsoleFault}
use Rattle.mote_model.specs.declared.memory.State.{State as Memory}
use Rattle.mote_model.specs.declared.turn.Turn.TheVariants.{On, Ends}
use Rattle.mote_model.specs.Picture.{Pictures, KeepsFrame}
use Rattle.mote_model.specs.SplitMoves.{at_pc, cells_of, push_number}
use Rattle.mote_model.specs.SplitState.{State, with_frames}
use Rattle.mote_exec.specs.Steps.{stepped, with_stack}
use Rattle.mote_exec.proofs.GoingOn.{at, free_cells, own_cells, own_refs, pictured}
use Rattle.mote_exec.proofs.HalfLists.{pushed}
use Rattle.split_safety.specs.Ready.{Shown, IsReady}
use Rattle.mote_call.specs.CallTurns.{CallTurn, MayMove, with_answers}
use Rattle.mote_call.specs.Leaving.{behind}
use Rattle.mote_call.specs.Reads.{IsRead}
use Rattle.mote_call.proofs.Answering.{moves_with, step_of}
use Rattle.mote_call.proofs.CallCode.{behind_call}
use Rattle.mote_call.proofs.GivenAnswers.{some_answers, may-some}

module _ (shown : Shown) (old : Memory) (ready : IsReady shown old (insns.CallS 2)) where
  abbrev insn : MInsn
  insn = insns.CallS 2

  abbrev pc : ℕ
  pc = ready.next.frame.pc + ready.next.size

  -- the state behind the call, with a number on top
  abbrev pub with_read : ℤ → State
  with_read number = with_frames shown.state (at_pc (push_number width.Two number ready.next.frame) pc ∷ ready.next.others)

  pub room_for : HasFreeCells old.region 2
  room_for = let here = at shown old old insn pc (step_of shown old insn ready) in free_cells shown old old insn pc (step_of shown old insn ready) 2 (omega (arith, here.fits_after))

  pub pictured_read : (new : Memory) (number : ℤ) → new ≡ with_stack old (let youngest = youngest_frame old.region in stepped old.region (behind shown.image youngest) youngest.refs (youngest.cells ++ cells_of width.Two number))
      → Pictures shown.image shown.naming shown.size new (with_read number)
  pictured_read new number e =
      let frame = ready.next.frame in
      let step = step_of shown old insn ready in
      let pictures = ready.pictures in
      let keeps = subst (AllByRecursion (KeepsFrame shown.naming)) ready.next.frames_are pictures.kept_frames in
      let cells = ap (λ cells. cells ++ cells_of width.Two number) (own_cells shown old old insn pc step) ∙ pushed frame.cells.locals frame.cells.operands (cells_of width.Two number) in
      let region = ap (λ (memory : Memory). memory.region) e
      ∙ ap (λ pc. let youngest = youngest_frame old.region in stepped old.region pc youngest.refs (youngest.cells ++ cells_of width.Two number)) (behind_call shown old 2 ready)
      ∙ ap₂ (λ refs cells. stepped old.region pc refs cells) (own_refs shown old old insn pc step) cells in
      pictured shown old new insn pc step pc (with_read number) (push_number width.Two number frame) refl refl keeps.0 region
      (ap (λ (memory : Memory). memory.ref_statics.items) e ∙ pictures.ref_statics) (ap (λ (memory : Memory). memory.cell_statics.items) e ∙ pictures.cell_statics) pictures.kept_statics

module _ {C : Type 0} (left shown noted : C → Option (List ℕ)) (faults : C → ℕ) (room : C → Option ℕ) (at : Shown) (old : Memory) (ready : IsReady at old (insns.CallS 2)) where
  may_read : (before : Option (List ℕ)) → MayMove at.image at.state before tick_need (Get ∷ [])
  may_read before = record {
    next = _;
    answers = some_answers before;
    may = may-some before;
    goes = moves_with at (insns.CallS 2) ready.next (some_answers before);
  }

  pub reads_spent : (console : C) (ticks : ℕ) → ticks ≡ 0 → CallTurn left shown noted faults room at old old console console ticks ticks (Ends Spent)
  reads_spent console ticks none = record {
    need = tick_need;
    events = Get ∷ [];
    moves = may_read (left console);
    tick = refl;
    none = none;
    same = record { memory = refl; ticks = refl };
    quiet = refl;
  }

  pub reads_broke : (before after : C) (ticks some : ℕ) → ticks ≡ suc some → BrokeOff left shown noted faults room before after (item.Get ∷ []) → CallTurn left shown noted faults room at old old before after ticks ticks (Ends ConsoleFault)
  reads_broke before after ticks some tick broke = (
    record {
      need = tick_need;
      events = Get ∷ [];
      moves = may_read (left before);
      places_nothing = refl;
      calls_nothing = refl;
      there = λ e. omega (arith, tick);
      broke = broke;
    },
    refl,
  )

  pub reads_on : (new : Memory) (before after : C) (ticks remaining : ℕ) (number : ℤ) → ticks ≡ suc remaining
      → new ≡ with_stack old (let youngest = youngest_frame old.region in stepped old.region (behind at.image youngest) youngest.refs (youngest.cells ++ cells_of width.Two number))
      → Talked shown noted faults room before after (item.Get ∷ []) → IsRead (left before) (left after) number → CallTurn left shown noted faults room at old new before after ticks remaining On
  reads_on new before after ticks remaining number tick e talked read = record {
    need = tick_need;
    events = Get ∷ [];
    next = with_read at old ready number;
    goes = λ others may.
        let gave = read.gave others may in
        record {
          answers = gave.answers;
          may = gave.may;
          goes = moves_with at (insns.CallS 2) ready.next gave.answers
              ∙ ap (λ value. Does tick_need (Get ∷ []) (with_answers (with_read at old ready value) (after_byte gave.answers))) (sym gave.value)
              ∙ ap (λ (answers : Answers). Does tick_need (Get ∷ []) (with_answers (with_read at old ready number) answers)) (sym gave.others_are);
        };
    places_nothing = refl;
    fits = refl;
    tick = tick;
    talked = talked;
    asked_for = read.rest;
    pictures = pictured_read at old ready new number e;
    collections = ap (λ (memory : Memory). memory.collections) e;
  }
