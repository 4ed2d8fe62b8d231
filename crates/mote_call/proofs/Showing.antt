-- A native that shows bytes for the number on top.
use Rattle.std.proofs.Common.{◌≡◌, ℕ, suc, ◌+◌, false, List, [], ◌∷◌, map, Option, refl, sym, ap, ap₂, subst, ◌∙◌, arith}
use Rattle.std.specs.List.{AllByRecursion}
use Rattle.dialogue.specs.Answers.{MayGive}
use Rattle.dialogue.specs.Dialogue.{Item, putting}
use Rattle.dialogue.specs.Dialogue as item
use Rattle.host_face.specs.Talk.{Talked, BrokeOff}
use Rattle.host_face.proofs.TalkLemmas.{without_first-none}
use Rattle.image_instr.specs.declared.insn.MInsn.TheVariants as insns
use Rattle.account.specs.Account.{Put, tick_need}
use Rattle.account.specs.Dialogue.{dialogue_of}
use Rattle.account.specs.RunLaws.{asked}
use Rattle.mote_stack.specs.Frames.{youngest_frame, without_last}
use Rattle.mote_model.specs.declared.ending.Ending.TheVariants.{Spent, ConsoleFault}
use Rattle.mote_model.specs.declared.memory.State.{State as Memory}
use Rattle.mote_model.specs.declared.turn.Turn.TheVariants.{On, Ends}
use Rattle.mote_model.specs.Picture.{Pictures, KeepsFrame}
use Rattle.split_safety.specs.Ready.{Shown}
use Rattle.mote_exec.specs.Steps.{stepped, with_stack, with_taken}
use Rattle.mote_exec.proofs.GoingOn.{own_cells, own_refs, pictured}
use Rattle.mote_exec.proofs.HalfLists.{rest}
use Rattle.mote_call.specs.CallTurns.{CallTurn, with_answers}
use Rattle.mote_call.specs.Leaving.{behind}
use Rattle.mote_call.specs.Shows.{Shows, without_number}
use Rattle.mote_call.proofs.Answering.{step_of}
use Rattle.mote_call.proofs.CallCode.{behind_call}
use Rattle.mote_call.proofs.GivenAnswers.{some_answers, may-some}

-- ---- the dialogue

said_is : (bytes : List ℕ) → dialogue_of false (map Put bytes) ≡ putting bytes
said_is [] = refl
said_is (byte ∷ bytes) = ap (λ items. item.Put byte ∷ items) (said_is bytes)

none_asked : (bytes : List ℕ) → asked (map Put bytes) ≡ 0
none_asked [] = refl
none_asked (byte ∷ bytes) = none_asked bytes

-- ---- the memory

module _ (at : Shown) (old : Memory) (bytes : List ℕ) (it : Shows at old bytes) where
  -- the memory without the number
  pub pictured_less : (new : Memory) → new ≡ with_stack old (let youngest = youngest_frame old.region in stepped old.region (behind at.image youngest) youngest.refs (without_last 2 youngest.cells))
      → Pictures at.image at.naming at.size new (without_number at (insns.CallS it.method) it.ready.next)
  pictured_less new e =
      let insn = insns.CallS it.method in
      let ready = it.ready in
      let next = ready.next in
      let pc = next.frame.pc + next.size in
      let step = step_of at old insn ready in
      let pictures = ready.pictures in
      let keeps = subst (AllByRecursion (KeepsFrame at.naming)) next.frames_are pictures.kept_frames in
      let cells = ap (without_last 2) (own_cells at old old insn pc step) ∙ rest next.frame.cells.locals next.frame.cells.operands 2 it.enough in
      let region = ap (λ (memory : Memory). memory.region) e
      ∙ ap (λ pc. let youngest = youngest_frame old.region in stepped old.region pc youngest.refs (without_last 2 youngest.cells)) (behind_call at old it.method ready)
      ∙ ap₂ (λ refs cells. stepped old.region pc refs cells) (own_refs at old old insn pc step) cells in
      pictured at old new insn pc step pc (without_number at insn next) (with_taken 2 next.frame) refl refl keeps.0 region
      (ap (λ (memory : Memory). memory.ref_statics.items) e ∙ pictures.ref_statics) (ap (λ (memory : Memory). memory.cell_statics.items) e ∙ pictures.cell_statics) pictures.kept_statics

-- ---- the turn

module _ {C : Type 0} (left shown noted : C → Option (List ℕ)) (faults : C → ℕ) (room : C → Option ℕ) (at : Shown) (old : Memory) (bytes : List ℕ) (it : Shows at old bytes) where
  pub shows_spent : (console : C) (ticks : ℕ) → ticks ≡ 0 → CallTurn left shown noted faults room at old old console console ticks ticks (Ends Spent)
  shows_spent console ticks none = record {
    need = tick_need;
    events = map Put bytes;
    moves = record {
      next = with_answers (without_number at (insns.CallS it.method) it.ready.next) (some_answers (left console));
      answers = some_answers (left console);
      may = may-some (left console);
      goes = it.shows (some_answers (left console));
    };
    tick = refl;
    none = none;
    same = record { memory = refl; ticks = refl };
    quiet = refl;
  }

  pub shows_broke : (new : Memory) (before after : C) (ticks some remaining : ℕ) → ticks ≡ suc some → BrokeOff left shown noted faults room before after (putting bytes) → new.collections ≡ old.collections
      → CallTurn left shown noted faults room at old new before after ticks remaining (Ends ConsoleFault)
  shows_broke new before after ticks some remaining tick broke same = (
    record {
      need = tick_need;
      events = map Put bytes;
      moves = record {
        next = with_answers (without_number at (insns.CallS it.method) it.ready.next) (some_answers (left before));
        answers = some_answers (left before);
        may = may-some (left before);
        goes = it.shows (some_answers (left before));
      };
      places_nothing = refl;
      calls_nothing = refl;
      there = λ e. omega (arith, tick);
      broke = subst (BrokeOff left shown noted faults room before after) (sym (said_is bytes)) broke;
    },
    same,
  )

  pub shows_on : (new : Memory) (before after : C) (ticks remaining : ℕ) → ticks ≡ suc remaining
      → new ≡ with_stack old (let youngest = youngest_frame old.region in stepped old.region (behind at.image youngest) youngest.refs (without_last 2 youngest.cells))
      → Talked shown noted faults room before after (putting bytes) → left after ≡ left before → CallTurn left shown noted faults room at old new before after ticks remaining On
  shows_on new before after ticks remaining tick e talked same_left = record {
    need = tick_need;
    events = map Put bytes;
    next = without_number at (insns.CallS it.method) it.ready.next;
    goes = λ others may. record { answers = others; may = subst (λ (told : Option (List ℕ)). MayGive told others) same_left may; goes = it.shows others };
    places_nothing = refl;
    fits = refl;
    tick = tick;
    talked = subst (Talked shown noted faults room before after) (sym (said_is bytes)) talked;
    asked_for = rw (none_asked bytes) (same_left ∙ without_first-none (left before));
    pictures = pictured_less at old bytes it new e;
    collections = ap (λ (memory : Memory). memory.collections) e;
  }
