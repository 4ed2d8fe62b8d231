-- The turn of a plain instruction, over a console and whatever is answered.
use Rattle.std.proofs.Common.{◌≡◌, ℕ, ◌+◌, true, false, List, [], drop, Option, Some, None, refl, sym, ap, subst, ◌∙◌}
use Rattle.dialogue.specs.Answers.{Answers}
use Rattle.image_instr.specs.declared.insn.Kind.{Kind}
use Rattle.image_instr.specs.declared.insn.MInsn.{MInsn}
use Rattle.image_instr.specs.declared.insn.MInsn.TheVariants as insns
use Rattle.image_instr.specs.Reading.{rows_at}
use Rattle.account.specs.Account.{Need, Event, Does, Stops, has_room}
use Rattle.mote_model.specs.declared.ending.Ending.TheVariants as ending
use Rattle.mote_model.specs.declared.memory.State.{State as Memory}
use Rattle.mote_model.specs.declared.turn.Turn.{Turn}
use Rattle.mote_model.specs.declared.turn.Turn.TheVariants.{On, Throws, Ends}
use Rattle.mote_model.specs.SplitMoves.{SplitMove, Uncaught, Misfit, throws}
use Rattle.mote_model.specs.SplitState.{State, view_of, object_cells}
use Rattle.mote_model.specs.SplitStep.{move}
use Rattle.mote_model.specs.SplitTypes.{new_object}
use Rattle.mote_model.specs.Turns.{PlainThrows}
use Rattle.split_safety.specs.Ready.{Shown, IsNext}
use Rattle.split_safety.specs.Runs.{is_plain, runs_so_far}
use Rattle.split_safety.specs.Safety.{IsSound}
use Rattle.run_measures.proofs.SplitRank.{rank_of}
use Rattle.mote_exec.specs.Steps.{StepsTo}
use Rattle.mote_exec.proofs.GoingOn.{move_is}
use Rattle.mote_call.specs.CallTurns.{with_answers, stack_of, RaiseEnds}
use Rattle.mote_call.specs.Quiet.{MustDo, QuietTurn}
use Rattle.mote_call.proofs.Answering.{move_with, moves_with}
use Rattle.mote_call.proofs.QuietTurns.{over_console}
use Rattle.run_loop.specs.StepTurns.{StepTurn, ThrowEnds}
use Rattle.run_loop.proofs.PlainForms.{Plain}
use Rattle.run_loop.proofs.PlainMoves.{insn_plain}

-- an instruction that is run, and is no return and no call, is plain
pub plain_else : (insn : MInsn) → runs_so_far insn ≡ true → ((kept : Option Kind) → insn ≡ insns.Ret kept → ⊥) → ((id : ℕ) → insn ≡ insns.CallS id → ⊥) → is_plain insn ≡ true
plain_else (insns.Ret kept) runs no_return no_call = absurd (no_return kept refl)
plain_else (insns.CallS id) runs no_return no_call = absurd (no_call id refl)
plain_else insn runs no_return no_call = runs

module _ (at : Shown) (sound : IsSound at.image) (insn : MInsn) (next : IsNext at.image at.state insn) (plain : is_plain insn ≡ true) where
  -- what the first move says of the other, with these answers to come
  abbrev Same : Answers → SplitMove → SplitMove → Type 0
  Same answers first other = Plain at.image answers at.state.objects (65536 + rank_of at.image next.others) first other

  moves_plainly : (answers : Answers) → Same answers (move at.image at.state) (move at.image (with_answers at.state answers))
  moves_plainly answers =
      subst (λ first. Same answers first (move at.image (with_answers at.state answers))) (sym (move_is at.image at.state insn next))
      (subst (Same answers (move_with at insn next at.state.answers)) (sym (moves_with at insn next answers))
      (insn_plain at.image sound at.state answers next.frame next.others (next.frame.pc + next.size) insn (rows_at insn (drop next.frame.pc next.method.code)) plain))

  is_same : (answers : Answers) (first : SplitMove) → move at.image at.state ≡ first → Same answers first (move at.image (with_answers at.state answers))
  is_same answers first is = subst (λ first. Same answers first (move at.image (with_answers at.state answers))) is (moves_plainly answers)

  must_do : (need : Need) (after : State) → move at.image at.state ≡ Does need [] after → MustDo at need after
  must_do need after is answers = (is_same answers (Does need [] after) is).0

  no_misfit : (need : Need) (events : List Event) (class place : ℕ) → move at.image at.state ≡ Stops need events (Misfit class place) → ⊥
  no_misfit need events class place is = is_same at.state.answers (Stops need events (Misfit class place)) is

  must_throw : (need : Need) (events : List Event) (class : ℕ) → move at.image at.state ≡ Stops need events (Uncaught class) → (answers : Answers) → move at.image (with_answers at.state answers) ≡ Stops need events (Uncaught class)
  must_throw need events class is answers = is_same answers (Stops need events (Uncaught class)) is

  -- ---- turns

  module _ (old new : Memory) (ticks rest : ℕ) where
    quiet : (turn : Turn) → ((class : ℕ) → turn ≡ Throws class → ⊥) → StepsTo at old new ticks rest turn → QuietTurn at old new ticks rest turn
    quiet On no_throw goes = record {
      need = goes.need;
      next = goes.next;
      goes = must_do goes.need goes.next goes.goes;
      places_nothing = goes.places_nothing;
      fits = ap (has_room (stack_of at.size) (view_of at.image at.state)) goes.calls_nothing;
      tick = goes.tick;
      pictures = goes.pictures;
      collections = goes.collections;
    }
    quiet (Throws class) no_throw throws = absurd (no_throw class refl)
    quiet (Ends ending.Spent) no_throw spent = record {
      need = spent.need;
      next = spent.next;
      goes = must_do spent.need spent.next spent.goes;
      tick = spent.tick;
      none = spent.none;
      same = spent.same;
    }
    quiet (Ends (ending.Misfit class place)) no_throw is = absurd (no_misfit _ [] class place is)
    quiet (Ends ending.Done) no_throw none = absurd none
    quiet (Ends (ending.Uncaught class)) no_throw none = absurd none
    quiet (Ends (ending.HeapWanted need live)) no_throw none = absurd none
    quiet (Ends (ending.StackWanted need used)) no_throw none = absurd none
    quiet (Ends ending.ConsoleFault) no_throw none = absurd none

    module _ {C : Type 0} (left shown noted : C → Option (List ℕ)) (faults : C → ℕ) (room : C → Option ℕ) (console : C) where
      pub plain_turn : (turn : Turn) → ((class : ℕ) → turn ≡ Throws class → ⊥) → StepsTo at old new ticks rest turn → StepTurn left shown noted faults room at old new console console ticks rest turn
      plain_turn On no_throw steps = over_console left shown noted faults room at old new console ticks rest On (quiet On no_throw steps)
      plain_turn (Throws class) no_throw steps = absurd (no_throw class refl)
      plain_turn (Ends (ending.Uncaught class)) no_throw steps = absurd steps
      plain_turn (Ends how) no_throw steps = over_console left shown noted faults room at old new console ticks rest (Ends how) (quiet (Ends how) no_throw steps)

  -- a throw, which nothing catches
  module _ {C : Type 0} (left shown noted : C → Option (List ℕ)) (faults : C → ℕ) (room : C → Option ℕ) (console : C) (old mid new : Memory) (ticks same rest : ℕ) where
    pub thrown_turn : (class : ℕ) (turn : Turn) → PlainThrows at.image at.naming at.size (move at.image at.state) at.state class old mid ticks same → RaiseEnds at class mid new same rest turn
        → StepTurn left shown noted faults room at old new console console ticks rest turn
    thrown_turn class turn throw raised =
        let need : Need = record { placed = Some (object_cells (new_object at.image class)); tick = false; frame = None } in
        let ends : ThrowEnds left shown noted faults room at class old new console console ticks rest = record {
          ends = must_throw need [] class (throw.is_throw ∙ raised.ends at.state.answers);
          of_library = throw.of_library;
          same = record { memory = raised.same.memory ∙ throw.same.memory; ticks = raised.same.ticks ∙ throw.same.ticks };
          quiet = refl;
        } in
        subst (StepTurn left shown noted faults room at old new console console ticks rest) (sym raised.turn_is) ends
