-- What a step of any instruction says of the move of the split machine at the state that the memory stands for, over a
-- console.
use Rattle.std.specs.Prelude.{◌≡◌, ℕ, ◌<◌, false, List, [], Option, Some, None}
use Rattle.dialogue.specs.Answers.{Answers}
use Rattle.library.specs.Classes.{first_own}
use Rattle.account.specs.Account.{Stops}
use Rattle.mote_model.specs.declared.ending.Ending.{Ending}
use Rattle.mote_model.specs.declared.ending.Ending.TheVariants as ending
use Rattle.mote_model.specs.declared.memory.State.{State as Memory}
use Rattle.mote_model.specs.declared.turn.Turn.{Turn}
use Rattle.mote_model.specs.declared.turn.Turn.TheVariants.{On, Throws, Ends}
use Rattle.mote_model.specs.SplitMoves as split
use Rattle.mote_model.specs.SplitState.{object_cells}
use Rattle.mote_model.specs.SplitStep.{move}
use Rattle.mote_model.specs.SplitTypes.{new_object}
use Rattle.mote_model.specs.Turns.{IsUnchanged}
use Rattle.split_safety.specs.Ready.{Shown}
use Rattle.mote_call.specs.CallTurns.{with_answers, CallGoes, CallEnds}

module _ {C : Type 0} (left shown noted : C → Option (List ℕ)) (faults : C → ℕ) (room : C → Option ℕ) (at : Shown) where
  -- The machine throws an object of a class of the library, which it places first, and the run ends, whatever the console
  -- answers.
  pub record ThrowEnds (class : ℕ) (old new : Memory) (before after : C) (ticks rest : ℕ) : Type 0 where
    pub ends : (answers : Answers) → move at.image (with_answers at.state answers) ≡ Stops (record { placed = Some (object_cells (new_object at.image class)); tick = false; frame = None }) [] (split.Uncaught class)
    pub of_library : class < first_own
    pub same : IsUnchanged old new ticks rest
    pub quiet : after ≡ before

  abbrev pub StepEnds : (old new : Memory) (before after : C) (ticks rest : ℕ) → Ending → Type 0
  StepEnds old new before after ticks rest (ending.Uncaught class) = ThrowEnds class old new before after ticks rest
  StepEnds old new before after ticks rest how = CallEnds left shown noted faults room at old new before after ticks rest how

  -- a step answers so
  abbrev pub StepTurn : (old new : Memory) (before after : C) (ticks rest : ℕ) → Turn → Type 0
  StepTurn old new before after ticks rest On = CallGoes left shown noted faults room at old new before after ticks rest
  StepTurn old new before after ticks rest (Throws class) = ⊥
  StepTurn old new before after ticks rest (Ends how) = StepEnds old new before after ticks rest how
