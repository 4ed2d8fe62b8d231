-- What a turn that says nothing says of the move of the split machine at the state that the memory stands for.
use Rattle.std.specs.Prelude.{◌≡◌, ℕ, ◌<◌, true, false, [], Some, None}
use Rattle.dialogue.specs.Answers.{Answers}
use Rattle.account.specs.Account.{Need, Does, call_need, has_room}
use Rattle.mote_model.specs.declared.ending.Ending.{Ending}
use Rattle.mote_model.specs.declared.ending.Ending.TheVariants as ending
use Rattle.mote_model.specs.declared.memory.State.{State as Memory}
use Rattle.mote_model.specs.declared.turn.Turn.{Turn}
use Rattle.mote_model.specs.declared.turn.Turn.TheVariants.{On, Throws, Ends}
use Rattle.mote_model.specs.Picture.{Pictures}
use Rattle.mote_model.specs.SplitMoves as split
use Rattle.mote_model.specs.SplitState.{State, view_of}
use Rattle.mote_model.specs.SplitStep.{move}
use Rattle.mote_model.specs.Turns.{IsUnchanged, TakesTick}
use Rattle.split_safety.specs.Ready.{Shown}
use Rattle.mote_call.specs.CallTurns.{with_answers, stack_of, MustEnd}

-- whatever is answered, the move goes on to the state, with the same answers to come
abbrev pub MustDo : Shown → Need → State → Type 0
MustDo at need next = (answers : Answers) → move at.image (with_answers at.state answers) ≡ Does need [] (with_answers next answers)

-- the step was done
pub record QuietGoes (at : Shown) (old new : Memory) (ticks rest : ℕ) : Type 0 where
  pub need : Need
  pub next : State
  pub goes : MustDo at need next
  pub places_nothing : need.placed ≡ None
  pub fits : has_room (stack_of at.size) (view_of at.image at.state) need.frame ≡ true
  pub tick : TakesTick need.tick ticks rest
  pub pictures : Pictures at.image at.naming at.size new next
  pub collections : new.collections ≡ old.collections

-- the step is a tick, and none is left
pub record QuietSpent (at : Shown) (old new : Memory) (ticks rest : ℕ) : Type 0 where
  pub need : Need
  pub next : State
  pub goes : MustDo at need next
  pub tick : need.tick ≡ true
  pub none : ticks ≡ 0
  pub same : IsUnchanged old new ticks rest

-- a tick is left, but the frame of the method does not fit the stack
pub record QuietWants (at : Shown) (cells used : ℕ) (old new : Memory) (ticks rest : ℕ) : Type 0 where
  pub next : State
  pub goes : MustDo at (call_need cells) next
  pub there : 0 < ticks
  pub lacks : has_room (stack_of at.size) (view_of at.image at.state) (Some cells) ≡ false
  pub used_is : let view = view_of at.image at.state in used ≡ view.frames
  pub same : IsUnchanged old new ticks rest

abbrev pub QuietEnds : (at : Shown) (old new : Memory) (ticks rest : ℕ) → Ending → Type 0
QuietEnds at old new ticks rest ending.Done = MustEnd at.image at.state split.Done × (new.collections ≡ old.collections)
QuietEnds at old new ticks rest ending.Spent = QuietSpent at old new ticks rest
QuietEnds at old new ticks rest (ending.StackWanted need used) = QuietWants at need used old new ticks rest
QuietEnds at old new ticks rest how = ⊥

-- a step that says nothing answers so
abbrev pub QuietTurn : (at : Shown) (old new : Memory) (ticks rest : ℕ) → Turn → Type 0
QuietTurn at old new ticks rest On = QuietGoes at old new ticks rest
QuietTurn at old new ticks rest (Throws class) = ⊥
QuietTurn at old new ticks rest (Ends how) = QuietEnds at old new ticks rest how

-- the same where no tick is taken
abbrev pub QuietStep : (at : Shown) (old new : Memory) → Turn → Type 0
QuietStep at old new turn = (left : ℕ) → QuietTurn at old new left left turn
