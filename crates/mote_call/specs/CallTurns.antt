-- What the turn of a return, of a call of a static method, of a native or of a throw says of the move of the split
-- machine at the state that the memory stands for, over a console.
use Rattle.std.specs.Prelude.{◌≡◌, ℕ, ◌<◌, true, false, List, [], Option, Some, None}
use Rattle.dialogue.specs.Answers.{Answers, MayGive}
use Rattle.host_face.specs.Talk.{Talked, BrokeOff, without_first}
use Rattle.image_form.specs.declared.record.Image.{Image}
use Rattle.account.specs.Account.{Event, Need, Does, Stops, Bounds, call_need, no_need, has_room}
use Rattle.account.specs.Dialogue.{dialogue_of}
use Rattle.account.specs.RunLaws.{asked}
use Rattle.mote_model.specs.declared.ending.Ending.{Ending}
use Rattle.mote_model.specs.declared.ending.Ending.TheVariants as ending
use Rattle.mote_model.specs.declared.memory.State.{State as Memory}
use Rattle.mote_model.specs.declared.turn.Turn.{Turn}
use Rattle.mote_model.specs.declared.turn.Turn.TheVariants.{On, Throws, Ends}
use Rattle.mote_model.specs.Picture.{Pictures}
use Rattle.mote_model.specs.SplitMoves.{throws}
use Rattle.mote_model.specs.SplitMoves as split
use Rattle.mote_model.specs.SplitState.{State, object_cells, view_of}
use Rattle.mote_model.specs.SplitStep.{move}
use Rattle.mote_model.specs.SplitTypes.{new_object}
use Rattle.mote_model.specs.Turns.{IsUnchanged, TakesTick}
use Rattle.split_safety.specs.Ready.{Shown}

-- the state with other answers to come
abbrev pub with_answers : State → Answers → State
with_answers state answers = record state { answers = answers }

-- a stack of so many cells, and nothing else, is a limit
abbrev pub stack_of : ℕ → Bounds
stack_of size = record { heap = None; stack = Some size; ticks = 0 }

-- a move from answers that the console may give, which goes on to the state with these others to come
pub record MovesFrom (image : Image) (state : State) (before : Option (List ℕ)) (need : Need) (events : List Event) (next : State) (others : Answers) : Type 0 where
  pub answers : Answers
  pub may : MayGive before answers
  pub goes : move image (with_answers state answers) ≡ Does need events (with_answers next others)

-- a move from some answers that the console may give
pub record MayMove (image : Image) (state : State) (before : Option (List ℕ)) (need : Need) (events : List Event) : Type 0 where
  pub next : State
  pub answers : Answers
  pub may : MayGive before answers
  pub goes : move image (with_answers state answers) ≡ Does need events next

-- the run ends so, whatever the console answers
abbrev pub MustEnd : Image → State → split.Ending → Type 0
MustEnd image state how = (answers : Answers) → move image (with_answers state answers) ≡ Stops no_need [] how

module _ {C : Type 0} (left shown noted : C → Option (List ℕ)) (faults : C → ℕ) (room : C → Option ℕ) (at : Shown) where
  -- the step was done: the items were said, and the memory stands for the next state, whatever is still to come
  pub record CallGoes (old new : Memory) (before after : C) (ticks rest : ℕ) : Type 0 where
    pub need : Need
    pub events : List Event
    pub next : State
    pub goes : (others : Answers) → MayGive (left after) others → MovesFrom at.image at.state (left before) need events next others
    pub places_nothing : need.placed ≡ None
    pub fits : has_room (stack_of at.size) (view_of at.image at.state) need.frame ≡ true
    pub tick : TakesTick need.tick ticks rest
    pub talked : Talked shown noted faults room before after (dialogue_of false events)
    pub asked_for : left after ≡ without_first (asked events) (left before)
    pub pictures : Pictures at.image at.naming at.size new next
    pub collections : new.collections ≡ old.collections

  -- the step is a tick, and none is left
  pub record CallSpent (old new : Memory) (before after : C) (ticks rest : ℕ) : Type 0 where
    pub need : Need
    pub events : List Event
    pub moves : MayMove at.image at.state (left before) need events
    pub tick : need.tick ≡ true
    pub none : ticks ≡ 0
    pub same : IsUnchanged old new ticks rest
    pub quiet : after ≡ before

  -- a tick is left, but the frame of the method does not fit the stack
  pub record CallWants (cells used : ℕ) (old new : Memory) (before after : C) (ticks rest : ℕ) : Type 0 where
    pub moves : MayMove at.image at.state (left before) (call_need cells) []
    pub there : 0 < ticks
    pub lacks : has_room (stack_of at.size) (view_of at.image at.state) (Some cells) ≡ false
    pub used_is : let view = view_of at.image at.state in used ≡ view.frames
    pub same : IsUnchanged old new ticks rest
    pub quiet : after ≡ before

  -- a tick is left, but the console failed
  pub record CallBreaks (before after : C) (ticks : ℕ) : Type 0 where
    pub need : Need
    pub events : List Event
    pub moves : MayMove at.image at.state (left before) need events
    pub places_nothing : need.placed ≡ None
    pub calls_nothing : need.frame ≡ None
    pub there : need.tick ≡ true → 0 < ticks
    pub broke : BrokeOff left shown noted faults room before after (dialogue_of false events)

  abbrev pub CallEnds : (old new : Memory) (before after : C) (ticks rest : ℕ) → Ending → Type 0
  CallEnds old new before after ticks rest ending.Done = MustEnd at.image at.state split.Done × (after ≡ before) × (new.collections ≡ old.collections)
  CallEnds old new before after ticks rest ending.Spent = CallSpent old new before after ticks rest
  CallEnds old new before after ticks rest (ending.StackWanted need used) = CallWants need used old new before after ticks rest
  CallEnds old new before after ticks rest ending.ConsoleFault = CallBreaks before after ticks × (new.collections ≡ old.collections)
  CallEnds old new before after ticks rest how = ⊥

  -- the step of a call, of a return or of a native answers so
  abbrev pub CallTurn : (old new : Memory) (before after : C) (ticks rest : ℕ) → Turn → Type 0
  CallTurn old new before after ticks rest On = CallGoes old new before after ticks rest
  CallTurn old new before after ticks rest (Throws class) = ⊥
  CallTurn old new before after ticks rest (Ends how) = CallEnds old new before after ticks rest how

-- Nothing catches an object of a class that the machine throws, and the run ends. The object is placed first.
pub record RaiseEnds (at : Shown) (class : ℕ) (old new : Memory) (ticks rest : ℕ) (turn : Turn) : Type 0 where
  pub ends : (answers : Answers) → let state = with_answers at.state answers in
      throws at.image state state.frames class ≡ Stops (record { placed = Some (object_cells (new_object at.image class)); tick = false; frame = None }) [] (split.Uncaught class)
  pub turn_is : turn ≡ Ends (ending.Uncaught class)
  pub same : IsUnchanged old new ticks rest
