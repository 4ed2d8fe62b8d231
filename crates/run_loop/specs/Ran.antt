-- What a run from the state that the memory of a mote stands for leaves on a console, and of the memory.
use Rattle.std.specs.Prelude.{◌≡◌, ℕ, false, List, [], Option, Some}
use Rattle.dialogue.specs.Answers.{Answers, MayGive}
use Rattle.host_face.specs.Talk.{Talked, BrokeOff, without_first}
use Rattle.account.specs.Account.{Event, Bounds, Standing, Ends, Ended, Spent, HeapWanted, StackWanted, Goes, standing_at}
use Rattle.account.specs.Dialogue.{dialogue_of}
use Rattle.account.specs.Run.{EndsSo}
use Rattle.account.specs.RunLaws.{asked}
use Rattle.mote_model.specs.declared.ending.Ending.{Ending}
use Rattle.mote_model.specs.declared.ending.Ending.TheVariants as ending
use Rattle.mote_model.specs.declared.memory.State.{State as Memory}
use Rattle.mote_model.specs.Picture.{Pictures}
use Rattle.mote_model.specs.SplitMoves as split
use Rattle.mote_model.specs.SplitState.{State}
use Rattle.mote_model.specs.SplitStep.{machine}
use Rattle.split_safety.specs.Ready.{Shown}
use Rattle.split_safety.specs.Reached.{IsReached}
use Rattle.split_safety.specs.Safety.{IsSound}
use Rattle.mote_call.specs.CallTurns.{with_answers}

-- the memory stands for a state that runs of a sound image come to
pub record Stands (at : Shown) (memory : Memory) : Type 0 where
  pub sound : IsSound at.image
  pub reached : IsReached at.image at.state
  pub pictures : Pictures at.image at.naming at.size memory at.state

-- where a run starts: what the memory stands for, and how many cells the heap has
pub record Start : Type 0 where
  pub at : Shown
  pub heap : ℕ

-- the same with another state
abbrev pub later : Shown → State → Shown
later at state = record at { state = state }

-- how the account says an ending
abbrev pub IsEnding : Ends split.Ending → Ending → Type 0
IsEnding (Ended split.Done) how = how ≡ ending.Done
IsEnding (Ended (split.Uncaught class)) how = how ≡ ending.Uncaught class
IsEnding (Ended (split.Misfit class place)) how = how ≡ ending.Misfit class place
IsEnding Spent how = how ≡ ending.Spent
IsEnding (HeapWanted need live) how = how ≡ ending.HeapWanted need live
IsEnding (StackWanted need used) how = how ≡ ending.StackWanted need used

-- the limits of a run: a heap of so many cells, the stack that is shown, and a budget of ticks
abbrev pub limits : Shown → (heap ticks : ℕ) → Bounds
limits at heap ticks = record { heap = Some heap; stack = Some at.size; ticks = ticks }

-- The run from the state on these answers ends so. No cell of the heap is in use, since nothing is placed so far.
abbrev pub RunsFrom : Shown → (heap ticks : ℕ) → Answers → List Event → Standing State → Ends split.Ending → Type 0
RunsFrom at heap ticks answers events last how = EndsSo (machine at.image) (limits at heap ticks) (Goes [] (standing_at (with_answers at.state answers) 0 0)) events last how

module _ {C : Type 0} (left shown noted : C → Option (List ℕ)) (faults : C → ℕ) (room : C → Option ℕ) (start : Start) (ticks : ℕ) where
  -- The run ended so, and all of its dialogue was said. Where it is spent, the memory stands for its last state.
  pub record RanTo (old new : C) (after : Memory) (how : Ending) : Type 0 where
    pub answers : Answers
    pub may : MayGive (left old) answers
    pub events : List Event
    pub last : Standing State
    pub ends : Ends split.Ending
    pub runs : RunsFrom start.at start.heap ticks answers events last ends
    pub ending_is : IsEnding ends how
    pub talked : Talked shown noted faults room old new (dialogue_of false events)
    pub rest : left new ≡ without_first (asked events) (left old)
    pub stands : how ≡ ending.Spent → Stands (later start.at last.state) after

  -- the console failed: a proper prefix of the dialogue of the run was said
  pub record Failed (old new : C) : Type 0 where
    pub answers : Answers
    pub may : MayGive (left old) answers
    pub events : List Event
    pub last : Standing State
    pub ends : Ends split.Ending
    pub runs : RunsFrom start.at start.heap ticks answers events last ends
    pub broke : BrokeOff left shown noted faults room old new (dialogue_of false events)

  -- the run answered this ending
  abbrev pub Ran : (old new : C) (after : Memory) → Ending → Type 0
  Ran old new after ending.ConsoleFault = Failed old new
  Ran old new after how = RanTo old new after how
