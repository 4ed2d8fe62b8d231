-- Machines that run step by step, whichever they are: what a step does, how far a run has come, and how
-- it ends.
use Rattle.std.specs.Prelude.{◌≡◌, ℕ, zero, suc, List, ◌++◌}
use Rattle.dialogue.specs.Answers.{Answers}
use Rattle.dialogue.specs.Dialogue.{Item}
use Rattle.dialogue.specs.Outcome.{Outcome}

-- what one step does: it goes on with items of the dialogue, it ends the run, or there is no such step
pub data Step (State Ending : Type 0) : Type 0 where
  Goes : (items : List Item) (next : State) → Step State Ending
  Ends : (ending : Ending) → Step State Ending
  Stuck : Step State Ending

-- a machine: its step, and the answers that a state has left
pub record Machine (State Ending : Type 0) : Type 0 where
  pub step : State → Step State Ending
  pub left : State → Answers

-- how far a run has come: what it has said and where it is; what it said, where it was and how it ended;
-- or that it is stuck
pub data Progress (State Ending : Type 0) : Type 0 where
  Running : (said : List Item) (state : State) → Progress State Ending
  Over : (said : List Item) (state : State) (ending : Ending) → Progress State Ending
  Lost : Progress State Ending

abbrev pub after_step : {State Ending : Type 0} → List Item → State → Step State Ending → Progress State Ending
after_step said state (Goes items next) = Running (said ++ items) next
after_step said state (Ends ending) = Over said state ending
after_step said state Stuck = Lost

-- one step more; after an end nothing changes
abbrev pub advance : {State Ending : Type 0} → Machine State Ending → Progress State Ending → Progress State Ending
advance machine (Running said state) = after_step said state (machine.step state)
advance machine (Over said state ending) = Over said state ending
advance machine Lost = Lost

-- at most so many steps from a beginning
abbrev pub run_from : {State Ending : Type 0} → Machine State Ending → Progress State Ending → ℕ → Progress State Ending
run_from machine start zero = start
run_from machine start (suc steps) = advance machine (run_from machine start steps)

-- the run from this beginning ends so
pub record EndsSo {State Ending : Type 0} (machine : Machine State Ending) (start : Progress State Ending) (outcome : Outcome Ending) : Type 0 where
  pub steps : ℕ
  pub last : State
  pub over : run_from machine start steps ≡ Over outcome.dialogue last outcome.ending
  pub left : outcome.left ≡ machine.left last
