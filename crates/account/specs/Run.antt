-- Runs of a machine whose steps are moves, within bounds, whichever machine runs.
use Rattle.std.specs.Prelude.{◌≡◌, ℕ, zero, suc, if◌then◌else◌, List, [], ◌++◌}
use Rattle.account.specs.Account.{Event, Move, Bounds, View, Standing, Ends, StackWanted, Settled, Goes, Over, Lost, is_within, standing_at, settled}

-- a machine: the move from a state, and what the account sees of the state
pub record Machine (State Ending : Type 0) : Type 0 where
  pub move : State → Move State Ending
  pub view : State → View

-- what comes after these events
abbrev pub after_events : {State Ending : Type 0} → List Event → Settled State Ending → Settled State Ending
after_events said (Goes events next) = Goes (said ++ events) next
after_events said (Over events last how) = Over (said ++ events) last how
after_events said Lost = Lost

-- one move more; after an end nothing changes
abbrev pub advance : {State Ending : Type 0} → Machine State Ending → Bounds → Settled State Ending → Settled State Ending
advance machine bounds (Goes said from) = after_events said (settled bounds (machine.view from.state) from (machine.move from.state))
advance machine bounds (Over said last how) = Over said last how
advance machine bounds Lost = Lost

-- at most so many moves from a beginning
abbrev pub run_from : {State Ending : Type 0} → Machine State Ending → Bounds → Settled State Ending → ℕ → Settled State Ending
run_from machine bounds start zero = start
run_from machine bounds start (suc moves) = advance machine bounds (run_from machine bounds start moves)

-- A run begins where a state's live cells are in use and no tick is used, if the stack has the cells of the first frame,
-- which is tested with none in use.
abbrev pub begins : {State Ending : Type 0} → Bounds → (cells live : ℕ) → State → Settled State Ending
begins bounds cells live state =
    if is_within bounds.stack cells then Goes [] (standing_at state live 0) else Over [] (standing_at state live 0) (StackWanted cells 0)

-- the run from this beginning ends so: with these events, in this state, and in this way
pub record EndsSo {State Ending : Type 0} (machine : Machine State Ending) (bounds : Bounds) (start : Settled State Ending) (events : List Event) (last : Standing State) (how : Ends Ending) : Type 0 where
  pub moves : ℕ
  pub over : run_from machine bounds start moves ≡ Over events last how
