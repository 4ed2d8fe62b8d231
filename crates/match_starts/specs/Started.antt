-- The states in which both runs start match, and the runs begin alike.
use Rattle.std.specs.Prelude.{◌≡◌, ℕ, Some}
use Rattle.account.specs.Account.{Bounds}
use Rattle.account.specs.Run.{begins}
use Rattle.dialogue.specs.Answers.{Answers}
use Rattle.image_form.specs.declared.record.Method.{Method}
use Rattle.mote_model.specs.SplitRun as split
use Rattle.mote_model.specs.SplitState.{State as SplitState, method_at, frame_cells}
use Rattle.typed_machine.specs.TypedRun.{start_state, start_of}
use Rattle.typed_machine.specs.TypedState.{State}
use Rattle.type_safety.specs.Starts.{HasStart}
use Rattle.match_states.specs.Followed.{StatesMatch}
use Rattle.match_states.specs.Setting.{Setting, IsCompiled}

-- main is a method of the image, its frame has as many cells in both, and both start in states that match
pub record BothStart (setting : Setting) (start : HasStart setting.world setting.tables) : Type 0 where
  pub method : Method
  pub there : method_at setting.image setting.image.main ≡ Some method
  pub cells : frame_cells method ≡ setting.world.frame_cells setting.world.main
  pub match : (answers : Answers) → StatesMatch setting (start_state setting.world start.main answers) (split.start_state setting.image method answers)

-- typed code that has a start, and its image, both start
abbrev pub StatesStart : Type 0
StatesStart = (setting : Setting) → IsCompiled setting → (start : HasStart setting.world setting.tables) → BothStart setting start

-- Both runs test as many cells for main's frame with no cell in use, and begin in states that match with no cell live, or
-- both want the stack.
pub record StartsAlike (setting : Setting) (bounds : Bounds) (answers : Answers) : Type 0 where
  pub cells : ℕ
  pub state : State
  pub other : SplitState
  pub match : StatesMatch setting state other
  pub begins_typed : start_of setting.world bounds answers ≡ begins bounds cells 0 state
  pub begins_split : split.start_of setting.image bounds answers ≡ begins bounds cells 0 other

-- the runs of typed code that has a start, and of its image, begin alike
abbrev pub RunsStartAlike : Type 0
RunsStartAlike = (setting : Setting) → IsCompiled setting → HasStart setting.world setting.tables → (bounds : Bounds) (answers : Answers) → StartsAlike setting bounds answers
