-- One machine follows another: each step of the first, from states that belong together, is matched by
-- steps of the second that say the same and lead to states that belong together.
use Rattle.std.specs.Prelude.{◌≡◌, ℕ, List, ◌++◌}
use Rattle.dialogue.specs.Answers.{Answers}
use Rattle.dialogue.specs.Dialogue.{Item}
use Rattle.dialogue.specs.Outcome.{Outcome}
use Rattle.dialogue.specs.Run.{Step, Goes, Ends, Stuck, Machine, Running, Over, run_from}

-- the machine goes from the state, with these items said, to another state of which P holds
pub record Reaches {State Ending : Type 0} (machine : Machine State Ending) (said : List Item) (state : State) (items : List Item) (P : State → Type 0) : Type 0 where
  pub steps : ℕ
  pub next : State
  pub running : run_from machine (Running said state) steps ≡ Running (said ++ items) next
  pub holds : P next

-- the machine ends from the state, in a way of which P holds, and says nothing more
pub record Finishes {State Ending : Type 0} (machine : Machine State Ending) (said : List Item) (state : State) (P : Ending → Type 0) (left : Answers) : Type 0 where
  pub steps : ℕ
  pub last : State
  pub ending : Ending
  pub over : run_from machine (Running said state) steps ≡ Over said last ending
  pub holds : P ending
  pub same_left : machine.left last ≡ left

-- what the second machine does for a step of the first
abbrev pub Matches : {First E Second F : Type 0} → Machine Second F → (E → F → Type 0) → (First → Second → Type 0) → Answers → Second → Step First E → Type 0
Matches second Same Belong left state (Goes items next) = (said : List Item) → Reaches second said state items (Belong next)
Matches second Same Belong left state (Ends ending) = (said : List Item) → Finishes second said state (Same ending) left
Matches second Same Belong left state Stuck = Unit {0}

-- the second machine follows the first
abbrev pub Follows : {First E Second F : Type 0} → Machine First E → Machine Second F → (E → F → Type 0) → (First → Second → Type 0) → Type 0
Follows {First} {E} {Second} {F} first second Same Belong =
    (a : First) (b : Second) → Belong a b → Matches second Same Belong (first.left a) b (first.step a)

-- two runs show the same: dialogues and the answers left are equal, and the endings are the same
pub record SameOutcome {E F : Type 0} (Same : E → F → Type 0) (a : Outcome E) (b : Outcome F) : Type 0 where
  pub ending : Same a.ending b.ending
  pub dialogue : a.dialogue ≡ b.dialogue
  pub left : a.left ≡ b.left
