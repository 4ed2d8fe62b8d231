-- A run of a checked image is never stuck, and comes to such states alone.
use Rattle.std.specs.Prelude.{◌≡◌, Some}
use Rattle.dialogue.specs.Answers.{Answers}
use Rattle.image_form.specs.declared.record.Image.{Image}
use Rattle.image_form.specs.declared.record.Method.{Method}
use Rattle.image_form.specs.Grammar.{IsImage}
use Rattle.image_check.specs.Checked.{IsChecked}
use Rattle.account.specs.Account.{Does, Stops, Stuck}
use Rattle.mote_model.specs.SplitMoves.{SplitMove}
use Rattle.mote_model.specs.SplitRun.{start_state}
use Rattle.mote_model.specs.SplitState.{State, method_at}
use Rattle.mote_model.specs.SplitStep.{move}
use Rattle.split_safety.specs.Reached.{IsReached}
use Rattle.split_safety.specs.Runs.{RunsImage}

-- the image keeps to the grammar and to the rules, and the machine runs it
pub record IsSound (image : Image) : Type 0 where
  pub image_is : IsImage image
  pub checked : IsChecked image
  pub runs : RunsImage image

-- the move goes on to a reached state, or ends the run
abbrev pub StaysReached : Image → SplitMove → Type 0
StaysReached image (Does need events next) = IsReached image next
StaysReached image (Stops need events ending) = Unit {0}
StaysReached image Stuck = ⊥

abbrev pub MovesStayReached : Type 0
MovesStayReached = (image : Image) → IsSound image → (state : State) → IsReached image state → StaysReached image (move image state)

abbrev pub StartsAreReached : Type 0
StartsAreReached = (image : Image) → IsSound image → (method : Method) → method_at image image.main ≡ Some method → (answers : Answers) → IsReached image (start_state image method answers)
