-- The run of an accepted set on the typed machine and that of its image on the split machine show the same.
use Rattle.std.specs.Prelude.{◌≡◌, ℕ, List}
use Rattle.dialogue.specs.Answers.{Answers}
use Rattle.account.specs.Account.{Event, Bounds, Standing, Ends}
use Rattle.account.specs.RunLaws.{EndsAlike}
use Rattle.mote_model.specs.SplitMoves as split
use Rattle.mote_model.specs.SplitRun as split_run
use Rattle.mote_model.specs.SplitState.{State as SplitState}
use Rattle.typed_machine.specs.TypedMoves.{Ending}
use Rattle.typed_machine.specs.TypedRun as typed_run
use Rattle.typed_machine.specs.TypedState.{State}
use Rattle.match_states.specs.Followed.{EndingsMatch}
use Rattle.set_image.specs.Linked.{Linked, image_in}
use Rattle.set_image.specs.LinkRefusals.{IsAccepted}
use Rattle.set_compile.specs.Settings.{setting_of, world_of}

-- both runs end, with the same events, in the same way, with as many cells in use, as many ticks used, and the same answers
-- left
pub record RunsAlike (linked : Linked) (bounds : Bounds) (answers : Answers) : Type 0 where
  pub events : List Event
  pub last : Standing State
  pub how : Ends Ending
  pub typed : typed_run.Runs (world_of linked) bounds answers events last how
  pub other_last : Standing SplitState
  pub other_how : Ends split.Ending
  pub split : split_run.Runs (image_in linked) bounds answers events other_last other_how
  pub alike : EndsAlike (EndingsMatch (setting_of linked)) how other_how
  pub used : other_last.used ≡ last.used
  pub ticks : other_last.ticks ≡ last.ticks
  pub left : let other = other_last.state in let typed = last.state in other.answers ≡ typed.answers

abbrev pub SetsRunAlike : Type 0
SetsRunAlike = (files : List (List ℕ)) (linked : Linked) → IsAccepted files linked → (bounds : Bounds) (answers : Answers) → RunsAlike linked bounds answers
