-- What the limited run of an image on the split machine leaves.
use Rattle.std.specs.Prelude.{◌≡◌, false, List, Some}
use Rattle.dialogue.specs.Answers.{Answers}
use Rattle.dialogue.specs.Limits.{Limits}
use Rattle.dialogue.specs.Outcome.{Outcome}
use Rattle.image_form.specs.declared.record.Image.{Image}
use Rattle.account.specs.Account.{Event, Bounds, Standing, Ends, Ended, Spent, HeapWanted, StackWanted}
use Rattle.account.specs.Dialogue.{dialogue_of}
use Rattle.mote_model.specs.declared.ending.Ending.{Ending}
use Rattle.mote_model.specs.declared.ending.Ending.TheVariants as ending
use Rattle.mote_model.specs.SplitMoves as split
use Rattle.mote_model.specs.SplitRun.{Runs}
use Rattle.mote_model.specs.SplitState.{State}

-- what a run may use, as the account says it
abbrev pub bounds_of : Limits → Bounds
bounds_of limits = record { heap = Some limits.heap; stack = Some limits.stack; ticks = limits.ticks }

-- the ending of a run of the split machine
abbrev pub ending_of : Ends split.Ending → Ending
ending_of (Ended split.Done) = ending.Done
ending_of (Ended (split.Uncaught class)) = ending.Uncaught class
ending_of (Ended (split.Misfit class place)) = ending.Misfit class place
ending_of Spent = ending.Spent
ending_of (HeapWanted need live) = ending.HeapWanted need live
ending_of (StackWanted need used) = ending.StackWanted need used

-- its ending, its dialogue, in which collections are not noted, and the answers left
abbrev pub outcome_of : List Event → Standing State → Ends split.Ending → Outcome Ending
outcome_of events last how = let state = last.state in record { ending = ending_of how; dialogue = dialogue_of false events; left = state.answers }

-- the limited run of the image on these answers ends so
pub record LimitedSo (image : Image) (limits : Limits) (answers : Answers) (outcome : Outcome Ending) : Type 0 where
  pub events : List Event
  pub last : Standing State
  pub how : Ends split.Ending
  pub runs : Runs image (bounds_of limits) answers events last how
  pub is : outcome ≡ outcome_of events last how
