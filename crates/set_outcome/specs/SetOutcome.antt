-- What the runs of an accepted set on the typed machine leave.
use Rattle.std.specs.Prelude.{◌≡◌, ℕ, false, List, None}
use Rattle.dialogue.specs.Answers.{Answers}
use Rattle.dialogue.specs.Limits.{Limits}
use Rattle.dialogue.specs.Outcome.{Outcome}
use Rattle.class_file.specs.declared.record.ClassFile.{ClassFile}
use Rattle.class_tree.specs.Set.{name_of}
use Rattle.account.specs.Account.{Event, Bounds, Standing, Ends, Ended}
use Rattle.account.specs.Account as account
use Rattle.account.specs.Dialogue.{dialogue_of}
use Rattle.typed_machine.specs.TypedMoves as typed
use Rattle.typed_machine.specs.TypedRun.{Runs}
use Rattle.typed_machine.specs.TypedState.{State}
use Rattle.set_image.specs.Linked.{Linked, IsOfFiles}
use Rattle.set_compile.specs.Settings.{world_of}
use Rattle.set_verdict.specs.Verdict.{Accepted}
use Rattle.set_outcome.specs.ImageOutcome.{bounds_of}

-- how the run of a set ends: main's frame returned, nothing caught what was thrown, which is of the class of this name, or
-- there was a want of ticks, of heap or of stack
pub data SetEnding : Type 0 where
  Done : SetEnding
  Uncaught : (class : List ℕ) → SetEnding
  Spent : SetEnding
  HeapWanted : (need live : ℕ) → SetEnding
  StackWanted : (need used : ℕ) → SetEnding

abbrev pub ending_of : List ClassFile → Ends typed.Ending → SetEnding
ending_of classes (Ended typed.Done) = Done
ending_of classes (Ended (typed.Uncaught class)) = Uncaught (name_of classes class)
ending_of classes account.Spent = Spent
ending_of classes (account.HeapWanted need live) = HeapWanted need live
ending_of classes (account.StackWanted need used) = StackWanted need used

-- its ending, its dialogue, in which collections are not noted, and the answers left
abbrev pub outcome_of : List ClassFile → List Event → Standing State → Ends typed.Ending → Outcome SetEnding
outcome_of classes events last how = let state = last.state in record { ending = ending_of classes how; dialogue = dialogue_of false events; left = state.answers }

-- the set is accepted, and its run within these bounds ends so on these answers
pub record RunsWithin (files : List (List ℕ)) (bounds : Bounds) (answers : Answers) (outcome : Outcome SetEnding) : Type 0 where
  pub accepted : Accepted files
  pub linked : Linked
  pub of_files : IsOfFiles files linked
  pub events : List Event
  pub last : Standing State
  pub how : Ends typed.Ending
  pub runs : Runs (world_of linked) bounds answers events last how
  pub is : outcome ≡ outcome_of linked.classes events last how

-- with so many ticks and no other limit
abbrev pub Run : List (List ℕ) → (ticks : ℕ) → Answers → Outcome SetEnding → Type 0
Run files ticks answers outcome = RunsWithin files (record { heap = None; stack = None; ticks = ticks }) answers outcome

-- within these limits
abbrev pub LimitedRun : List (List ℕ) → Limits → Answers → Outcome SetEnding → Type 0
LimitedRun files limits answers outcome = RunsWithin files (bounds_of limits) answers outcome
