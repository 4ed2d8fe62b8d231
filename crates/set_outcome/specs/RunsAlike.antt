-- What the infuser keeps: the limited run of an accepted set on the typed machine, and that of its image on the split
-- machine, are there and show the same.
use Rattle.std.specs.Prelude.{◌≡◌, ℕ, Bool, true, false, List, ◌++◌}
use Rattle.dialogue.specs.Answers.{Answers}
use Rattle.dialogue.specs.Dialogue.{Item}
use Rattle.dialogue.specs.Limits.{Limits}
use Rattle.dialogue.specs.Outcome.{Outcome}
use Rattle.dialogue.specs.Simulation.{SameOutcome}
use Rattle.image_form.specs.declared.record.Image.{Image}
use Rattle.image_form.specs.Library.{name_of}
use Rattle.mote_model.specs.declared.ending.Ending.{Ending}
use Rattle.mote_model.specs.declared.ending.Ending.TheVariants as endings
use Rattle.set_outcome.specs.ImageOutcome.{LimitedSo}
use Rattle.set_outcome.specs.SetOutcome.{SetEnding, Done, Uncaught, Spent, HeapWanted, StackWanted, LimitedRun}

-- the endings are the same; the image names the class that was thrown
abbrev pub SameEnding : Image → SetEnding → Ending → Type 0
SameEnding image Done endings.Done = Unit {0}
SameEnding image (Uncaught name) (endings.Uncaught class) = name ≡ name_of image class
SameEnding image Spent endings.Spent = Unit {0}
SameEnding image (HeapWanted need live) (endings.HeapWanted other_need other_live) = (need ≡ other_need) × (live ≡ other_live)
SameEnding image (StackWanted need used) (endings.StackWanted other_need other_used) = (need ≡ other_need) × (used ≡ other_used)
SameEnding image _ _ = ⊥

-- the limited run of the accepted set and that of the image end, and show the same
pub record RunsAlike (files : List (List ℕ)) (image : Image) (limits : Limits) (answers : Answers) : Type 0 where
  pub outcome : Outcome SetEnding
  pub ends : LimitedRun files limits answers outcome
  pub other : Outcome Ending
  pub ends_other : LimitedSo image limits answers other
  pub same : SameOutcome (SameEnding image) outcome other

-- ---- the limited run against the unlimited one

-- an object did not fit the heap, or a frame the stack
abbrev pub is_want : SetEnding → Bool
is_want (HeapWanted need live) = true
is_want (StackWanted need used) = true
is_want _ = false

-- the dialogue is the other one up to some item
abbrev pub IsPrefix : List Item → List Item → Type 0
IsPrefix prefix items = (rest : List Item) × (items ≡ prefix ++ rest)
