-- The limited run of an accepted set and that of its image show the same.
use Rattle.std.proofs.Common.{◌≡◌, ℕ, List, refl, sym, subst}
use Rattle.dialogue.specs.Answers.{Answers}
use Rattle.dialogue.specs.Limits.{Limits}
use Rattle.image_form.specs.declared.record.Image.{Image}
use Rattle.account.specs.Account.{Ends, Ended}
use Rattle.account.specs.RunLaws.{EndsAlike, BothEnded, BothSpent, BothHeap, BothStack}
use Rattle.mote_model.specs.SplitMoves as split
use Rattle.mote_model.specs.SplitRun as split_run
use Rattle.typed_machine.specs.TypedMoves.{Ending}
use Rattle.typed_machine.specs.TypedRun.{Runs}
use Rattle.match_states.specs.Followed.{EndingsMatch, BothDone, BothUncaught}
use Rattle.set_image.specs.Linked.{Linked, numbering_in}
use Rattle.set_compile.specs.Settings.{setting_of, world_of}
use Rattle.set_runs.specs.SetRuns.{SetsRunAlike}
use Rattle.set_verdict.specs.Verdict.{IsImageOf}
use Rattle.set_outcome.specs.ImageOutcome.{bounds_of}
use Rattle.set_outcome.specs.ImageOutcome as image_outcome
use Rattle.set_outcome.specs.RunsAlike.{RunsAlike, SameEnding}
use Rattle.set_outcome.specs.SetOutcome.{ending_of, outcome_of}
use Rattle.set_outcome.proofs.OneOutcome.{AcceptedLinked, LinkedOnce, accepted_set}
use Rattle.set_outcome.proofs.ThrownClasses.{KnownEnding}
use Rattle.set_outcome.proofs.ThrownNames.{known_ends, same_name}

-- ---- endings that match are the same

module _ (linked : Linked) (image : Image) where
  same_endings : (ending : Ending) (other : split.Ending) → EndingsMatch (setting_of linked) ending other → KnownEnding ending
      → SameEnding image (ending_of linked.classes (Ended ending)) (image_outcome.ending_of (Ended other))
  same_endings _ _ BothDone known = tt
  same_endings _ _ (BothUncaught class) known = let numbering = numbering_in linked in same_name class known linked.classes image numbering.types

  same_ends : (how : Ends Ending) (other : Ends split.Ending) → EndsAlike (EndingsMatch (setting_of linked)) how other
      → ((ending : Ending) → how ≡ Ended ending → KnownEnding ending)
      → SameEnding image (ending_of linked.classes how) (image_outcome.ending_of other)
  same_ends _ _ (BothEnded ending other match) known = same_endings ending other match (known ending refl)
  same_ends _ _ BothSpent known = tt
  same_ends _ _ (BothHeap need live) known = (refl, refl)
  same_ends _ _ (BothStack need used) known = (refl, refl)

-- ---- both runs

pub outcomes_alike : LinkedOnce → AcceptedLinked → SetsRunAlike → (files : List (List ℕ)) (image : Image) → IsImageOf files image
    → (limits : Limits) (answers : Answers) → RunsAlike files image limits answers
outcomes_alike once there runs files image is limits answers =
    let linked = is.linked in
    let accepted = accepted_set once there files linked is.accepted is.of_files in
    let bounds = bounds_of limits in
    let run = runs files linked accepted bounds answers in
    let known = λ (ending : Ending) (ends : run.how ≡ Ended ending). known_ends linked accepted.accepted bounds answers run.events run.last ending (subst (Runs (world_of linked) bounds answers run.events run.last) ends run.typed) in
    record {
      outcome = outcome_of linked.classes run.events run.last run.how;
      ends =
          record {
            accepted = is.accepted;
            linked = linked;
            of_files = is.of_files;
            events = run.events;
            last = run.last;
            how = run.how;
            runs = run.typed;
            is = refl;
          };
      other = image_outcome.outcome_of run.events run.other_last run.other_how;
      ends_other =
          record {
            events = run.events;
            last = run.other_last;
            how = run.other_how;
            runs = subst (λ (image : Image). split_run.Runs image bounds answers run.events run.other_last run.other_how) (sym is.image_is) run.split;
            is = refl;
          };
      same = record { ending = same_ends linked image run.how run.other_how run.alike known; dialogue = refl; left = sym run.left };
    }
