-- Each run of an accepted set has one outcome, and so has the limited run of an image, where it ends.
use Rattle.std.proofs.Common.{◌≡◌, ℕ, List, None, refl, sym, ap, subst, ◌∙◌}
use Rattle.dialogue.specs.Answers.{Answers}
use Rattle.dialogue.specs.Limits.{Limits}
use Rattle.dialogue.specs.Outcome.{Outcome}
use Rattle.image_form.specs.declared.record.Image.{Image}
use Rattle.account.specs.Account.{Event, Bounds, Standing, Ends}
use Rattle.account.proofs.OneEnd.{one_end}
use Rattle.mote_model.specs.declared.ending.Ending.{Ending}
use Rattle.mote_model.specs.SplitMoves as split
use Rattle.mote_model.specs.SplitRun as split_run
use Rattle.mote_model.specs.SplitState as split_state
use Rattle.mote_model.specs.SplitStep as split_step
use Rattle.typed_machine.specs.TypedMoves as typed
use Rattle.typed_machine.specs.TypedRun.{Runs, start_of}
use Rattle.typed_machine.specs.TypedState.{State}
use Rattle.typed_machine.specs.TypedView.{machine}
use Rattle.class_file.specs.declared.record.ClassFile.{ClassFile}
use Rattle.set_image.specs.Linked.{Linked, IsOfFiles}
use Rattle.set_image.specs.LinkRefusals.{IsAccepted, link_refusal}
use Rattle.set_compile.specs.Settings.{world_of}
use Rattle.set_runs.specs.SetRuns.{SetsRunAlike}
use Rattle.set_verdict.specs.Verdict.{Accepted}
use Rattle.set_outcome.specs.ImageOutcome.{LimitedSo, bounds_of}
use Rattle.set_outcome.specs.ImageOutcome as image_outcome
use Rattle.set_outcome.specs.SetOutcome.{SetEnding, RunsWithin, outcome_of}

-- files are linked to one set at most
abbrev pub LinkedOnce : Type 0
LinkedOnce = (files : List (List ℕ)) (first second : Linked) → IsOfFiles files first → IsOfFiles files second → first ≡ second

-- those of an accepted set are linked, to a set without a refusal
abbrev pub AcceptedLinked : Type 0
AcceptedLinked = (files : List (List ℕ)) → Accepted files → (linked : Linked) × IsOfFiles files linked × (link_refusal linked ≡ None)

-- ---- the same parts give the same outcome

same_outcome : (classes : List ClassFile) (events others : List Event) (last other_last : Standing State) (how other : Ends typed.Ending)
    → (events ≡ others) × (last ≡ other_last) × (how ≡ other)
    → outcome_of classes events last how ≡ outcome_of classes others other_last other
same_outcome classes events others last other_last how other same =
    ap (λ events. outcome_of classes events last how) same.0
    ∙ ap (λ last. outcome_of classes others last how) same.1
    ∙ ap (λ how. outcome_of classes others other_last how) same.2

same_image_outcome : (events others : List Event) (last other_last : Standing split_state.State) (how other : Ends split.Ending)
    → (events ≡ others) × (last ≡ other_last) × (how ≡ other)
    → image_outcome.outcome_of events last how ≡ image_outcome.outcome_of others other_last other
same_image_outcome events others last other_last how other same =
    ap (λ events. image_outcome.outcome_of events last how) same.0
    ∙ ap (λ last. image_outcome.outcome_of others last how) same.1
    ∙ ap (λ how. image_outcome.outcome_of others other_last how) same.2

-- ---- runs of a set

module _ (once : LinkedOnce) (there : AcceptedLinked) where
  -- the set of accepted files has no refusal
  pub accepted_set : (files : List (List ℕ)) (linked : Linked) → Accepted files → IsOfFiles files linked → IsAccepted files linked
  accepted_set files linked accepted of_files =
      let found = there files accepted in
      record { of_files = of_files; accepted = subst (λ (linked : Linked). link_refusal linked ≡ None) (once files found.0 linked found.1 of_files) found.2 }

  pub set_runs : SetsRunAlike → (files : List (List ℕ)) → Accepted files → (bounds : Bounds) (answers : Answers)
      → (outcome : Outcome SetEnding) × RunsWithin files bounds answers outcome
  set_runs runs files accepted bounds answers =
      let found = there files accepted in
      let linked = found.0 in
      let run = runs files linked (record { of_files = found.1; accepted = found.2 }) bounds answers in
      let outcome = outcome_of linked.classes run.events run.last run.how in (
        outcome,
        record {
          accepted = accepted;
          linked = linked;
          of_files = found.1;
          events = run.events;
          last = run.last;
          how = run.how;
          runs = run.typed;
          is = refl;
        },
      )

-- a run of files is one of the set that they are linked to
pub run_of : LinkedOnce → (files : List (List ℕ)) (linked : Linked) → IsOfFiles files linked
    → (bounds : Bounds) (answers : Answers) (outcome : Outcome SetEnding) → (run : RunsWithin files bounds answers outcome)
    → Runs (world_of linked) bounds answers run.events run.last run.how × (outcome ≡ outcome_of linked.classes run.events run.last run.how)
run_of once files linked of_files bounds answers outcome run =
    subst (λ (linked : Linked). Runs (world_of linked) bounds answers run.events run.last run.how × (outcome ≡ outcome_of linked.classes run.events run.last run.how))
    (once files run.linked linked run.of_files of_files) (run.runs, run.is)

pub run_is_one : LinkedOnce → (files : List (List ℕ)) (bounds : Bounds) (answers : Answers) (first second : Outcome SetEnding)
    → RunsWithin files bounds answers first → RunsWithin files bounds answers second → first ≡ second
run_is_one once files bounds answers first second one other =
    let linked = other.linked in
    let world = world_of linked in
    let run = run_of once files linked other.of_files bounds answers first one in
    let same = one_end (machine world) bounds (start_of world bounds answers) one.events other.events one.last other.last one.how other.how run.0 other.runs in
    run.1 ∙ same_outcome linked.classes one.events other.events one.last other.last one.how other.how same ∙ sym other.is

-- ---- runs of an image

pub image_run_is_one : (image : Image) (limits : Limits) (answers : Answers) (first second : Outcome Ending) → LimitedSo image limits answers first
    → LimitedSo image limits answers second → first ≡ second
image_run_is_one image limits answers first second one other =
    let bounds = bounds_of limits in
    let same = one_end (split_step.machine image) bounds (split_run.start_of image bounds answers) one.events other.events one.last other.last one.how other.how one.runs other.runs in
    one.is ∙ same_image_outcome one.events other.events one.last other.last one.how other.how same ∙ sym other.is
