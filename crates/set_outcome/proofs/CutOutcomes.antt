-- The run of an accepted set within limits is cut from its run without them.
use Rattle.std.proofs.Common.{◌≡◌, ℕ, false, List, ◌++◌, Option, Some, None, drop, refl, sym, ap, ◌∙◌}
use Rattle.dialogue.specs.Answers.{Answers}
use Rattle.dialogue.specs.Dialogue.{Item, gets}
use Rattle.dialogue.specs.Limits.{Limits}
use Rattle.dialogue.specs.Outcome.{Outcome}
use Rattle.class_file.specs.declared.record.ClassFile.{ClassFile}
use Rattle.image_form.specs.declared.record.Image.{Image}
use Rattle.image_form.specs.declared.record.Method.{Method}
use Rattle.body_form.specs.declared.body.Body.{Body}
use Rattle.account.specs.Account.{Event, Bounds, Standing, Ends, Ended, Spent, HeapWanted, StackWanted, Over, Lost}
use Rattle.account.specs.Dialogue.{dialogue_of}
use Rattle.account.specs.Run.{EndsSo}
use Rattle.account.specs.RunLaws.{Cuts, asked, shown, without_limits}
use Rattle.account.specs.RunLaws as account
use Rattle.account.proofs.Answering.{answers_left_from-beginning, dialogue_of-append, dialogue_of-shown, gets-dialogue_of}
use Rattle.account.proofs.Limiting.{limits_cut}
use Rattle.account.proofs.OneEnd.{one_end}
use Rattle.account.proofs.Running.{run_from-lost}
use Rattle.mote_model.specs.SplitMoves as split
use Rattle.mote_model.specs.SplitRun as split_run
use Rattle.mote_model.specs.SplitState as split_state
use Rattle.mote_model.specs.SplitStep as split_step
use Rattle.typed_machine.specs.TypedMoves.{Ending, Done, Uncaught}
use Rattle.typed_machine.specs.TypedRun.{Runs, start_main, start_of, start_state}
use Rattle.typed_machine.specs.TypedState.{State}
use Rattle.typed_machine.specs.TypedView.{machine}
use Rattle.typed_machine.specs.TypedWorld.{World, body_among}
use Rattle.set_image.specs.Linked.{Linked, image_in}
use Rattle.set_image.specs.LinkRefusals.{IsAccepted}
use Rattle.set_compile.specs.Settings.{world_of}
use Rattle.set_runs.specs.SetRuns.{SetsRunAlike}
use Rattle.set_runs.proofs.SplitAnswers.{split_asks}
use Rattle.set_outcome.specs.ImageOutcome.{bounds_of}
use Rattle.set_outcome.specs.RunsAlike.{IsPrefix, is_want}
use Rattle.set_outcome.specs.SetOutcome.{LimitedRun, Run, SetEnding, ending_of}
use Rattle.set_outcome.proofs.OneOutcome.{AcceptedLinked, LinkedOnce, accepted_set, run_of}

-- ---- no run ends that does not begin

lost_ends : {State Ending : Type 0} (events : List Event) (last : Standing State) (how : Ends Ending) → Lost ≡ Over events last how → ⊥
lost_ends events last how e = absurd cc

-- ---- the typed run is cut

module _ (world : World) (bounds : Bounds) (answers : Answers) (events others : List Event) (last other_last : Standing State) (how other : Ends Ending) where
  main_cut : (main : Option Body) → EndsSo (machine world) bounds (start_main world bounds answers main) events last how
      → EndsSo (machine world) (without_limits bounds) (start_main world (without_limits bounds) answers main) others other_last other
      → Cuts events others how other
  main_cut None ends other_ends = absurd (lost_ends events last how (sym (run_from-lost (machine world) bounds ends.moves) ∙ ends.over))
  main_cut (Some main) ends other_ends =
      limits_cut (machine world) bounds (world.frame_cells world.main) 0 (start_state world main answers) events others last other_last how other ends other_ends

  run_cut : Runs world bounds answers events last how → Runs world (without_limits bounds) answers others other_last other → Cuts events others how other
  run_cut ends other_ends = main_cut (body_among world.bodies world.main) ends other_ends

-- ---- the answers left

module _ (image : Image) (bounds : Bounds) (answers : Answers) (events : List Event) (last : Standing split_state.State) (how : Ends split.Ending) where
  method_left : (method : Option Method) → EndsSo (split_step.machine image) bounds (split_run.start_main image bounds answers method) events last how
      → let state = last.state in state.answers ≡ drop (asked events) answers
  method_left None ends = absurd (lost_ends events last how (sym (run_from-lost (split_step.machine image) bounds ends.moves) ∙ ends.over))
  method_left (Some method) ends =
      answers_left_from-beginning (split_step.machine image) (λ (state : split_state.State). state.answers) (split_asks image) bounds (split_state.frame_cells method) 0 (split_run.start_state image method answers) events last how ends

  split_left : split_run.Runs image bounds answers events last how → let state = last.state in state.answers ≡ drop (asked events) answers
  split_left ends = method_left (split_state.method_at image image.main) ends

-- the run of a set leaves what it did not ask for, as that of its image does
set_left : SetsRunAlike → (files : List (List ℕ)) (linked : Linked) → IsAccepted files linked
    → (bounds : Bounds) (answers : Answers) (events : List Event) (last : Standing State) (how : Ends Ending)
    → Runs (world_of linked) bounds answers events last how → let state = last.state in state.answers ≡ drop (asked events) answers
set_left runs files linked accepted bounds answers events last how ends =
    let run = runs files linked accepted bounds answers in
    let world = world_of linked in
    let same = one_end (machine world) bounds (start_of world bounds answers) run.events events run.last last run.how how run.typed ends in
    let left = sym run.left ∙ split_left (image_in linked) bounds answers run.events run.other_last run.other_how run.split in
    sym (ap (λ (last : Standing State). let state = last.state in state.answers) same.1) ∙ left ∙ ap (λ events. drop (asked events) answers) same.0

-- ---- what is shown

same_asked : (events others : List Event) → shown events ≡ shown others → asked events ≡ asked others
same_asked events others same =
    sym (gets-dialogue_of false events)
    ∙ ap gets (dialogue_of-shown events ∙ ap (dialogue_of false) same ∙ sym (dialogue_of-shown others))
    ∙ gets-dialogue_of false others

want_is : (classes : List ClassFile) (how : Ends Ending) → account.is_want how ≡ is_want (ending_of classes how)
want_is classes (Ended Done) = refl
want_is classes (Ended (Uncaught class)) = refl
want_is classes Spent = refl
want_is classes (HeapWanted need live) = refl
want_is classes (StackWanted need used) = refl

abbrev outcome_with : SetEnding → List Item → Answers → Outcome SetEnding
outcome_with ending dialogue left = record { ending = ending; dialogue = dialogue; left = left }

same_parts : {ending other : SetEnding} {dialogue said : List Item} {left kept : Answers} → ending ≡ other → dialogue ≡ said → left ≡ kept
    → outcome_with ending dialogue left ≡ outcome_with other said kept
same_parts {ending} {other} {dialogue} {said} {left} {kept} ends says leaves =
    ap (λ ending. outcome_with ending dialogue left) ends
    ∙ ap (λ dialogue. outcome_with other dialogue left) says
    ∙ ap (λ left. outcome_with other said left) leaves

-- ---- both runs

module _ (once : LinkedOnce) (files : List (List ℕ)) (limits : Limits) (answers : Answers) where
  pub cut_said : (outcome unlimited : Outcome SetEnding) → LimitedRun files limits answers outcome → Run files limits.ticks answers unlimited
      → IsPrefix outcome.dialogue unlimited.dialogue
  cut_said outcome unlimited limited free =
      let linked = limited.linked in
      let run = run_of once files linked limited.of_files (without_limits (bounds_of limits)) answers unlimited free in
      let cuts = run_cut (world_of linked) (bounds_of limits) answers limited.events free.events limited.last free.last limited.how free.how limited.runs run.0 in
      let said = cuts.said in (
        dialogue_of false said.rest,
        ap (λ (outcome : Outcome SetEnding). outcome.dialogue) run.1
            ∙ dialogue_of-shown free.events
            ∙ ap (dialogue_of false) said.is
            ∙ dialogue_of-append false (shown limited.events) said.rest
            ∙ ap (λ items. items ++ dialogue_of false said.rest) (
            sym (dialogue_of-shown limited.events)
            ∙ sym (ap (λ (outcome : Outcome SetEnding). outcome.dialogue) limited.is)
            ),
      )

  pub cut_ends : AcceptedLinked → SetsRunAlike → (outcome : Outcome SetEnding) → LimitedRun files limits answers outcome → is_want outcome.ending ≡ false
      → Run files limits.ticks answers outcome
  cut_ends there runs outcome limited unwanted =
      let linked = limited.linked in
      let classes = linked.classes in
      let bounds = bounds_of limits in
      let accepted = accepted_set once there files linked limited.accepted limited.of_files in
      let free = runs files linked accepted (without_limits bounds) answers in
      let cuts = run_cut (world_of linked) bounds answers limited.events free.events limited.last free.last limited.how free.how limited.runs free.typed in
      let ends = ap (λ (outcome : Outcome SetEnding). is_want outcome.ending) limited.is in
      let same = cuts.ends (want_is classes limited.how ∙ sym ends ∙ unwanted) in
      let left = set_left runs files linked accepted bounds answers limited.events limited.last limited.how limited.runs
      ∙ ap (λ count. drop count answers) (same_asked limited.events free.events same.0)
      ∙ sym (set_left runs files linked accepted (without_limits bounds) answers free.events free.last free.how free.typed) in
      let dialogue = dialogue_of-shown limited.events ∙ ap (dialogue_of false) same.0 ∙ sym (dialogue_of-shown free.events) in
      record {
        accepted = limited.accepted;
        linked = linked;
        of_files = limited.of_files;
        events = free.events;
        last = free.last;
        how = free.how;
        runs = free.typed;
        is = limited.is ∙ same_parts (ap (ending_of classes) same.1) dialogue left;
      }
