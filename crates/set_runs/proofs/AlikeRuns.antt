-- The run of an accepted set and that of its image are alike.
use Rattle.std.proofs.Common.{◌≡◌, ℕ, List, sym, subst, ◌∙◌}
use Rattle.account.specs.Account.{Settled}
use Rattle.account.specs.Run.{EndsSo}
use Rattle.account.specs.RunLaws.{Quietly}
use Rattle.account.proofs.Ending.{measured_ends_from-beginning}
use Rattle.account.proofs.Following.{follows_from-beginning}
use Rattle.class_order.specs.Orders.{ClassOrderIsRight}
use Rattle.mote_model.specs.SplitMoves as split_moves
use Rattle.mote_model.specs.SplitState.{State as SplitState}
use Rattle.mote_model.specs.SplitStep as split_step
use Rattle.typed_machine.specs.TypedMoves.{Ending}
use Rattle.typed_machine.specs.TypedState.{State}
use Rattle.typed_machine.specs.TypedView.{machine}
use Rattle.type_safety.specs.Fitting.{StateFits}
use Rattle.type_safety.specs.Starts.{StartsFit}
use Rattle.type_safety.proofs.fitting.SetLists.{all_contained}
use Rattle.match_states.specs.Followed.{EndingsMatch, SplitFollows, StatesMatch}
use Rattle.match_states.specs.Setting.{Setting}
use Rattle.match_starts.proofs.StatesStart.{runs_start_alike}
use Rattle.body_limits.specs.Limits.{NumbersAreInRange}
use Rattle.run_measures.specs.Measured.{TypedIsMeasured}
use Rattle.set_image.specs.Linked.{Linked, bodies_of}
use Rattle.set_compile.specs.Compiled.{SetsCompile}
use Rattle.set_compile.specs.Settings.{setting_of, tables_of, world_of}
use Rattle.set_image.specs.LinkRefusals.{IsAccepted}
use Rattle.set_runs.specs.SetRuns.{SetsRunAlike}
use Rattle.set_runs.proofs.BuiltFollows.{built_follows}
use Rattle.set_runs.proofs.NoRefusals.{IsBuilt}
use Rattle.set_runs.proofs.SplitAnswers.{quiet_answers}
use Rattle.set_runs.proofs.WideSets.{compiled, start, unrefused, wide_code}

-- as many answers are left in states that match, also behind quiet moves
answers_left : (setting : Setting) (state : State) (from last : SplitState) → StatesMatch setting state from → Quietly (split_step.machine setting.image) from last → last.answers ≡ state.answers
answers_left setting state from last match quiet = quiet_answers setting.image from last quiet ∙ match.answers

module _ (orders : ClassOrderIsRight) (compile : SetsCompile) (ranges : NumbersAreInRange) (starts : StartsFit) (measured : TypedIsMeasured) where
  split_follows : (files : List (List ℕ)) (linked : Linked) → IsAccepted files linked → SplitFollows (setting_of linked)
  split_follows files linked accepted =
      let none = unrefused orders compile ranges starts files linked accepted in
      built_follows (setting_of linked) (wide_code orders compile ranges starts files linked accepted) accepted.of_files.is_linked.are_bodies (all_contained IsBuilt (bodies_of linked) none.built) none.counts

  -- both begin alike, the typed run ends, and so the other one ends as it does
  pub sets_run_alike : SetsRunAlike
  sets_run_alike files linked accepted bounds answers =
      let setting = setting_of linked in
      let world = world_of linked in
      let tables = tables_of linked in
      let is = compiled orders compile ranges starts files linked accepted in
      let first = runs_start_alike setting is (start orders compile ranges starts files linked accepted) bounds answers in
      let ends = measured_ends_from-beginning (machine world) (StateFits world tables) (measured world tables is.typed) bounds first.cells 0 first.state first.match.fits in
      let other =
      follows_from-beginning (machine world) (split_step.machine setting.image) (StatesMatch setting) (EndingsMatch setting) (split_follows files linked accepted) bounds first.cells 0 first.state first.other ends.events ends.last ends.how first.match ends.ends in
      record {
        events = ends.events;
        last = ends.last;
        how = ends.how;
        typed = subst (λ (beginning : Settled State Ending). EndsSo (machine world) bounds beginning ends.events ends.last ends.how) (sym first.begins_typed) ends.ends;
        other_last = other.other_last;
        other_how = other.other_how;
        split = subst (λ (beginning : Settled SplitState split_moves.Ending). EndsSo (split_step.machine setting.image) bounds beginning ends.events other.other_last other.other_how) (sym first.begins_split) other.ends;
        alike = other.alike;
        used = other.used;
        ticks = other.ticks;
        left = answers_left setting ends.last.state other.from other.other_last.state other.related other.quiet;
      }
