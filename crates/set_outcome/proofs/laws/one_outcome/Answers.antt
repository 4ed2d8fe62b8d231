use Rattle.set_outcome.specs.ImageOutcome.{bounds_of}
use Rattle.std.specs.Prelude.{None}
use Rattle.set_outcome.proofs.OneOutcome.{image_run_is_one, run_is_one, set_runs}
use Rattle.set_outcome.proofs.laws.one_outcome.Goals as goal

pub returns-clause-runs : goal.returns-clause-runs
returns-clause-runs c files accepted ticks answers =
    let linked = c.one_linked.ensures in
    set_runs linked.unique linked.linked c.sets_run_alike.ensures files accepted (record { heap = None; stack = None; ticks = ticks }) answers

pub returns-clause-run_is_one : goal.returns-clause-run_is_one
returns-clause-run_is_one c files ticks answers = run_is_one c.one_linked.ensures.unique files (record { heap = None; stack = None; ticks = ticks }) answers

pub returns-clause-runs_limited : goal.returns-clause-runs_limited
returns-clause-runs_limited c files accepted limits answers =
    let linked = c.one_linked.ensures in
    set_runs linked.unique linked.linked c.sets_run_alike.ensures files accepted (bounds_of limits) answers

pub returns-clause-limited_run_is_one : goal.returns-clause-limited_run_is_one
returns-clause-limited_run_is_one c files limits answers = run_is_one c.one_linked.ensures.unique files (bounds_of limits) answers

pub returns-clause-image_run_is_one : goal.returns-clause-image_run_is_one
returns-clause-image_run_is_one c = image_run_is_one
