use Rattle.set_runs.proofs.AlikeRuns.{sets_run_alike}
use Rattle.set_runs.proofs.sets_run_alike.Goals as goal

pub returns : goal.returns
returns c =
    sets_run_alike c.class_order_is_right.ensures c.sets_compile.ensures c.bodies_keep_limits.ensures.ranges c.typed_code_starts.ensures
    c.runs_are_measured.ensures.typed
