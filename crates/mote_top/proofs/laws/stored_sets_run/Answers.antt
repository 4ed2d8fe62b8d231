use Rattle.mote_top.proofs.replies.Lasting.{stored_runs}
use Rattle.mote_top.proofs.laws.stored_sets_run.Goals as goal

pub returns : goal.returns
returns c = stored_runs
