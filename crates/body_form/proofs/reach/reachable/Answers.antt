use Rattle.std.proofs.Common.{rules}
use Rattle.body_form.proofs.Reaching.{tells_all}
use Rattle.body_form.proofs.reach.reachable.Goals as goal

pub returns-clause-flags : goal.returns-clause-flags
returns-clause-flags c =
    tells_all c.args.body.now c.as_slice-2.ensures.rise c.as_slice-2.result.now c.as_slice-3.result.now c.reached.result c.as_slice-2.ensures.all (search rules) c.reached.ensures
