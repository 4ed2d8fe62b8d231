use Rattle.body_form.proofs.Starts.{successors_from}
use Rattle.body_form.proofs.flow.successors.Goals as goal

pub returns-in-Some : goal.returns-in-Some
returns-in-Some c =
    let found = c.in-Some.ensures.found in
    rw (successors_from c.args.body.now.ops c.as_slice.result.now c.as_slice.ensures.rise c.as_slice.ensures.all c.in-Some.position c.args.at found.0 found.1) at c.lead_from.ensures
