use Rattle.mote_exec.proofs.ChangedLocals.{cleared_there, clears}
use Rattle.mote_exec.proofs.locals.clear.Goals as goal

pub set_ref_local-requires-clause-there : goal.set_ref_local-requires-clause-there
set_ref_local-requires-clause-there g c =
    let memory = c.args.mote.now in
    cleared_there g.shown memory memory c.args.local c.args.next c.requires

pub returns : goal.returns
returns g c =
    let memory = c.args.mote.now in
    rw c.set_ref_local.ensures.on (clears g.shown memory c.set_ref_local.new.mote c.args.local c.args.next c.requires c.set_ref_local.ensures.stepped)
