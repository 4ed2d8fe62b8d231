use Rattle.mote_call.proofs.QuietTurns.{over_console}
use Rattle.mote_call.proofs.step.step_call.Goals as goal

pub returns-in-Ret : goal.returns-in-Ret
returns-in-Ret g c =
    let C = g.C.Console in
    over_console C.left C.shown C.noted C.faults C.room g.shown c.args.mote.now c.step_return.new.mote c.args.console.now c.args.left.now c.args.left.now c.step_return.result (c.step_return.ensures c.args.left.now)

pub returns-in-None : goal.returns-in-None
returns-in-None g c =
    let C = g.C.Console in
    over_console C.left C.shown C.noted C.faults C.room g.shown c.args.mote.now c.call_own.new.mote c.args.console.now c.args.left.now c.call_own.new.left c.call_own.result c.call_own.ensures
