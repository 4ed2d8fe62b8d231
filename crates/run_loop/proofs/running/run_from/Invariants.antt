use Rattle.std.proofs.Common.{◌≡◌}
use Rattle.run_loop.proofs.Coming.{Coming, measure}
use Rattle.run_loop.proofs.ReadBack.{seen}
use Rattle.run_loop.proofs.running.run_from.Given as goal

abbrev pub ghost-step : goal.ghost-step
ghost-step g a = seen g.start a.mote.now

-- the run has come so far, and there were no collections
abbrev pub invariant-loop-ending : goal.invariant-loop-ending
invariant-loop-ending g l =
    let console = g.C.Console in
    record {
      coming : Coming console.left console.shown console.noted console.faults console.room g.start l.fn.ticks l.fn.console l.console l.mote l.left;
      collections : l.mote.collections ≡ l.fn.mote.collections;
    }

abbrev pub decreases-loop-ending : goal.decreases-loop-ending
decreases-loop-ending g l = measure g.start l.mote l.left
