use Rattle.mote_stack.proofs.Filling.{Filling}
use Rattle.mote_stack.proofs.tests.fill.Given as goal

abbrev pub invariant-loop-at : goal.invariant-loop-at
invariant-loop-at l = Filling l.size l.at l.region
