use Rattle.flow_verify.proofs.waves.RoundSteps.{IsBefore}
use Rattle.flow_verify.proofs.rounds.infer.Given as goal

abbrev pub invariant-loop-round : goal.invariant-loop-round
invariant-loop-round l = IsBefore l.set l.body l.round l.frames l.wave.items
