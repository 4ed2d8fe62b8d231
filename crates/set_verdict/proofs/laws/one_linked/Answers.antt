use Rattle.set_verdict.proofs.OneLinked.{one_linked}
use Rattle.set_verdict.proofs.SetVerdicts.{accepted_linked}
use Rattle.set_verdict.proofs.laws.one_linked.Goals as goal

pub returns-clause-unique : goal.returns-clause-unique
returns-clause-unique c = one_linked

pub returns-clause-linked : goal.returns-clause-linked
returns-clause-linked c = accepted_linked
