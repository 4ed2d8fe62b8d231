use Rattle.type_rounds.proofs.Rounds.{quiet_is_least, failing_has_no_right, rounds_end, one_failing, one_least}
use Rattle.type_rounds.proofs.laws.rounds_find_the_least.Goals as goal

pub returns-clause-quiet : goal.returns-clause-quiet
returns-clause-quiet c = quiet_is_least

pub returns-clause-failing : goal.returns-clause-failing
returns-clause-failing c = failing_has_no_right

pub returns-clause-end : goal.returns-clause-end
returns-clause-end c = rounds_end

pub returns-clause-one_failing : goal.returns-clause-one_failing
returns-clause-one_failing c = one_failing

pub returns-clause-one_least : goal.returns-clause-one_least
returns-clause-one_least c = one_least
