use Rattle.set_outcome.proofs.CutOutcomes.{cut_ends, cut_said}
use Rattle.set_outcome.proofs.laws.limits_cut.Goals as goal

pub returns-clause-said : goal.returns-clause-said
returns-clause-said c files limits answers = cut_said c.one_linked.ensures.unique files limits answers

pub returns-clause-ends : goal.returns-clause-ends
returns-clause-ends c files limits answers =
    let linked = c.one_linked.ensures in
    cut_ends linked.unique files limits answers linked.linked c.sets_run_alike.ensures
