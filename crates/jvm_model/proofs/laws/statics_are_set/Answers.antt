use Rattle.jvm_model.proofs.StaticsSet.{statics_kept, last_counts}
use Rattle.jvm_model.proofs.laws.statics_are_set.Goals as goal

pub returns-clause-kept : goal.returns-clause-kept
returns-clause-kept c = statics_kept

pub returns-clause-last : goal.returns-clause-last
returns-clause-last c = last_counts
