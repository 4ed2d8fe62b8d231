use Rattle.set_verdict.proofs.SetVerdicts.{phase_functions, verdict_total, verdict_unique, image_there, image_is_one}
use Rattle.set_verdict.proofs.laws.one_verdict.Goals as goal

pub returns-clause-phases : goal.returns-clause-phases
returns-clause-phases c = phase_functions

pub returns-clause-total : goal.returns-clause-total
returns-clause-total c = verdict_total

pub returns-clause-unique : goal.returns-clause-unique
returns-clause-unique c = verdict_unique

pub returns-clause-image : goal.returns-clause-image
returns-clause-image c = image_there

pub returns-clause-one_image : goal.returns-clause-one_image
returns-clause-one_image c = image_is_one
