use Rattle.image_form.proofs.faults.Prefixes.{prefixes_are_truncated, faults_hold, prefixes_of_faults, prefixes_of_truncated, none_begins}
use Rattle.image_form.proofs.laws.prefixes_decide.Goals as goal

pub returns-clause-cut : goal.returns-clause-cut
returns-clause-cut c = prefixes_are_truncated

pub returns-clause-holds : goal.returns-clause-holds
returns-clause-holds c = faults_hold

pub returns-clause-none : goal.returns-clause-none
returns-clause-none c = none_begins

pub returns-clause-first : goal.returns-clause-first
returns-clause-first c = prefixes_of_faults

pub returns-clause-truncated : goal.returns-clause-truncated
returns-clause-truncated c = prefixes_of_truncated
