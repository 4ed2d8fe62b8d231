use Rattle.expansion.proofs.Alike.{alike}
use Rattle.expansion.proofs.ExpansionSizes.{size_is}
use Rattle.expansion.proofs.Limits.{limits_kept}
use Rattle.expansion.proofs.Rows.{rows_told}
use Rattle.expansion.proofs.laws.expansion_hangs_on_what_it_names.Goals as goal

pub returns-clause-alike : goal.returns-clause-alike
returns-clause-alike c = alike

pub returns-clause-rows : goal.returns-clause-rows
returns-clause-rows c = rows_told

pub returns-clause-limits : goal.returns-clause-limits
returns-clause-limits c = limits_kept

pub returns-clause-sizes : goal.returns-clause-sizes
returns-clause-sizes c = size_is
