use Rattle.class_tree.proofs.OneAnswer.{gathers_total, gathers_unique}
use Rattle.class_tree.proofs.laws.one_answer.Goals as goal

pub returns-clause-total : goal.returns-clause-total
returns-clause-total c = gathers_total

pub returns-clause-unique : goal.returns-clause-unique
returns-clause-unique c = gathers_unique
