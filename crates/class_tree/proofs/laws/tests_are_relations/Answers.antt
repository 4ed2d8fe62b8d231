use Rattle.class_tree.proofs.lookups.TestedAccess.{subclass_says, allowed_says}
use Rattle.class_tree.proofs.laws.tests_are_relations.Goals as goal

pub returns-clause-subclass : goal.returns-clause-subclass
returns-clause-subclass c = subclass_says

pub returns-clause-allowed : goal.returns-clause-allowed
returns-clause-allowed c = allowed_says
