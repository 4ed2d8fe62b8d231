-- The rules of instructions ask for the locals that they name.
use Rattle.flow_split.proofs.RightNames.{right_names}
use Rattle.flow_split.proofs.laws.right_types_name_locals.Goals as goal

pub returns : goal.returns
returns c = right_names
