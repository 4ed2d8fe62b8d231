use Rattle.infuse_ids.proofs.ObjectFields.{fields_by_superclass}
use Rattle.infuse_ids.proofs.laws.fields_come_from_superclasses.Goals as goal

pub returns : goal.returns
returns c = fields_by_superclass
