-- What the methods from here on set comes behind what is set so far.
use Rattle.std.proofs.Common.{◌≡◌, drop}
use Rattle.std.specs.Option.{option_or}
use Rattle.class_tree.specs.Members.{Declaration}
use Rattle.jvm_model.specs.InitialStatics.{writes_of, last_write}
use Rattle.infuse_ids.specs.Writes.{last_set}
use Rattle.infuse_ids.proofs.writes.last_writes.Given as goal

abbrev pub invariant-loop-method : goal.invariant-loop-method
invariant-loop-method l = (field : Declaration)
    → option_or (last_write field (writes_of l.pool (drop l.method-index l.methods))) (last_set l.writes field.name field.descriptor) ≡ last_write field (writes_of l.pool l.methods)
