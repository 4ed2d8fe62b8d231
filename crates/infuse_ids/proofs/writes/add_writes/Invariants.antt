-- What the pairs from here on set comes behind what is set so far.
use Rattle.std.proofs.Common.{◌≡◌, None, drop, option_map}
use Rattle.std.specs.Option.{option_or}
use Rattle.class_tree.specs.Members.{Declaration}
use Rattle.jvm_model.specs.InitialStatics.{writes_from, last_write}
use Rattle.infuse_ids.specs.Writes.{last_set, pushed_of}
use Rattle.infuse_ids.proofs.writes.add_writes.Given as goal

abbrev pub invariant-loop-x : goal.invariant-loop-x
invariant-loop-x l = (field : Declaration)
    → option_or (last_write field (writes_from l.pool (option_map pushed_of l.held) (drop l.x-index l.insns))) (last_set l.writes field.name field.descriptor)
    ≡ option_or (last_write field (writes_from l.pool None l.insns)) (last_set l.fn.writes field.name field.descriptor)
