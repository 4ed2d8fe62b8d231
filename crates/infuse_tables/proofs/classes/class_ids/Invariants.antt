-- the ids of the classes so far
use Rattle.std.proofs.Common.{◌≡◌, map, take}
use Rattle.jvm_model.specs.ImageTables.{class_id}
use Rattle.jvm_model.specs.NumberedIds.{numbers_of}
use Rattle.infuse_tables.proofs.classes.class_ids.Given as goal

abbrev pub invariant-loop-class : goal.invariant-loop-class
invariant-loop-class l = l.list.items ≡ map (class_id (numbers_of l.ids)) (take l.class-index l.classes)
