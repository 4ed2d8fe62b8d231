-- The fields of the classes so far have their places.
use Rattle.std.proofs.Common.{take}
use Rattle.std.specs.List.{flat_map}
use Rattle.jvm_model.specs.ImageNumbering.{class_fields}
use Rattle.infuse_ids.specs.Places.{ArePlaced}
use Rattle.infuse_ids.proofs.places.places.Given as goal

abbrev pub invariant-loop-class : goal.invariant-loop-class
invariant-loop-class l = ArePlaced l.set (flat_map (class_fields l.set) (take l.class-index l.class-items)) l.counts.statics l.places
