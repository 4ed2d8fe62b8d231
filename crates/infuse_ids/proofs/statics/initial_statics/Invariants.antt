-- The static fields of the classes so far are there.
use Rattle.std.proofs.Common.{◌≡◌, take}
use Rattle.std.specs.List.{flat_map}
use Rattle.jvm_model.specs.ImageNumbering.{class_fields}
use Rattle.infuse_ids.specs.Statics.{references_among, cells_among}
use Rattle.infuse_ids.proofs.statics.initial_statics.Given as goal

abbrev pub invariant-loop-class : goal.invariant-loop-class
invariant-loop-class l = record {
  refs : l.statics.refs ≡ references_among (flat_map (class_fields l.set) (take l.class-index l.order));
  cells : l.statics.cells.items ≡ cells_among l.set (flat_map (class_fields l.set) (take l.class-index l.order));
}
