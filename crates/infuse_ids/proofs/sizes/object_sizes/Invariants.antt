-- The sizes of the classes so far are there.
use Rattle.std.proofs.Common.{◌≡◌, map, take}
use Rattle.jvm_model.specs.ImageNumbering.{layout_of}
use Rattle.infuse_ids.specs.Sizes.{sized}
use Rattle.infuse_ids.proofs.sizes.object_sizes.Given as goal

abbrev pub invariant-loop-class : goal.invariant-loop-class
invariant-loop-class l = map sized l.sizes.items ≡ map (layout_of l.set) (take l.class-index l.order.keys)
