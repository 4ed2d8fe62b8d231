-- The types of the classes so far are there.
use Rattle.std.proofs.Common.{◌≡◌, take}
use Rattle.infuse_ids.specs.Orders.{class_types}
use Rattle.infuse_ids.proofs.bodies.class_types.Given as goal

abbrev pub invariant-loop-class : goal.invariant-loop-class
invariant-loop-class l = l.types ≡ class_types (take l.class-index l.order)
