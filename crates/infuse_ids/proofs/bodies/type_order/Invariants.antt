-- The types that the bodies of the classes so far show are there.
use Rattle.std.proofs.Common.{◌≡◌, take}
use Rattle.std.specs.List.{fold, flat_map}
use Rattle.jvm_model.specs.ImageNumbering.{with_body}
use Rattle.infuse_ids.specs.Orders.{class_types, bodies_of_class}
use Rattle.infuse_ids.proofs.bodies.type_order.Given as goal

abbrev pub invariant-loop-class : goal.invariant-loop-class
invariant-loop-class l = l.types ≡ fold with_body (class_types l.order) (flat_map (bodies_of_class l.bodies) (take l.class-index l.order))
