-- The methods of the classes so far are there.
use Rattle.std.proofs.Common.{◌≡◌, take}
use Rattle.infuse_ids.specs.Orders.{methods_over}
use Rattle.infuse_ids.proofs.bodies.method_order.Given as goal

abbrev pub invariant-loop-class : goal.invariant-loop-class
invariant-loop-class l = l.methods ≡ methods_over (take l.class-index l.order) l.bodies
