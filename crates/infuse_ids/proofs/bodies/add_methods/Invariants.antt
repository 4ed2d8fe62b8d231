-- The methods of the bodies so far are there.
use Rattle.std.proofs.Common.{◌≡◌, ◌++◌, map, take}
use Rattle.infuse_ids.specs.Orders.{method_of_body}
use Rattle.infuse_ids.proofs.bodies.add_methods.Given as goal

abbrev pub invariant-loop-body : goal.invariant-loop-body
invariant-loop-body l = l.methods ≡ l.fn.methods ++ map method_of_body (take l.body-index l.bodies)
