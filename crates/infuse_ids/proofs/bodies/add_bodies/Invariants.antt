-- The types that the bodies so far show are there.
use Rattle.std.proofs.Common.{◌≡◌, take}
use Rattle.std.specs.List.{fold}
use Rattle.jvm_model.specs.ImageNumbering.{with_body}
use Rattle.infuse_ids.proofs.bodies.add_bodies.Given as goal

abbrev pub invariant-loop-body : goal.invariant-loop-body
invariant-loop-body l = l.types ≡ fold with_body l.fn.types (take l.body-index l.bodies)
