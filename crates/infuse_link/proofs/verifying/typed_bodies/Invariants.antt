-- the methods of the bodies that are left, and the bodies so far with their types
use Rattle.std.proofs.Common.{◌≡◌, drop, map, take}
use Rattle.std.specs.List.{AllByRecursion}
use Rattle.infuse_link.specs.Stages.{IsVerified}
use Rattle.infuse_link.proofs.TypedBodies.{Remain}
use Rattle.infuse_link.proofs.verifying.typed_bodies.Given as goal

abbrev pub invariant-loop-body : goal.invariant-loop-body
invariant-loop-body l =
    record {
      left : Remain l.set (drop l.body-index l.bodies);
      so_far : map (λ one. one.body.now) l.typed.items ≡ take l.body-index l.bodies;
      types : AllByRecursion (IsVerified l.set) l.typed.items;
    }
