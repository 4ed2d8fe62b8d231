use Rattle.jvm_model.specs.Linking.{ClassLinks}
use Rattle.jvm_model.proofs.phases.Scans.{Decides}
use Rattle.body_make.proofs.ClassBodies.{CompletesClasses}
use Rattle.body_make.proofs.set_bodies.linked_bodies.Given as goal

-- what is found in the classes that are left is found in all, and their bodies complete those that are had
abbrev pub invariant-loop-position : goal.invariant-loop-position
invariant-loop-position l = record {
  decides : Decides (ClassLinks l.set) l.set l.position;
  completes : CompletesClasses l.set l.position l.bodies.items;
}
