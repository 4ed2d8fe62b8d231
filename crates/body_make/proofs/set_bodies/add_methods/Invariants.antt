use Rattle.std.proofs.Common.{◌-◌}
use Rattle.jvm_model.specs.Linking.{MethodNames}
use Rattle.jvm_model.proofs.phases.Scans.{Decides}
use Rattle.body_make.proofs.ClassBodies.{CompletesMethods}
use Rattle.body_make.proofs.set_bodies.add_methods.Given as goal

-- what is found in the methods that are left is found in all, and their bodies complete those that are had
abbrev pub invariant-loop-member : goal.invariant-loop-member
invariant-loop-member l = record {
  decides : Decides (MethodNames l.set (l.class - 32) l.file) l.methods l.member;
  completes : CompletesMethods l.set l.class l.file l.methods l.member l.initial.bodies.items l.bodies.items;
}
