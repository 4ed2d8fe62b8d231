use Rattle.std.proofs.Common.{◌≡◌, ◌-◌, drop}
use Rattle.jvm_model.specs.Phases.{first_refusal}
use Rattle.jvm_model.specs.Linking.{initialiser_refusal}
use Rattle.body_make.proofs.initialisers.test_initialisers.Given as goal

abbrev pub invariant-loop-member : goal.invariant-loop-member
invariant-loop-member l = first_refusal (initialiser_refusal (l.class - 32) l.file) l.member (drop l.member l.methods) ≡ first_refusal (initialiser_refusal (l.class - 32) l.file) 0 l.methods
