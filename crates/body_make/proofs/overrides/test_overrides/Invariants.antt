use Rattle.std.proofs.Common.{◌≡◌, ◌-◌, drop}
use Rattle.jvm_model.specs.Phases.{first_refusal}
use Rattle.jvm_model.specs.Linking.{override_refusal}
use Rattle.body_make.proofs.overrides.test_overrides.Given as goal

abbrev pub invariant-loop-member : goal.invariant-loop-member
invariant-loop-member l =
    first_refusal (override_refusal l.set (l.class - 32) l.file) l.member (drop l.member l.methods)
    ≡ first_refusal (override_refusal l.set (l.class - 32) l.file) 0 l.methods
