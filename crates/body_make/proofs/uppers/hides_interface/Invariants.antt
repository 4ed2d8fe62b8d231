use Rattle.std.proofs.Common.{◌≡◌, ℕ, ◌+◌, ◌<◌, false, ◌&&◌}
use Rattle.class_tree.specs.AccessTests.{is_subclass}
use Rattle.jvm_model.specs.Overrides.{hides_methods_of}
use Rattle.body_make.proofs.uppers.hides_interface.Given as goal

abbrev pub invariant-loop-position : goal.invariant-loop-position
invariant-loop-position l = (k : ℕ) → k < 32 + l.position → (is_subclass l.set l.class k && hides_methods_of l.set l.class k) ≡ false
