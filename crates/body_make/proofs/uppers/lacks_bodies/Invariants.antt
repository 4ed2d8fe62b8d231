use Rattle.std.proofs.Common.{◌≡◌, ℕ, ◌+◌, ◌<◌, false, ◌&&◌}
use Rattle.std.specs.List.{list_any}
use Rattle.class_tree.specs.Members.{methods_of}
use Rattle.class_tree.specs.AccessTests.{is_subclass}
use Rattle.jvm_model.specs.Overrides.{lacks_body}
use Rattle.body_make.proofs.uppers.lacks_bodies.Given as goal

abbrev pub invariant-loop-position : goal.invariant-loop-position
invariant-loop-position l = (k : ℕ) → k < 32 + l.position → (is_subclass l.set l.class k && list_any (lacks_body l.set l.class) (methods_of l.set k)) ≡ false
