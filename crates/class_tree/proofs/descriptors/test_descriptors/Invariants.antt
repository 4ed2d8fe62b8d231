use Rattle.std.proofs.Common.{◌≡◌, drop}
use Rattle.class_tree.specs.Scan.{first_refusal}
use Rattle.class_tree.specs.Descriptors.{file_refusal, declared_refusal}
use Rattle.class_tree.proofs.descriptors.test_descriptors.Given as goal

abbrev pub invariant-loop-position : goal.invariant-loop-position
invariant-loop-position l = first_refusal (file_refusal l.names) l.position (drop l.position l.files) ≡ declared_refusal l.names l.files
