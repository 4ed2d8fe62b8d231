use Rattle.std.proofs.Common.{◌≡◌, drop}
use Rattle.class_tree.specs.Scan.{first_refusal}
use Rattle.class_tree.specs.Supers.{super_fault, supers_refusal}
use Rattle.class_tree.proofs.supers.test_supers.Given as goal

abbrev pub invariant-loop-position : goal.invariant-loop-position
invariant-loop-position l = first_refusal (super_fault l.names l.files) l.position (drop l.position l.files) ≡ supers_refusal l.names l.files
