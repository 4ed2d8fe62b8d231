use Rattle.std.proofs.Common.{◌≡◌, drop, map, take}
use Rattle.class_tree.specs.Set.{own_name}
use Rattle.class_tree.specs.Names.{name_fault, names_refusal}
use Rattle.class_tree.specs.Scan.{first_refusal}
use Rattle.class_tree.proofs.names.names_of.Given as goal

abbrev pub invariant-loop-file : goal.invariant-loop-file
invariant-loop-file l = record {
  named : l.names ≡ map own_name (take l.file l.files);
  scanned : first_refusal (name_fault l.files) l.file (drop l.file l.files) ≡ names_refusal l.files;
}
