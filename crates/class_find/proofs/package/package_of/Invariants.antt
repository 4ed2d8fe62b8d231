use Rattle.std.proofs.Common.{◌≡◌, ◌≤◌, take}
use Rattle.class_tree.specs.Access.{package_of}
use Rattle.class_find.proofs.package.package_of.Given as goal

abbrev pub invariant-loop-position : goal.invariant-loop-position
invariant-loop-position l = record { before : take l.end l.name ≡ package_of (take l.position l.name); within : l.end ≤ l.position }
