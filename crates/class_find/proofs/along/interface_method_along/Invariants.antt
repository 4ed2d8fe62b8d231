use Rattle.std.proofs.Common.{◌≡◌, drop}
use Rattle.class_tree.specs.Upwards.{first_answer}
use Rattle.class_tree.specs.InterfaceLookup.{interface_method_in}
use Rattle.class_find.proofs.along.interface_method_along.Given as goal

abbrev pub invariant-loop-interface : goal.invariant-loop-interface
invariant-loop-interface l = first_answer (interface_method_in l.set l.name l.descriptor) (drop l.interface-index l.way) ≡ first_answer (interface_method_in l.set l.name l.descriptor) l.way
