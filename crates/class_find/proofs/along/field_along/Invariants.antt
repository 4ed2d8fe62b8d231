use Rattle.std.proofs.Common.{◌≡◌, drop}
use Rattle.class_tree.specs.Upwards.{first_answer}
use Rattle.class_tree.specs.Members.{field_in}
use Rattle.class_find.proofs.along.field_along.Given as goal

abbrev pub invariant-loop-class : goal.invariant-loop-class
invariant-loop-class l = first_answer (field_in l.set l.name l.descriptor) (drop l.class-index l.way) ≡ first_answer (field_in l.set l.name l.descriptor) l.way
