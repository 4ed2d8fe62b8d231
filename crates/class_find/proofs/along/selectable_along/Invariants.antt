use Rattle.std.proofs.Common.{◌≡◌, drop}
use Rattle.class_tree.specs.Upwards.{first_answer}
use Rattle.class_tree.specs.Members.{method_passing}
use Rattle.class_tree.specs.Selection.{is_selectable}
use Rattle.class_find.proofs.along.selectable_along.Given as goal

abbrev pub invariant-loop-class : goal.invariant-loop-class
invariant-loop-class l = first_answer (method_passing is_selectable l.set l.name l.descriptor) (drop l.class-index l.way) ≡ first_answer (method_passing is_selectable l.set l.name l.descriptor) l.way
