-- The classes of the files so far have their numbers.
use Rattle.std.proofs.Common.{◌≡◌, []}
use Rattle.std.specs.List.{fold, range_with_len}
use Rattle.library.specs.Classes.{first_own}
use Rattle.class_tree.specs.DirectSupers.{class_count}
use Rattle.jvm_model.specs.ImageNumbering.{number_class}
use Rattle.infuse_ids.proofs.classes.class_order.Given as goal

abbrev pub invariant-loop-position : goal.invariant-loop-position
invariant-loop-position l = l.order.keys ≡ fold (number_class l.set (class_count l.set)) [] (range_with_len first_own l.position)
