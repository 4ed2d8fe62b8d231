-- Each call numbers what stands above from one level fewer.
use Rattle.std.proofs.Common.{◌≡◌, ◌-◌, take}
use Rattle.std.specs.List.{fold}
use Rattle.jvm_model.specs.ImageNumbering.{number_class}
use Rattle.infuse_ids.proofs.classes.+number_class.Given as goal

abbrev pub decreases-number_class : goal.decreases-number_class
decreases-number_class l = l.levels

abbrev pub invariant-loop-upper : goal.invariant-loop-upper
invariant-loop-upper l = l.order.keys ≡ fold (number_class l.set (l.levels - 1)) l.fn.order.keys (take l.upper-index l.upper-items)
