use Rattle.std.proofs.Common.{◌≡◌, take}
use Rattle.class_tree.specs.Ways.{seen_after}
use Rattle.class_tree.proofs.way.Way.extend.Given as goal

abbrev pub invariant-loop-class : goal.invariant-loop-class
invariant-loop-class l = l.self-inside.classes.keys ≡ seen_after l.fn.self (take l.class-index l.classes)
