-- The selectors of the classes so far are there.
use Rattle.std.proofs.Common.{◌≡◌, [], filter, take}
use Rattle.std.specs.List.{fold, flat_map}
use Rattle.class_tree.specs.Members.{methods_of}
use Rattle.jvm_model.specs.ImageNumbering.{is_selected, with_selector}
use Rattle.infuse_ids.proofs.selectors.selector_order.Given as goal

abbrev pub invariant-loop-class : goal.invariant-loop-class
invariant-loop-class l = l.selectors ≡ fold with_selector [] (filter is_selected (flat_map (methods_of l.set) (take l.class-index l.order)))
