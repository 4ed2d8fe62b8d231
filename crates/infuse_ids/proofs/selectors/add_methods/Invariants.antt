-- The selectors of the methods so far are there.
use Rattle.std.proofs.Common.{◌≡◌, filter, map, take}
use Rattle.std.specs.List.{fold}
use Rattle.class_tree.specs.Members.{in_file}
use Rattle.jvm_model.specs.ImageNumbering.{is_selected, with_selector}
use Rattle.infuse_ids.proofs.selectors.add_methods.Given as goal

abbrev pub invariant-loop-method : goal.invariant-loop-method
invariant-loop-method l = l.selectors ≡ fold with_selector l.fn.selectors (filter is_selected (map (in_file l.pool) (take l.method-index l.methods)))
