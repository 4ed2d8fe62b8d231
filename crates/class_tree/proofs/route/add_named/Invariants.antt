use Rattle.std.proofs.Common.{◌≡◌, take}
use Rattle.std.specs.List.{filter_map}
use Rattle.class_tree.specs.Set.{named_among}
use Rattle.class_tree.specs.Ways.{seen_after}
use Rattle.class_tree.proofs.route.add_named.Given as goal

abbrev pub invariant-loop-index : goal.invariant-loop-index
invariant-loop-index l = l.way ≡ seen_after l.fn.way (filter_map (named_among l.names l.file) (take l.index-index l.indexes))
