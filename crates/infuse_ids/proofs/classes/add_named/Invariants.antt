-- What the entries so far name is there.
use Rattle.std.proofs.Common.{◌≡◌, ◌++◌, map, take}
use Rattle.std.specs.List.{filter_map}
use Rattle.class_tree.specs.Set.{own_name, named_among}
use Rattle.infuse_ids.proofs.classes.add_named.Given as goal

abbrev pub invariant-loop-index : goal.invariant-loop-index
invariant-loop-index l = l.uppers.items ≡ l.fn.uppers.items ++ filter_map (named_among (map own_name l.set) l.file) (take l.index-index l.indexes)
