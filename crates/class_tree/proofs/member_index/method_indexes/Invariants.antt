use Rattle.std.proofs.Common.{take}
use Rattle.class_tree.specs.MemberIndex.{own_methods, AreIndexes}
use Rattle.class_tree.proofs.member_index.method_indexes.Given as goal

abbrev pub invariant-loop-file : goal.invariant-loop-file
invariant-loop-file l = AreIndexes own_methods (take l.file-index l.files) l.indexes.items
