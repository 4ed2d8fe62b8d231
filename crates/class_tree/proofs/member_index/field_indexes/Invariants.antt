use Rattle.std.proofs.Common.{take}
use Rattle.class_tree.specs.MemberIndex.{own_fields, AreIndexes}
use Rattle.class_tree.proofs.member_index.field_indexes.Given as goal

abbrev pub invariant-loop-file : goal.invariant-loop-file
invariant-loop-file l = AreIndexes own_fields (take l.file-index l.files) l.indexes.items
