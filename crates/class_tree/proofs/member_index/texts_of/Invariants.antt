use Rattle.std.proofs.Common.{map, take}
use Rattle.std.specs.List.{AllByRecursion}
use Rattle.class_tree.specs.Members.{in_file}
use Rattle.class_tree.specs.MemberIndex.{IsAmong}
use Rattle.class_tree.proofs.member_index.texts_of.Given as goal

abbrev pub invariant-loop-member : goal.invariant-loop-member
invariant-loop-member l = AllByRecursion (IsAmong l.texts) (map (in_file l.pool) (take l.member-index l.members))
