use Rattle.std.proofs.Common.{◌≡◌, map, take}
use Rattle.class_tree.specs.Members.{in_file}
use Rattle.class_tree.specs.MemberIndex.{member_key}
use Rattle.class_tree.proofs.member_index.keys_of.Given as goal

abbrev pub invariant-loop-member : goal.invariant-loop-member
invariant-loop-member l = l.keys.keys ≡ map (member_key l.texts) (map (in_file l.pool) (take l.member-index l.members))
