use Rattle.std.proofs.Common.{◌≡◌, ◌++◌, take}
use Rattle.std.specs.List.{flat_map}
use Rattle.class_file.specs.declared.record.Member.{Member}
use Rattle.class_file.specs.Layout.{member_bytes}
use Rattle.class_make.specs.Written.{member_layout}
use Rattle.class_make.proofs.write.append_each.Given as goal

-- the bytes of the members so far
abbrev pub invariant-loop-member : goal.invariant-loop-member
invariant-loop-member l =
    l.out.items ≡ l.initial.out.items ++ flat_map (λ (m : Member). member_bytes (member_layout l.names.value l.names.code m)) (take l.member-index l.members)
