use Rattle.std.proofs.Common.{◌≡◌, drop}
use Rattle.class_tree.specs.Scan.{first_refusal}
use Rattle.class_tree.specs.Descriptors.{fault_at, member_refusal}
use Rattle.class_tree.proofs.descriptors.first_member.Given as goal

abbrev pub invariant-loop-position : goal.invariant-loop-position
invariant-loop-position l =
    first_refusal (member_refusal (fault_at l.faults) l.file l.value) l.position (drop l.position l.members) ≡ first_refusal (member_refusal (fault_at l.faults) l.file l.value) 0 l.members
