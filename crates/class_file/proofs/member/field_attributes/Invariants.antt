use Rattle.std.proofs.Common.{◌≡◌, ◌-◌, None}
use Rattle.byte_read.specs.Reading.{steps_at}
use Rattle.class_file.specs.ReadingMembers.{field_attribute_at}
use Rattle.class_file.proofs.member.field_attributes.Given as goal

-- what the rest gives is the whole
abbrev pub invariant-loop : goal.invariant-loop
invariant-loop l = steps_at (field_attribute_at l.pool) l.found (l.count - l.counter) l.rest ≡ steps_at (field_attribute_at l.pool) None l.count l.bytes
