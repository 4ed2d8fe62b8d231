use Rattle.std.proofs.Common.{◌≡◌, ◌-◌, []}
use Rattle.byte_read.specs.Reading.{steps_at, one_more}
use Rattle.class_file.specs.ReadingMembers.{field_at}
use Rattle.class_file.specs.Texts.{AreSeen}
use Rattle.class_file.proofs.member.field_list.Given as goal

-- what the rest gives is the whole, and what was seen are the members so far
abbrev pub invariant-loop : goal.invariant-loop
invariant-loop l =
    (steps_at (one_more (field_at l.class_flags l.pool)) l.fields.items (l.count - l.counter) l.rest ≡ steps_at (one_more (field_at l.class_flags l.pool)) [] l.count l.bytes)
    × AreSeen l.pool l.texts l.fields.items l.seen
