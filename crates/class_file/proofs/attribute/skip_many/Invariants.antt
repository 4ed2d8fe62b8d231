use Rattle.std.proofs.Common.{◌≡◌, ◌-◌}
use Rattle.byte_read.specs.Reading.{steps_at}
use Rattle.class_file.specs.ReadingMembers.{skipped}
use Rattle.class_file.proofs.attribute.skip_many.Given as goal

-- what the rest gives is the whole
abbrev pub invariant-loop : goal.invariant-loop
invariant-loop l = steps_at (skipped l.pool) tt (l.count - l.counter) l.rest ≡ steps_at (skipped l.pool) tt l.count l.bytes
