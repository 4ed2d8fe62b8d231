use Rattle.std.proofs.Common.{◌≡◌, ◌-◌, []}
use Rattle.byte_read.specs.Reading.{steps_at, one_more}
use Rattle.class_file.specs.ReadingMembers.{handler_at}
use Rattle.class_file.proofs.code.handler_rows.Given as goal

-- what the rest gives is the whole
abbrev pub invariant-loop : goal.invariant-loop
invariant-loop l =
    steps_at (one_more (λ earlier rest. handler_at l.pool l.size rest)) l.rows.items (l.count - l.counter) l.rest
    ≡ steps_at (one_more (λ earlier rest. handler_at l.pool l.size rest)) [] l.count l.bytes
