use Rattle.std.proofs.Common.{◌≡◌, ◌-◌, []}
use Rattle.byte_read.specs.Reading.{steps_at, one_more}
use Rattle.class_file.specs.ReadingClass.{class_index_at}
use Rattle.class_file.proofs.read.interface_list.Given as goal

-- what the rest gives is the whole
abbrev pub invariant-loop : goal.invariant-loop
invariant-loop l =
    steps_at (one_more (λ earlier rest. class_index_at l.pool rest)) l.interfaces.items (l.count - l.counter) l.rest
    ≡ steps_at (one_more (λ earlier rest. class_index_at l.pool rest)) [] l.count l.bytes
