use Rattle.std.proofs.Common.{◌≡◌, ◌-◌, ◌*◌, ◌≤◌, None, length}
use Rattle.image_instr.specs.Reading.{keys_rise}
use Rattle.image_instr.proofs.switch.keys_rise.Given as goal

-- the rows after are there, and decide
abbrev pub invariant-loop : goal.invariant-loop
invariant-loop l =
    record { there : 6 * (l.count - l.counter) ≤ length l.rest; decided : keys_rise (l.count - l.counter) l.before l.rest ≡ keys_rise l.count None l.rows }
