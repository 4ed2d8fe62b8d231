use Rattle.std.proofs.Common.{◌≡◌, ◌-◌, []}
use Rattle.image_form.specs.Reading.{items_at, handler_at}
use Rattle.image_form.proofs.methods.listed_handlers.Given as goal

-- what was read so far, and what the rest gives, is the whole
abbrev pub invariant-loop : goal.invariant-loop
invariant-loop l = items_at (handler_at l.types l.index) (l.count - l.counter) l.handlers.items l.rest ≡ items_at (handler_at l.types l.index) l.count [] l.bytes
