use Rattle.std.proofs.Common.{◌≡◌, ◌-◌, []}
use Rattle.image_form.specs.Reading.{items_at, interface_at}
use Rattle.image_form.proofs.types.listed_interfaces.Given as goal

-- what was read so far, and what the rest gives, is the whole
abbrev pub invariant-loop : goal.invariant-loop
invariant-loop l = items_at (interface_at l.types) (l.count - l.counter) l.interfaces.items l.rest ≡ items_at (interface_at l.types) l.count [] l.bytes
