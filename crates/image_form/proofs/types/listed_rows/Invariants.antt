use Rattle.std.proofs.Common.{◌≡◌, ◌-◌, []}
use Rattle.image_form.specs.Reading.{items_at, row_at}
use Rattle.image_form.proofs.types.listed_rows.Given as goal

-- what was read so far, and what the rest gives, is the whole
abbrev pub invariant-loop : goal.invariant-loop
invariant-loop l = items_at (row_at l.index) (l.count - l.counter) l.rows.items l.rest ≡ items_at (row_at l.index) l.count [] l.bytes
