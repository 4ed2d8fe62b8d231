use Rattle.std.proofs.Common.{◌≡◌, ◌-◌, []}
use Rattle.image_form.specs.Reading.{items_at, cell_at}
use Rattle.image_form.proofs.statics.listed_cells.Given as goal

-- what was read so far, and what the rest gives, is the whole
abbrev pub invariant-loop : goal.invariant-loop
invariant-loop l = items_at cell_at (l.count - l.counter) l.cells.items l.rest ≡ items_at cell_at l.count [] l.bytes
