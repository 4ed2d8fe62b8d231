use Rattle.std.proofs.Common.{◌≡◌, ◌-◌, [], length}
use Rattle.image_form.specs.Reading.{items_at, selector_at}
use Rattle.image_form.proofs.methods.listed_selectors.Given as goal

-- what was read so far, and what the rest gives, is the whole
abbrev pub invariant-loop : goal.invariant-loop
invariant-loop l = record {
  length_is : length l.selectors.items ≡ l.counter;
  so_far : items_at selector_at (l.count - l.counter) l.selectors.items l.rest ≡ items_at selector_at l.count [] l.bytes;
}
