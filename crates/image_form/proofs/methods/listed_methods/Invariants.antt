use Rattle.std.proofs.Common.{◌≡◌, ◌-◌, [], length}
use Rattle.image_form.specs.Reading.{items_at, method_at}
use Rattle.image_form.proofs.methods.listed_methods.Given as goal

-- what was read so far, and what the rest gives, is the whole
abbrev pub invariant-loop : goal.invariant-loop
invariant-loop l = record {
  length_is : length l.methods.items ≡ l.counter;
  so_far : items_at (method_at l.types) (l.count - l.counter) l.methods.items l.rest ≡ items_at (method_at l.types) l.count [] l.bytes;
}
