use Rattle.std.proofs.Common.{◌≡◌, ◌-◌, [], length}
use Rattle.image_form.specs.Arrays.{AreArrays}
use Rattle.image_form.specs.Reading.{items_at, type_at}
use Rattle.image_form.proofs.types.listed_types.Given as goal

-- what was read so far, and what the rest gives, is the whole
abbrev pub invariant-loop : goal.invariant-loop
invariant-loop l = record {
  arrays_are : AreArrays l.types.items l.arrays;
  length_is : length l.types.items ≡ l.counter;
  so_far : items_at type_at (l.count - l.counter) l.types.items l.rest ≡ items_at type_at l.count [] l.bytes;
}
