use Rattle.std.proofs.Common.{◌≡◌, ◌+◌, drop}
use Rattle.class_pool.specs.DescriptorReading.{brackets}
use Rattle.class_pool.proofs.scan.brackets.Given as goal

-- the letters so far are brackets, and the rest decides
abbrev pub invariant-loop-letter : goal.invariant-loop-letter
invariant-loop-letter l = record {
  dims_is : l.dims ≡ l.letter-index;
  so_far : l.dims + brackets (drop l.letter-index l.text) ≡ brackets l.text;
}
