use Rattle.std.proofs.Common.{◌≡◌, ◌++◌, take}
use Rattle.std.specs.List.{flat_map}
use Rattle.class_file.specs.Layout.{u2}
use Rattle.class_make.proofs.bytes.append_numbers.Given as goal

-- the bytes of the items so far
abbrev pub invariant-loop-number : goal.invariant-loop-number
invariant-loop-number l = l.out.items ≡ l.initial.out.items ++ flat_map u2 (take l.number-index l.numbers)
