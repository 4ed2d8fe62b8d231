use Rattle.std.proofs.Common.{◌≡◌, ◌+◌, drop}
use Rattle.class_make.specs.Entries.{index_from}
use Rattle.class_make.proofs.entries.index_of.Given as goal

-- the index is that of the next place, and the places that are left decide
abbrev pub invariant-loop-slot : goal.invariant-loop-slot
invariant-loop-slot l = record {
  index_is : l.index ≡ l.slot-index + 1;
  so_far : index_from l.index (drop l.slot-index l.slots) l.entry ≡ index_from 1 l.slots l.entry;
}
