use Rattle.std.proofs.Common.{◌≡◌, ◌+◌, drop}
use Rattle.class_pool.specs.PoolReading.{first_unlinked}
use Rattle.class_pool.proofs.slots.first_unlinked.Given as goal

-- the index is that of the next place, and the places that are left decide
abbrev pub invariant-loop-slot : goal.invariant-loop-slot
invariant-loop-slot l = record {
  index_is : l.index ≡ l.slot-index + 1;
  so_far : first_unlinked l.pool l.index (drop l.slot-index l.slots) ≡ first_unlinked l.pool 1 l.pool;
}
