use Rattle.std.proofs.Common.{◌≡◌, ◌-◌, false}
use Rattle.class_pool.specs.PoolReading.{slots_at}
use Rattle.class_pool.proofs.constant_pool.Loop.{with_prefix, IsBegun}
use Rattle.class_pool.proofs.slots.slots_at.Given as goal

-- what was read so far, and what the rest gives, is the whole
abbrev pub invariant-loop-index : goal.invariant-loop-index
invariant-loop-index l = record {
  so_far : with_prefix l.slots.items (slots_at l.second l.index (l.count - l.index) l.rest) ≡ slots_at false 1 (l.count - 1) l.bytes;
  begun : IsBegun l.count l.bytes l.second l.index l.rest;
}
