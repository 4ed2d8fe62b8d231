use Rattle.std.proofs.Common.{◌≡◌, map}
use Rattle.std.specs.List.{range_with_len}
use Rattle.flow_split.specs.Shares.{slot_share}
use Rattle.flow_split.proofs.slots.slot_shares.Given as goal

abbrev pub invariant-loop-local : goal.invariant-loop-local
invariant-loop-local l = l.shares.items ≡ map (slot_share l.body) (range_with_len 0 l.local)
