use Rattle.std.proofs.Common.{◌≡◌, ◌+◌, map, take}
use Rattle.std.specs.List.{range_with_len}
use Rattle.flow_split.specs.Shares.{passed_in, extended_in, stored_in, position_at}
use Rattle.flow_split.proofs.shares.positions.Given as goal

abbrev pub invariant-loop-share : goal.invariant-loop-share
invariant-loop-share l = record {
  passed : l.next.passed ≡ passed_in (take l.share-index l.shares);
  extended : l.next.extended ≡ passed_in l.shares + extended_in (take l.share-index l.shares);
  stored : l.next.stored ≡ (passed_in l.shares + extended_in l.shares) + stored_in (take l.share-index l.shares);
  positions : l.positions.items ≡ map (position_at l.shares) (range_with_len 0 l.share-index);
}
