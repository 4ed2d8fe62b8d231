use Rattle.std.proofs.Common.{◌≡◌, ◌≤◌, ◌*◌, take}
use Rattle.flow_split.specs.Shares.{passed_in, extended_in, stored_in}
use Rattle.flow_split.proofs.shares.counts_of.Given as goal

abbrev pub invariant-loop-share : goal.invariant-loop-share
invariant-loop-share l = record {
  passed : l.counts.passed ≡ passed_in (take l.share-index l.shares);
  extended : l.counts.extended ≡ extended_in (take l.share-index l.shares);
  stored : l.counts.stored ≡ stored_in (take l.share-index l.shares);
  passed_small : l.counts.passed ≤ 255 * l.share-index;
  extended_small : l.counts.extended ≤ 255 * l.share-index;
  stored_small : l.counts.stored ≤ 255 * l.share-index;
}
