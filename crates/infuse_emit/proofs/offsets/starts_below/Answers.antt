use Rattle.std.proofs.Common.{nat_lt, rules}
use Rattle.std.proofs.lemmas.List.Sorted.{IsPartitionPoint-from_clause}
use Rattle.infuse_emit.proofs.OffsetLists.{parted, point_is}
use Rattle.infuse_emit.proofs.offsets.starts_below.Goals as goal

-- the closure tests a pc
pub returns : goal.returns
returns c =
    let ops = c.args.ops.now in
    let pc = c.args.pc in
    let facts = c.partition_point.ensures in
    point_is ops pc _ facts.bound (IsPartitionPoint-from_clause (λ x. nat_lt x.0 pc) ops _ facts.partitioned (parted 0 ops pc c.requires) (λ a r f called. search rules))
