-- Entries in order are parted there.
use Rattle.std.proofs.Common.{rules, of_calls, sym}
use Rattle.std.proofs.lemmas.List.Sorted.{IsPartitionPoint-from_clause}
use Rattle.flow_split.specs.Totals.{is_before_operands}
use Rattle.flow_split.proofs.Parting.{count_parted, before_parted}
use Rattle.flow_split.proofs.totals.entries_before.Goals as goal

pub returns : goal.returns
returns c =
    let narrow = c.args.narrow.now in
    let test = is_before_operands c.args.pc in
    let at = c.partition_point.result in
    let point = IsPartitionPoint-from_clause test narrow at c.partition_point.ensures.partitioned (before_parted c.args.pc narrow c.requires) (λ a r f k. search (rules, of_calls)) in
    sym (count_parted test narrow at point c.partition_point.ensures.bound)
