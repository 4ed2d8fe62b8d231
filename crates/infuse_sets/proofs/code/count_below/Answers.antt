use Rattle.std.proofs.Common.{rules, nat_lt}
use Rattle.std.proofs.lemmas.List.Sorted.{IsPartitionPoint-from_clause, IsPartitionedBy-ltb}
use Rattle.infuse_sets.specs.declared.laid.LaidBody.{LaidBody}
use Rattle.infuse_sets.specs.LaidBodies.{laid_as}
use Rattle.infuse_sets.proofs.code.count_below.Goals as goal

pub returns-clause-point : goal.returns-clause-point
returns-clause-point c =
    let ordered = IsPartitionedBy-ltb (λ (one : LaidBody). let body = (laid_as one).body in body.class) c.args.laid.now c.args.class c.requires in
    IsPartitionPoint-from_clause (λ (one : LaidBody). let body = (laid_as one).body in nat_lt body.class c.args.class) c.args.laid.now c.partition_point.result c.partition_point.ensures.partitioned ordered (λ a r q k. search rules)
