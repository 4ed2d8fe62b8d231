use Rattle.std.proofs.Common.{rules, nat_lt}
use Rattle.std.proofs.lemmas.List.Sorted.{IsPartitionPoint-from_clause, IsPartitionedBy-ltb}
use Rattle.body_form.specs.declared.body.Body.{Body}
use Rattle.infuse_ids.proofs.bodies.count_below.Goals as goal

pub returns-clause-point : goal.returns-clause-point
returns-clause-point c =
    let ordered = IsPartitionedBy-ltb (λ (body : Body). body.class) c.args.bodies.now c.args.class c.requires in
    IsPartitionPoint-from_clause (λ (body : Body). nat_lt body.class c.args.class) c.args.bodies.now c.partition_point.result c.partition_point.ensures.partitioned ordered (λ a r q k. search rules)
