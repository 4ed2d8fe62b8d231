use Rattle.std.proofs.Common.{drop, arith}
use Rattle.class_pool.proofs.constant_pool.Pools.{is_started, is_found, is_read, is_refused, is_answered}
use Rattle.class_pool.proofs.slots.read_pool.Goals as goal

pub returns-clause-found : goal.returns-clause-found
returns-clause-found c = is_found c.args.bytes.now c.args.at c.pool_from.result (λ i. omega (arith, c.type_inv.bytes i)) c.requires c.pool_from.ensures.value

pub returns-clause-only : goal.returns-clause-only
returns-clause-only c = is_read c.args.bytes.now c.args.at c.pool_from.result c.requires c.pool_from.ensures.value

pub returns-clause-refused : goal.returns-clause-refused
returns-clause-refused c = is_refused c.args.bytes.now c.args.at c.pool_from.result (λ i. omega (arith, c.type_inv.bytes i)) c.pool_from.ensures.value

pub returns-clause-refused_only : goal.returns-clause-refused_only
returns-clause-refused_only c = is_answered c.args.bytes.now c.args.at c.pool_from.result c.pool_from.ensures.value

pub returns-clause-at_once : goal.returns-clause-at_once
returns-clause-at_once c = λ why r. c.pool_from.ensures.start why (is_started (drop c.args.at c.args.bytes.now) why r)
