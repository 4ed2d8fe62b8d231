use Rattle.std.proofs.Common.{arith, length-drop}
use Rattle.byte_read.proofs.Steps.{IsBytes-drop, IsBytes-take}
use Rattle.class_pool.proofs.constant_pool.Pools.{rest_is_short}
use Rattle.class_pool.proofs.slots.pool_from.Goals as goal

pub overflow_sub-result : goal.overflow_sub-result
overflow_sub-result c =
    let bytes = c.args.bytes.now in
    let short = rest_is_short _ (c.in_ok-pool.pool, c.in_ok-pool.rest.now) (IsBytes-take _ _ (IsBytes-drop c.args.at bytes (λ i. omega (arith, c.type_inv.bytes i)))) c.in_ok-pool.ensures.value in
    omega (arith, short, length-drop c.args.at bytes)
