use Rattle.std.proofs.Common.{◌-◌, false, refl, arith}
use Rattle.std.proofs.lemmas.Result.{err_from_is_err_and}
use Rattle.byte_read.proofs.Steps.{no_failure, same_why, u2_takes}
use Rattle.class_pool.specs.declared.refusal.PoolRefusal.TheVariants.{Truncated}
use Rattle.class_pool.proofs.constant_pool.Pools.{count_read, start_count, start_first}
use Rattle.class_pool.proofs.constant_pool.SlotLists.{slots_taken}
use Rattle.class_pool.proofs.slots.pool_at.Goals as goal

pub from_slots-pool-requires : goal.from_slots-pool-requires
from_slots-pool-requires c =
    let count = u2_takes Truncated c.args.bytes.now (c.in_ok-count.count, c.in_ok-count.rest.now) (λ i. omega (arith, c.type_inv.bytes i)) (count_read _ _ c.in_ok-count.ensures) in
    let slots = slots_taken false 1 (c.in_ok-count.count - 1) c.in_ok-count.rest.now (c.in_ok-slots.slots.items, c.in_ok-slots.rest.now) (λ e. absurd cc) count.0.rest_fits c.in_ok-slots.ensures.value in
    record { count = omega (arith, count.1, slots.count_is); spaced = slots.spaced }

pub returns-in_err-count-clause-start : goal.returns-in_err-count-clause-start
returns-in_err-count-clause-start c = λ why e.
    let p = err_from_is_err_and c.from_residual.result c.from_residual.ensures.1 in
    rw (p.1, p.2, start_count c.args.bytes.now c.in_err-count.field-0.0 why c.in_err-count.ensures e) refl

pub returns-in_err-slots-clause-start : goal.returns-in_err-slots-clause-start
returns-in_err-slots-clause-start c = λ why e.
    let p = err_from_is_err_and c.from_residual-in_err-slots.result c.from_residual-in_err-slots.ensures.1 in
    let f = start_first c.args.bytes.now (c.in_ok-count.count, c.in_ok-count.rest.now) why c.in_ok-count.ensures e in
    let is = same_why c.in_err-slots.field-0.0 why (c.in_err-slots.ensures.first why f.0 f.1) in
    rw (p.1, p.2, is) refl

pub returns-in-Some-clause-start : goal.returns-in-Some-clause-start
returns-in-Some-clause-start c = λ why e.
    let f = start_first c.args.bytes.now (c.in_ok-count.count, c.in_ok-count.rest.now) why c.in_ok-count.ensures e in
    absurd (no_failure _ why (c.in_ok-slots.ensures.first why f.0 f.1))

pub returns-clause-start : goal.returns-clause-start
returns-clause-start c = λ why e.
    let f = start_first c.args.bytes.now (c.in_ok-count.count, c.in_ok-count.rest.now) why c.in_ok-count.ensures e in
    absurd (no_failure _ why (c.in_ok-slots.ensures.first why f.0 f.1))
