use Rattle.std.proofs.Common.{sym, ◌∙◌, arith}
use Rattle.class_pool.specs.PoolReading.{first_unlinked}
use Rattle.class_pool.proofs.constant_pool.Linked.{goes_on, ends, is_done}
use Rattle.class_pool.proofs.slots.first_unlinked.Goals as goal

pub returns-then-not-is_slot_linked : goal.returns-then-not-is_slot_linked
returns-then-not-is_slot_linked c =
    sym (ends c.args.pool.now c.slots-slots.result.now c.loop-slot.index c.loop-slot.slot-index c.slot-item.result (first_unlinked c.args.pool.now 1 c.args.pool.now) c.loop-slot-test.true c.slot-item.is (sym c.is_slot_linked.ensures ∙ c.if-not-is_slot_linked.true) c.loop-slot.invariant.so_far)

pub overflow_add-index : goal.overflow_add-index
overflow_add-index c = omega (arith, c.slots-slots.ensures.count, c.loop-slot.invariant.index_is, c.loop-slot-test.true)

pub loop-slot-preserved : goal.loop-slot-preserved
loop-slot-preserved c = record {
  index_is = omega (arith, c.loop-slot.invariant.index_is);
  so_far = goes_on c.args.pool.now c.slots-slots.result.now c.loop-slot.index c.loop-slot.slot-index c.slot-item.result (first_unlinked c.args.pool.now 1 c.args.pool.now) c.loop-slot-test.true c.slot-item.is (sym c.is_slot_linked.ensures ∙ c.if-not-is_slot_linked.false) c.loop-slot.invariant.so_far;
}

pub returns : goal.returns
returns c =
    sym (is_done c.args.pool.now c.slots-slots.result.now c.loop-slot.index c.loop-slot.slot-index (first_unlinked c.args.pool.now 1 c.args.pool.now) c.loop-slot-test.false c.loop-slot.invariant.so_far)
