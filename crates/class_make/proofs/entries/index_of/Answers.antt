use Rattle.std.proofs.Common.{sym, ◌∙◌, arith}
use Rattle.class_make.specs.Entries.{index_of}
use Rattle.class_make.proofs.Slots.{goes_on, ends, is_done}
use Rattle.class_make.proofs.entries.index_of.Goals as goal

pub returns-then-is_entry : goal.returns-then-is_entry
returns-then-is_entry c =
    sym (ends c.args.slots.now c.args.entry.now c.loop-slot.index c.loop-slot.slot-index c.slot-item.result (index_of c.args.slots.now c.args.entry.now) c.loop-slot-test.true c.slot-item.is (sym c.is_entry.ensures ∙ c.if-is_entry.true) c.loop-slot.invariant.so_far)

pub loop-slot-preserved : goal.loop-slot-preserved
loop-slot-preserved c = record {
  index_is = omega (arith, c.loop-slot.invariant.index_is);
  so_far = goes_on c.args.slots.now c.args.entry.now c.loop-slot.index c.loop-slot.slot-index c.slot-item.result (index_of c.args.slots.now c.args.entry.now) c.loop-slot-test.true c.slot-item.is (sym c.is_entry.ensures ∙ c.if-is_entry.false) c.loop-slot.invariant.so_far;
}

pub returns : goal.returns
returns c =
    sym (is_done c.args.slots.now c.args.entry.now c.loop-slot.index c.loop-slot.slot-index (index_of c.args.slots.now c.args.entry.now) c.loop-slot-test.false c.loop-slot.invariant.so_far)
