use Rattle.std.proofs.Common.{sym, ◌∙◌, arith}
use Rattle.image_form.specs.Reading.{first_unmatched}
use Rattle.image_form.proofs.format.Unmatched.{goes_on, ends, is_done}
use Rattle.image_form.proofs.dispatch.first_unmatched.Goals as goal

pub returns-then-not-is_entry_matched : goal.returns-then-not-is_entry_matched
returns-then-not-is_entry_matched c =
    sym (ends c.args.selectors.now c.args.methods.now c.args.types.now c.loop-entry.index c.loop-entry.entry-index c.entry-item.result (first_unmatched c.args.selectors.now c.args.methods.now 0 c.args.types.now) c.loop-entry-test.true c.entry-item.is
    (sym c.is_entry_matched.ensures ∙ c.if-not-is_entry_matched.true) c.loop-entry.invariant.so_far)

pub overflow_add-index : goal.overflow_add-index
overflow_add-index c = omega (arith, c.requires, c.loop-entry.invariant.index_is, c.loop-entry-test.true)

pub loop-entry-preserved : goal.loop-entry-preserved
loop-entry-preserved c = record {
  index_is = omega (arith, c.loop-entry.invariant.index_is);
  so_far =
      goes_on c.args.selectors.now c.args.methods.now c.args.types.now c.loop-entry.index c.loop-entry.entry-index c.entry-item.result (first_unmatched c.args.selectors.now c.args.methods.now 0 c.args.types.now) c.loop-entry-test.true c.entry-item.is
      (sym c.is_entry_matched.ensures ∙ c.if-not-is_entry_matched.false) c.loop-entry.invariant.so_far;
}

pub returns : goal.returns
returns c =
    sym (is_done c.args.selectors.now c.args.methods.now c.args.types.now c.loop-entry.index c.loop-entry.entry-index (first_unmatched c.args.selectors.now c.args.methods.now 0 c.args.types.now) c.loop-entry-test.false c.loop-entry.invariant.so_far)
