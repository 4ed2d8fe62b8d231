-- One more entry marks its local.
use Rattle.std.proofs.Common.{false}
use Rattle.jvm_model.specs.declared.entries.Entry.{Entry}
use Rattle.jvm_model.specs.WidthsShapes.{is_local_entry}
use Rattle.flow_split.proofs.Marking.{mark_more}
use Rattle.flow_split.proofs.widths.mark_entries.Goals as goal

pub loop-entry-preserved : goal.loop-entry-preserved
loop-entry-preserved c = λ count test are.
    let none : Entry = record { pc = 0; operand = false; place = 0 } in
    mark_more count test is_local_entry c.args.narrow.now c.loop-entry.entry-index none _ _ c.loop-entry-test.true c.local_of.ensures
    (c.mark.ensures count _ (c.loop-entry.invariant count test are))
