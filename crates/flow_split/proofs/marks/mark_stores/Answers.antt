use Rattle.std.proofs.Common.{sym, ap, ◌∙◌}
use Rattle.jvm_model.specs.WidthsSlots.{is_store}
use Rattle.flow_split.proofs.Marking.{mark_more}
use Rattle.flow_split.proofs.marks.mark_stores.Goals as goal

pub loop-x-preserved : goal.loop-x-preserved
loop-x-preserved c = λ count test are.
    let x = c.x-item.result in
    mark_more count test (is_store c.args.kind) c.args.ops.now c.loop-x.x-index x _ _ c.loop-x-test.true
    (λ k. ap (is_store c.args.kind k) (sym c.x-item.is) ∙ c.stored_in.ensures x.0 k)
    (c.mark.ensures count _ (c.loop-x.invariant count test are))
