-- Each step of the walk keeps what the merge of the chains is.
use Rattle.std.proofs.Common.{◌≡◌, ◌++◌, ◌∷◌, [], length, List, sym, ap, subst, ◌∙◌}
use Rattle.body_form.specs.declared.types.VType.{VType}
use Rattle.type_table.proofs.MergedChains.{IsMergeWalked, merge_starts, merge_clashes, merge_keeps, merge_changes, merge_ends}
use Rattle.type_table.proofs.merged_operands.merged_values.Goals as goal

pub loop-a-init : goal.loop-a-init
loop-a-init c =
    subst (λ (list : List VType). IsMergeWalked c.args.set.now c.args.cells.now c.args.upper c.args.lower c.args.upper c.args.lower list 0) (sym c.new-values.ensures.items)
    (merge_starts c.args.set.now c.args.cells.now c.args.upper c.args.lower c.requires.upper c.requires.lower c.requires.known_upper c.requires.known_lower c.requires.operands)

pub returns-then-not-may_be_operand-clause-merged : goal.returns-then-not-may_be_operand-clause-merged
returns-then-not-may_be_operand-clause-merged c =
    merge_clashes c.args.set.now c.args.cells.now c.args.upper c.args.lower c.loop-a.above c.loop-a.below c.in-Some.next_above c.in-Some.next_below c.in-Some.a c.in-Some.b c.loop-a.values.items c.loop-a.count
    c.loop-a.invariant c.in-Some.ensures.upper_top c.in-Some.ensures.lower_top c.merge-value.result c.merge-value.ensures (sym c.if-not-may_be_operand.ensures)

pub loop-a-preserved-then-not-is_same : goal.loop-a-preserved-then-not-is_same
loop-a-preserved-then-not-is_same c =
    let value = c.merge-value.result in
    let values = c.loop-a.values.items ++ value ∷ [] in
    let count : c.len-count.result ≡ length values = c.len-count.ensures ∙ c.push.new.self.ok.0 ∙ ap length c.in_ok-push.ensures.items in
    subst (λ (list : List VType). IsMergeWalked c.args.set.now c.args.cells.now c.args.upper c.args.lower c.in-Some.next_above c.in-Some.next_below list c.len-count.result) (sym c.in_ok-push.ensures.items)
    (merge_changes c.args.set.now c.args.cells.now c.args.upper c.args.lower c.loop-a.above c.loop-a.below c.in-Some.next_above c.in-Some.next_below c.in-Some.a c.in-Some.b c.loop-a.values.items c.loop-a.count
    c.loop-a.invariant c.in-Some.ensures.upper_top c.in-Some.ensures.lower_top value c.merge-value.ensures c.len-count.result (sym c.if-not-may_be_operand.ensures) c.if-not-is_same.ensures count)

pub loop-a-preserved : goal.loop-a-preserved
loop-a-preserved c =
    let value = c.merge-value.result in
    subst (λ (list : List VType). IsMergeWalked c.args.set.now c.args.cells.now c.args.upper c.args.lower c.in-Some.next_above c.in-Some.next_below list c.loop-a.count) (sym c.in_ok-push.ensures.items)
    (merge_keeps c.args.set.now c.args.cells.now c.args.upper c.args.lower c.loop-a.above c.loop-a.below c.in-Some.next_above c.in-Some.next_below c.in-Some.a c.in-Some.b c.loop-a.values.items c.loop-a.count
    c.loop-a.invariant c.in-Some.ensures.upper_top c.in-Some.ensures.lower_top value c.merge-value.ensures (sym c.if-not-may_be_operand.ensures) c.if-not-is_same.ensures)

pub returns-clause-merged : goal.returns-clause-merged
returns-clause-merged c =
    merge_ends c.args.set.now c.args.cells.now c.args.upper c.args.lower c.loop-a.above c.loop-a.below c.loop-a.values.items c.loop-a.count c.truncate.new.self.items c.loop-a.invariant c.requires.gathered c.in_default.ensures c.truncate.ensures.items
