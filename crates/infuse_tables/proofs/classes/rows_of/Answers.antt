use Rattle.std.proofs.Common.{◌≡◌, ◌++◌, ◌<◌, ◌≤◌, [], ℕ, List, Option, get_or, length, nat_eq, cond, take, sym, ap, subst, ◌∙◌}
use Rattle.std.specs.List.{filter_map}
use Rattle.std.specs.Option.{option_to_list}
use Rattle.image_form.specs.declared.record.DispatchRow.{DispatchRow}
use Rattle.jvm_model.specs.declared.numbers.Selector.{Selector}
use Rattle.jvm_model.specs.ImageTables.{numbered, row_for}
use Rattle.jvm_model.specs.NumberedIds.{numbers_of}
use Rattle.infuse_tables.proofs.NumberedItems.{mapped_all, mapped_next, one_mapped}
use Rattle.infuse_tables.proofs.classes.rows_of.Goals as goal

pub loop-number-preserved : goal.loop-number-preserved
loop-number-preserved c =
    let selectors = c.args.ids.now.selectors in
    let i = c.loop-number.number in
    let x = c.index-selectors-number.result in
    let row : ℕ × Selector → Option DispatchRow = row_for c.args.set.now (numbers_of c.args.ids.now) c.args.class in
    let before : List DispatchRow = filter_map row (take i (numbered 0 selectors)) in
    let lt : i < length selectors = subst (λ (l : List Selector). i < length l) c.as_slice-selectors.ensures c.loop-number-test.true in
    let is : x ≡ get_or selectors i x = c.index-selectors-number.is ∙ ap (λ (l : List Selector). get_or l i x) c.as_slice-selectors.ensures in
    c.in-Ok.ensures
    ∙ ap (λ l. l ++ option_to_list c.row_for-row.result) c.loop-number.invariant
    ∙ ap (λ (o : Option DispatchRow). before ++ option_to_list o) c.row_for-row.ensures
    ∙ ap (λ l. before ++ l) (sym (one_mapped row (i, x)))
    ∙ sym (mapped_next row selectors i x lt is)

pub returns : goal.returns
returns c =
    let selectors = c.args.ids.now.selectors in
    let row : ℕ × Selector → Option DispatchRow = row_for c.args.set.now (numbers_of c.args.ids.now) c.args.class in
    let enough = subst (λ (l : List Selector). length l ≤ c.loop-number.number) c.as_slice-selectors.ensures c.loop-number-test.false in
    c.loop-number.invariant ∙ mapped_all row selectors c.loop-number.number enough
    ∙ ap (λ (flags : ℕ). cond (nat_eq flags 0) (filter_map row (numbered 0 selectors)) []) (sym c.if-entry_flags-ne0.false ∙ c.entry_flags.ensures)
