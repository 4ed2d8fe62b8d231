use Rattle.std.proofs.Common.{ℕ, Some, option_map, sym, ap, ◌∙◌}
use Rattle.class_file.specs.declared.record.HandlerRow.{HandlerRow}
use Rattle.class_code.specs.Code.{handler_fits}
use Rattle.class_code.proofs.Firsts.{loop-more, loop-here, loop-end}
use Rattle.class_code.proofs.code_list.first_unfit.Goals as goal

abbrev none : HandlerRow
none = record { start = 0; end = 0; target = 0; catch_type = 0 }

pub returns-then-not-handler_fits : goal.returns-then-not-handler_fits
returns-then-not-handler_fits c =
    let test = handler_fits c.args.list.now c.args.length in
    let here = loop-here test c.args.rows.now c.loop-row.row-index none c.loop-row-test.true (sym c.handler_fits.ensures ∙ c.if-not-handler_fits.true) in
    ap (λ (start : ℕ). Some start) c.from.ensures ∙ ap (option_map (λ (row : HandlerRow). row.start)) (sym here ∙ c.loop-row.invariant)

pub loop-row-preserved : goal.loop-row-preserved
loop-row-preserved c =
    loop-more (handler_fits c.args.list.now c.args.length) c.args.rows.now c.loop-row.row-index none c.loop-row-test.true (sym c.handler_fits.ensures ∙ c.if-not-handler_fits.false) ∙ c.loop-row.invariant

pub returns : goal.returns
returns c =
    ap (option_map (λ (row : HandlerRow). row.start)) (sym (loop-end (handler_fits c.args.list.now c.args.length) c.args.rows.now c.loop-row.row-index c.loop-row-test.false) ∙ c.loop-row.invariant)
