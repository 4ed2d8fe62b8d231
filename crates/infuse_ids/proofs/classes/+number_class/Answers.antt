use Rattle.std.proofs.Common.{ℕ, ◌-◌, List, [], ◌∷◌, ◌++◌, sym, ap, ◌∙◌, arith}
use Rattle.std.specs.List.{fold}
use Rattle.jvm_model.specs.ImageNumbering.{number_class}
use Rattle.infuse_ids.proofs.Numbered.{at_end, passed, behind, all_of}
use Rattle.infuse_ids.proofs.classes.+number_class.Goals as goal

pub returns-then-levels-eq0-clause-numbered : goal.returns-then-levels-eq0-clause-numbered
returns-then-levels-eq0-clause-numbered t c =
    at_end c.args.set.now c.args.order.now.keys c.args.class c.args.levels c.if-levels-eq0.true

pub returns-then-is_passed-clause-numbered : goal.returns-then-is_passed-clause-numbered
returns-then-is_passed-clause-numbered t c =
    passed c.args.set.now c.args.order.now.keys c.args.class c.args.levels (sym c.is_passed.ensures ∙ c.if-is_passed.true)

pub returns-in-Ok-add_class-clause-numbered : goal.returns-in-Ok-add_class-clause-numbered
returns-in-Ok-add_class-clause-numbered t c =
    let files = c.args.set.now in
    let step = fold (number_class files (c.args.levels - 1)) c.args.order.now.keys in
    let items = c.as_slice-upper-items.result.now in
    c.in-Ok-add_class.ensures.added
    ∙ ap (λ (order : List ℕ). order ++ c.args.class ∷ []) (
    c.loop-upper.invariant
    ∙ ap step (all_of items c.loop-upper.upper-index c.loop-upper-test.false ∙ c.as_slice-upper-items.ensures.value ∙ c.in_ok-uppers.ensures)
    )
    ∙ behind files c.args.order.now.keys c.args.class c.args.levels (omega (arith, c.if-levels-eq0.false)) (sym c.is_passed.ensures ∙ c.if-is_passed.false)
