-- One more instruction marks the local in which it stores an int of one cell.
use Rattle.std.proofs.Common.{◌<◌, ◌||◌, ℕ, List, length, get_or, subst, sym, ap, ◌∙◌, arith}
use Rattle.std.specs.List.{list_any}
use Rattle.std.proofs.lemmas.List.{get_or-map, length-map, take_all}
use Rattle.body_form.specs.declared.op.Op.{Op}
use Rattle.jvm_model.specs.WidthsShapes.{height_at, stores_one}
use Rattle.flow_split.specs.Shares.{AreMarks}
use Rattle.flow_split.proofs.Marking.{mark_more}
use Rattle.flow_split.proofs.widths.mark_narrow.Goals as goal

pub loop-index-preserved : goal.loop-index-preserved
loop-index-preserved c = λ table count test heights are.
    let ops = c.args.ops.now in
    let i = c.loop-index.index in
    let x = c.index-ops-index.result in
    let height = λ (y : ℕ × Op). height_at table y.0 in
    let within : i < length ops = omega (arith, c.loop-index-test.true, c.min-index-end.ensures) in
    let same = ap (λ (list : List ℕ). get_or list i 0) heights ∙ get_or-map height ops i x 0 within ∙ ap height (sym c.index-ops-index.is) in
    mark_more count test (stores_one c.args.narrow.now table) ops i x _ _ within
    (λ k. ap (stores_one c.args.narrow.now table k) (sym c.index-ops-index.is) ∙ c.one_stored_in.ensures table k (sym same))
    (c.mark.ensures count _ (c.loop-index.invariant table count test heights are))

pub returns : goal.returns
returns c = λ table count test heights are.
    let ops = c.args.ops.now in
    let size = ap length heights ∙ length-map ops (λ (y : ℕ × Op). height_at table y.0) in
    let all = take_all c.loop-index.index ops (omega (arith, size, c.loop-index-test.false, c.min-index-end.ensures)) in
    subst (λ (list : List (ℕ × Op)). AreMarks count (λ local. test local || list_any (stores_one c.args.narrow.now table local) list) c.loop-index.marks.items) all (c.loop-index.invariant table count test heights are)
