-- At first none is marked.
use Rattle.std.proofs.Common.{◌||◌, ℕ, false, List, map, subst, sym, ap, ◌∙◌}
use Rattle.std.specs.List.{list_any, range_with_len}
use Rattle.std.proofs.lemmas.Result.{IfOk-weaker}
use Rattle.std.proofs.lemmas.Simd.{map-map}
use Rattle.body_form.specs.declared.op.Op.{Op}
use Rattle.jvm_model.specs.WidthsShapes.{is_local_entry, stores_one, width_where, height_at}
use Rattle.flow_split.specs.Shares.{AreMarks}
use Rattle.flow_split.proofs.Marking.{none_marked}
use Rattle.flow_split.proofs.widths.widths_at.Goals as goal

pub returns : goal.returns
returns c =
    IfOk-weaker c.widths_by.result _ _ (λ widths by table heights.
    let count = c.args.body.now.max_locals in
    let narrow = c.args.narrow.now in
    let all = c.as_slice.ensures.all in
    let none = none_marked count c.from.result _ (c.in_ok-marks.ensures.items_if_clones_equal (λ y same. same)) c.from.ensures in
    let entries = c.mark_entries.ensures count (λ k. false) none in
    let test = λ (k : ℕ). list_any (is_local_entry k) narrow in
    let marked = c.mark_narrow.ensures table count test (heights ∙ ap (map (λ (x : ℕ × Op). height_at table x.0)) (sym all)) entries in
    let marks = subst (λ (ops : List (ℕ × Op)). AreMarks count (λ k. test k || list_any (stores_one narrow table k) ops) c.mark_narrow.new.marks.items) all marked in
    by ∙ ap (map width_where) (c.as_slice-2.ensures.value ∙ marks) ∙ map-map width_where (λ k. test k || list_any (stores_one narrow table k) c.args.body.now.ops) (range_with_len 0 count)) c.widths_by.ensures
