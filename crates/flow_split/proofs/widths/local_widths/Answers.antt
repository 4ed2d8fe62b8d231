-- The heights are those of the table.
use Rattle.std.proofs.Common.{ℕ, length, map, ap, ◌∙◌}
use Rattle.std.proofs.lemmas.Result.{IfOk-weaker}
use Rattle.std.proofs.lemmas.List.FromFn.{length-map-range_with_len}
use Rattle.body_form.specs.declared.op.Op.{Op}
use Rattle.jvm_model.specs.WidthsShapes.{height_at, local_width}
use Rattle.type_table.specs.Types.{table_of}
use Rattle.flow_split.proofs.widths.local_widths.Goals as goal

pub returns : goal.returns
returns c =
    let body = c.args.body.now in
    let table = table_of c.args.types.now in
    let heights = c.as_slice-2.ensures.value ∙ c.in_ok-heights.ensures ∙ ap (map (λ (x : ℕ × Op). height_at table x.0)) c.as_slice.ensures.all in
    record {
      is = IfOk-weaker c.widths_at.result _ _ (λ widths by. by table heights) c.widths_at.ensures;
      size = IfOk-weaker c.widths_at.result _ _ (λ widths by. ap length (by table heights) ∙ length-map-range_with_len (local_width c.args.narrow.now table body.ops) 0 body.max_locals) c.widths_at.ensures;
    }
