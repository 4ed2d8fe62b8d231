-- One more local takes its cells.
use Rattle.std.proofs.Common.{◌∷◌, [], map, false, length, sym, ap, ◌∙◌, arith}
use Rattle.std.proofs.lemmas.List.{length-append}
use Rattle.std.proofs.lemmas.List.FromFn.{get_or-map-range_with_len}
use Rattle.insn_form.specs.declared.ValueKind.TheVariants as value_kind
use Rattle.image_instr.specs.declared.insn.Width.TheVariants as width
use Rattle.jvm_model.specs.WidthsSlots.{is_stored, locals_of}
use Rattle.flow_split.specs.Shares.{cell_share}
use Rattle.flow_split.proofs.Marking.{long, mark_at}
use Rattle.flow_split.proofs.OneMore.{one_more, at_same}
use Rattle.flow_split.proofs.cells.cell_shares.Goals as goal

pub bounds-marks-index : goal.bounds-marks-index
bounds-marks-index c =
    let size = long c.args.body.now.max_locals (is_stored value_kind.Int c.args.body.now) c.in_ok-marks.marks.items c.in_ok-marks.ensures in
    let same = ap length c.as_slice-marks.ensures.value in
    omega (arith, size, same)

pub loop-local-preserved : goal.loop-local-preserved
loop-local-preserved c =
    let body = c.args.body.now in
    let local = c.loop-local.local in
    let marked = mark_at body.max_locals (is_stored value_kind.Int body) c.in_ok-marks.marks.items c.in_ok-marks.ensures local false c.loop-local-test.true in
    let mark = at_same c.as_slice-marks.result.now c.in_ok-marks.marks.items c.from-index.result local false c.as_slice-marks.ensures.value c.from-index.ensures in
    let grown = ap length c.in-Ok.ensures.items ∙ length-append c.loop-local.shares.items (c.cell_share.result ∷ []) in
    record {
      size = omega (arith, grown);
      shares = λ all widths.
          let wide =
          at_same c.args.widths.now (map all.local (locals_of body)) c.from-index.result local width.One widths c.from-index.ensures
          ∙ get_or-map-range_with_len all.local 0 body.max_locals local local width.One c.loop-local-test.true (omega arith)
          in
          one_more (cell_share body all) local c.loop-local.shares.items c.push.new.self.items c.cell_share.result c.in-Ok.ensures.items (c.loop-local.invariant.shares all widths) (c.cell_share.ensures all (sym wide) (mark ∙ marked));
    }
