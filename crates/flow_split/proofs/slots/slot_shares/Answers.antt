-- One more local takes its slot.
use Rattle.std.proofs.Common.{false, length, ap, ◌∙◌, arith}
use Rattle.insn_form.specs.declared.ValueKind.TheVariants as value_kind
use Rattle.jvm_model.specs.WidthsSlots.{is_stored}
use Rattle.flow_split.specs.Shares.{slot_share}
use Rattle.std.proofs.lemmas.List.FromFn.{length-map-range_with_len}
use Rattle.flow_split.proofs.Marking.{long, mark_at}
use Rattle.flow_split.proofs.OneMore.{one_more, at_same}
use Rattle.flow_split.proofs.slots.slot_shares.Goals as goal

pub bounds-marks-index : goal.bounds-marks-index
bounds-marks-index c =
    let size = long c.args.body.now.max_locals (is_stored value_kind.Ref c.args.body.now) c.in_ok-marks.marks.items c.in_ok-marks.ensures in
    let same = ap length c.as_slice-marks.ensures.value in
    omega (arith, size, same)

pub loop-local-preserved : goal.loop-local-preserved
loop-local-preserved c =
    let body = c.args.body.now in
    let local = c.loop-local.local in
    let marked = mark_at body.max_locals (is_stored value_kind.Ref body) c.in_ok-marks.marks.items c.in_ok-marks.ensures local false c.loop-local-test.true in
    let mark = at_same c.as_slice-marks.result.now c.in_ok-marks.marks.items c.from-index.result local false c.as_slice-marks.ensures.value c.from-index.ensures in
    one_more (slot_share body) local c.loop-local.shares.items c.push.new.self.items c.slot_share.result c.in-Ok.ensures.items c.loop-local.invariant (c.slot_share.ensures (mark ∙ marked))

pub returns-clause-size : goal.returns-clause-size
returns-clause-size c =
    let size = ap length c.loop-local.invariant ∙ length-map-range_with_len (slot_share c.args.body.now) 0 c.loop-local.local in
    omega (arith, size)
