-- One more instruction counts.
use Rattle.std.proofs.Common.{◌≡◌, ℕ, max, map, take, get_or, sym, ap, subst, ◌∙◌, arith}
use Rattle.std.specs.Prelude.{Some, slice_get}
use Rattle.code_reach.specs.Reached.{RisesFrom}
use Rattle.code_reach.proofs.Indexes.{pcs_rise}
use Rattle.body_form.specs.declared.op.Op.{Op}
use Rattle.body_form.specs.Flow.{Ops, pc_at}
use Rattle.jvm_model.specs.WidthsShapes.{widths_of}
use Rattle.jvm_model.specs.WidthsFrame.{most_at, greatest}
use Rattle.type_table.specs.Types.{table_of}
use Rattle.flow_split.specs.Walks.{rows_before}
use Rattle.flow_split.proofs.Following.{pc_got, got}
use Rattle.flow_split.proofs.RowsByPc.{before_higher}
use Rattle.flow_split.proofs.Greatest.{greatest_more}
use Rattle.flow_split.proofs.walk.most_counted.Goals as goal

pub loop-position-preserved : goal.loop-position-preserved
loop-position-preserved c =
    let ops = c.as_slice-ops.result.now in
    let all = c.as_slice-ops.ensures.all in
    let rise = subst (λ (list : Ops). RisesFrom 0 list) (sym all) c.as_slice-ops.ensures.rise in
    let rows = c.args.types.now in
    let at = c.loop-position.position in
    let z = c.index-ops-position.result in
    let here = c.loop-position-test.true in
    let of = most_at c.args.body.now (widths_of c.args.narrow.now (table_of rows) c.args.body.now.ops) (table_of rows) in
    let whole : z ≡ get_or ops at z = c.index-ops-position.is in
    let there : slice_get c.args.body.now.ops at ≡ Some z = ap (λ (list : Ops). slice_get list at) (sym all) ∙ got ops at z here ∙ ap (λ (y : ℕ × Op). Some y) (sym whole) in
    record {
      before = λ later le within.
          let higher = pcs_rise 0 ops rise at later (omega (arith, le)) within in
          omega (arith, c.first_from-index.ensures, ap (rows_before rows) (pc_got ops at z here), before_higher rows (pc_at ops at) (pc_at ops later) (omega (arith, higher)));
      most =
          c.max-most.ensures ∙ ap (λ n. max n c.loop-position.most) (c.in-Ok.ensures z there)
          ∙ ap (max (of z)) c.loop-position.invariant.most
          ∙ ap (λ (y : ℕ × Op). max (of y) (greatest (map of (take at ops)))) whole
          ∙ sym (greatest_more of ops at z here);
    }
