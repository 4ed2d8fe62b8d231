-- The pcs rise, so the row of an instruction comes after those of the instructions before it.
use Rattle.std.proofs.Common.{◌++◌, ◌∷◌, [], ℕ, List, map, take, get_or, sym, ap, ◌∙◌, arith}
use Rattle.std.proofs.lemmas.List.{take_more, map-append}
use Rattle.body_form.specs.declared.op.Op.{Op}
use Rattle.body_form.specs.Flow.{pc_at}
use Rattle.jvm_model.specs.WidthsShapes.{height_at}
use Rattle.type_table.specs.Types.{table_of}
use Rattle.flow_split.specs.Walks.{rows_before}
use Rattle.code_reach.proofs.Indexes.{pcs_rise}
use Rattle.flow_split.proofs.Following.{pc_got}
use Rattle.flow_split.proofs.RowsByPc.{before_higher}
use Rattle.flow_split.proofs.heights.heights.Goals as goal

pub first_from-row-requires-clause-from : goal.first_from-row-requires-clause-from
first_from-row-requires-clause-from c =
    let ops = c.args.ops.now in
    let i = c.loop-x.x-index in
    let pc = ap (λ (y : ℕ × Op). y.0) c.x-item.is ∙ pc_got ops i c.x-item.result c.loop-x-test.true in
    let same = ap (rows_before c.args.types.now) pc in
    let before = c.loop-x.invariant.row i (omega arith) c.loop-x-test.true in
    omega (arith, same, before)

pub loop-x-preserved : goal.loop-x-preserved
loop-x-preserved c =
    let ops = c.args.ops.now in
    let rows = c.args.types.now in
    let i = c.loop-x.x-index in
    let x = c.x-item.result in
    let pc = ap (λ (y : ℕ × Op). y.0) c.x-item.is ∙ pc_got ops i x c.loop-x-test.true in
    let height = λ (y : ℕ × Op). height_at (table_of rows) y.0 in
    let found = c.height_before.ensures ∙ ap height c.x-item.is in
    record {
      row = λ k le within.
          let higher = pcs_rise 0 ops c.requires.ops i k (omega (arith, le)) within in
          let more = before_higher rows x.0 (pc_at ops k) (omega (arith, pc, higher)) in
          let first = c.first_from-row.ensures in
          omega (arith, more, first);
      heights =
          c.in-Ok.ensures.items
          ∙ ap (λ (list : List ℕ). list ++ c.height_before.result ∷ []) c.loop-x.invariant.heights
          ∙ ap (λ (n : ℕ). map height (take i ops) ++ n ∷ []) found
          ∙ sym (ap (map height) (take_more ops i x c.loop-x-test.true) ∙ map-append height (take i ops) (get_or ops i x ∷ []));
    }
