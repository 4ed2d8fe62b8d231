use Rattle.std.proofs.Common.{◌<◌, ◌≤◌, min, length, sym, ◌∙◌, arith}
use Rattle.image_instr.specs.declared.insn.Kind.TheVariants as kind
use Rattle.expansion.proofs.Arguments.{cut_step, cut_end}
use Rattle.expansion.proofs.calls.cut_arguments.Goals as goal

pub loop-at-preserved : goal.loop-at-preserved
loop-at-preserved c =
    let in_both : c.loop-at.at < min (length c.args.params.now) (length c.args.shapes.now) = omega (arith, c.min-at-end.ensures, c.loop-at-test.true) in
    record {
      cut =
          cut_step c.loop-at.out.items c.push_where.new.out.items c.args.params.now c.args.shapes.now c.loop-at.at c.loop-at.above c.passed_cells-above.result c.index-params-count.result kind.Ref c.is_cut-wanted.result
          (omega (arith, in_both)) (omega (arith, in_both)) c.index-params-count.is c.is_cut-wanted.ensures c.passed_cells-above.ensures.value c.in_ok-push_where.ensures
          ∙ c.loop-at.invariant.cut;
      most = omega (arith, c.loop-at.invariant.most, c.passed_cells-above.ensures.most);
    }

pub returns : goal.returns
returns c =
    let past : min (length c.args.params.now) (length c.args.shapes.now) ≤ c.loop-at.at = omega (arith, c.min-at-end.ensures, c.loop-at-test.false) in
    sym (cut_end c.loop-at.out.items c.args.params.now c.args.shapes.now c.loop-at.at c.loop-at.above past) ∙ c.loop-at.invariant.cut
