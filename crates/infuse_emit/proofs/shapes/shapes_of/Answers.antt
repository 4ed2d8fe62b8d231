use Rattle.std.proofs.Common.{◌≡◌, ◌+◌, ◌-◌, ap, ◌∙◌, length, drop, get_or, arith}
use Rattle.std.proofs.lemmas.List.{drop_more}
use Rattle.std.specs.Prelude.{ℕ, true}
use Rattle.image_instr.specs.declared.insn.Width.{Width}
use Rattle.body_form.specs.declared.types.VType.TheVariants as known
use Rattle.jvm_model.specs.WidthsShapes.{is_narrow, width_where, shape_of}
use Rattle.infuse_emit.proofs.ShapeLists.{one_more, no_more}
use Rattle.infuse_emit.proofs.shapes.shapes_of.Goals as goal

pub loop-operand-preserved : goal.loop-operand-preserved
loop-operand-preserved c =
    let width : ℕ → Width = λ n. width_where (is_narrow c.args.narrow.now c.args.pc true n) in
    let operands = c.args.operands.now in
    let i = c.loop-operand.operand-index in
    let below = c.args.height - length operands in
    let more = drop_more operands i known.Top c.loop-operand-test.true in
    let place : c.loop-operand.place - 1 ≡ below + length (drop (i + 1) operands) = omega (arith, c.loop-operand.invariant.place, ap length more) in
    record {
      place = place;
      shapes =
          one_more width below operands i known.Top c.loop-operand.shapes.items c.push.new.self.items c.shape_of.result c.loop-operand-test.true c.in_ok-push.ensures.items (c.shape_of.ensures ∙ ap (λ n. shape_of (width n) (get_or operands i known.Top)) place)
          ∙ c.loop-operand.invariant.shapes;
    }

pub returns : goal.returns
returns c =
    let width : ℕ → Width = λ n. width_where (is_narrow c.args.narrow.now c.args.pc true n) in
    no_more width (c.args.height - length c.args.operands.now) c.args.operands.now c.loop-operand.operand-index c.loop-operand.shapes.items c.loop-operand-test.false
    ∙ c.loop-operand.invariant.shapes
