use Rattle.std.proofs.Common.{ℕ, ◌+◌, ◌≤◌, ◌<◌, length, refl, ap, ◌∙◌, arith}
use Rattle.body_form.specs.declared.op.Op.{Op}
use Rattle.body_form.specs.declared.op.Op.TheVariants as op
use Rattle.expansion.proofs.SizesBelow.{offset_within}
use Rattle.infuse_emit.specs.Parts.{source_in}
use Rattle.infuse_emit.proofs.OffsetLists.{written_more, written_all, total_more, end_is, told_by}
use Rattle.infuse_emit.proofs.code.offsets_of.Goals as goal

nothing : ℕ × Op
nothing = (0, op.Nop)

pub loop-index-preserved : goal.loop-index-preserved
unfolding nothing
loop-index-preserved c =
    let source = source_in c.args.parts.now in
    let ops = source.body.ops in
    let within : c.loop-index.index < length ops = omega (arith, c.loop-index-test.true, ap length c.as_slice-index-end.ensures.all) in
    let behind = c.in-Some.ensures ∙ ap (λ n. c.loop-index.offset + n) c.in_ok-size.ensures in
    record {
      written =
          written_more source c.loop-index.offset c.in-Some.behind ops c.loop-index.index nothing c.loop-index.offsets.items c.push.new.self.items within c.in_ok-push.ensures.items behind
          ∙ c.loop-index.invariant.written;
      total = total_more source c.loop-index.offset c.in-Some.behind ops c.loop-index.index nothing within behind ∙ c.loop-index.invariant.total;
    }

pub returns-then-offset-gt-MOST_CODE_BYTES-clause-refused : goal.returns-then-offset-gt-MOST_CODE_BYTES-clause-refused
returns-then-offset-gt-MOST_CODE_BYTES-clause-refused c =
    let source = source_in c.args.parts.now in
    let past : length source.body.ops ≤ c.loop-index.index = omega (arith, c.loop-index-test.false, ap length c.as_slice-index-end.ensures.all) in
    (refl, end_is source c.loop-index.offset c.args.first c.loop-index.index past c.requires.first c.loop-index.invariant.total, c.if-offset-gt-MOST_CODE_BYTES.true)

pub returns-clause-told : goal.returns-clause-told
returns-clause-told c =
    let source = source_in c.args.parts.now in
    let ops = source.body.ops in
    let past : length ops ≤ c.loop-index.index = omega (arith, c.loop-index-test.false, ap length c.as_slice-index-end.ensures.all) in
    told_by source c.args.first c.push-2.new.self.items c.requires.first (written_all source c.loop-index.offset ops c.loop-index.index c.loop-index.offsets.items c.push-2.new.self.items past c.in_ok-push-2.ensures.items ∙ c.loop-index.invariant.written)

pub returns-clause-fits : goal.returns-clause-fits
returns-clause-fits c =
    let source = source_in c.args.parts.now in
    let past : length source.body.ops ≤ c.loop-index.index = omega (arith, c.loop-index-test.false, ap length c.as_slice-index-end.ensures.all) in
    let end = end_is source c.loop-index.offset c.args.first c.loop-index.index past c.requires.first c.loop-index.invariant.total in
    omega (arith, end, c.if-offset-gt-MOST_CODE_BYTES.false)

pub returns-clause-small : goal.returns-clause-small
returns-clause-small c = λ pc.
    let source = source_in c.args.parts.now in
    let ops = source.body.ops in
    let past : length ops ≤ c.loop-index.index = omega (arith, c.loop-index-test.false, ap length c.as_slice-index-end.ensures.all) in
    let end = end_is source c.loop-index.offset c.args.first c.loop-index.index past c.requires.first c.loop-index.invariant.total in
    let told = told_by source c.args.first c.push-2.new.self.items c.requires.first (written_all source c.loop-index.offset ops c.loop-index.index c.loop-index.offsets.items c.push-2.new.self.items past c.in_ok-push-2.ensures.items ∙ c.loop-index.invariant.written) pc in
    omega (arith, told, offset_within source pc, end, c.if-offset-gt-MOST_CODE_BYTES.false)
