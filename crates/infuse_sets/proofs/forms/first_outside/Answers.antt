use Rattle.std.proofs.Common.{sym, ◌∙◌}
use Rattle.infuse_sets.proofs.FirstRefusals.{outside_here, outside_later, outside_none}
use Rattle.infuse_sets.proofs.forms.first_outside.Goals as goal

pub returns-then-not-is_built : goal.returns-then-not-is_built
returns-then-not-is_built c =
    sym (outside_here c.args.ops.now c.loop-x.x-index c.x-item.result c.loop-x-test.true c.x-item.is (sym c.is_built.ensures ∙ c.if-not-is_built.true)) ∙ c.loop-x.invariant

pub loop-x-preserved : goal.loop-x-preserved
loop-x-preserved c =
    outside_later c.args.ops.now c.loop-x.x-index c.x-item.result c.loop-x-test.true c.x-item.is (sym c.is_built.ensures ∙ c.if-not-is_built.false) ∙ c.loop-x.invariant

pub returns : goal.returns
returns c = sym (outside_none c.args.ops.now c.loop-x.x-index c.loop-x-test.false) ∙ c.loop-x.invariant
