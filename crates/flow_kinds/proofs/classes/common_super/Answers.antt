-- The first class on one way that is on the other one is the first common superclass.
use Rattle.std.proofs.Common.{ap, unwrap_or, ◌∙◌}
use Rattle.flow_kinds.proofs.WayClasses.{common_along}
use Rattle.flow_kinds.proofs.classes.common_super.Goals as goal

pub returns : goal.returns
returns c =
    c.unwrap_or.ensures ∙ ap (λ found. unwrap_or found 0) c.first_common.ensures
    ∙ common_along c.args.set.now c.args.a c.args.b c.superclass_way.result.now c.superclass_way-2.result.now c.superclass_way.ensures c.superclass_way-2.ensures
