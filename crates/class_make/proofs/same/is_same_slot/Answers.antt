use Rattle.std.proofs.Common.{◌∙◌}
use Rattle.class_make.proofs.Equality.{eq_is_same}
use Rattle.class_make.proofs.Pairs.{slot_same}
use Rattle.class_make.proofs.same.is_same_slot.Goals as goal

pub returns-in-Some-b : goal.returns-in-Some-b
returns-in-Some-b c =
    slot_same c.args.a.now c.args.b.now c.in-Some.x c.in-Some-b.y c.eq.result c.in-Some.is c.in-Some-b.is (c.eq.ensures ∙ eq_is_same c.in-Some.x c.in-Some-b.y)
