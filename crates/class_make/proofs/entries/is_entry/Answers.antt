use Rattle.std.proofs.Common.{◌∙◌}
use Rattle.class_make.proofs.Equality.{eq_is_same}
use Rattle.class_make.proofs.entries.is_entry.Goals as goal

pub returns-in-Some : goal.returns-in-Some
returns-in-Some c = rw c.in-Some.is (c.eq.ensures ∙ eq_is_same c.in-Some.other c.args.entry.now)
