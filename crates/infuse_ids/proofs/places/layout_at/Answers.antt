use Rattle.std.proofs.Common.{sym, ap}
use Rattle.infuse_ids.specs.Places.{layout_in}
use Rattle.infuse_ids.proofs.ClassFields.{library_has_none, layout_found}
use Rattle.infuse_ids.proofs.places.layout_at.Goals as goal

pub returns-then-class-lt-FIRST_OWN-clause-layout : goal.returns-then-class-lt-FIRST_OWN-clause-layout
returns-then-class-lt-FIRST_OWN-clause-layout c files are = sym (ap layout_in (library_has_none files c.args.class c.if-class-lt-FIRST_OWN.true))

pub returns-in-Ok-clause-layout : goal.returns-in-Ok-clause-layout
returns-in-Ok-clause-layout c files are =
    layout_found files c.args.order.now.keys c.args.layouts.now c.args.class c.in-Some.position c.in-Ok.layout are (sym c.in-Some.ensures.index) c.in-Ok.ensures.layout
