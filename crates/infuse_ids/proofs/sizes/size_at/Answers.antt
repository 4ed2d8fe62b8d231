use Rattle.std.proofs.Common.{Some, sym, ap, ◌∙◌}
use Rattle.std.proofs.lemmas.Option.{slice_get-get_or}
use Rattle.infuse_ids.specs.declared.sizes.Sizes.{Sizes}
use Rattle.infuse_ids.proofs.ObjectSizes.{library_layout, size_found}
use Rattle.infuse_ids.proofs.sizes.size_at.Goals as goal

pub returns-then-class-lt-FIRST_OWN-clause-size : goal.returns-then-class-lt-FIRST_OWN-clause-size
returns-then-class-lt-FIRST_OWN-clause-size c files many are = library_layout files c.args.class c.if-class-lt-FIRST_OWN.true

pub returns-in-Some-get-clause-size : goal.returns-in-Some-get-clause-size
returns-in-Some-get-clause-size c files many are =
    let sizes = c.args.sizes.now in
    let position = c.in-Some.position in
    let size = c.in-Some-get.size.now in
    let there = slice_get-get_or sizes position size c.in-Some-get.ensures.lookup.3.0 ∙ ap (λ (s : Sizes). Some s) (sym c.in-Some-get.ensures.lookup.1) in
    size_found files sizes c.args.order.now.keys many position c.args.class size are (sym c.in-Some.ensures.index) there
